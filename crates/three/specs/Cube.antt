-- Cubes: what is known of a state, of switch settings or of lamps, a field for each. Assumes nothing.
use Rattle.std.specs.Prelude.{Bool, true, false, not, ◌&&◌, ◌||◌, List, [], ◌∷◌, ℕ, suc, eqb}
use Rattle.three.specs.Lists.{adjust, Each}
use Rattle.three.specs.Value.{Three, unknown, low, high, code}

abbrev pub Cube : Type 0
Cube = List Three

-- the same value
unfoldable pub alike : Three → Three → Bool
alike a b = eqb (code a) (code b)

-- a stored field against one of b: unknown, or known alike in b
unfoldable pub allows : Three → Three → Bool
allows c b = alike c unknown || alike c b

-- the stored cube subsumes b: every known field in it is known alike in b; cubes of two lengths never
unfoldable pub subsumes : Cube → Cube → Bool
subsumes [] [] = true
subsumes [] (b ∷ bs) = false
subsumes (c ∷ cs) [] = false
subsumes (c ∷ cs) (b ∷ bs) = allows c b && subsumes cs bs

-- X where told so
unfoldable pub blank : Three → Bool → Three
blank v told = elim told [ true ↦ unknown | false ↦ v ]

-- known where both agree: source 002's a ∩ b
unfoldable pub agree : Three → Three → Three
agree a b = blank a (not (alike a b))

-- the same of cubes, field by field
unfoldable pub merged : Cube → Cube → Cube
merged a b = adjust agree a b

-- how many fields are known
unfoldable pub known_fields : Cube → ℕ
known_fields [] = 0
known_fields (v ∷ vs) = elim v [ unknown ↦ known_fields vs | low ↦ suc (known_fields vs) | high ↦ suc (known_fields vs) ]

-- a field holds a bit: X holds both, 0 and 1 their own
pub data Holds : Three → Bool → Type 0 where
  any : {b : Bool} → Holds unknown b
  off : Holds low false
  on : Holds high true

-- the state lies in the cube
infix 20 ◌∋◌
abbrev pub ◌∋◌ : Cube → List Bool → Type 0
cube ∋ state = Each Holds cube state
