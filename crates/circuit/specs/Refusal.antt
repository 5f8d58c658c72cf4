-- The order of a call's refusals: a list of tests with their numbers, laid beside the specification's (3.4, 7.2). Assumes nothing.
use Rattle.std.specs.Prelude.{Bool, true, false, ◌&&◌, List, [], ◌∷◌, ℕ, zero, suc}

-- a test, and the number of the refusal where it fails
pub record Test : Type 0 where
  pub holds : Bool
  pub number : ℕ

-- `b or n`: b holds, or refusal n is given
infixl 68 ◌or◌
abbrev pub ◌or◌ : Bool → ℕ → Test
b or n = record { holds = b; number = n }

-- the number of the first test that fails, and 0 where all hold
unfoldable pub refusal : List Test → ℕ
refusal [] = 0
refusal (t ∷ ts) = elim t.holds [ true ↦ refusal ts | false ↦ t.number ]

-- all tests hold
unfoldable pub all_hold : List Test → Bool
all_hold [] = true
all_hold (t ∷ ts) = t.holds && all_hold ts

-- a call's number decides what it leaves: after 0 the new, after a refusal the old
unfoldable pub left_by : {A : Type 0} → ℕ → A → A → A
left_by number new old = elim number [ zero ↦ new | suc n ↦ old ]
