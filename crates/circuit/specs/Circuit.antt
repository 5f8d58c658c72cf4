-- A circuit (specification, 3.1 to 3.3), and one pass over its gates (Tick), in either logic. Assumes nothing.
use Rattle.std.specs.Prelude.{List, [], ◌∷◌, ◌++◌, map, ℕ, zero, suc, ◌/◌, ◌%◌, get_or}
use Rattle.three.specs.Value.{Logic}

pub record Latch : Type 0 where
  pub next : ℕ
  pub reset : ℕ

pub record Gate : Type 0 where
  pub left : ℕ
  pub right : ℕ

-- Variables are numbered from 1: the inputs, then the latches, then the gates. All other numbers are literals.
pub record Circuit : Type 0 where
  pub inputs : ℕ
  pub latches : List Latch
  pub lamps : List ℕ
  pub gates : List Gate
  pub bads : List ℕ
  pub constraints : List ℕ

module _ {A : Type 0} (logic : Logic A) where
  -- a value as it is, or inverted where the literal is odd
  unfoldable pub signed : ℕ → A → A
  signed n a = elim n [ zero ↦ a | suc m ↦ logic.invert a ]

  -- the value of a literal: 2 × variable, plus 1 if inverted
  unfoldable pub value : List A → ℕ → A
  value values literal = signed (literal % 2) (get_or values (literal / 2) logic.false)

  -- gates are taken in order, each from the values before it
  unfoldable pub pass : List A → List Gate → List A
  pass values [] = values
  pass values (g ∷ gs) = pass (values ++ (logic.and (value values g.left) (value values g.right) ∷ [])) gs

  -- a value for each variable; entry 0 is the constant
  unfoldable pub settle : Circuit → List A → List A → List A
  settle c switches state = pass (logic.false ∷ (switches ++ state)) c.gates

  -- the values of literals after the pass
  unfoldable pub readings : Circuit → List ℕ → List A → List A → List A
  readings c literals switches state = map (value (settle c switches state)) literals

  -- the next state gives each latch its next literal's value
  abbrev pub next : Circuit → List A → List A → List A
  next c switches state = readings c (map (λ (l : Latch). l.next) c.latches) switches state

  -- lamps are read from the same pass, before the tick
  abbrev pub lamps : Circuit → List A → List A → List A
  lamps c switches state = readings c c.lamps switches state

  -- and so are bad states and constraints
  abbrev pub bads : Circuit → List A → List A → List A
  bads c switches state = readings c c.bads switches state

  abbrev pub constraints : Circuit → List A → List A → List A
  constraints c switches state = readings c c.constraints switches state
