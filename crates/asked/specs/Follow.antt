-- What is followed from a variable whose value is asked about, and which latches that reaches (specification, 5.13). No marks in it.
-- "An inverted literal turns the question round": what is asked of a variable is why it has the value that it has, so that one question serves both. Assumes nothing.
use Rattle.std.specs.Prelude.{Bool, false, not, ◌||◌, cond, List, [], ◌∷◌, ℕ, zero, suc, ◌+◌, ◌-◌, ◌/◌, eqb, ltb, length, get_or}
use Rattle.three.specs.Lists.{tabulate}
use Rattle.three.specs.Value.{Three, unknown, low, high, ternary}
use Rattle.three.specs.Cube.{Cube, alike, blank}
use Rattle.circuit.specs.Circuit.{Circuit, Gate, value, settle}
use Rattle.cubes.specs.Run.{switches_unknown}

-- some item passes the test
unfoldable pub some : {A : Type 0} → (A → Bool) → List A → Bool
some p [] = false
some p (x ∷ xs) = p x || some p xs

-- "For a gate at 1 both operands are followed. For a gate at 0 the first operand is followed if it is 0, otherwise the second."
unfoldable pub causes : List Three → Gate → Three → List ℕ
causes values g unknown = []
causes values g low = cond (alike (value ternary values g.left) low) (g.left ∷ []) (g.right ∷ [])
causes values g high = g.left ∷ g.right ∷ []

module _ (first : ℕ) (gate : ℕ → Gate) (values : List Three) where
  -- the literals that are followed from a variable; the gates are those from `first` on, and from others nothing is
  unfoldable pub followed : ℕ → List ℕ
  followed v = cond (ltb v first) [] (causes values (gate (v - first)) (get_or values v low))

  -- asking about v reaches u within n steps: u is v, or reached from what is followed. An operand's variable is below its gate's, so that v steps suffice.
  unfoldable pub reaches : ℕ → ℕ → ℕ → Bool
  reaches zero v u = eqb v u
  reaches (suc n) v u = eqb v u || some (λ x. reaches n (x / 2) u) (followed v)

-- ---- in a circuit

-- gate number i
unfoldable pub gate_at : Circuit → ℕ → Gate
gate_at c i = get_or c.gates i (record { left = 0; right = 0 })

-- latch number i is variable 1 + inputs + i, and the gates come after the latches
abbrev pub latch_variable : Circuit → ℕ → ℕ
latch_variable c i = 1 + c.inputs + i

abbrev pub first_gate : Circuit → ℕ
first_gate c = latch_variable c (length c.latches)

-- a value for each variable, all switches X
unfoldable pub values_in : Circuit → Cube → List Three
values_in c state = settle ternary c (switches_unknown c) state

-- asking why a literal has its value reaches latch number i
unfoldable pub forces : Circuit → Cube → ℕ → ℕ → Bool
forces c state x i = reaches (first_gate c) (gate_at c) (values_in c state) (x / 2) (x / 2) (latch_variable c i)

-- "a record with only the latches reached left known"
unfoldable pub forcing : Circuit → Cube → ℕ → Cube
forcing c state x = tabulate (length state) (λ i. blank (get_or state i unknown) (not (forces c state x i)))
