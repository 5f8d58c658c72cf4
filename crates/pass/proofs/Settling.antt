-- One pass for a legal circuit: what the steps of `settle` leave is the circuit's values. Assumes nothing.
use mathlib.Core.Path.{◌≡◌, refl, sym, ap, ap₂, ◌∙◌}
use mathlib.Core.List.{List, ◌∷◌, ◌++◌, map}
use Prim.Native.Nat.{ℕ, ◌+◌, ◌-◌, ◌*◌, ◌≤◌, ◌<◌}
use native.Mathlib.Nat.{zero-add, one-mul, add_assoc}
use native.Mathlib.Omega.{arith}
use lib.ListN.{length, get_or, set, take, length-set, length-append}
use lib.Seq.{paste, take-paste, take_all, take-suc-set, take-append_seam}
use Rattle.three.specs.Value.{Three, low, decode, ternary}
use Rattle.three.specs.Cube.{Cube}
use Rattle.three.proofs.Lists.{length_tabulate, map_tabulate, tabulate_ext, tabulate_append}
use Rattle.circuit.specs.declared.Counts.{Counts}
use Rattle.circuit.specs.Circuit.{value, pass, settle, next, lamps, constraints, readings}
use Rattle.circuit.specs.Table.{top, circuit_of, literals_at, constraints_at, gates_at, verdicts}
use Rattle.circuit.specs.RulesInCode.{Legal}
use Rattle.pass.specs.ValuesInCode.{values_of, Working, Holding, Begins, Gateable, Readable, literal_values, passed}
use Rattle.circuit.proofs.Pass.{value_take, length_pass}
use Rattle.pass.proofs.WorkingTable.{length_values}
use Rattle.three.specs.Lists.{tabulate}

module _ (c : Counts) (words : List ℕ) (legal : Legal c words) where
  pub legal_gates : Gateable words (gates_at c) (1 + c.inputs + c.latches) c.gates
  legal_gates = record { long = legal.long; room = omega (arith, legal.bounded); left = legal.left; right = legal.right }

  -- a state behind what stands in the table
  module _ (state : Cube) (sized : length state ≡ c.latches) where
    state_loaded : (vs : List Three) → length vs ≡ 4096
        → take (1 + c.inputs + c.latches) (paste vs (1 + c.inputs) state c.latches) ≡ take (1 + c.inputs) vs ++ state
    state_loaded vs long =
        take-paste vs (1 + c.inputs) state c.latches (omega (arith, legal.bounded.inputs)) (omega arith)
        ∙ ap (λ (x : List Three). take (1 + c.inputs) vs ++ x) (take_all c.latches state (omega arith))

    pub state_begins : (t₀ t₁ t₂ : List ℕ) → Working t₀
        → Holding t₁ (paste (values_of t₀) (1 + c.inputs) state c.latches)
        → Holding t₂ (passed words (gates_at c) (1 + c.inputs + c.latches) c.gates (values_of t₁))
        → Begins t₂ (pass ternary (take (1 + c.inputs) (values_of t₀) ++ state) (circuit_of c words).gates)
    unfolding circuit_of passed
    state_begins t₀ t₁ t₂ w h₁ h₂ = record {
      working = h₂.working;
      same = rw (h₂.same, h₁.same, state_loaded (values_of t₀) (length_values t₀ ∙ w.long)) (take-append_seam _ _);
    }

  -- the constant and the switches in front of it
  module _ (switches state : Cube) (sized : length switches ≡ c.inputs) where
    switches_loaded : (vs : List Three) → length vs ≡ 4096 → take (1 + c.inputs) (paste (set vs 0 low) 1 switches c.inputs) ≡ low ∷ switches
    switches_loaded vs long =
        take-paste (set vs 0 low) 1 switches c.inputs (omega (arith, length-set vs 0 low)) (omega arith)
        ∙ ap₂ (λ (x y : List Three). x ++ y) (take-suc-set vs 0 low (omega arith)) (take_all c.inputs switches (omega arith))

    pub settle_begins : (t₀ t₁ t₂ t₃ : List ℕ) → Working t₀
        → Holding t₁ (set (values_of t₀) 0 (decode 1))
        → Holding t₂ (paste (values_of t₁) 1 switches c.inputs)
        → Begins t₃ (pass ternary (take (1 + c.inputs) (values_of t₂) ++ state) (circuit_of c words).gates)
        → Begins t₃ (settle ternary (circuit_of c words) switches state)
    unfolding settle ternary decode
    settle_begins t₀ t₁ t₂ t₃ w h₁ h₂ b =
        let front : take (1 + c.inputs) (values_of t₂) ≡ low ∷ switches = rw (h₂.same, h₁.same) (switches_loaded (values_of t₀) (length_values t₀ ∙ w.long)) in
        rw front at b

-- the same where the switches stand in the table
module _ (c : Counts) (words : List ℕ) where
  pub switches_settle : (switches state : Cube) → length switches ≡ c.inputs → (t t' : List ℕ) → Begins t (low ∷ switches)
      → Begins t' (pass ternary (take (1 + c.inputs) (values_of t) ++ state) (circuit_of c words).gates) → Begins t' (settle ternary (circuit_of c words) switches state)
  unfolding settle ternary
  switches_settle switches state sized t t' r b =
      let long : length (low ∷ switches) ≡ 1 + c.inputs = omega arith in
      let front : take (1 + c.inputs) (values_of t) ≡ low ∷ switches = rw (← long) r.same in
      rw front at b

-- ---- a literal of the circuit is read from the values that the table begins with

module _ (c : Counts) (words : List ℕ) (legal : Legal c words) where
  -- the literals of the latches' next states, those of the lines of one literal, and the lamps among them
  pub next_readable : Readable words 0 2 c.latches
  next_readable = record { long = λ i h. omega (arith, legal.long); small = λ i h. rw zero-add (omega (arith, legal.next i h, legal.bounded)) }

  literal_small : (k : ℕ) → literals_at c ≤ k → k < gates_at c → get_or words k 0 ≤ top c
  literal_small k l h = let place : literals_at c + (k - literals_at c) ≡ k = omega arith in rw place at (legal.literal (k - literals_at c) (omega arith))

  pub literals_readable : (at count : ℕ) → literals_at c ≤ at → at + count ≤ gates_at c → Readable words at 1 count
  literals_readable at count l h = record {
    long = λ i k. omega (arith, legal.long);
    small = λ i k. rw one-mul (omega (arith, literal_small (at + i) (omega arith) (omega arith), legal.bounded));
  }

  pub lamps_readable : Readable words (literals_at c) 1 c.lamps
  lamps_readable = literals_readable (literals_at c) c.lamps (omega arith) (omega arith)

  module _ (switches state : Cube) (sized : length switches ≡ c.inputs) (sized' : length state ≡ c.latches) (table : List ℕ)
      (begins : Begins table (settle ternary (circuit_of c words) switches state)) where
    abbrev values : List Three
    values = settle ternary (circuit_of c words) switches state

    length_settle : length values ≡ 1 + c.inputs + c.latches + c.gates
    unfolding settle circuit_of
    length_settle = length_pass ternary _ _ ∙ rw (length-append, length_tabulate) (omega arith)

    pub value_begins : (x : ℕ) → x ≤ top c → value ternary (values_of table) x ≡ value ternary values x
    value_begins x h =
        sym (value_take ternary (values_of table) x (length values) (omega (arith, length_settle)))
        ∙ ap (λ (l : List Three). value ternary l x) begins.same

    -- a record of literals from the table is that of the circuit's, if the same literals are the circuit's
    readings_stored : (at step count : ℕ) {literals : List ℕ} → tabulate count (λ i. get_or words (at + step * i) 0) ≡ literals
        → ((i : ℕ) → i < count → get_or words (at + step * i) 0 ≤ top c)
        → literal_values (values_of table) words at step count ≡ readings ternary (circuit_of c words) literals switches state
    unfolding literal_values readings
    readings_stored at step count same small =
        tabulate_ext count _ _ (λ i h. value_begins _ (small i h)) ∙ sym (map_tabulate (value ternary values) count _) ∙ ap (map (value ternary values)) same

    pub next_stored : literal_values (values_of table) words 0 2 c.latches ≡ next ternary (circuit_of c words) switches state
    unfolding circuit_of
    next_stored = readings_stored 0 2 c.latches (tabulate_ext c.latches _ _ (λ i h. rw zero-add) ∙ sym (map_tabulate _ c.latches _)) (λ i h. rw zero-add (legal.next i h))

    literals_stored : (at count : ℕ) → literals_at c ≤ at → at + count ≤ gates_at c → {literals : List ℕ} → tabulate count (λ i. get_or words (at + i) 0) ≡ literals
        → literal_values (values_of table) words at 1 count ≡ readings ternary (circuit_of c words) literals switches state
    literals_stored at count l h same =
        readings_stored at 1 count (tabulate_ext count _ _ (λ i k. rw one-mul) ∙ same)
        (λ i k. rw one-mul (literal_small (at + i) (omega arith) (omega arith)))

    pub lamps_stored : literal_values (values_of table) words (literals_at c) 1 c.lamps ≡ lamps ternary (circuit_of c words) switches state
    unfolding circuit_of
    lamps_stored = literals_stored (literals_at c) c.lamps (omega arith) (omega arith) refl

    -- what gets a verdict: the lamps, and behind them the bad states
    pub verdicts_stored : literal_values (values_of table) words (literals_at c) 1 (verdicts c) ≡ readings ternary (circuit_of c words) ((circuit_of c words).lamps ++ (circuit_of c words).bads) switches state
    unfolding circuit_of
    verdicts_stored =
        literals_stored (literals_at c) (verdicts c) (omega arith) (omega arith)
        (tabulate_append c.lamps c.bads _
        ∙ ap (λ (bs : List ℕ). (circuit_of c words).lamps ++ bs) (tabulate_ext c.bads _ _ (λ i h. ap (λ (k : ℕ). get_or words k 0) (sym (add_assoc (literals_at c) c.lamps i)))))

    pub constraints_stored : literal_values (values_of table) words (constraints_at c) 1 c.constraints ≡ constraints ternary (circuit_of c words) switches state
    unfolding circuit_of
    constraints_stored = literals_stored (constraints_at c) c.constraints (omega arith) (omega arith) refl
