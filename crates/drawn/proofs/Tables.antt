-- The words of the table one by one, the circuit that they make, and that it is legal. Assumes nothing.
use mathlib.Core.Path.{◌≡◌, ap₂, ◌∙◌}
use mathlib.Core.List.{List, ◌++◌}
use Prim.Native.Nat.{ℕ, ◌+◌, ◌*◌, ◌/◌, ◌<◌, ◌≤◌}
use native.Mathlib.Omega.{arith}
use lib.ListN.{length, get_or, length-append}
use Rattle.three.specs.Lists.{tabulate}
use Rattle.three.proofs.Lists.{length_tabulate, get_or_tabulate, tabulate_ext}
use Rattle.circuit.specs.RulesInCode.{Bounded, Legal}
use Rattle.circuit.specs.Circuit.{Circuit, Latch, Gate}
use Rattle.circuit.specs.Table.{top, table_length, circuit_of, literals, literals_at, bads_at, constraints_at, gates_at, verdicts}
use Rattle.drawn.specs.Numbers.{pairs}
use Rattle.drawn.specs.Drawing.{Drawing, leaves, next_literal, reset, single, left, right, gate_at, name, rename, table}
use Rattle.drawn.proofs.Proper.{Defined, Proper}
use Rattle.drawn.proofs.Naming.{named, left_named, right_named}
use Rattle.drawn.proofs.Pairs.{length_pairs, pairs_left, pairs_right, first_part, second_part, third_part}

same_parts : (i : ℕ) {l l' : List Latch} {g g' : List Gate} {o o' b b' c c' : List ℕ} → l ≡ l' → g ≡ g' → o ≡ o' → b ≡ b' → c ≡ c'
    → ◌≡◌ {A = Circuit} (record { inputs = i; latches = l; lamps = o; gates = g; bads = b; constraints = c }) (record { inputs = i; latches = l'; lamps = o'; gates = g'; bads = b'; constraints = c' })
same_parts i p q r s t = cc

module _ (d : Drawing) where
  abbrev latch_words : List ℕ
  latch_words = pairs d.counts.latches (λ i. rename d (next_literal d i)) (reset d)

  abbrev single_words : List ℕ
  single_words = tabulate (literals d.counts) (λ i. rename d (single d i))

  abbrev gate_words : List ℕ
  gate_words = pairs d.counts.gates (λ p. rename d (left d (gate_at d p))) (λ p. rename d (right d (gate_at d p)))

  latch_words_lem : length latch_words ≡ 2 * d.counts.latches
  latch_words_lem = length_pairs d.counts.latches _ _

  single_words_lem : length single_words ≡ literals d.counts
  single_words_lem = length_tabulate (literals d.counts) _

  gate_words_lem : length gate_words ≡ 2 * d.counts.gates
  gate_words_lem = length_pairs d.counts.gates _ _

  pub table_length_lem : length (table d) ≡ table_length d.counts
  unfolding table
  table_length_lem = omega (arith, length-append latch_words (single_words ++ gate_words), length-append single_words gate_words, latch_words_lem, single_words_lem, gate_words_lem)

  pub table_next : (i : ℕ) → i < d.counts.latches → get_or (table d) (2 * i) 0 ≡ rename d (next_literal d i)
  unfolding table
  table_next i h = first_part latch_words single_words gate_words (2 * i) (omega (arith, latch_words_lem)) ∙ pairs_left d.counts.latches _ _ i h

  pub table_reset : (i : ℕ) → i < d.counts.latches → get_or (table d) (2 * i + 1) 0 ≡ reset d i
  unfolding table
  table_reset i h = first_part latch_words single_words gate_words (2 * i + 1) (omega (arith, latch_words_lem)) ∙ pairs_right d.counts.latches _ _ i h

  pub table_single : (i : ℕ) → i < literals d.counts → get_or (table d) (literals_at d.counts + i) 0 ≡ rename d (single d i)
  unfolding table
  table_single i h =
      second_part latch_words single_words gate_words (literals_at d.counts + i) i (omega (arith, latch_words_lem)) (omega (arith, single_words_lem, h))
      ∙ get_or_tabulate (literals d.counts) _ i 0 h

  pub table_left : (i : ℕ) → i < d.counts.gates → get_or (table d) (gates_at d.counts + 2 * i) 0 ≡ rename d (left d (gate_at d i))
  unfolding table
  table_left i h =
      third_part latch_words single_words gate_words (gates_at d.counts + 2 * i) (2 * i) (omega (arith, latch_words_lem, single_words_lem))
      ∙ pairs_left d.counts.gates _ _ i h

  pub table_right : (i : ℕ) → i < d.counts.gates → get_or (table d) (gates_at d.counts + 2 * i + 1) 0 ≡ rename d (right d (gate_at d i))
  unfolding table
  table_right i h =
      third_part latch_words single_words gate_words (gates_at d.counts + 2 * i + 1) (2 * i + 1) (omega (arith, latch_words_lem, single_words_lem))
      ∙ pairs_right d.counts.gates _ _ i h

  -- ---- the circuit

  -- n lines of one literal in the new numbers, the first of them number k
  abbrev pub renamed_singles : ℕ → ℕ → List ℕ
  renamed_singles k n = tabulate n (λ i. rename d (single d (k + i)))

  unfoldable pub drawn_circuit : Circuit
  drawn_circuit = record {
    inputs = d.counts.inputs;
    latches = tabulate d.counts.latches (λ i. record { next = rename d (next_literal d i); reset = reset d i });
    lamps = renamed_singles 0 d.counts.lamps;
    gates = tabulate d.counts.gates (λ p. record { left = rename d (left d (gate_at d p)); right = rename d (right d (gate_at d p)) });
    bads = renamed_singles d.counts.lamps d.counts.bads;
    constraints = renamed_singles (verdicts d.counts) d.counts.constraints;
  }

  table_singles : (k n at : ℕ) → at ≡ literals_at d.counts + k → k + n ≤ literals d.counts → tabulate n (λ i. get_or (table d) (at + i) 0) ≡ renamed_singles k n
  table_singles k n at e l = tabulate_ext n _ _ (λ i h. let place : at + i ≡ literals_at d.counts + (k + i) = omega arith in rw place (table_single (k + i) (omega arith)))

  pub table_circuit : circuit_of d.counts (table d) ≡ drawn_circuit
  unfolding circuit_of drawn_circuit
  table_circuit =
      let ls = tabulate_ext {A = Latch} d.counts.latches _ (λ i. record { next = rename d (next_literal d i); reset = reset d i }) (λ i h. ap₂ (λ (a b : ℕ). record { next = a; reset = b }) (table_next i h) (table_reset i h)) in
      let gs = tabulate_ext {A = Gate} d.counts.gates _ (λ p. record { left = rename d (left d (gate_at d p)); right = rename d (right d (gate_at d p)) }) (λ i h. ap₂ (λ (a b : ℕ). record { left = a; right = b }) (table_left i h) (table_right i h)) in
      same_parts d.counts.inputs ls gs
      (table_singles 0 d.counts.lamps (literals_at d.counts) (omega arith) (omega arith))
      (table_singles d.counts.lamps d.counts.bads (bads_at d.counts) (omega arith) (omega arith))
      (table_singles (verdicts d.counts) d.counts.constraints (constraints_at d.counts) (omega arith) (omega arith))

  -- ---- legal

  module _ (p : Proper d) where
    rename_top : (x : ℕ) → Defined d x → rename d x ≤ top d.counts
    unfolding rename
    rename_top x h = let n = (named d p x h).few in omega (arith, n)

    rename_below : (x n : ℕ) → name d (x / 2) ≤ n → rename d x < 2 * (1 + n)
    unfolding rename
    rename_below x n h = omega (arith, h)

    pub table_legal : Bounded d.counts → ((i : ℕ) → i < d.counts.latches → reset d i ≤ 2) → Legal d.counts (table d)
    table_legal b resets = record {
      bounded = b;
      long = omega (arith, table_length_lem);
      next = λ i h. rw (table_next i h) (rename_top (next_literal d i) (p.next i h));
      reset = λ i h. rw (table_reset i h) (resets i h);
      literal = λ i h. rw (table_single i h) (rename_top (single d i) (p.singles i h));
      left = λ i h. let n = rename_below (left d (gate_at d i)) (leaves d + i) (left_named d p i h) in rw (table_left i h) (omega (arith, n));
      right = λ i h. let n = rename_below (right d (gate_at d i)) (leaves d + i) (right_named d p i h) in rw (table_right i h) (omega (arith, n));
    }
