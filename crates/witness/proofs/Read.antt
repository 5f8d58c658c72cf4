-- What the contracts of the two readers allow: for a text with a known outcome that outcome, then 10 for the table, so for every row of the readers' examples;
-- 1 for a text over 60,000 bytes; and a table that is legal wherever the number is 0. Assumes nothing.
use mathlib.Core.Path.{◌≡◌, refl, ap, subst}
use mathlib.Core.List.{List, [], ◌∷◌, map}
use Prim.Native.Nat.{ℕ, ◌≤◌, ◌<◌}
use native.Mathlib.Omega.{arith}
use borrow.Author.Tests.{leb-true, leb-false}
use lib.Dec.{leb}
use lib.ListN.{length, get_or, drop}
use Rattle.three.specs.Lists.{over}
use Rattle.three.proofs.Lists.{by_test}
use Rattle.circuit.specs.declared.Counts.{Counts}
use Rattle.circuit.specs.Table.{table_length}
use Rattle.circuit.specs.RulesInCode.{Legal}
use Rattle.circuit.proofs.Legality.{legal}
use Rattle.text.specs.Line.{newline}
use Rattle.text.specs.Outcome.{Outcome, accepted, refused}
use Rattle.text.specs.Text.{Content, read_text}
use Rattle.text.specs.Calls.{zeros, into_table, ReadBy, Reading}
use Rattle.text.specs.Bench.{bytes, Case, outcome_of, cases, bench}
use Rattle.text.specs.Edges.{edges, edge_cases}
use Rattle.text.proofs.Answers.{read_stops, read_short, read_fits, reading_refused, reading_accepted}
use Rattle.text.proofs.Determined.{reading_determined}
use Rattle.text.proofs.Endings.{describes}
use Rattle.text.proofs.Numbers.{HasNumber, read_numbered}
use Rattle.text.proofs.RoundTrip.{Kept, kept_carries}
use Rattle.text.proofs.Steps.{text_long, opened_long}
use Rattle.binary.specs.Binary.{binary_magic, circuit_rows, read_binary}
use Rattle.binary.specs.Calls.{BinaryReading}
use Rattle.binary.specs.Examples.{Case as BinaryCase, text_of, outcome_of as binary_outcome_of, edges as binary_edges, edge_cases as binary_cases}
use Rattle.binary.proofs.Numbered.{binary_numbered, binary_kept}

-- ---- by the outcome of a text

module _ {o : Outcome Content} {table : List ℕ} {number : ℕ} {counts : Counts} {table' : List ℕ} (read : ReadBy (into_table table o) table number counts table') where
  pub as_refused : {n : ℕ} → o ≡ refused n → (number ≡ n) × (counts ≡ zeros) × (table' ≡ table)
  as_refused e = reading_determined read (reading_refused table (read_stops table e))

  pub as_short : {c : Content} → o ≡ accepted c → length table < table_length c.counts → (number ≡ 10) × (counts ≡ zeros) × (table' ≡ table)
  as_short e h = reading_determined read (reading_refused table (read_short table e h))

  -- a table of exactly its words will do
  pub as_accepted : {c : Content} → o ≡ accepted c → table_length c.counts ≤ length table → (number ≡ 0) × (counts ≡ c.counts) × (table' ≡ over c.words table)
  as_accepted e h = reading_determined read (reading_accepted table (read_fits table e h))

  module _ (numbered : HasNumber o) (kept : (c : Content) → o ≡ accepted c → Kept c) (done : number ≡ 0) where
    accepted_legal : {c : Content} → o ≡ accepted c → Legal counts table'
    accepted_legal {c} e =
        by_test (leb (table_length c.counts) (length table))
        (λ b. let h : table_length c.counts ≤ length table = leb-true _ _ b in
        let is = as_accepted e h in rw (is.1, is.2) (legal c.counts (over c.words table) (kept_carries (kept c e) table h).legal))
        (λ b. let h : length table < table_length c.counts = leb-false _ _ b in absurd (omega (arith, done, (as_short e h).0)))

    legal_read : Legal counts table'
    legal_read = go o refl
      where
        go : (p : Outcome Content) → o ≡ p → Legal counts table'
        go (accepted c) e = accepted_legal e
        go (refused n) e = let some : 1 ≤ n = rw e at numbered in absurd (omega (arith, some, done, (as_refused e).0))

-- ---- whatever the text

module _ (text : List ℕ) {table : List ℕ} {number : ℕ} {counts : Counts} {table' : List ℕ} (read : Reading text table number counts table') where
  pub long_text : 60000 < length text → number ≡ 1
  long_text h = (as_refused read (text_long text h)).0

  -- no operand is its gate's own literal or above, no literal above the largest, no reset above 2
  pub read_legal : number ≡ 0 → Legal counts table'
  read_legal = legal_read read (read_numbered text) (λ c e. let d = describes text e in record { legal = d.legal; whole = d.whole })

module _ (text : List ℕ) {table : List ℕ} {number : ℕ} {counts : Counts} {table' : List ℕ} (read : BinaryReading text table number counts table') where
  pub long_binary : 60000 < length text → number ≡ 1
  unfolding read_binary
  long_binary h = (as_refused read (opened_long binary_magic newline circuit_rows text h)).0

  pub binary_legal : number ≡ 0 → Legal counts table'
  binary_legal = legal_read read (binary_numbered text) (binary_kept text)

-- ---- the rows of the examples

module _ {C : Type 0} (text : C → List ℕ) (outcome : C → Outcome Content) (reads : List ℕ → Outcome Content) where
  -- whatever is allowed for the text of a row is by the row's outcome
  abbrev pub AsRead : List C → Type 0
  AsRead [] = Unit {0}
  AsRead (x ∷ xs) = ((table : List ℕ) (number : ℕ) (counts : Counts) (table' : List ℕ) → ReadBy (into_table table (reads (text x))) table number counts table'
      → ReadBy (into_table table (outcome x)) table number counts table') × AsRead xs

  rows_read : (xs : List C) → map (λ (x : C). reads (text x)) xs ≡ map outcome xs → AsRead xs
  rows_read [] e = tt
  rows_read (x ∷ xs) e =
      let same : reads (text x) ≡ outcome x = ap (λ (l : List (Outcome Content)). get_or l 0 (refused 0)) e in
      (λ table number counts table' r. subst (λ (o : Outcome Content). ReadBy (into_table table o) table number counts table') same r, rows_read xs (ap (λ (l : List (Outcome Content)). drop 1 l) e))

pub bench_read : AsRead (λ (c : Case). bytes c.text) (λ (c : Case). c.outcome) read_text cases
unfolding outcome_of
bench_read = rows_read (λ (c : Case). bytes c.text) (λ (c : Case). c.outcome) read_text cases bench

pub edges_read : AsRead (λ (c : Case). bytes c.text) (λ (c : Case). c.outcome) read_text edges
unfolding outcome_of
edges_read = rows_read (λ (c : Case). bytes c.text) (λ (c : Case). c.outcome) read_text edges edge_cases

pub binary_edges_read : AsRead (λ (c : BinaryCase). text_of c) (λ (c : BinaryCase). c.outcome) read_binary binary_edges
unfolding binary_outcome_of
binary_edges_read = rows_read (λ (c : BinaryCase). text_of c) (λ (c : BinaryCase). c.outcome) read_binary binary_edges binary_cases
