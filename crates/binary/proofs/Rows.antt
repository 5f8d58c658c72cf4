-- Laws of rows, a step at a time: what lets one be read, and what an accepted one came from. Assumes nothing.
use mathlib.Core.Path.{◌≡◌, refl, ◌∙◌}
use mathlib.Core.List.{List, [], ◌∷◌, ◌++◌}
use Prim.Native.Nat.{ℕ, ◌<◌, max, min}
use native.Mathlib.Omega.{arith}
use Rattle.circuit.specs.RulesInCode.{Passed}
use Rattle.circuit.specs.Table.{Kind, input, latch, literal, gate}
use Rattle.circuit.proofs.Refusals.{passed_refusal}
use Rattle.text.specs.Part.{got}
use Rattle.text.specs.Line.{newline, read_line}
use Rattle.text.specs.Outcome.{Outcome, accepted, refused, onward}
use Rattle.text.specs.Text.{words, line_tests, Lines}
use Rattle.text.proofs.Parts.{by_part}
use Rattle.text.proofs.Outcomes.{tested_past, refused_accepted, tested_accepted, onward_accepted}
use Rattle.text.proofs.Steps.{line_numbered}
use Rattle.binary.specs.Gate.{Differences, differences, gate_bytes, read_gate, gate_tests, operands}
use Rattle.binary.specs.Binary.{Row, owned, read_line_row, read_gate_row, read_row, then, row_in_front, read_rows}
use Rattle.binary.proofs.Gates.{gate_read, operands_differences, differences_pass, differences_small}

-- ---- one row, and others behind it

then_on : {A B : Type 0} (f : A → Outcome B) {o : Outcome A} {a : A} → o ≡ accepted a → then o f ≡ f a
unfolding then
then_on f e = rw e

then_accepted : {A B : Type 0} (f : A → Outcome B) (o : Outcome A) {b : B} → then o f ≡ accepted b → (a : A) × (o ≡ accepted a) × (f a ≡ accepted b)
unfolding then
then_accepted f (accepted a) e = (a, refl, e)
then_accepted f (refused n) e = absurd (refused_accepted e)

pub row_on : (most : ℕ) (k : Kind) (ks : List Kind) (t : List ℕ) {r : Row} {l : Lines} → read_row most k t ≡ accepted r → read_rows most ks r.rest ≡ accepted l
    → read_rows most (k ∷ ks) t ≡ accepted (row_in_front r l)
unfolding read_rows onward
row_on most k ks t e on = then_on _ e ∙ rw on

-- A row that was read, and the rows behind it
pub record RowRead (most : ℕ) (k : Kind) (ks : List Kind) (t : List ℕ) (l : Lines) : Type 0 where
  pub row : Row
  pub others : Lines
  pub reads : read_row most k t ≡ accepted row
  pub on : read_rows most ks row.rest ≡ accepted others
  pub gives : row_in_front row others ≡ l

pub row_accepted : (most : ℕ) (k : Kind) (ks : List Kind) (t : List ℕ) {l : Lines} → read_rows most (k ∷ ks) t ≡ accepted l → RowRead most k ks t l
unfolding read_rows
row_accepted most k ks t a =
    let p = then_accepted _ (read_row most k t) a in
    let q = onward_accepted (row_in_front p.0) (read_rows most ks p.0.rest) p.2 in
    record { row = p.0; others = q.0; reads = p.1; on = q.1; gives = q.2 }

-- ---- a line

-- the kinds that are written as lines
abbrev pub Lined : Kind → Type 0
Lined (input own) = ⊥
Lined (latch own) = Unit {0}
Lined literal = Unit {0}
Lined (gate own) = ⊥

pub lined_row : (most : ℕ) (k : Kind) (t : List ℕ) → Lined k → read_row most k t ≡ read_line_row most k t
unfolding read_row
lined_row most (input own) t h = absurd h
lined_row most (latch own) t h = refl
lined_row most literal t h = refl
lined_row most (gate own) t h = absurd h

pub line_fits : (most : ℕ) (k : Kind) (t : List ℕ) {ns rest : List ℕ} → read_line newline t ≡ got ns rest → Passed (line_tests most k (owned k ns))
    → read_line_row most k t ≡ accepted (record { words = words k (owned k ns); rest = rest })
unfolding read_line_row
line_fits most k t {ns} e p = rw (read_line_row, e) (tested_past (line_tests most k (owned k ns)) _ (passed_refusal _ p))

-- The numbers of a line that was read
pub record LineRow (most : ℕ) (k : Kind) (t : List ℕ) (r : Row) : Type 0 where
  pub numbers : List ℕ
  pub split : read_line newline t ≡ got numbers r.rest
  pub passes : Passed (line_tests most k (owned k numbers))
  pub gives : words k (owned k numbers) ≡ r.words

pub line_accepted : (most : ℕ) (k : Kind) (t : List ℕ) {r : Row} → read_line_row most k t ≡ accepted r → LineRow most k t r
unfolding read_line_row
line_accepted most k t {r} a = by_part (read_line newline t)
    (λ ns rest e. let p = tested_accepted (line_tests most k (owned k ns)) _ (line_numbered most k (owned k ns)) (rw (read_line_row, e) at a) in
    let same : record { words = words k (owned k ns); rest = rest } ≡ r = cc in
    rw (← same) (record { numbers = ns; split = e; passes = p.0; gives = refl }))
    (λ e. absurd (refused_accepted (rw (read_line_row, e) at a)))

-- ---- a gate

gate_fits : (own : ℕ) (t : List ℕ) {d : Differences} {rest : List ℕ} → read_gate t ≡ got d rest → Passed (gate_tests own d)
    → read_gate_row own t ≡ accepted (record { words = operands own d; rest = rest })
unfolding read_gate_row
gate_fits own t {d} e p = rw (read_gate_row, e) (tested_past (gate_tests own d) _ (passed_refusal _ p))

pub gate_back : (own left right : ℕ) (t : List ℕ) → own < 16384 → left < own → right < own
    → read_gate_row own (gate_bytes (differences own left right) ++ t) ≡ accepted (record { words = max left right ∷ min left right ∷ []; rest = t })
gate_back own left right t m p q =
    gate_fits own _ (gate_read (differences own left right) t (differences_small own left right m p q)) (differences_pass own left right p q)
    ∙ rw (operands_differences own left right p q)

-- The differences of a gate that was read
pub record GateRead (own : ℕ) (t : List ℕ) (r : Row) : Type 0 where
  pub found : Differences
  pub split : read_gate t ≡ got found r.rest
  pub passes : Passed (gate_tests own found)
  pub gives : operands own found ≡ r.words

pub gate_accepted : (own : ℕ) (t : List ℕ) {r : Row} → read_gate_row own t ≡ accepted r → GateRead own t r
unfolding read_gate_row gate_tests
gate_accepted own t {r} a = by_part (read_gate t)
    (λ d rest e. let p = tested_accepted (gate_tests own d) _ (omega arith) (rw (read_gate_row, e) at a) in
    let same : record { words = operands own d; rest = rest } ≡ r = cc in
    rw (← same) (record { found = d; split = e; passes = p.0; gives = refl }))
    (λ e. absurd (refused_accepted (rw (read_gate_row, e) at a)))
