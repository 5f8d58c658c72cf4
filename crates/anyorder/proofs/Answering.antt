-- What each test decides, in the order of the refusals, and what an outcome leaves. Assumes nothing.
use mathlib.Core.Path.{◌≡◌, refl, sym, ◌∙◌}
use Rattle.std.specs.Prelude.{Result, IsErrAnd}
use mathlib.Core.Bool.{Bool, true, false}
use mathlib.Core.List.{List, [], ◌∷◌, ◌++◌}
use Prim.Native.Nat.{ℕ, zero, suc, ◌+◌, ◌≤◌, ◌<◌}
use native.Mathlib.Omega.{arith}
use borrow.Author.Tests.{le-leb, lt-leb}
use lib.Dec.{leb}
use lib.ListN.{length, get_or}
use Rattle.three.specs.Lists.{over}
use Rattle.circuit.specs.declared.Counts.{Counts}
use Rattle.circuit.specs.declared.Refusal.{Refusal}
use Rattle.circuit.specs.Answer.{number_of as number, answered}
use Rattle.circuit.specs.Refusal.{Test, ◌or◌, refusal}
use Rattle.circuit.specs.Table.{variables, table_length}
use Rattle.circuit.proofs.Refusals.{Numbered, stops, past, none, refuses_whole, none_past}
use Rattle.text.specs.Outcome.{Outcome, accepted, refused, number_of, tested, leaves}
use Rattle.text.specs.Text.{ends, counts_of, count_tests}
use Rattle.text.specs.Calls.{zeros}
use Rattle.text.proofs.Outcomes.{tested_stops, tested_past}
use Rattle.lines.specs.declared.read_line.ReadLine.{ReadLine}
use Rattle.lines.specs.LinesInCode.{numbers_of}
use Rattle.reader.proofs.FirstLine.{counts_numbered, count_few}
use Rattle.reader.proofs.Bodies.{returned}
use Rattle.drawn.specs.Drawing.{Drawing, drawing_tests, table, renumbered}
use Rattle.drawn.specs.Lines.{any_header_tests, after_tests, room_tests, LeftBy}
use Rattle.anyorder.specs.declared.Drawn.{Drawn}
use Rattle.anyorder.specs.Answers.{drawn_counts, drawn_variables}

-- ---- what an outcome leaves

module _ {o : Outcome Drawing} (words names : List ℕ) where
  pub left_refused : {n : ℕ} → o ≡ refused n → LeftBy o words names n zeros 0 words names
  unfolding number_of leaves
  left_refused e = rw e (record { answers = refl; returns = refl; most_is = refl; fills = refl; renumbers = refl })

  -- what `?` answers of what is refused
  pub left_turned : (r : Result Drawn Refusal) (e : Refusal) → IsErrAnd r (λ x. x ≡ e) → o ≡ refused (number e) → LeftBy o words names (answered r) (drawn_counts r) (drawn_variables r) words names
  left_turned r e made f = rw (returned r e made) (left_refused f)

  pub left_accepted : {d : Drawing} {words' names' : List ℕ} → o ≡ accepted d → words' ≡ over (table d) words → names' ≡ over (renumbered d) names
      → LeftBy o words names 0 d.counts d.most words' names'
  unfolding number_of leaves
  left_accepted e f g = rw (e, f, g) (record { answers = refl; returns = refl; most_is = refl; fills = refl; renumbers = refl })

-- an outcome that is another
pub left_same : {o o' : Outcome Drawing} {words names words' names' : List ℕ} {n m : ℕ} {c : Counts} → o ≡ o' → LeftBy o' words names n c m words' names' → LeftBy o words names n c m words' names'
left_same e f = rw e f

-- ---- 2 and 3

module _ (ns : List ℕ) (counted : 0 ≡ refusal (count_tests ns)) {c : Counts} (e : c ≡ counts_of ns) {m : ℕ} (given : m ≡ get_or ns 0 0) where
  header_past : {n : ℕ} → n ≡ refusal (leb m 4095 or 3 ∷ leb (variables c) m or 3 ∷ []) → n ≡ refusal (any_header_tests ns)
  unfolding any_header_tests
  header_past h = none_past (count_tests ns) _ (counts_numbered ns) counted (rw (e, given) at h)

  pub header_many : 4095 < m → 3 ≡ refusal (any_header_tests ns)
  header_many h = header_past (stops _ _ (lt-leb m 4095 h))

  module _ (few : m ≤ 4095) where
    pub header_few : m < variables c → 3 ≡ refusal (any_header_tests ns)
    header_few h = header_past (past _ _ (le-leb m 4095 few) (stops _ _ (lt-leb (variables c) m h)))

    pub header_passes : variables c ≤ m → 0 ≡ refusal (any_header_tests ns)
    header_passes h = header_past (past _ _ (le-leb m 4095 few) (past _ _ (le-leb (variables c) m h) none))

-- an ill-formed line has no numbers
pub header_missing : (l : ReadLine) → l.count ≡ 0 → 2 ≡ refusal (any_header_tests (numbers_of l))
unfolding any_header_tests
header_missing l z = refuses_whole (count_tests (numbers_of l)) _ 2 (count_few l (omega arith)) (λ e. omega arith)

-- ---- 20, 21, 22, then 9, then 10

module _ (ending : List ℕ) (d : Drawing) (rest words names : List ℕ) where
  abbrev pub all : List Test
  all = after_tests ending d rest ++ room_tests words names d

  numbered : Numbered (drawing_tests d)
  unfolding drawing_tests
  numbered = omega arith

  pub after_numbered : Numbered (after_tests ending d rest)
  unfolding after_tests drawing_tests
  after_numbered = omega arith

  pub judged_stops : {n : ℕ} → n ≡ refusal (drawing_tests d) → (n ≡ 0 → ⊥) → n ≡ refusal all
  unfolding after_tests
  judged_stops e z = refuses_whole _ _ _ (refuses_whole _ _ _ e z) z

  module _ (e : 0 ≡ refusal (drawing_tests d)) where
    pub open_stops : {b : Bool} → b ≡ ends ending rest → b ≡ false → 9 ≡ refusal all
    unfolding after_tests
    open_stops q f = refuses_whole _ _ 9 (none_past _ _ numbered e (stops _ [] (sym q ∙ f))) (λ z. omega arith)

    module _ {b : Bool} (q : b ≡ ends ending rest) (t : b ≡ true) where
      nothing_after : 0 ≡ refusal (after_tests ending d rest)
      unfolding after_tests
      nothing_after = none_past _ _ numbered e (past _ [] (sym q ∙ t) none)

      pub table_stops : length words < table_length d.counts → 10 ≡ refusal all
      unfolding room_tests
      table_stops h = none_past _ _ after_numbered nothing_after (stops _ _ (lt-leb (table_length d.counts) _ h))

      module _ (long : table_length d.counts ≤ length words) where
        pub list_stops : length names < d.most + 1 → 10 ≡ refusal all
        unfolding room_tests
        list_stops h = none_past _ _ after_numbered nothing_after (past _ _ (le-leb (table_length d.counts) _ long) (stops _ [] (lt-leb (suc d.most) _ (omega arith))))

        pub room_passes : d.most + 1 ≤ length names → 0 ≡ refusal all
        unfolding room_tests
        room_passes h = none_past _ _ after_numbered nothing_after (past _ _ (le-leb (table_length d.counts) _ long) (past _ [] (le-leb (suc d.most) _ (omega arith)) none))

-- a refusal, and none
pub tested_refused : (ts : List Test) (d : Drawing) (n : ℕ) → n ≡ refusal ts → (n ≡ 0 → ⊥) → tested ts (accepted d) ≡ refused n
tested_refused ts d zero e z = absurd (z refl)
tested_refused ts d (suc n) e z = tested_stops ts (accepted d) e

pub tested_none : (ts : List Test) (d : Drawing) → 0 ≡ refusal ts → tested ts (accepted d) ≡ accepted d
tested_none ts d e = tested_past ts (accepted d) e
