-- The first line of a text: found at its positions, and what each of its tests says. Assumes nothing.
use mathlib.Core.Path.{◌≡◌, sym, ◌∙◌}
use mathlib.Core.Bool.{Bool, true, false, false≢true}
use mathlib.Core.List.{List, [], ◌∷◌}
use Prim.Native.Nat.{ℕ, ◌≤◌, ◌<◌}
use native.Mathlib.Omega.{arith}
use borrow.Author.Tests.{ltb-true, ltb-false, le-leb, lt-leb, eq-eqb, ne_eqb}
use lib.Dec.{leb, ltb, eqb}
use lib.ListN.{length, get_or}
use Rattle.std.specs.List.{starts_with}
use Rattle.three.specs.Lists.{every}
use Rattle.three.proofs.Lists.{by_test}
use Rattle.text.specs.Part.{ill}
use Rattle.text.specs.Line.{split_line}
use Rattle.text.specs.Text.{first_line, counts_of, count_tests, header_tests}
use Rattle.lines.specs.ShapeInCode.{most_numbers}
use Rattle.lines.specs.LinesInCode.{from, numbers_of}
use Rattle.lines.proofs.Endings.{strip_so, strip_not}
use Rattle.reader.specs.ReaderInCode.{opened}
use Rattle.text.proofs.Lines.{opening as opens, strip_short, strip_alike, strip_unlike}
use Rattle.circuit.specs.declared.Counts.{Counts}
use Rattle.circuit.specs.Refusal.{Test, ◌or◌, refusal}
use Rattle.circuit.specs.Table.{variables, ceiling_tests}
use Rattle.circuit.specs.RulesInCode.{Bounded}
use Rattle.circuit.proofs.Refusals.{Numbered, stops, past, none, passes, refuses_whole, none_past}
use Rattle.lines.specs.declared.read_line.ReadLine.{ReadLine}
use Rattle.lines.proofs.Finding.{line_length}
use Rattle.text.proofs.Heads.{counts_passed}

-- ---- found at its positions

module _ (opening text ending : List ℕ) {b : Bool} (e : b ≡ starts_with eqb text opening) where
  pub header_none : b ≡ false → first_line opening ending text ≡ ill
  unfolding first_line
  header_none f = rw (first_line, strip_not opening text (sym e ∙ f))

  pub header_line : length opening ≡ 4 → b ≡ true → first_line opening ending text ≡ split_line ending most_numbers (from text 4)
  unfolding first_line from
  header_line four t = rw (first_line, strip_so opening text (sym e ∙ t), four)

-- a text that opens with four bytes is as long, and the same byte by byte
module _ (opening text : List ℕ) (four : length opening ≡ 4) where
  pub opened_short : length text < 4 → false ≡ opened opening text
  unfolding opened
  opened_short h = sym (rw (opened, strip_short opening text (rw four h)))

  pub opened_alike : 4 ≤ length text → every 4 (λ i. eqb (get_or opening i 0) (get_or text i 0)) ≡ opened opening text
  unfolding opened
  opened_alike h = rw (← four) (by_test (opens opening text)
      (λ e. rw (e, opened, strip_alike opening text (rw four h) e))
      (λ e. rw (e, opened, strip_unlike opening text (rw four h) e)))

  pub opened_long : {b : Bool} → b ≡ opened opening text → b ≡ true → 4 ≤ length text
  opened_long e t = by_test (ltb (length text) 4)
      (λ h. absurd (false≢true (opened_short (ltb-true (length text) 4 h) ∙ sym e ∙ t)))
      (ltb-false (length text) 4)

-- ---- its refusals: how many numbers, J and F, the ceilings, and then M

pub counts_numbered : (ns : List ℕ) → Numbered (count_tests ns)
unfolding count_tests ceiling_tests
counts_numbered ns = omega arith

pub counts_bounded : (ns : List ℕ) {c : Counts} → 0 ≡ refusal (count_tests ns) → c ≡ counts_of ns → Bounded c
counts_bounded ns z e = rw e (counts_passed ns (passes (count_tests ns) (counts_numbered ns) z)).3

module _ (l : ReadLine) where
  pub count_few : l.count < 5 → 2 ≡ refusal (count_tests (numbers_of l))
  unfolding count_tests
  count_few h = stops _ _ (rw (line_length l) (lt-leb 5 l.count h))

  module _ (many : 5 ≤ l.count) {j : ℕ} (justice : j ≡ get_or (numbers_of l) 7 0) where
    count_past : {k : ℕ} (ts : List Test) → k ≡ refusal ts → k ≡ refusal (leb 5 (length (numbers_of l)) or 2 ∷ ts)
    count_past ts h = past _ _ (rw (line_length l) (le-leb 5 l.count many)) h

    pub count_justice : (j ≡ 0 → ⊥) → 3 ≡ refusal (count_tests (numbers_of l))
    unfolding count_tests
    count_justice h = count_past _ (stops _ _ (ne_eqb _ 0 (λ q. h (justice ∙ q))))

    module _ (no : j ≡ 0) {f : ℕ} (fairness : f ≡ get_or (numbers_of l) 8 0) where
      pub count_fairness : (f ≡ 0 → ⊥) → 3 ≡ refusal (count_tests (numbers_of l))
      unfolding count_tests
      count_fairness h = count_past _ (past _ _ (eq-eqb _ 0 (sym justice ∙ no)) (stops _ _ (ne_eqb _ 0 (λ q. h (fairness ∙ q)))))

      pub count_ceilings : f ≡ 0 → {c : Counts} → c ≡ counts_of (numbers_of l) → {k : ℕ} → k ≡ refusal (ceiling_tests c) → k ≡ refusal (count_tests (numbers_of l))
      unfolding count_tests
      count_ceilings z e r = count_past _ (past _ _ (eq-eqb _ 0 (sym justice ∙ no)) (past _ _ (eq-eqb _ 0 (sym fairness ∙ z)) (rw e at r)))

module _ (ns : List ℕ) (counted : 0 ≡ refusal (count_tests ns)) {c : Counts} (e : c ≡ counts_of ns) {m : ℕ} (given : m ≡ get_or ns 0 0) where
  header_past : {n : ℕ} → n ≡ refusal (eqb (get_or ns 0 0) (variables c) or 3 ∷ []) → n ≡ refusal (header_tests ns)
  unfolding header_tests
  header_past h = none_past (count_tests ns) _ (counts_numbered ns) counted (rw e at h)

  pub header_sum : (m ≡ variables c → ⊥) → 3 ≡ refusal (header_tests ns)
  header_sum h = header_past (stops _ _ (ne_eqb _ _ (λ q. h (given ∙ q))))

  pub header_passes : m ≡ variables c → 0 ≡ refusal (header_tests ns)
  header_passes h = header_past (past _ _ (eq-eqb _ _ (sym given ∙ h)) none)

-- an ill-formed line has no numbers
pub header_missing : (l : ReadLine) → l.count ≡ 0 → 2 ≡ refusal (header_tests (numbers_of l))
unfolding header_tests
header_missing l z = refuses_whole (count_tests (numbers_of l)) _ 2 (count_few l (omega arith)) (λ e. omega arith)
