-- The tests of a line as the code goes through them, by its kind. Assumes nothing.
use mathlib.Core.Path.{◌≡◌, refl, sym, ◌∙◌}
use mathlib.Core.Bool.{Bool, true, false}
use mathlib.Core.List.{List, [], ◌∷◌}
use mathlib.Core.Logic.{◌⊎◌, inl, inr}
use Prim.Native.Nat.{ℕ, ◌≤◌, ◌<◌}
use native.Mathlib.Omega.{arith}
use borrow.Author.Tests.{le-leb, lt-leb}
use lib.Dec.{leb, eqb}
use lib.ListN.{get_or}
use Rattle.circuit.specs.Refusal.{refusal}
use Rattle.circuit.specs.Table.{literal_tests}
use Rattle.circuit.proofs.Refusals.{stops, past, none}
use Rattle.text.specs.declared.LineKind.{LineKind}
use Rattle.text.specs.declared.LineKind.TheVariants.{Input, Latch, Lamp, Gate}
use Rattle.text.specs.Text.{fits, reset_word, words, shown_own}
use Rattle.text.specs.KindsInCode.{coded}
use Rattle.text.proofs.Coding.{coded_input, coded_latch, coded_lamp, coded_gate, input_words, lamp_words, latch_words_lem, gate_words_lem}
use Rattle.lines.specs.declared.read_line.ReadLine.{ReadLine}
use Rattle.lines.specs.LinesInCode.{numbers_of}
use Rattle.lines.proofs.Finding.{line_length}
use Rattle.drawn.specs.Lines.{any_tests}

-- ---- what the arms of a match leave

module _ {k : LineKind} where
  pub no_latch : (k ≡ Input) ⊎ ((k ≡ Lamp) ⊎ (k ≡ Gate)) → k ≡ Latch → ⊥
  no_latch (inl e) f = cc
  no_latch (inr (inl e)) f = cc
  no_latch (inr (inr e)) f = cc

  pub no_lamp : (k ≡ Input) ⊎ ((k ≡ Latch) ⊎ (k ≡ Gate)) → k ≡ Lamp → ⊥
  no_lamp (inl e) f = cc
  no_lamp (inr (inl e)) f = cc
  no_lamp (inr (inr e)) f = cc

-- ---- how many numbers

module _ {k : LineKind} (n : ℕ) where
  pub single_fits : (k ≡ Input) ⊎ (k ≡ Lamp) → eqb n 1 ≡ fits (coded k 0) n
  unfolding fits
  single_fits (inl e) = rw (coded_input 0 e)
  single_fits (inr e) = rw (coded_lamp 0 e)

  pub latch_few : k ≡ Latch → n < 2 → leb 2 n ≡ fits (coded k 0) n
  unfolding fits
  latch_few e h = rw (coded_latch 0 e, lt-leb 2 n h)

  pub latch_fits : k ≡ Latch → 2 ≤ n → leb n 3 ≡ fits (coded k 0) n
  unfolding fits
  latch_fits e h = rw (coded_latch 0 e, le-leb 2 n h)

  pub gate_fits : k ≡ Gate → eqb n 3 ≡ fits (coded k 0) n
  unfolding fits
  gate_fits e = rw (coded_gate 0 e)

-- ---- 6 and 8, by the words of a line

abbrev pub Gives : ℕ → LineKind → List ℕ → ℕ → Type 0
Gives most k ns n = n ≡ refusal (literal_tests most (coded k 0) (words (coded k 0) ns))

pub first_over : (most : ℕ) (k : LineKind) (ns : List ℕ) → most < get_or (words (coded k 0) ns) 0 0 → Gives most k ns 6
unfolding coded words literal_tests
first_over most Input ns h = absurd (omega arith)
first_over most Latch ns h = stops _ _ (lt-leb (get_or ns 1 0) most h)
first_over most Lamp ns h = stops _ _ (lt-leb (get_or ns 0 0) most h)
first_over most Gate ns h = stops _ _ (lt-leb (get_or ns 1 0) most h)

module _ (most : ℕ) (k : LineKind) (ns : List ℕ) (e : k ≡ Latch) (f : get_or (words (coded k 0) ns) 0 0 ≤ most) where
  pub reset_over : 2 < get_or (words (coded k 0) ns) 1 0 → Gives most k ns 8
  unfolding coded words literal_tests
  reset_over h = rw e (past _ _ (le-leb (get_or ns 1 0) most (rw e at f)) (stops _ _ (lt-leb (reset_word (get_or ns 0 0) (get_or ns 2 0)) 2 (rw e at h))))

  pub latch_pass : get_or (words (coded k 0) ns) 1 0 ≤ 2 → Gives most k ns 0
  unfolding coded words literal_tests
  latch_pass h = rw e (past _ _ (le-leb (get_or ns 1 0) most (rw e at f)) (past _ _ (le-leb (reset_word (get_or ns 0 0) (get_or ns 2 0)) 2 (rw e at h)) none))

pub second_over : (most : ℕ) (k : LineKind) (ns : List ℕ) → (k ≡ Latch → ⊥) → get_or (words (coded k 0) ns) 0 0 ≤ most → most < get_or (words (coded k 0) ns) 1 0 → Gives most k ns 6
unfolding coded words literal_tests
second_over most Input ns n f h = absurd (omega arith)
second_over most Latch ns n f h = absurd (n refl)
second_over most Lamp ns n f h = absurd (omega arith)
second_over most Gate ns n f h = past _ _ (le-leb (get_or ns 1 0) most f) (stops _ _ (lt-leb (get_or ns 2 0) most h))

pub words_pass : (most : ℕ) (k : LineKind) (ns : List ℕ) → (k ≡ Latch → ⊥) → get_or (words (coded k 0) ns) 0 0 ≤ most → get_or (words (coded k 0) ns) 1 0 ≤ most → Gives most k ns 0
unfolding coded words literal_tests
words_pass most Input ns n f h = none
words_pass most Latch ns n f h = absurd (n refl)
words_pass most Lamp ns n f h = past _ _ (le-leb (get_or ns 0 0) most f) none
words_pass most Gate ns n f h = past _ _ (le-leb (get_or ns 1 0) most f) (past _ _ (le-leb (get_or ns 2 0) most h) none)

-- ---- 4 in front of them

module _ (most : ℕ) (k : LineKind) (l : ReadLine) where
  pub count_stops : {r : Bool} → r ≡ fits (coded k 0) l.count → r ≡ false → 4 ≡ refusal (any_tests most (coded k 0) (numbers_of l))
  unfolding any_tests
  count_stops e z = stops _ _ (rw (line_length l) (sym e ∙ z))

  pub count_past : {r : Bool} {n : ℕ} → r ≡ fits (coded k 0) l.count → r ≡ true → Gives most k (numbers_of l) n → n ≡ refusal (any_tests most (coded k 0) (numbers_of l))
  unfolding any_tests
  count_past e z h = past _ _ (rw (line_length l) (sym e ∙ z)) h

-- ---- the words, and the own literal, by kind

module _ {k : LineKind} (ns : List ℕ) where
  pub no_word : k ≡ Input → 0 ≡ get_or (words (coded k 0) ns) 0 0
  no_word e = rw (input_words ns e)

  pub lamp_first : k ≡ Lamp → get_or ns 0 0 ≡ get_or (words (coded k 0) ns) 0 0
  lamp_first e = rw (lamp_words ns e)

  pub no_second : (k ≡ Input) ⊎ (k ≡ Lamp) → 0 ≡ get_or (words (coded k 0) ns) 1 0
  no_second (inl e) = rw (input_words ns e)
  no_second (inr e) = rw (lamp_words ns e)

  pub pair_first : (k ≡ Latch) ⊎ (k ≡ Gate) → get_or ns 1 0 ≡ get_or (words (coded k 0) ns) 0 0
  pair_first (inl e) = rw (latch_words_lem ns e)
  pair_first (inr e) = rw (gate_words_lem ns e)

  pub latch_second : k ≡ Latch → reset_word (get_or ns 0 0) (get_or ns 2 0) ≡ get_or (words (coded k 0) ns) 1 0
  latch_second e = rw (latch_words_lem ns e)

  pub gate_second : k ≡ Gate → get_or ns 2 0 ≡ get_or (words (coded k 0) ns) 1 0
  gate_second e = rw (gate_words_lem ns e)

  pub lamp_shows : k ≡ Lamp → shown_own (coded k 0) ns ≡ []
  unfolding shown_own
  lamp_shows e = rw (coded_lamp 0 e)

pub other_shows : (k : LineKind) (ns : List ℕ) → (k ≡ Lamp → ⊥) → shown_own (coded k 0) ns ≡ get_or ns 0 0 ∷ []
unfolding shown_own coded
other_shows Input ns f = refl
other_shows Latch ns f = refl
other_shows Lamp ns f = absurd (f refl)
other_shows Gate ns f = refl

-- the own literal is judged by 20 alone, and shown as it is written
pub tests_alike : (most : ℕ) (k : LineKind) (own : ℕ) (ns : List ℕ) → any_tests most (coded k 0) ns ≡ any_tests most (coded k own) ns
unfolding coded any_tests literal_tests words fits
tests_alike most Input own ns = refl
tests_alike most Latch own ns = refl
tests_alike most Lamp own ns = refl
tests_alike most Gate own ns = refl

pub shows_alike : (k : LineKind) (own : ℕ) (ns : List ℕ) → shown_own (coded k 0) ns ≡ shown_own (coded k own) ns
unfolding coded shown_own
shows_alike Input own ns = refl
shows_alike Latch own ns = refl
shows_alike Lamp own ns = refl
shows_alike Gate own ns = refl
