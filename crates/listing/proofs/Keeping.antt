-- A line is listed: what it gives is put behind what is listed already. Assumes nothing.
use mathlib.Core.Path.{◌≡◌, refl, sym, ap, ap₂, ◌∙◌}
use mathlib.Core.List.{List, ◌∷◌, ◌++◌, append_assoc}
use Prim.Native.Nat.{ℕ, zero, suc, ◌+◌, ◌≤◌}
use native.Mathlib.Omega.{arith}
use borrow.Author.Tests.{ltb-true, ltb-false}
use lib.Dec.{ltb}
use lib.ListN.{length, take}
use lib.Seq.{sets, length-sets}
use Rattle.three.proofs.Lists.{by_test}
use Rattle.circuit.specs.Refusal.{refusal}
use Rattle.circuit.specs.Table.{Kind}
use Rattle.text.specs.declared.LineKind.{LineKind}
use Rattle.text.specs.Part.{got}
use Rattle.text.specs.Line.{read_line}
use Rattle.text.specs.Outcome.{Outcome, accepted, refused, onward}
use Rattle.text.specs.Text.{words, shown_own, Lines, in_front, read_lines}
use Rattle.text.specs.KindsInCode.{coded}
use Rattle.text.proofs.Spelling.{length_words}
use Rattle.text.proofs.Steps.{line_ill, line_stops, line_fits}
use Rattle.text.proofs.Coding.{words_alike}
use Rattle.lines.specs.declared.read_line.ReadLine.{ReadLine}
use Rattle.lines.specs.LinesInCode.{from, numbers_of, LineFound}
use Rattle.lines.proofs.Finding.{line_got, line_ill_formed}
use Rattle.reader.proofs.Bodies.{after_refused}
use Rattle.drawn.specs.Lines.{any_tests}
use Rattle.listing.specs.ListingInCode.{shown_by, worded, Stand, stand, behind, whole, Listable, Listed}
use Rattle.listing.proofs.Judging.{tests_alike, shows_alike, count_stops}
use Rattle.listing.proofs.Needs.{take_sets, length_shown, no_numbers}

-- ---- a line

module _ (ending text : List ℕ) (most : ℕ) (k : LineKind) (own : ℕ) {a b : ℕ} {s : Stand} (room : Listable text most a b s)
    {l : ReadLine} (f : LineFound text (read_line ending (from text s.at)) l) where
  abbrev kind : Kind
  kind = coded k own

  abbrev ns : List ℕ
  ns = numbers_of l

  whole_refused : (ks : List Kind) {n : ℕ} → read_lines ending (any_tests most) ks (from text s.at) ≡ refused n → whole ending text most ks s ≡ refused n
  unfolding whole onward
  whole_refused ks e = rw e

  pub line_refused : {n : ℕ} → n ≡ refusal (any_tests most (coded k 0) ns) → (n ≡ 0 → ⊥) → Listed ending text most (λ ks. kind ∷ ks) a b n s (stand 0 0 0 s.owns s.words)
  line_refused {n} e z = record {
    says = λ ks. by_test (ltb 0 l.count)
        (λ h. stops n e z ks (line_got l f (ltb-true 0 l.count h)) ∙ sym (after_refused n _ z))
        (λ h. let y : l.count ≡ 0 = omega (arith, ltb-false 0 l.count h) in
        let four : n ≡ 4 = e ∙ sym (count_stops most k l refl (rw (y, no_numbers (coded k 0)))) in
        whole_refused (kind ∷ ks) (line_ill ending (any_tests most) kind ks _ (line_ill_formed l f y)) ∙ rw (← four) (sym (after_refused n _ z)));
    within = omega arith;
    owns_long = refl;
    words_long = refl;
    line = λ y. absurd (z y);
    word = λ y. absurd (z y);
  }
    where
      stops : (n : ℕ) → n ≡ refusal (any_tests most (coded k 0) ns) → (n ≡ 0 → ⊥) → (ks : List Kind) → read_line ending (from text s.at) ≡ got ns (from text l.next) → whole ending text most (kind ∷ ks) s ≡ refused n
      stops zero e z ks g = absurd (z refl)
      stops (suc n) e z ks g = whole_refused (kind ∷ ks) (line_stops ending (any_tests most) kind ks _ g (rw (tests_alike most k own ns) at e))

  -- what stands in front of the lines after it is put behind what is listed
  behind_front : (os ws : List ℕ) (o : Outcome Lines) → onward (behind os ws) (onward (in_front kind ns) o) ≡ onward (behind (os ++ shown_own kind ns) (ws ++ words kind ns)) o
  unfolding onward
  behind_front os ws (accepted m) = rw (append_assoc, append_assoc)
  behind_front os ws (refused n) = refl

  module _ (z : 0 ≡ refusal (any_tests most (coded k 0) ns)) (owns_room : s.line + shown_by (coded k 0) ≤ length s.owns) (words_room : s.word + worded (coded k 0) ≤ length s.words)
      {owns' words' : List ℕ} (o : owns' ≡ sets s.owns s.line (shown_own (coded k 0) ns)) (w : words' ≡ sets s.words s.word (words (coded k 0) ns)) where
    abbrev t : Stand
    t = stand l.next (s.line + shown_by (coded k 0)) (s.word + length (words (coded k 0) ns)) owns' words'

    -- a line that nothing refuses has numbers
    found : read_line ending (from text s.at) ≡ got ns (from text l.next)
    found = by_test (ltb 0 l.count)
        (λ h. line_got l f (ltb-true 0 l.count h))
        (λ h. let y : l.count ≡ 0 = omega (arith, ltb-false 0 l.count h) in
        let four = count_stops most k l refl (rw (y, no_numbers (coded k 0))) in absurd (omega (arith, z, four)))

    owns_kept : take t.line owns' ≡ take s.line s.owns ++ shown_own kind ns
    owns_kept = rw (o, ← (length_shown (coded k 0) ns)) (take_sets s.owns s.line (shown_own (coded k 0) ns) (rw (length_shown (coded k 0) ns) owns_room) ∙ ap (λ os. take s.line s.owns ++ os) (shows_alike k own ns))

    words_kept : take t.word words' ≡ take s.word s.words ++ words kind ns
    words_kept = unfold worded in rw w (take_sets s.words s.word (words (coded k 0) ns) (rw (length_words (coded k 0) ns) words_room) ∙ ap (λ ws. take s.word s.words ++ ws) (words_alike k own ns))

    line_kept_there : Listed ending text most (λ ks. kind ∷ ks) (shown_by (coded k 0)) (worded (coded k 0)) 0 s t
    unfolding whole worded
    line_kept_there = record {
      says = λ ks.
          ap (onward (behind (take s.line s.owns) (take s.word s.words))) (line_fits ending (any_tests most) kind ks _ found (rw (tests_alike most k own ns) at z))
          ∙ behind_front (take s.line s.owns) (take s.word s.words) (read_lines ending (any_tests most) ks (from text l.next))
          ∙ ap₂ (λ os ws. onward (behind os ws) (read_lines ending (any_tests most) ks (from text l.next))) (sym owns_kept) (sym words_kept);
      within = f.within;
      owns_long = rw o (length-sets s.owns s.line (shown_own (coded k 0) ns));
      words_long = rw w (length-sets s.words s.word (words (coded k 0) ns));
      line = λ y. refl;
      word = λ y. ap (λ n. s.word + n) (length_words (coded k 0) ns);
    }

    pub line_kept : {line' word' : ℕ} → line' ≡ s.line + shown_by (coded k 0) → word' ≡ s.word + length (words (coded k 0) ns)
        → Listed ending text most (λ ks. kind ∷ ks) (shown_by (coded k 0)) (worded (coded k 0)) 0 s (stand l.next line' word' owns' words')
    line_kept p q = rw (p, q) line_kept_there
