-- Laws of a line's ending, and of a number in a line, found at a position of a text: what stands behind the number decides. Assumes nothing.
use mathlib.Core.Path.{◌≡◌, refl, sym, ◌∙◌, ap}
use mathlib.Core.Bool.{true, false, false≢true, true≢false}
use mathlib.Core.List.{List, [], ◌∷◌}
use Prim.Native.Nat.{ℕ, ◌+◌, ◌≤◌, ◌<◌}
use native.Mathlib.Omega.{arith}
use borrow.Author.Tests.{ne_eqb, ltb-true, eqb-true, eqb-false, ltb-false}
use lib.Dec.{ltb, eqb}
use lib.ListN.{length, get_or, drop}
use Rattle.std.specs.Prelude.{Some, None}
use Rattle.std.specs.List.{starts_with}
use Rattle.three.proofs.Lists.{by_test, and_parts}
use Rattle.text.specs.Part.{Part, got, ill}
use Rattle.text.specs.Decimal.{read_number}
use Rattle.text.specs.Line.{newline, office_newline, space, strip}
use Rattle.lines.specs.declared.Number.{Number}
use Rattle.lines.specs.declared.Ending.{Ending}
use Rattle.lines.specs.declared.Ending.TheVariants.{Newline, OfficeNewline}
use Rattle.lines.specs.declared.InLine.TheVariants.{Last, More}
use Rattle.lines.specs.LinesInCode.{from, number_part, number_end, NumberFound, line_part, line_end, stripped, ending_bytes, first_byte, lead_bytes, ending_end, EndingAt, FoundInLine}
use Rattle.text.proofs.Lines.{strip_front, strip_none, strip_other, strip_same, number_ill, number_last, number_more, number_other}
use Rattle.lines.proofs.Numbers.{from_end, from_byte}

-- ---- a text that opens with some bytes, or does not

pub strip_so : (bs t : List ℕ) → starts_with eqb t bs ≡ true → strip bs t ≡ got tt (drop (length bs) t)
unfolding strip
strip_so [] t e = refl
strip_so (b ∷ bs) [] e = absurd (false≢true e)
strip_so (b ∷ bs) (d ∷ t) e = let p = and_parts (eqb b d) (starts_with eqb t bs) e in strip_same b d bs t p.0 ∙ strip_so bs t p.1

pub strip_not : (bs t : List ℕ) → starts_with eqb t bs ≡ false → strip bs t ≡ ill
strip_not [] t e = absurd (true≢false e)
strip_not (b ∷ bs) [] e = strip_none b bs
strip_not (b ∷ bs) (d ∷ t) e = by_test (eqb b d) (λ q. strip_same b d bs t q ∙ strip_not bs t (rw q at e)) (strip_other b d bs t)

-- ---- an ending

strip_byte : (b : ℕ) (bs : List ℕ) (d : ℕ) (t : List ℕ) → (d ≡ b → ⊥) → strip (b ∷ bs) (d ∷ t) ≡ ill
strip_byte b bs d t h = strip_other b d bs t (ne_eqb b d (λ e. h (sym e)))

module _ (text : List ℕ) (at : ℕ) where
  module _ (h : at < length text) where
    pub ending_other : (e : Ending) {first : ℕ} → first ≡ first_byte e → (get_or text at 0 ≡ first → ⊥) → EndingAt (ending_bytes e) text at None
    unfolding stripped ending_end
    ending_other Newline f b = record { reads = rw (from_byte text at h) (strip_byte 10 [] _ _ (λ q. b (q ∙ sym f))); within = omega arith }
    ending_other OfficeNewline f b = record { reads = rw (from_byte text at h) (strip_byte 13 newline _ _ (λ q. b (q ∙ sym f))); within = omega arith }

    past_13 : get_or text at 0 ≡ 13 → strip office_newline (from text at) ≡ strip newline (from text (at + 1))
    past_13 b = rw (from_byte text at h, b) (strip_same 13 13 newline _ refl)

  beyond : (b : ℕ) (bs : List ℕ) → length text ≤ at → strip (b ∷ bs) (from text at) ≡ ill
  beyond b bs h = rw (from_end text at h) (strip_none b bs)

  pub ending_short : (e : Ending) {lead : ℕ} → lead ≡ lead_bytes e → at ≤ length text → length text ≤ at + lead → EndingAt (ending_bytes e) text at None
  unfolding stripped ending_end
  ending_short Newline l w h = record { reads = beyond 10 [] (omega arith); within = omega arith }
  ending_short OfficeNewline l w h = by_test (ltb at (length text))
      (λ t. let g = ltb-true at (length text) t in by_test (eqb (get_or text at 0) 13)
      (λ q. record { reads = past_13 g (eqb-true _ 13 q) ∙ rw (from_end text (at + 1) (omega arith)) (strip_none 10 []); within = omega arith })
      (λ q. ending_other g OfficeNewline refl (eqb-false _ 13 q)))
      (λ t. record { reads = beyond 13 newline (ltb-false at (length text) t); within = omega arith })

  module _ {first lead : ℕ} (w : at + lead < length text) (b : get_or text at 0 ≡ first) where
    pub ending_cut : (e : Ending) → first ≡ first_byte e → lead ≡ lead_bytes e → (get_or text (at + lead) 0 ≡ 10 → ⊥) → EndingAt (ending_bytes e) text at None
    unfolding stripped ending_end
    ending_cut Newline f l d =
        let p : at + lead ≡ at = omega arith in
        absurd (d (ap (λ (i : ℕ). get_or text i 0) p ∙ b ∙ f))
    ending_cut OfficeNewline f l d =
        let p : at + lead ≡ at + 1 = omega arith in
        record { reads = past_13 (omega arith) (b ∙ f) ∙ rw (from_byte text (at + 1) (omega arith)) (strip_byte 10 [] _ _ (λ q. d (ap (λ (i : ℕ). get_or text i 0) p ∙ q))); within = omega arith }

    pub ending_here : (e : Ending) → first ≡ first_byte e → lead ≡ lead_bytes e → get_or text (at + lead) 0 ≡ 10 → EndingAt (ending_bytes e) text at (Some (at + lead + 1))
    unfolding stripped ending_end
    ending_here Newline f l d =
        let p : at + lead + 1 ≡ at + 1 = omega arith in
        record { reads = rw (p, from_byte text at (omega arith), b ∙ f) (strip_front newline _); within = omega arith }
    ending_here OfficeNewline f l d =
        let p : at + lead ≡ at + 1 = omega arith in
        let q : at + lead + 1 ≡ at + 1 + 1 = omega arith in
        record { reads = past_13 (omega arith) (b ∙ f) ∙ rw (q, from_byte text (at + 1) (omega arith), ap (λ (i : ℕ). get_or text i 0) (sym p) ∙ d) (strip_front newline _); within = omega arith }

-- what it says
pub ending_none : {ending text : List ℕ} {at : ℕ} → EndingAt ending text at None → strip ending (from text at) ≡ ill
unfolding stripped
ending_none f = f.reads

pub ending_some : {ending text : List ℕ} {at n : ℕ} → EndingAt ending text at (Some n) → strip ending (from text at) ≡ got tt (from text n)
unfolding stripped
ending_some f = f.reads

-- ---- a number in a line: what stands behind it decides

pub number_within : {text : List ℕ} {p : Part ℕ} {n : Number} → NumberFound text p (Some n) → n.next ≤ length text
unfolding number_end
number_within found = found.within

module _ (ending text : List ℕ) (at : ℕ) where
  pub in_line_none : NumberFound text (read_number (from text at)) None → FoundInLine ending text (from text at) None
  unfolding number_part line_part line_end
  in_line_none found = record { reads = λ most. number_ill ending most _ found.reads; within = omega arith }

  module _ {v : Number} (found : NumberFound text (read_number (from text at)) (Some v)) where
    number_got : read_number (from text at) ≡ got v.value (from text v.next)
    unfolding number_part
    number_got = found.reads

    pub in_line_last : {next : ℕ} → EndingAt ending text v.next (Some next) → FoundInLine ending text (from text at) (Some (Last (record { value = v.value; next = next })))
    unfolding line_part line_end ending_end
    in_line_last behind = record { reads = λ most. number_last ending most _ number_got (ending_some behind); within = behind.within }

    module _ (behind : EndingAt ending text v.next None) where
      in_line_not : strip space (from text v.next) ≡ ill → FoundInLine ending text (from text at) None
      unfolding line_part line_end
      in_line_not s = record { reads = λ most. number_other ending most _ number_got (ending_none behind) s; within = omega arith }

      pub in_line_end : length text ≤ v.next → FoundInLine ending text (from text at) None
      in_line_end h = in_line_not (rw (from_end text v.next h) (strip_none 32 []))

      module _ (h : v.next < length text) where
        pub in_line_more : get_or text v.next 0 ≡ 32 → FoundInLine ending text (from text at) (Some (More (record { value = v.value; next = v.next + 1 })))
        unfolding line_part line_end
        in_line_more b = record { reads = λ most. number_more ending most _ number_got (ending_none behind) (rw (from_byte text v.next h, b) (strip_front space _)); within = omega arith }

        pub in_line_other : (get_or text v.next 0 ≡ 32 → ⊥) → FoundInLine ending text (from text at) None
        in_line_other b = in_line_not (rw (from_byte text v.next h) (strip_other 32 _ [] _ (ne_eqb 32 (get_or text v.next 0) (λ e. b (sym e)))))
