-- Laws of a frame: what its sizes say of the texts, and what is left behind the next one. Assumes nothing.
use mathlib.Core.Path.{◌≡◌, refl, sym, ap, ◌∙◌}
use mathlib.Core.List.{List, [], ◌++◌}
use Prim.Native.Nat.{ℕ, suc, ◌+◌, ◌-◌, ◌≤◌, ◌<◌}
use native.Mathlib.Omega.{arith}
use borrow.Author.Tests.{eq-eqb, ne_eqb}
use lib.ListN.{length, take, drop, length-drop}
use lib.Seq.{drop-drop}
use Rattle.text.specs.Part.{Part, got, ill}
use Rattle.text.specs.Line.{prepend}
use Rattle.std.proofs.Common.{rules}
use Rattle.std.specs.Prelude.{Option, Some, None, IsSome}
use Rattle.lines.specs.declared.Number.{Number}
use Rattle.lines.specs.LinesInCode.{from, number_part, number_end, NumberFound}
use Rattle.reporting.specs.Reporting.{Piece}
use Rattle.reported.specs.Report.{report_of, Reported}
use Rattle.reports.specs.declared.Left.{Left}
use Rattle.reports.specs.Reports.{read_size, read_sizes, total, reports_on, printed}
use Rattle.reports.specs.ReportsInCode.{SizeFound, summed, left_at, Framed, FrameFound}
use Rattle.reports.proofs.Sizes.{raised, summed_prepend, sizes_on, sizes_ill}

-- ---- sizes that add up, and sizes that are none

no_number : {A : Type 0} {a : A} {r : List ℕ} → ill ≡ got a r → ⊥
no_number e = let z : ◌≡◌ {A = ℕ} 0 1 = cc in omega arith

summed_ill : (p : Part (List ℕ)) → summed p ≡ ill → p ≡ ill
unfolding summed
summed_ill (got ns r) e = absurd (no_number (sym e))
summed_ill ill e = refl

pub record Summed (p : Part (List ℕ)) (n : ℕ) (r : List ℕ) : Type 0 where
  pub sizes : List ℕ
  pub is : p ≡ got sizes r
  pub adds : total sizes ≡ n

summed_got : (p : Part (List ℕ)) {n : ℕ} {r : List ℕ} → summed p ≡ got n r → Summed p n r
unfolding summed
summed_got (got ns r) e = record { sizes = ns; is = cc; adds = cc }
summed_got ill e = absurd (no_number e)

raised_got : (m : ℕ) (p : Part ℕ) {n : ℕ} {r : List ℕ} → raised m p ≡ got n r → (k : ℕ) × (p ≡ got k r) × (m + k ≡ n)
unfolding raised
raised_got m (got k r) e = (k, cc, cc)
raised_got m ill e = absurd (no_number e)

-- ---- the frame

pub sum_within : {stream : List ℕ} {p : Part ℕ} {added : Option Number} → NumberFound stream p added → {sum : Number} → added ≡ Some sum → sum.next ≤ length stream
unfolding number_end
sum_within sum e = rw e at sum.within

module _ (stream : List ℕ) where
  length_from : (at : ℕ) → length (from stream at) ≡ length stream - at
  unfolding from
  length_from at = length-drop at stream

  module _ {count : Option Number} (first : SizeFound stream (from stream 0) count) where
    -- nothing is said of a stream without one
    pub no_count : count ≡ None → printed stream ≡ []
    unfolding from number_part printed
    no_count e = let no : read_size stream ≡ ill = rw e at first.found.reads in rw (printed, no)

    module _ {c : Number} (counted : count ≡ Some c) {added : Option Number} (sum : NumberFound stream (summed (read_sizes c.value (from stream c.next))) added) where
      count_is : read_size stream ≡ got c.value (from stream c.next)
      unfolding from number_part
      count_is = rw counted at first.found.reads

      pub no_sizes : added ≡ None → printed stream ≡ []
      unfolding number_part printed
      no_sizes e =
          let no = summed_ill (read_sizes c.value (from stream c.next)) (rw e at sum.reads) in
          rw (printed, count_is, no)

      module _ {s : Number} (makes : added ≡ Some s) where
        sizes_are : Summed (read_sizes c.value (from stream c.next)) s.value (from stream s.next)
        unfolding number_part
        sizes_are = summed_got (read_sizes c.value (from stream c.next)) (rw makes at sum.reads)

        pub not_added : (s.value ≡ length stream - s.next → ⊥) → printed stream ≡ []
        unfolding printed
        not_added h =
            let no = ne_eqb (total sizes_are.sizes) (length (from stream s.next)) (λ e. h (sym sizes_are.adds ∙ e ∙ length_from s.next)) in
            rw (printed, count_is, sizes_are.is, no)

        pub whole_frame : s.value ≡ length stream - s.next → FrameFound stream (Some (record { texts = c.value; sizes = c.next; at = s.next }))
        unfolding number_part number_end printed left_at
        whole_frame e =
            let on = eq-eqb (total sizes_are.sizes) (length (from stream s.next)) (sizes_are.adds ∙ e ∙ sym (length_from s.next)) in (
              record {
                rest = from stream s.next;
                sums = sum.reads ∙ rw (makes, e);
                sizes_within = rw counted at first.found.within;
                within = sum_within sum makes;
              },
              rw (printed, count_is, left_at, sizes_are.is, on),
            )

-- ---- the next text

is_some : {A : Type 0} (o : Option A) → (o ≡ None → ⊥) → IsSome o
is_some (Some a) h = search rules
is_some None h = absurd (h refl)

module _ (stream : List ℕ) (l : Left) (framed : Framed stream l) (some : 0 < l.texts) {n : Option Number} (found : SizeFound stream (from stream l.sizes) n) where
  turn : l.texts ≡ suc (l.texts - 1)
  turn = omega arith

  some_size : n ≡ None → ⊥
  unfolding number_part summed
  some_size e =
      let no : read_size (from stream l.sizes) ≡ ill = rw e at found.found.reads in
      let none : read_sizes l.texts (from stream l.sizes) ≡ ill = ap (λ (k : ℕ). read_sizes k (from stream l.sizes)) turn ∙ sizes_ill (l.texts - 1) (from stream l.sizes) no in
      no_number (rw none at framed.sums)

  pub always_size : IsSome n
  always_size = is_some n some_size

  module _ {size : Number} (is : n ≡ Some size) where
    abbrev behind : Left
    behind = record { texts = l.texts - 1; sizes = size.next; at = l.at + size.value }

    on : read_sizes l.texts (from stream l.sizes) ≡ prepend size.value (read_sizes (l.texts - 1) (from stream size.next))
    unfolding number_part
    on = ap (λ (k : ℕ). read_sizes k (from stream l.sizes)) turn ∙ sizes_on (l.texts - 1) (from stream l.sizes) (rw is at found.found.reads)

    others : (k : ℕ) × (summed (read_sizes (l.texts - 1) (from stream size.next)) ≡ got k framed.rest) × (size.value + k ≡ length stream - l.at)
    others = raised_got size.value _ (sym (summed_prepend size.value (read_sizes (l.texts - 1) (from stream size.next))) ∙ ap summed (sym on) ∙ framed.sums)

    pub next_fits : l.at + size.value ≤ length stream
    next_fits = omega (arith, others.2, framed.within)

    pub next_framed : Framed stream behind
    unfolding number_end
    next_framed = record {
      rest = framed.rest;
      sums = others.1 ∙ ap (λ (k : ℕ). got k framed.rest) (omega (arith, others.2));
      sizes_within = rw is at found.found.within;
      within = next_fits;
    }

    next_left : left_at stream l ≡ report_of (take size.value (from stream l.at)) ++ left_at stream behind
    unfolding left_at prepend reports_on from
    next_left =
        let more = summed_got (read_sizes (l.texts - 1) (from stream size.next)) others.1 in
        rw (left_at, on, more.is, drop-drop)

    -- the report on it, and what is left then
    pub next_piece : {out out' : List ℕ} {r : ℕ} → Reported (take (l.at + size.value - l.at) (drop l.at stream)) out r out'
        → Piece (left_at stream l) (left_at stream behind) out r out'
    unfolding from
    next_piece p =
        let e : l.at + size.value - l.at ≡ size.value = omega arith in
        let q : Reported (take size.value (drop l.at stream)) _ _ _ = rw e at p in
        record { piece = report_of (take size.value (drop l.at stream)); returns = q.returns; fills = q.fills; fits = q.fits; left = next_left }
