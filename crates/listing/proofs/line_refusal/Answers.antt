-- `listing::line_refusal` meets its contract: 4, 6, then 8 or 6. Assumes nothing.
use native.Mathlib.Omega.{arith}
use Rattle.listing.proofs.Judging.{no_latch, count_stops, count_past, first_over, reset_over, latch_pass, second_over, words_pass}
use Rattle.listing.proofs.line_refusal.Goals as goal

pub returns-then-not-count_fits : goal.returns-then-not-count_fits
returns-then-not-count_fits c = count_stops _ _ _ c.count_fits.ensures c.if-not-count_fits.true

pub returns-then-first_word-most : goal.returns-then-first_word-most
returns-then-first_word-most c =
    count_past _ _ _ c.count_fits.ensures c.if-not-count_fits.false (first_over _ _ _ (omega arith))

pub returns-then-second-gt2 : goal.returns-then-second-gt2
returns-then-second-gt2 c =
    count_past _ _ _ c.count_fits.ensures c.if-not-count_fits.false (reset_over _ _ _ c.in-Latch.is (omega arith) (omega arith))

pub returns-else-second-gt2 : goal.returns-else-second-gt2
returns-else-second-gt2 c =
    count_past _ _ _ c.count_fits.ensures c.if-not-count_fits.false (latch_pass _ _ _ c.in-Latch.is (omega arith) (omega arith))

pub returns-then-second-most : goal.returns-then-second-most
returns-then-second-most c =
    count_past _ _ _ c.count_fits.ensures c.if-not-count_fits.false (second_over _ _ _ (no_latch c.in-Input.is) (omega arith) (omega arith))

pub returns-else-second-most : goal.returns-else-second-most
returns-else-second-most c =
    count_past _ _ _ c.count_fits.ensures c.if-not-count_fits.false (words_pass _ _ _ (no_latch c.in-Input.is) (omega arith) (omega arith))
