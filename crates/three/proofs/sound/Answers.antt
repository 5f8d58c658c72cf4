use mathlib.Core.Path.{◌≡◌, refl, sym, ap, ◌∙◌}
use mathlib.Core.Bool.{false, not, ◌&&◌}
use mathlib.Core.List.{List}
use Prim.Native.Nat.{ℕ, ◌*◌, ◌-◌, ◌%◌, ◌^◌, ◌<◌, ◌≤◌}
use native.Mathlib.Nat.{one-le-pow}
use native.Mathlib.Omega.{arith}
use borrow.Author.Tests.{eq-eqb, ne_eqb}
use lib.Dec.{eqb}
use lib.ListN.{length, get_or}
use Rattle.three.specs.Lists.{tabulate}
use Rattle.three.specs.Record.{bytes_for, leftover, sound}
use Rattle.three.specs.RecordInCode.{judged}
use Rattle.three.proofs.Loops.{Tried, tried_first, tried_next, tried_fails, tried_all, front_length, front_at}
use Rattle.three.proofs.Table.{same_answers}
use Rattle.three.proofs.Bytes.{judged_bad}
use Rattle.three.proofs.Soundness.{good_byte}
use Rattle.three.proofs.sound.Goals as goal

-- what n leftover fields of a byte count up to, as the code shifts it
abbrev unit : ℕ → ℕ
unit n = 1 * 2 ^ (2 * n) % 18446744073709551616

unit_power : (n : ℕ) → n < 5 → unit n ≡ 4 ^ n
unfolding tabulate
unit_power n h = same_answers 0 unit (λ k. 4 ^ k) 5 n refl h

unit_pos : (n : ℕ) → n < 5 → 0 < unit n
unit_pos n h = rw (unit_power n h) (one-le-pow n 4 (omega arith))

refused : (bytes : List ℕ) (f k : ℕ) → k < bytes_for f → judged (get_or bytes k 0) ≡ 255 → false ≡ sound f bytes
unfolding sound
refused bytes f k h e = ap (λ t. t && eqb (leftover f bytes) 0) (tried_fails (bytes_for f) (good_byte bytes) h refl (ap not (sym (judged_bad (get_or bytes k 0)) ∙ eq-eqb _ _ e)))

accepted : (bytes : List ℕ) (f n k : ℕ) → n ≡ bytes_for f → Tried n (good_byte bytes) k → n ≤ k → eqb (get_or bytes (n - 1) 0 % unit (4 * n - f)) 0 ≡ sound f bytes
unfolding sound leftover
accepted bytes f n k e t h = rw (← e, unit_power (4 * n - f) (omega arith), ← tried_all n (good_byte bytes) t h)

pub loop-byte-init : goal.loop-byte-init
loop-byte-init c = tried_first _ _

pub returns-then-known : goal.returns-then-known
returns-then-known c =
    let fits : c.record_length-len.result ≤ length c.args.bytes.now = omega (arith, c.requires.1) in
    let at = front_at _ _ fits _ 0 c.loop-byte-test.true in
    refused _ _ c.loop-byte.byte-index (omega (arith, front_length _ _ fits)) (ap judged (sym at) ∙ sym c.known.ensures ∙ c.if-known.true)

pub loop-byte-preserved : goal.loop-byte-preserved
loop-byte-preserved c =
    let fits : c.record_length-len.result ≤ length c.args.bytes.now = omega (arith, c.requires.1) in
    let at = front_at _ _ fits _ 0 c.loop-byte-test.true in
    tried_next _ _ c.loop-byte.invariant (omega (arith, front_length _ _ fits)) refl (ap not (sym (judged_bad _) ∙ ne_eqb _ _ (λ e. c.if-known.false (c.known.ensures ∙ ap judged at ∙ e))))

pub overflow_cast-last : goal.overflow_cast-last
overflow_cast-last c = omega (arith, c.type_inv.bytes (c.record_length-len.result - 1))

pub nonzero_rem-result : goal.nonzero_rem-result
nonzero_rem-result c = unit_pos (4 * c.record_length-len.result - c.args.fields) (omega arith)

pub returns : goal.returns
returns c =
    let fits : c.record_length-len.result ≤ length c.args.bytes.now = omega (arith, c.requires.1) in
    accepted _ _ _ _ c.record_length-len.ensures c.loop-byte.invariant (omega (arith, front_length _ _ fits))
