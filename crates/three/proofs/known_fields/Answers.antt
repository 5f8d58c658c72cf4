use mathlib.Core.Path.{◌≡◌, ap, ◌∙◌}
use Prim.Native.Nat.{◌+◌, ◌-◌, ◌≤◌}
use native.Mathlib.Omega.{arith}
use lib.ListN.{length}
use Rattle.three.specs.Record.{bytes_for}
use Rattle.three.specs.RecordInCode.{judged}
use Rattle.three.proofs.Loops.{front_length, front_at}
use Rattle.three.proofs.Counting.{counted_first, counted_small, counted_next, counted_last}
use Rattle.three.proofs.known_fields.Goals as goal

pub loop-byte-init : goal.loop-byte-init
loop-byte-init c = counted_first _

pub overflow_add-count : goal.overflow_add-count
overflow_add-count c =
    let fits : c.record_length.result ≤ length c.args.bytes.now = omega (arith, c.requires.1.fits) in
    omega (arith, counted_small _ _ _ c.loop-byte.invariant, front_length _ _ fits)

pub loop-byte-preserved : goal.loop-byte-preserved
loop-byte-preserved c =
    let fits : c.record_length.result ≤ length c.args.bytes.now = omega (arith, c.requires.1.fits) in
    let here : c.known.result ≡ judged _ = c.known.ensures ∙ ap judged (front_at _ _ fits _ 0 c.loop-byte-test.true) in
    ap (λ n. c.loop-byte.count + n) here ∙ counted_next _ _ _ _ c.requires.1.good (omega (arith, front_length _ _ fits)) c.loop-byte.invariant

pub returns : goal.returns
returns c =
    let fits : c.record_length.result ≤ length c.args.bytes.now = omega (arith, c.requires.1.fits) in
    counted_last _ _ _ _ c.requires.1.good (omega (arith, c.type_inv.bytes (bytes_for c.args.fields - 1))) (omega (arith, front_length _ _ fits)) c.loop-byte.invariant
