use mathlib.Core.Path.{refl}
use Rattle.lines.proofs.Finding.{pieces_first, pieces_end, pieces_ill, pieces_last, pieces_more}
use native.Mathlib.Omega.{arith}
use Rattle.lines.proofs.line.Goals as goal

pub loop-k-init : goal.loop-k-init
loop-k-init c = pieces_first _ _ _ _ _ (omega arith) refl (omega arith)

pub returns-in-Some-Last : goal.returns-in-Some-Last
returns-in-Some-Last c =
    pieces_last _ _ _ _ c.loop-k.invariant c.loop-k-test.true c.number_in_line.ensures (cc)

pub returns-in-None : goal.returns-in-None
returns-in-None c =
    rw (pieces_ill _ _ _ _ c.loop-k.invariant c.loop-k-test.true c.number_in_line.ensures c.in-None.is) (c.no_line.ensures _ (omega arith))

pub loop-k-preserved : goal.loop-k-preserved
loop-k-preserved c =
    pieces_more _ _ _ _ c.loop-k.invariant c.loop-k-test.true c.number_in_line.ensures (cc)

pub returns : goal.returns
returns c = rw (pieces_end _ _ _ _ c.loop-k.invariant c.loop-k-test.false) (c.no_line-2.ensures _ (omega arith))
