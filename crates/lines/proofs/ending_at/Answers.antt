-- `lines::ending_at` meets its contract: the first byte, and the byte 10 behind what stands in front of it. Assumes nothing.
use native.Mathlib.Omega.{arith}
use Rattle.lines.proofs.Endings.{ending_short, ending_other, ending_cut, ending_here}
use Rattle.lines.proofs.ending_at.Goals as goal

pub returns-then-text-at : goal.returns-then-text-at
returns-then-text-at c = ending_short _ _ c.args.ending c.lead-before.ensures (omega arith) (omega arith)

pub returns-then-text-at-2 : goal.returns-then-text-at-2
returns-then-text-at-2 c = ending_other _ _ (omega arith) c.args.ending c.first_byte.ensures c.if-text-at-2.true

pub returns-then-text-at-ne10 : goal.returns-then-text-at-ne10
returns-then-text-at-ne10 c =
    ending_cut _ _ (omega arith) (omega arith) c.args.ending c.first_byte.ensures c.lead-before.ensures c.if-text-at-ne10.true

pub returns : goal.returns
returns c =
    ending_here _ _ (omega arith) (omega arith) c.args.ending c.first_byte.ensures c.lead-before.ensures (omega arith)
