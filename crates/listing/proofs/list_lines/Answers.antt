use mathlib.Core.Path.{refl}
use Rattle.circuit.proofs.Answering.{numbered}
use Rattle.listing.proofs.Bodies.{handed_on}
use Rattle.listing.proofs.Turning.{turns_stop, turns_next, turns_last}
use Rattle.listing.proofs.list_lines.Goals as goal

pub returns-in_err-place : goal.returns-in_err-place
returns-in_err-place c =
    λ own. handed_on _ _ c.from_residual.ensures.1 (turns_stop _ _ _ _ _ _ _ _ c.loop.invariant c.loop-test.true c.in_err-place.ensures (numbered _) own)

pub loop-preserved : goal.loop-preserved
loop-preserved c =
    turns_next _ _ _ _ _ _ _ _ c.loop.invariant c.loop-test.true c.in_ok-place.ensures refl

pub returns : goal.returns
returns c = turns_last _ _ _ _ _ _ _ _ c.loop.invariant c.loop-test.false
