-- `judged::settle` meets its contract: an ended chain settles nothing, and else the latches are merged and counted. Assumes nothing.
use Rattle.judge.proofs.Judging.{settled_record_of, settled_known, settled_none, none_known}
use native.Mathlib.Omega.{arith}
use Rattle.judged.proofs.settle.Goals as goal

pub returns-then-j-n : goal.returns-then-j-n
returns-then-j-n c = let ended = c.if-j-n.true in (settled_none _ _ ended _ c.fill_record.ensures, none_known _ _ ended)

pub known_fields-requires : goal.known_fields-requires
known_fields-requires c = let pre = c.requires in (omega (arith, pre.0), settled_record_of _ _ _ _ _ c.settle_latches.ensures pre.3)

pub returns : goal.returns
returns c = let settled = c.settle_latches.ensures in (settled, settled_known _ _ _ _ _ settled c.known_fields.ensures)
