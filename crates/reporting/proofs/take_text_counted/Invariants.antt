-- The text stays inside its buffer; each read that gives something leaves less room.
use Rattle.std.proofs.Common.{length, ◌-◌, ◌≤◌}
use Rattle.reporting.proofs.take_text_counted.Given as goal

abbrev pub invariant-loop-bytes : goal.invariant-loop-bytes
invariant-loop-bytes l = l.bytes ≤ length l.text

abbrev pub decreases-loop-bytes : goal.decreases-loop-bytes
decreases-loop-bytes l = length l.initial.text - l.bytes
