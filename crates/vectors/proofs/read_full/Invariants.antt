-- What was read stays inside the list; each read that gives something leaves less room.
use Rattle.std.proofs.Common.{length, ◌-◌, ◌≤◌}
use Rattle.vectors.proofs.read_full.Given as goal

abbrev pub invariant-loop-done : goal.invariant-loop-done
invariant-loop-done l = l.done ≤ length l.list

abbrev pub decreases-loop-done : goal.decreases-loop-done
decreases-loop-done l = length l.initial.list - l.done
