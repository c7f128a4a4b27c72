-- `read_head` reads within the head; the room left falls.
-- Assumes nothing.
use Rattle.std.proofs.Common.{◌≤◌, ◌-◌, length}
use Rattle.bench.proofs.read_head.Given as goal

abbrev pub invariant-loop-got : goal.invariant-loop-got
invariant-loop-got g l = l.got ≤ length l.head

abbrev pub decreases-loop-got : goal.decreases-loop-got
decreases-loop-got g l = length l.head - l.got
