-- What is read is at most what finds room; the room left falls.
use Rattle.std.proofs.Common.{◌≤◌, ◌-◌, length}
use Rattle.vectors.proofs.read_full.Given as goal

abbrev pub invariant-loop-count : goal.invariant-loop-count
invariant-loop-count g l = l.count ≤ length l.all

abbrev pub decreases-loop-count : goal.decreases-loop-count
decreases-loop-count g l = length l.all - l.count
