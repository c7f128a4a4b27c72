-- `change_all` meets its contract. The loop has changed the first i queues.
-- Assumes nothing.
use Rattle.std.proofs.Common.{◌≡◌, ◌++◌, length, take, drop}
use Rattle.queue.specs.Model.{change_from, changed_of}
use Rattle.queue.proofs.change_all.Given as goal

abbrev pub invariant-loop-i : goal.invariant-loop-i
invariant-loop-i l = (length l.initial.queues ≡ 8) × (l.queues ≡ take l.i (change_from (changed_of l.fresh l.log_number) l.shards 1 l.initial.queues) ++ drop l.i l.initial.queues)
