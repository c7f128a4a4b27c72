-- `count_touching` meets its contract. The loop has passed some of the masks, and what is still to be counted is `count_in` of the rest.
-- Assumes nothing.
use Rattle.std.proofs.Common.{◌≡◌, ◌+◌, ◌≤◌, take}
use lib.ListN.{drop}
use Rattle.send.specs.Model.{count_in}
use Rattle.send.proofs.count_touching.Given as goal

abbrev pub invariant-loop-mask : goal.invariant-loop-mask
invariant-loop-mask l = (l.count ≤ l.mask-index) × (l.count + count_in l.shard (drop l.mask-index (take l.up_to l.masks)) ≡ count_in l.shard (take l.up_to l.masks))
