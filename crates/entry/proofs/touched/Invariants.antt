-- `touched` meets its contract. The shards of the operations behind, inserted into the mask as it stands, make the whole set.
-- Assumes nothing.
use mathlib.Core.Path.{◌≡◌}
use lib.ListN.{drop, take}
use Rattle.entry.specs.Model.{touched_mask}
use Rattle.entry.proofs.Sets.{joined}
use Rattle.entry.proofs.touched.Given as goal

abbrev pub invariant-loop-operation : goal.invariant-loop-operation
invariant-loop-operation l = joined l.m l.mask (drop l.operation-index (take l.fn.list.count l.fn.list.items)) ≡ touched_mask l.m (take l.fn.list.count l.fn.list.items)
