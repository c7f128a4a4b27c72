-- `beside` meets its contract. The part is made of the pairs that the loop has passed.
-- Assumes nothing.
use mathlib.Core.Path.{◌≡◌}
use lib.ListN.{length, take}
use Rattle.entry.specs.Model.{PicksBeside}
use Rattle.entry.proofs.beside.Given as goal

abbrev pub invariant-loop-x : goal.invariant-loop-x
invariant-loop-x g l =
    (goal.iterator-loop-x g).can_next l.x-iterator × (goal.iterator-loop-x g).is_finite l.x-iterator
    × (l.passes ≡ l.fn.passes)
    × PicksBeside (λ x r. goal.F-post g l.fn.passes x r) (take (length l.yielded) (take l.fn.list.count l.fn.list.items)) l.fn.ys l.part
