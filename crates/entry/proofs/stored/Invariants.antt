-- `stored` meets its contract. What is still to be stored gives the same, stored into the reads as they stand.
-- Assumes nothing.
use mathlib.Core.Path.{◌≡◌}
use lib.ListN.{length, drop, take}
use Rattle.entry.specs.Model.{stored_all}
use Rattle.entry.proofs.stored.Given as goal

abbrev pub invariant-loop-read : goal.invariant-loop-read
invariant-loop-read l =
    (length l.reads ≡ 4) × (stored_all l.reads (drop l.read-index (take l.fn.list.count l.fn.list.items)) ≡ stored_all l.fn.reads (take l.fn.list.count l.fn.list.items))
