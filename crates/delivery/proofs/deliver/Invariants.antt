-- Before each turn `deliver` has delivered some records of the input, and the run that is ahead is the whole run: each turn is one record more.
-- Assumes nothing.
use Rattle.std.specs.Prelude.{◌-◌, length}
use Rattle.delivery.proofs.Runs.{Kept}
use Rattle.delivery.proofs.deliver.Given as goal

abbrev pub invariant-loop-index : goal.invariant-loop-index
invariant-loop-index l = Kept l.initial.r l.first l.input l.initial.text l.r l.index l.taken l.text l.written

abbrev pub decreases-loop-index : goal.decreases-loop-index
decreases-loop-index l = length l.input - l.taken
