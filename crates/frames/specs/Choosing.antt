-- A proof says `unfolding choosing`, in an attribute of a function too: that opens a choice between two values where a goal stands on one.
-- Assumes nothing.
use Rattle.rules.specs.Lists.{If◌then◌else◌}

unfoldable pub choosing : Unit {0}
unfolding If◌then◌else◌
choosing = tt
