-- The rules give what the second program gave: every answer, every byte sent, and every board and shard group at the end; of sessions every number,
-- the reads, and the session after each call.
-- Assumes nothing.
use mathlib.Core.Path.{◌≡◌, refl}
use mathlib.Core.List.{map}
use Rattle.rules.specs.Computing.{computing}
use Rattle.agreement.specs.Runs.{by_the_rules, running}
use Rattle.agreement.specs.Calls.{called_by_the_rules, calling}
use Rattle.agreement.specs.Expected.{runs, calls}

pub agrees : map by_the_rules runs ≡ runs
unfolding computing running
agrees = refl

pub sessions_agree : map called_by_the_rules calls ≡ calls
unfolding computing calling
sessions_agree = refl
