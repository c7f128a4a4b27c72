-- `part_on` meets its contract: the test of the closure is `is_on`.
-- Assumes nothing.
use Rattle.std.proofs.Common.{rules}
use Rattle.entry.specs.Model.{part_on, is_on}
use Rattle.entry.proofs.part_on.Goals as goal

pub returns : goal.returns
unfolding part_on
returns c = c.beside.ensures (is_on c.args.m c.args.shard) (λ x r q. search rules)
