-- `touched` meets its contract: from the empty set on, the order in which the shards are inserted makes no difference (joined_all).
-- Assumes nothing.
use mathlib.Core.Path.{sym, ◌∙◌}
use lib.ListN.{take}
use Rattle.std.proofs.lemmas.List.{at_drop_all}
use Rattle.entry.specs.Model.{touched_of}
use Rattle.entry.proofs.Sets.{joined}
use Rattle.entry.proofs.touched.Goals as goal

pub returns : goal.returns
unfolding touched_of
returns c =
    let list = c.args.list in
    sym (at_drop_all (joined c.args.m c.loop-operation.mask) (take list.count list.items) c.loop-operation.operation-index (rw c.as_slice-operation-items.ensures at c.loop-operation-test.false)) ∙ c.loop-operation.invariant
