-- `stored` meets its contract: after the last turn nothing is left to store.
-- Assumes nothing.
use mathlib.Core.Path.{sym, ◌∙◌}
use lib.ListN.{take}
use Rattle.std.proofs.lemmas.List.{at_drop_all}
use Rattle.entry.specs.Model.{stored_of, stored_all}
use Rattle.entry.proofs.stored.Goals as goal

pub returns : goal.returns
unfolding stored_of
returns c =
    let list = c.args.list in
    sym (at_drop_all (stored_all c.loop-read.reads) (take list.count list.items) c.loop-read.read-index (rw c.as_slice-read-items.ensures at c.loop-read-test.false)) ∙ c.loop-read.invariant.1
