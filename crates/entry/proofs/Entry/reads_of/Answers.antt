-- `reads_of` meets its contract: the test of the closure is `answered_of`.
-- Assumes nothing.
use mathlib.Core.Path.{◌∙◌}
use Rattle.std.proofs.Common.{rules}
use Rattle.entry.specs.Model.{reads_held, answered_of}
use Rattle.entry.proofs.Entry.reads_of.Goals as goal

pub returns : goal.returns
unfolding reads_held
returns c = c.beside.ensures (answered_of c.args.m c.args.self.now.remaining) (λ x r q. search rules) ∙ rw c.list.ensures
