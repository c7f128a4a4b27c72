-- `gets_of` meets its contract: the test of the closure is `is_get`.
-- Assumes nothing.
use Rattle.std.proofs.Common.{rules}
use Rattle.entry.specs.Model.{gets_of, is_get}
use Rattle.entry.proofs.gets_of.Goals as goal

pub returns : goal.returns
unfolding gets_of
returns c = c.beside.ensures is_get (λ x r q. search rules)
