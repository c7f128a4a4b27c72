-- `same_operations` meets its contract: the comparison is `same_operation`.
-- Assumes nothing.
use Rattle.std.proofs.Common.{rules}
use Rattle.entry.specs.Model.{same_operations_of, same_operation}
use Rattle.entry.proofs.same_operations.Goals as goal

pub returns : goal.returns
unfolding same_operations_of
returns c = c.agree.ensures same_operation (λ x y r q. search rules)
