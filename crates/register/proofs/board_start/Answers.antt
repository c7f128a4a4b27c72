-- What a start of a board gives means the rules' start: what crate board_means says of any start.
use Rattle.board_means.proofs.Means.{start_promised}
use Rattle.register.proofs.board_start.Goals as goal

pub returns-clause-start_means : goal.returns-clause-start_means
returns-clause-start_means c = rw c.answer.ensures (start_promised c.args.n c.args.m c.args.own _ c.start.ensures)
