-- What a step of a board gives means the rules' step, of a board that starts and steps have made: what crate board_means says of any step.
use Rattle.std.proofs.Common.{◌≡◌, Result, Ok, Err, refl}
use Rattle.refusal.specs.declared.Refusal.{Refusal}
use Rattle.send.specs.declared.Sent.{Sent}
use Rattle.board.specs.declared.Board.{Board}
use Rattle.board.specs.Model as Boards
use Rattle.board_means.proofs.Means.{step_promised}
use Rattle.register.specs.Given.{shown, board_stepped}
use Rattle.register.proofs.board_step.Goals as goal

-- the answer that is handed over shows what the result shows
same_shown : (b : Board) (r : Result Sent Refusal) → board_stepped b (shown r) ≡ Boards.shown b r
same_shown b (Ok sent) = refl
same_shown b (Err refusal) = refl

pub returns-clause-step_means : goal.returns-clause-step_means
returns-clause-step_means c =
    rw (c.into.ensures, same_shown)
    (step_promised c.args.b.now c.args.frame.now c.args.out.now c.step.ensures.bytes _ c.step.new.out c.step.ensures.value)
