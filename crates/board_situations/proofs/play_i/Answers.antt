-- `board_situations::play_i` meets its contract: three steps, computed from what start and step promise. Assumes nothing.
use Rattle.std.proofs.Common.{arith, rules}
use Rattle.board_situations.proofs.Play.{played_I}
use Rattle.board_situations.proofs.play_i.Goals as goal

pub returns : goal.returns
returns c =
    rw (c.answer-first.ensures, c.answer-second.ensures)
    (played_I _ _ _ _ c.step.result c.step-2.result c.step-3.result _ _ _ c.fresh-board.ensures (rw c.submit.ensures at c.step.ensures.value.0)
    c.step-2.ensures.value.0 c.step-3.ensures.value.0 (search rules) (omega (arith, c.step.auto.out))
    (omega (arith, c.step.auto.out, c.step-2.auto.out)))
