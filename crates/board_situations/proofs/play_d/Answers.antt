-- `board_situations::play_d` meets its contract: four steps, computed from what start and step promise. Assumes nothing.
use Rattle.std.proofs.Common.{arith, rules}
use Rattle.board_situations.proofs.Play.{played_D}
use Rattle.board_situations.proofs.play_d.Goals as goal

pub returns : goal.returns
returns c =
    rw (c.answer-b.ensures, c.answer-c.ensures, c.answer-first.ensures, c.answer-second.ensures)
    (played_D _ _ _ _ _ c.step.result c.step-2.result c.step-3.result c.step-4.result _ _ _ _ _ _ c.fresh-board.ensures
    (rw c.submit.ensures at c.step.ensures.value.0) (rw c.submit-2.ensures at c.step-2.ensures.value.0) (search rules)
    (omega (arith, c.step.auto.out)) (search rules) (search rules) (rw c.submit-a.ensures at c.step-3.ensures.value)
    (rw c.submit-a.ensures at c.step-4.ensures.value))
