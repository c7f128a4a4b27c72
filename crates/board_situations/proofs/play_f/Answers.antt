-- `board_situations::play_f` meets its contract: five steps, computed from what start and step promise. Assumes nothing.
use Rattle.std.proofs.Common.{arith, rules}
use Rattle.board_situations.proofs.Play.{played_F}
use Rattle.board_situations.proofs.play_f.Goals as goal

pub returns : goal.returns
returns c =
    rw (c.answer-first.ensures, c.answer-second.ensures)
    (played_F _ _ _ _ _ _ c.step.result c.step-2.result c.step-3.result c.step-4.result c.step-5.result _ _ _ _ _ c.fresh-board.ensures
    (rw c.forward.ensures at c.step.ensures.value.0) (rw c.forward-2.ensures at c.step-2.ensures.value.0) (rw c.forward-3.ensures at c.step-3.ensures.value.0)
    (rw c.notif.ensures at c.step-4.ensures.value.0) (rw c.notif-2.ensures at c.step-5.ensures.value.0)
    (search rules) (omega (arith, c.step.auto.out)) (omega (arith, c.step.auto.out, c.step-2.auto.out))
    (omega (arith, c.step.auto.out, c.step-2.auto.out, c.step-3.auto.out))
    (omega (arith, c.step.auto.out, c.step-2.auto.out, c.step-3.auto.out, c.step-4.auto.out)))
