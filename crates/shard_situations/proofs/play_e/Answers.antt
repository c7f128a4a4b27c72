-- The three answers, from what a step promises of each call.
use Rattle.std.proofs.Common.{arith}
use Rattle.shard_situations.proofs.Play.{played_E}
use Rattle.shard_situations.proofs.play_e.Goals as goal

pub returns : goal.returns
returns c = rw (c.answer-a.ensures, c.answer-b.ensures, c.answer-c.ensures)
    (played_E _ _ _ _ _ _ _ _ _ c.fresh-s.ensures c.step.ensures.value.0 c.step-2.ensures.value.0 c.step-3.ensures.value.0
    (omega (arith, c.step.auto.out)) (omega (arith, c.step.auto.out, c.step-2.auto.out)))
