-- The answer and the bytes that go out, from what a step promises.
use Rattle.std.proofs.Common.{rules}
use Rattle.shard_situations.proofs.Play.{played_G}
use Rattle.shard_situations.proofs.play_g.Goals as goal

pub returns : goal.returns
returns c = rw c.answer.ensures (played_G _ _ _ _ _ c.fresh-s.ensures (search rules) c.step.ensures.value)
