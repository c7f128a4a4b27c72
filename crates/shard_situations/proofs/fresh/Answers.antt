-- What a start of group 1 of 1 gives, from what it promises.
use Rattle.std.proofs.Common.{◌∙◌, ap}
use Rattle.shard.specs.Model.{Started}
use Rattle.shard_situations.proofs.Play.{fresh_starts}
use Rattle.shard_situations.proofs.fresh.Goals as goal

pub expect-requires : goal.expect-requires
expect-requires c = c.is_ok.ensures.value ∙ fresh_starts _ _ c.start-started.ensures.value

pub returns : goal.returns
returns c = ap (λ (x : Started). x.shard) c.start-started.ensures.value
