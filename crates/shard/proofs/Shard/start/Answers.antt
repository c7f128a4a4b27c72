-- A start is the empty group with its setup, or refused and not started.
use Rattle.shard.proofs.Ways.{start_not, start_taken}
use Rattle.shard.proofs.Promises.{start_means}
use Rattle.shard.proofs.Shard.start.Goals as goal

pub returns-then-not-in_range : goal.returns-then-not-in_range
returns-then-not-in_range c =
    let e = start_not c.args.m c.args.own _ c.unstarted.ensures _ c.in_range.ensures c.if-not-in_range.true in record { value = e; start_means = start_means c.args.m c.args.own _ e }

pub returns : goal.returns
returns c =
    let e = start_taken c.args.m c.args.own _ c.unstarted.ensures _ c.in_range.ensures c.if-not-in_range.false in record { value = e; start_means = start_means c.args.m c.args.own _ e }
