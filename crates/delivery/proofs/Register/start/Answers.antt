-- `start` has started each board and each shard group.
-- Assumes nothing.
use Rattle.std.proofs.Common.{◌≡◌, ◌+◌, arith, false}
use Rattle.std.proofs.lemmas.List.FromFn.{fill_by_all}
use Rattle.board.specs.Model.{empty_board}
use Rattle.shard.specs.Model.{empty_shard}
use Rattle.delivery.specs.Register.{board_at_start, shard_at_start, boards_of, shards_of}
use Rattle.delivery.proofs.Register.start.Goals as goal

pub returns : goal.returns
unfolding boards_of shards_of
returns c =
    let b = c.loop-i in
    let s = c.loop-i-2 in
    let boards : b.board-items ≡ boards_of c.args.n c.args.m
    = fill_by_all (λ k. board_at_start c.args.n c.args.m (k + 1)) b.board-items 8 (empty_board 0 0 0 false) b.invariant.0 (λ k h. b.invariant.1 k _ (omega arith)) in
    let shards : s.shard-items ≡ shards_of c.args.m
    = fill_by_all (λ k. shard_at_start c.args.m (k + 1)) s.shard-items 8 (empty_shard 0 0 false) s.invariant.0 (λ k h. s.invariant.1 k _ (omega arith)) in
    λ i. record { n = c.args.n; m = c.args.m; boards = boards i; shards = shards i }
