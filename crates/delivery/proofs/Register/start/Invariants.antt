-- `start` has started the first i boards, and then the first i shard groups.
-- Assumes nothing.
use Rattle.std.proofs.Common.{◌≡◌, ℕ, ◌+◌, ◌<◌, length, get_or}
use Rattle.board.specs.declared.Board.{Board}
use Rattle.shard.specs.declared.Shard.{Shard}
use Rattle.delivery.specs.Register.{board_at_start, shard_at_start}
use Rattle.delivery.proofs.Register.start.Given as goal

abbrev pub invariant-loop-i : goal.invariant-loop-i
invariant-loop-i l = (length l.board-items ≡ 8) × ((k : ℕ) (d : Board) → k < l.i → get_or l.board-items k d ≡ board_at_start l.n l.m (k + 1))

abbrev pub invariant-loop-i-2 : goal.invariant-loop-i-2
invariant-loop-i-2 l = (length l.shard-items ≡ 8) × ((k : ℕ) (d : Shard) → k < l.i → get_or l.shard-items k d ≡ shard_at_start l.m (k + 1))
