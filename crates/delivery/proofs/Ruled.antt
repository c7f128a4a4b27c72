-- Wrong answers that the promises of this crate rule out, beside those that the laws in Turns and Logs do: each is shown of the definition that the
-- contract cites.
-- Assumes nothing.
use mathlib.Core.Path.{◌≡◌, refl, ap, ◌∙◌}
use mathlib.Core.Bool.{false, ◌&&◌}
use mathlib.Core.List.{List, [], ◌∷◌}
use Prim.Native.Nat.{ℕ, zero, suc, ◌-◌, ◌≤◌, ◌<◌}
use native.Mathlib.Omega.{arith}
use lib.Dec.{leb, leb→le}
use lib.ListN.{length, get_or}
use borrow.Author.Tests.{lt-leb, le-ltb}
use Rattle.rules.specs.Lists.{If◌then◌else◌, within}
use Rattle.rules.proofs.Lists.{by, and_r}
use Rattle.board.specs.declared.Board.{Board}
use Rattle.board.specs.Model.{Started as BoardStarted}
use Rattle.board.specs.Model.{empty_board}
use Rattle.board.proofs.Ruled.{start_above_n}
use Rattle.shard.specs.declared.Shard.{Shard}
use Rattle.shard.specs.Model.{Started as ShardStarted}
use Rattle.shard.specs.Model.{empty_shard, start_of}
use Rattle.delivery.specs.declared.Register.{Register}
use Rattle.records.specs.declared.Next.TheVariants.{Record}
use Rattle.records.specs.Records.{next_of}
use Rattle.delivery.specs.Register.{board_at_start, shard_at_start, boards_of, shards_of, register_of, turn_of}
use Rattle.delivery.specs.declared.Delivered.{Delivered as Counts}
use Rattle.delivery.specs.Delivery.{frame_at, after, onward, runs, begun, delivered, Delivered, shown}
use Rattle.delivery.specs.Logs.{log_lines}

-- ---- start

module _ (n m : ℕ) where
  boards_at : (i : ℕ) (z : Board) → i < 8 → get_or (boards_of n m) i z ≡ board_at_start n m (suc i)
  unfolding boards_of
  boards_at zero z h = refl
  boards_at (suc zero) z h = refl
  boards_at (suc (suc zero)) z h = refl
  boards_at (suc (suc (suc zero))) z h = refl
  boards_at (suc (suc (suc (suc zero)))) z h = refl
  boards_at (suc (suc (suc (suc (suc zero))))) z h = refl
  boards_at (suc (suc (suc (suc (suc (suc zero)))))) z h = refl
  boards_at (suc (suc (suc (suc (suc (suc (suc zero))))))) z h = refl
  boards_at (suc (suc (suc (suc (suc (suc (suc (suc i)))))))) z h = absurd (omega arith)

  shards_at : (i : ℕ) (z : Shard) → i < 8 → get_or (shards_of m) i z ≡ shard_at_start m (suc i)
  unfolding shards_of
  shards_at zero z h = refl
  shards_at (suc zero) z h = refl
  shards_at (suc (suc zero)) z h = refl
  shards_at (suc (suc (suc zero))) z h = refl
  shards_at (suc (suc (suc (suc zero)))) z h = refl
  shards_at (suc (suc (suc (suc (suc zero))))) z h = refl
  shards_at (suc (suc (suc (suc (suc (suc zero)))))) z h = refl
  shards_at (suc (suc (suc (suc (suc (suc (suc zero))))))) z h = refl
  shards_at (suc (suc (suc (suc (suc (suc (suc (suc i)))))))) z h = absurd (omega arith)

unstarted_board : (n m own : ℕ) → n < own → (board_at_start n m own).started ≡ false
unfolding empty_board
unstarted_board n m own h = ap (λ (r : BoardStarted). r.board.started) (start_above_n n m own h)

unstarted_shard : (m own : ℕ) → m < own → (shard_at_start m own).started ≡ false
unfolding start_of empty_shard
unstarted_shard m own h =
    by (λ (r : ShardStarted). r.shard.started ≡ false) (within 1 8 m && within 1 m own)
    (λ t. let g = leb→le own m (and_r (leb 1 own) (leb own m) (and_r (within 1 8 m) (within 1 m own) t)) in absurd (omega arith)) (λ t. refl)

-- a board above n, or a shard group above m, that starts
pub board_above_n : (n m i : ℕ) (z : Board) → i < 8 → n ≤ i → (get_or (register_of n m).boards i z).started ≡ false
board_above_n n m i z h g = ap (λ (b : Board). b.started) (boards_at n m i z h) ∙ unstarted_board n m (suc i) (omega arith)

pub shard_above_m : (n m i : ℕ) (z : Shard) → i < 8 → m ≤ i → (get_or (register_of n m).shards i z).started ≡ false
shard_above_m n m i z h g = ap (λ (s : Shard). s.started) (shards_at n m i z h) ∙ unstarted_shard m (suc i) (omega arith)

-- ---- deliver

-- what a delivery shows tells the register that it left, and its numbers
pub shown_tells : (r s : Register) (c d : Counts) → shown r c ≡ shown s d → (r ≡ s) × (c ≡ d)
shown_tells r s c d e = (
  ap (λ (x : Delivered). x.register) e,
  (λ i. record { index = (e i).index; taken = (e i).taken; written = (e i).written }),
)

-- a line, or a change, without a record
pub nothing_delivered : (r : Register) (first room : ℕ) → delivered r first [] room ≡ begun r first
unfolding runs
nothing_delivered r first room = refl

-- the first record skipped, or delivered twice: what is left is to go on behind it, with its line written
pub first_record : (r : Register) (first x : ℕ) (xs : List ℕ) (room address end : ℕ) → first < 18446744073709551615 → 128 ≤ room → next_of (x ∷ xs) ≡ Record address end
    → delivered r first (x ∷ xs) room ≡ runs (length xs) (x ∷ xs) room (after (begun r first) end (turn_of r address (frame_at (x ∷ xs) 0 end)))
unfolding runs onward If◌then◌else◌
first_record r first x xs room address end low wide e = rw (lt-leb 18446744073709551615 first low, le-ltb (room - 0) 128 (omega arith), e)

-- ---- log_lines

-- a line of an empty log
pub empty_log : (board : ℕ) (b : Board) (room : ℕ) → b.len ≡ 0 → log_lines board b room ≡ []
unfolding log_lines
empty_log board b room e = by (λ (l : List ℕ). l ≡ []) (leb 32768 room) (λ t. rw e) (λ t. refl)
