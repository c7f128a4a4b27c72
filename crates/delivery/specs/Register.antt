-- The register under test: its boards and shard groups as they start, and what a record does to them.
-- Assumes nothing.
use Rattle.std.specs.Prelude.{List, [], ◌∷◌, ℕ, get_or, set, Result, Ok, Err}
use Rattle.rules.specs.Lists.{If◌then◌else◌, ◌=?◌}
use Rattle.rules.specs.Answers.{done, not_for_me}
use Rattle.rules.specs.Outcomes.{least_out}
use Rattle.board.specs.declared.Board.{Board}
use Rattle.board.specs.Model.{Stepped as BoardStepped, start_of as board_start, step_of as board_step}
use Rattle.shard.specs.declared.Shard.{Shard}
use Rattle.shard.specs.Model.{Stepped as ShardStepped, start_of as shard_start, step_of as shard_step}
use Rattle.delivery.specs.declared.Register.{Register}
use Rattle.refusal.specs.declared.Refusal.{Refusal}
use Rattle.refusal.specs.Number.{answer_of}
use Rattle.records.specs.declared.Receiver.{Receiver}
use Rattle.records.specs.declared.Receiver.TheVariants.{Board as to_board, Shard as to_shard, Nobody as to_nobody}
use Rattle.records.specs.Records.{receiver_of}

abbrev pub board_at_start : (n m own : ℕ) → Board
board_at_start n m own = (board_start n m own).board

abbrev pub shard_at_start : (m own : ℕ) → Shard
shard_at_start m own = (shard_start m own).shard

-- boards 1..8, shard groups 1..8
unfoldable pub boards_of : (n m : ℕ) → List Board
boards_of n m =
    board_at_start n m 1 ∷ board_at_start n m 2 ∷ board_at_start n m 3 ∷ board_at_start n m 4 ∷
    board_at_start n m 5 ∷ board_at_start n m 6 ∷ board_at_start n m 7 ∷ board_at_start n m 8 ∷ []

unfoldable pub shards_of : (m : ℕ) → List Shard
shards_of m =
    shard_at_start m 1 ∷ shard_at_start m 2 ∷ shard_at_start m 3 ∷ shard_at_start m 4 ∷
    shard_at_start m 5 ∷ shard_at_start m 6 ∷ shard_at_start m 7 ∷ shard_at_start m 8 ∷ []

abbrev pub register_of : (n m : ℕ) → Register
register_of n m = record { n = n; m = m; boards = boards_of n m; shards = shards_of m }

-- the register after a record, the answer to it, and the frames that were sent
pub record Turn : Type 0 where
  pub register : Register
  pub answer : ℕ
  pub frames : ℕ

abbrev pub with_board : Register → ℕ → Board → Register
with_board r i b = record { n = r.n; m = r.m; boards = set r.boards i b; shards = r.shards }

abbrev pub with_shard : Register → ℕ → Shard → Register
with_shard r i s = record { n = r.n; m = r.m; boards = r.boards; shards = set r.shards i s }

-- a refused step leaves the register as it was
unfoldable pub board_turn : Register → ℕ → BoardStepped → Turn
board_turn r i s = record { register = If s.answer =? done then with_board r i s.board else r; answer = s.answer; frames = s.frames }

unfoldable pub shard_turn : Register → ℕ → ShardStepped → Turn
shard_turn r i s = record { register = If s.answer =? done then with_shard r i s.shard else r; answer = s.answer; frames = s.frames }

-- "Frames sent are counted, not delivered. An address that names nobody: answer 2, 0 frames."
unfoldable pub turn_at : Register → (frame : List ℕ) → Receiver → Turn
turn_at r frame (to_board i) = board_turn r i (board_step (get_or r.boards i (board_at_start 0 0 0)) frame least_out)
turn_at r frame (to_shard i) = shard_turn r i (shard_step (get_or r.shards i (shard_at_start 0 0)) frame least_out)
turn_at r frame to_nobody = record { register = r; answer = not_for_me; frames = 0 }

abbrev pub turn_of : Register → (address : ℕ) (frame : List ℕ) → Turn
turn_of r address frame = turn_at r frame (receiver_of r.n r.m address)

-- how many frames a turn's result says were sent; a refused step sends none
abbrev pub sent_by : Result ℕ Refusal → ℕ
sent_by (Ok frames) = frames
sent_by (Err refusal) = 0

-- what a turn's result shows, beside the register that it left
abbrev pub turned : Register → Result ℕ Refusal → Turn
turned r sent = record { register = r; answer = answer_of sent; frames = sent_by sent }
