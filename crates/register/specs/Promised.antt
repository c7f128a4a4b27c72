-- What each lent function promises, as a relation over what memory held before the call and holds after it. Every contract of src/lib.rt cites its
-- relation beside the equations, so a theorem about the relations is one about the contracts.
-- Assumes nothing.
use Rattle.std.specs.Prelude.{◌≡◌, List, ℕ, length}
use Rattle.session.specs.declared.Session.{Session}
use Rattle.session.specs.declared.Operations.{Operations}
use Rattle.session.specs.declared.Sent.{Sent}
use Rattle.session.specs.declared.Reply.{Reply}
use Rattle.session.specs.Model.{started_of, invoked_of, invoke_out, retried_of, retry_out, responded_of}
use Rattle.board.specs.declared.Board.{Board}
use Rattle.board.specs.Model as Boards
use Rattle.shard.specs.declared.Shard.{Shard}
use Rattle.shard.specs.Model as Shards
use Rattle.register.specs.declared.Stepped.{Stepped}
use Rattle.register.specs.Given.{board_answer, shard_answer}

-- ---- A session

pub record SessionStarts (before : Session) (client : ℕ) (r : ℕ) (after : Session) : Type 0 where
  pub answers : r ≡ (started_of client).answer
  pub leaves : after ≡ (started_of client).session

pub record SessionInvokes (before : Session) (operations : Operations) (out : List ℕ) (r : Sent) (after : Session) (left : List ℕ) : Type 0 where
  pub answers : r ≡ (invoked_of before operations out).sent
  pub leaves : after ≡ (invoked_of before operations out).session
  pub writes : left ≡ invoke_out before operations out

pub record SessionRetries (before : Session) (number : ℕ) (out : List ℕ) (r : Sent) (after : Session) (left : List ℕ) : Type 0 where
  pub answers : r ≡ (retried_of before number out).sent
  pub leaves : after ≡ (retried_of before number out).session
  pub writes : left ≡ retry_out before number out

pub record SessionResponds (before : Session) (frame : List ℕ) (r : Reply) (after : Session) : Type 0 where
  pub answers : r ≡ (responded_of before frame).reply
  pub leaves : after ≡ (responded_of before frame).session

-- ---- A board

pub record BoardStarts (before : Board) (n m own : ℕ) (r : ℕ) (after : Board) : Type 0 where
  pub answers : r ≡ (Boards.start_of n m own).answer
  pub leaves : after ≡ (Boards.start_of n m own).board

pub record BoardSteps (before : Board) (frame out : List ℕ) (r : Stepped) (after : Board) (left : List ℕ) : Type 0 where
  pub answers : r ≡ board_answer (Boards.step_of before frame (length out))
  pub leaves : after ≡ (Boards.step_of before frame (length out)).board
  pub writes : left ≡ Boards.out_of before frame out

-- ---- A shard group

pub record ShardStarts (before : Shard) (m own : ℕ) (r : ℕ) (after : Shard) : Type 0 where
  pub answers : r ≡ (Shards.start_of m own).answer
  pub leaves : after ≡ (Shards.start_of m own).shard

pub record ShardSteps (before : Shard) (frame out : List ℕ) (r : Stepped) (after : Shard) (left : List ℕ) : Type 0 where
  pub answers : r ≡ shard_answer (Shards.step_of before frame (length out))
  pub leaves : after ≡ (Shards.step_of before frame (length out)).shard
  pub writes : left ≡ Shards.out_of before frame out
