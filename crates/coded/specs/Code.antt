-- The register that the code is: its own records, and the functions that give, in the promises of its `start`, `step`, `invoke`, `retry` and
-- `response`, what each returns and what it leaves in the out area. World of crate safety says what a run of it is.
-- Assumes nothing.
use Rattle.std.specs.Prelude.{List, ℕ, length}
use Rattle.frames.specs.View.{reads_of}
use Rattle.board.specs.declared.Board.{Board}
use Rattle.board.specs.Model as B
use Rattle.board_means.specs.View.{view_board}
use Rattle.shard.specs.declared.Shard.{Shard}
use Rattle.shard.specs.Model as S
use Rattle.shard.specs.View.{view_shard}
use Rattle.session.specs.declared.Operations.{Operations}
use Rattle.session.specs.declared.Session.{Session}
use Rattle.session.specs.Model as C
use Rattle.session.specs.View.{Sized, asked_of, view_session}
use Rattle.safety.specs.World.{Replied, World, rules}
use Rattle.safety.specs.Coded.{Stepped, Code, agents}

-- what a program hands to invoke: any record, good or bad, whose numbers are within their types
pub record Request : Type 0 where
  pub operations : Operations
  pub sized : Sized operations

-- a step's answer, the state as it then stands, the frames that it counts, and the out area that it leaves
unfoldable pub step_board : Board → List ℕ → List ℕ → Stepped Board
step_board b frame out =
    let r = B.step_of b frame (length out) in
    record { answer = r.answer; state = r.board; frames = r.frames; out = B.out_of b frame out }

unfoldable pub step_shard : Shard → List ℕ → List ℕ → Stepped Shard
step_shard s frame out =
    let r = S.step_of s frame (length out) in
    record { answer = r.answer; state = r.shard; frames = r.frames; out = S.out_of s frame out }

unfoldable pub invoke : Session → Request → List ℕ → Stepped Session
invoke s request out =
    let r = C.invoked_of s request.operations out in
    record { answer = r.sent.answer; state = r.session; frames = r.sent.frames; out = C.invoke_out s request.operations out }

unfoldable pub retry : Session → ℕ → List ℕ → Stepped Session
retry s number out =
    let r = C.retried_of s number out in
    record { answer = r.sent.answer; state = r.session; frames = r.sent.frames; out = C.retry_out s number out }

-- what a Response step hands over is the first count of its reads
unfoldable pub respond : Session → List ℕ → Replied Session
respond s frame =
    let r = C.responded_of s frame in
    record { answer = r.reply.answer; session = r.session; number = r.reply.number; reads = reads_of r.reply.count r.reply.reads }

-- The code's register. The numbers of a start and of a retry, the bytes of a frame and of an out area are any here: all that a program can
-- hand over, and more.
abbrev pub code : Code
code =
    record {
      Board = Board;
      Shard = Shard;
      Session = Session;
      start_board = λ n m own. (B.start_of n m own).board;
      start_shard = λ m own. (S.start_of m own).shard;
      start_session = λ client. (C.started_of client).session;
      step_board = step_board;
      step_shard = step_shard;
      Request = Request;
      asks = λ request. asked_of request.operations;
      invoke = invoke;
      retry = retry;
      respond = respond;
    }

-- what a world of the code means: each board, group and session what its crate says that it means; frames, invocations and replies as they are
abbrev pub means : World (agents code) → World rules
means w =
    record {
      boards = λ i. view_board (w.boards i);
      shards = λ j. view_shard (w.shards j);
      sessions = λ c. view_session (w.sessions c);
      sent = w.sent;
      invoked = w.invoked;
      replies = w.replies;
    }
