-- The code keeps its promises: every start is held and means the rules' start, every step of what is held is held again and means the rules'
-- step. Each is the theorem of the crate whose function it is.
-- Assumes nothing.
use mathlib.Core.Path.{refl, ap}
use mathlib.Core.List.{List}
use Prim.Native.Nat.{ℕ}
use lib.ListN.{length}
use Rattle.rules.specs.Board as RB
use Rattle.rules.specs.Shard as RS
use Rattle.rules.specs.Session as RC
use Rattle.frames.specs.View.{Bytes}
use Rattle.frames.proofs.Meaning.{reads_mean}
use Rattle.board.specs.declared.Board.{Board}
use Rattle.board_means.specs.View as B
use Rattle.board_means.proofs.Means as BP
use Rattle.shard.specs.declared.Shard.{Shard}
use Rattle.shard.specs.Model as SM
use Rattle.shard.specs.View as S
use Rattle.shard.proofs.Promises as SP
use Rattle.session.specs.declared.Session.{Session}
use Rattle.session.specs.View as C
use Rattle.session.proofs.Means as CP
use Rattle.session.proofs.Replies as CR
use Rattle.safety.specs.Coded.{Meant, MeantReply, Promises}
use Rattle.coded.specs.Code.{Request, step_board, step_shard, invoke, retry, respond, code}

pub board_steps_lem : (b : Board) (frame out : List ℕ) → B.Held b → Bytes frame
    → Meant B.Held B.view_board out (step_board b frame out) (RB.step (B.view_board b) frame (length out))
unfolding step_board
board_steps_lem b frame out h small =
    let x = BP.step_means b h frame small out in
    record { held = x.held; answer = x.answer; state = x.state; frames = x.frames; written = x.written }

pub shard_steps_lem : (s : Shard) (frame out : List ℕ) → S.Held s → Bytes frame
    → Meant S.Held S.view_shard out (step_shard s frame out) (RS.step (S.view_shard s) frame (length out))
unfolding step_shard
shard_steps_lem s frame out h small =
    let x = SP.step_means s h frame (reads_mean frame small) out (SM.step_of s frame (length out)) (SM.out_of s frame out) (refl, refl) in
    record { held = x.held; answer = x.answer; state = x.state; frames = x.frames; written = x.written }

pub invokes : (s : Session) (request : Request) (out : List ℕ) → C.Held s
    → Meant C.Held C.view_session out (invoke s request out) (RC.invoke (C.view_session s) (C.asked_of request.operations) (length out))
unfolding invoke
invokes s request out h =
    let x = CP.invoke_means s request.operations out h request.sized in
    record { held = x.held; answer = x.answer; state = x.state; frames = x.frames; written = x.written }

pub retries : (s : Session) (number : ℕ) (out : List ℕ) → C.Held s
    → Meant C.Held C.view_session out (retry s number out) (RC.retry (C.view_session s) number (length out))
unfolding retry
retries s number out h =
    let x = CP.retry_means s number out h in
    record { held = x.held; answer = x.answer; state = x.state; frames = x.frames; written = x.written }

pub responds : (s : Session) (frame : List ℕ) → C.Held s → Bytes frame
    → MeantReply C.Held C.view_session (respond s frame) (RC.step (C.view_session s) frame)
unfolding respond C.view_reply
responds s frame h small =
    let x = CR.response_means s frame h small in
    record {
      held = x.held;
      answer = ap (λ (r : RC.Reply). r.answer) x.reply;
      session = ap (λ (r : RC.Reply). r.session) x.reply;
      number = ap (λ (r : RC.Reply). r.number) x.reply;
      reads = ap (λ (r : RC.Reply). r.reads) x.reply;
    }

unfoldable pub keeps : Promises code
keeps =
    record {
      HeldBoard = B.Held;
      HeldShard = S.Held;
      HeldSession = C.Held;
      view_board = B.view_board;
      view_shard = S.view_shard;
      view_session = C.view_session;
      board_starts = λ n m own. let x = BP.start_means n m own in (x.held, x.state);
      shard_starts = λ m own. let x = SP.start_means m own (SM.start_of m own) refl in (x.held, x.state);
      session_starts = λ client. let x = CP.start_means client in (x.held, x.state);
      board_steps = board_steps_lem;
      shard_steps = shard_steps_lem;
      invokes = invokes;
      retries = retries;
      responds = responds;
    }
