-- A register made of code: the code's own states and functions, what its promises say of them, and demand 3 of every run of them.
-- Assumes nothing.
use Rattle.std.specs.Prelude.{◌≡◌, List, ℕ, ◌<◌, length, get_or}
use Rattle.rules.specs.Outcomes.{Outcome, frame_count, out_after}
use Rattle.rules.specs.Board as B
use Rattle.rules.specs.Shard as S
use Rattle.rules.specs.Session as C
use Rattle.safety.specs.World.{Replied, Agents, rules, World, Choice, run}
use Rattle.safety.specs.OutArea.{frames_in}
use Rattle.safety.specs.Claim.{Safe}

-- ---- The code

-- what a step of the code gives: the answer, the state as it then stands, the count of frames, and the out area as it then lies
pub record Stepped (State : Type 0) : Type 0 where
  pub answer : ℕ
  pub state : State
  pub frames : ℕ
  pub out : List ℕ

-- The code's own states, starts and steps, as its promises give them (`start_of`, `step_of`, `out_of`, ..). A Request is what invoke is handed, its
-- numbers within their types, and asks is the operation list that it is.
abbrev pub Code : Type 1
Code = Agents Stepped

-- the frames that a step sent are read off its out area, as many as it counted
unfoldable pub read_off : {State : Type 0} → Stepped State → Outcome State
read_off g = record { answer = g.answer; state = g.state; frames = frames_in g.frames g.out }

abbrev pub agents : Code → Agents Outcome
agents code =
    record {
      Board = code.Board;
      Shard = code.Shard;
      Session = code.Session;
      start_board = code.start_board;
      start_shard = code.start_shard;
      start_session = code.start_session;
      step_board = λ b bytes out. read_off (code.step_board b bytes out);
      step_shard = λ s bytes out. read_off (code.step_shard s bytes out);
      Request = code.Request;
      asks = code.asks;
      invoke = λ s request out. read_off (code.invoke s request out);
      retry = λ s number out. read_off (code.retry s number out);
      respond = code.respond;
    }

-- ---- Its promises

-- each number is a byte
abbrev pub Bytes : List ℕ → Type 0
Bytes s = (i : ℕ) → get_or s i 0 < 256

-- a step of the code is the rules' step o: it keeps what is held, and its answer, state, count and out area are the rules'
pub record Meant {State Rule : Type 0} (Held : State → Type 0) (view : State → Rule) (out : List ℕ) (g : Stepped State) (o : Outcome Rule) : Type 0 where
  pub held : Held g.state
  pub answer : g.answer ≡ o.answer
  pub state : view g.state ≡ o.state
  pub frames : g.frames ≡ frame_count o
  pub written : g.out ≡ out_after o.frames out

pub record MeantReply {State : Type 0} (Held : State → Type 0) (view : State → C.Session) (g : Replied State) (r : C.Reply) : Type 0 where
  pub held : Held g.session
  pub answer : g.answer ≡ r.answer
  pub session : view g.session ≡ r.session
  pub number : g.number ≡ r.number
  pub reads : g.reads ≡ r.reads

-- Held: what every start gives and every step keeps; view: what a state of the code means
pub record Promises (code : Code) : Type 1 where
  pub HeldBoard : code.Board → Type 0
  pub HeldShard : code.Shard → Type 0
  pub HeldSession : code.Session → Type 0
  pub view_board : code.Board → B.Board
  pub view_shard : code.Shard → S.Shard
  pub view_session : code.Session → C.Session
  pub board_starts : (n m own : ℕ) → HeldBoard (code.start_board n m own) × (view_board (code.start_board n m own) ≡ (B.start n m own).state)
  pub shard_starts : (m own : ℕ) → HeldShard (code.start_shard m own) × (view_shard (code.start_shard m own) ≡ (S.start m own).state)
  pub session_starts : (client : ℕ) → HeldSession (code.start_session client) × (view_session (code.start_session client) ≡ (C.start client).state)
  pub board_steps : (b : code.Board) (bytes out : List ℕ) → HeldBoard b → Bytes bytes
      → Meant HeldBoard view_board out (code.step_board b bytes out) (B.step (view_board b) bytes (length out))
  pub shard_steps : (s : code.Shard) (bytes out : List ℕ) → HeldShard s → Bytes bytes
      → Meant HeldShard view_shard out (code.step_shard s bytes out) (S.step (view_shard s) bytes (length out))
  pub invokes : (s : code.Session) (request : code.Request) (out : List ℕ) → HeldSession s
      → Meant HeldSession view_session out (code.invoke s request out) (C.invoke (view_session s) (code.asks request) (length out))
  pub retries : (s : code.Session) (number : ℕ) (out : List ℕ) → HeldSession s
      → Meant HeldSession view_session out (code.retry s number out) (C.retry (view_session s) number (length out))
  pub responds : (s : code.Session) (bytes : List ℕ) → HeldSession s → Bytes bytes
      → MeantReply HeldSession view_session (code.respond s bytes) (C.step (view_session s) bytes)

-- ---- Demand 3 of the code

-- what a world of the code's states means: each state what it means, all else as it is
unfoldable pub meaning : (code : Code) → Promises code → World (agents code) → World rules
meaning code p w =
    record {
      boards = λ i. p.view_board (w.boards i);
      shards = λ j. p.view_shard (w.shards j);
      sessions = λ c. p.view_session (w.sessions c);
      sent = w.sent;
      invoked = w.invoked;
      replies = w.replies;
    }

-- every moment of every run of the code's own functions; proved in proofs/Coded, for any code that keeps its promises
abbrev pub Demand3Of : (code : Code) → Promises code → Type 0
Demand3Of code p = (n m : ℕ) (choices : List (Choice (agents code))) → Safe n m (meaning code p (run (agents code) n m choices))
