-- A whole register and its runs: a chain of boards, its shard groups, the clients' sessions, and every frame sent so far.
-- Assumes nothing.
use Rattle.std.specs.Prelude.{List, [], ◌∷◌, ◌++◌, map, ℕ, suc, pred, length}
use Rattle.std.proofs.Math.Option.{Option, none, some}
use Rattle.rules.specs.Lists.{If◌then◌else◌, ◌=?◌, at, snoc, changed}
use Rattle.rules.specs.Answers.{done}
use Rattle.rules.specs.Transactions.{Operation, Read}
use Rattle.rules.specs.Frames.{Frame, submit, forward, shard_append, exec_notif, executed, response, encode}
use Rattle.rules.specs.Outcomes.{Outcome}
use Rattle.rules.specs.Board as B
use Rattle.rules.specs.Shard as S
use Rattle.rules.specs.Session as C

-- ---- Who takes part

-- what a Response step gives: the answer, the session as it then stands, the number answered, and the reads handed over
pub record Replied (State : Type 0) : Type 0 where
  pub answer : ℕ
  pub session : State
  pub number : ℕ
  pub reads : List Read

-- Boards, shard groups and sessions: their states, starts and steps. Demand 3 speaks of those of the rules, below, whose steps give an Outcome;
-- those of the code are others (Coded), and their runs are runs by the same words.
-- A step is given a frame's bytes and is lent an out area, here the bytes that lie in it; a Response step has none.
pub record Agents (Gives : Type 0 → Type 0) : Type 1 where
  pub Board : Type 0
  pub Shard : Type 0
  pub Session : Type 0
  -- n, m and the own number; m and the own number; the client
  pub start_board : ℕ → ℕ → ℕ → Board
  pub start_shard : ℕ → ℕ → Shard
  pub start_session : ℕ → Session
  pub step_board : Board → List ℕ → List ℕ → Gives Board
  pub step_shard : Shard → List ℕ → List ℕ → Gives Shard
  -- what is handed to invoke, and the operation list that it is
  pub Request : Type 0
  pub asks : Request → List C.Asked
  pub invoke : Session → Request → List ℕ → Gives Session
  -- a number sent again
  pub retry : Session → ℕ → List ℕ → Gives Session
  pub respond : Session → List ℕ → Replied Session

-- demand 2's own: word for word the starts and steps of the rules
abbrev pub rules : Agents Outcome
rules =
    record {
      Board = B.Board;
      Shard = S.Shard;
      Session = C.Session;
      start_board = λ n m own. (B.start n m own).state;
      start_shard = λ m own. (S.start m own).state;
      start_session = λ client. (C.start client).state;
      step_board = λ b bytes out. B.step b bytes (length out);
      step_shard = λ s bytes out. S.step s bytes (length out);
      Request = List C.Asked;
      asks = λ list. list;
      invoke = λ s list out. C.invoke s list (length out);
      retry = λ s number out. C.retry s number (length out);
      respond = λ s bytes. let r = C.step s bytes in record { answer = r.answer; session = r.session; number = r.number; reads = r.reads };
    }

-- ---- Frames under way

pub data Address : Type 0 where
  board : ℕ → Address
  shard : ℕ → Address
  client : ℕ → Address

-- the column "from, to" of the table of frames; i is the sender's own number
abbrev pub recipient : ℕ → ℕ → Frame → Address
recipient n i (submit w ack) = board 1
recipient n i (forward ind w ack) = board (suc i)
recipient n i (shard_append j ind sn xs) = shard j
recipient n i (exec_notif j ind rs) = board n
recipient n i (executed ind rs) = board (pred i)
recipient n i (response c number rs) = client c

-- frames travel as bytes; whom one is for is fixed when it is sent
pub record Packet : Type 0 where
  pub to : Address
  pub bytes : List ℕ

abbrev pub posted : ℕ → ℕ → List Frame → List Packet
posted n i fs = map (λ (f : Frame). record { to = recipient n i f; bytes = encode f }) fs

-- ---- The world

-- a reply that a client took
pub record ReplyTaken : Type 0 where
  pub client : ℕ
  pub number : ℕ
  pub reads : List Read

-- sent: every frame ever sent, in order; none is ever taken out.
-- invoked, by client, and replies: what clients asked and were told, in order. They only remember: no step reads them.
pub record World (a : Agents Outcome) : Type 0 where
  pub boards : ℕ → a.Board
  pub shards : ℕ → a.Shard
  pub sessions : ℕ → a.Session
  pub sent : List Packet
  pub invoked : ℕ → List (List Operation)
  pub replies : List ReplyTaken

-- What happens next: client c invokes a list, be it good or bad; it retries a number; or one of the frames sent so far, the which-th, counted
-- from 0, arrives where it was sent. Any may arrive late, again or never. Each step is lent an out area of any length; under 68 bytes it is refused.
pub data Choice (a : Agents Outcome) : Type 0 where
  invoke : (c : ℕ) (request : a.Request) (out : List ℕ) → Choice a
  retry : (c number : ℕ) (out : List ℕ) → Choice a
  deliver : (which : ℕ) (out : List ℕ) → Choice a

-- a history with one invocation more: the operations that are meant
unfoldable pub remembered : List (List Operation) → Option (List Operation) → List (List Operation)
remembered past none = past
remembered past (some os) = snoc past os

module _ (a : Agents Outcome) where
  -- every board, shard group and session that is started from n and m; one whose start was refused answers 11 to everything
  unfoldable pub start : ℕ → ℕ → World a
  start n m =
      record {
        boards = λ i. a.start_board n m i;
        shards = λ j. a.start_shard m j;
        sessions = λ c. a.start_session c;
        sent = [];
        invoked = λ c. [];
        replies = [];
      }

  -- board i has taken a step
  unfoldable pub after_board : ℕ → World a → ℕ → Outcome a.Board → World a
  after_board n w i o =
      record {
        boards = changed w.boards i o.state;
        shards = w.shards;
        sessions = w.sessions;
        sent = w.sent ++ posted n i o.frames;
        invoked = w.invoked;
        replies = w.replies;
      }

  -- shard group j has taken a step
  unfoldable pub after_shard : ℕ → World a → ℕ → Outcome a.Shard → World a
  after_shard n w j o =
      record {
        boards = w.boards;
        shards = changed w.shards j o.state;
        sessions = w.sessions;
        sent = w.sent ++ posted n j o.frames;
        invoked = w.invoked;
        replies = w.replies;
      }

  -- client c has called invoke or retry; its history is then as given, unless it was refused: what is refused was not invoked
  unfoldable pub after_call : ℕ → World a → ℕ → List (List Operation) → Outcome a.Session → World a
  after_call n w c history o =
      record {
        boards = w.boards;
        shards = w.shards;
        sessions = changed w.sessions c o.state;
        sent = w.sent ++ posted n c o.frames;
        invoked = changed w.invoked c (If o.answer =? done then history else w.invoked c);
        replies = w.replies;
      }

  -- client c has heard a Response, and took it unless it was refused
  unfoldable pub after_reply : World a → ℕ → Replied a.Session → World a
  after_reply w c r =
      record {
        boards = w.boards;
        shards = w.shards;
        sessions = changed w.sessions c r.session;
        sent = w.sent;
        invoked = w.invoked;
        replies = If r.answer =? done then snoc w.replies (record { client = c; number = r.number; reads = r.reads }) else w.replies;
      }

  -- some bytes arrive at an address
  unfoldable pub arrive : ℕ → World a → Address → List ℕ → List ℕ → World a
  arrive n w (board i) bytes out = after_board n w i (a.step_board (w.boards i) bytes out)
  arrive n w (shard j) bytes out = after_shard n w j (a.step_shard (w.shards j) bytes out)
  arrive n w (client c) bytes out = after_reply w c (a.respond (w.sessions c) bytes)

  -- a frame that was sent arrives where it was sent; where there is none, nothing happens
  unfoldable pub arrive_sent : ℕ → World a → Option Packet → List ℕ → World a
  arrive_sent n w none out = w
  arrive_sent n w (some p) out = arrive n w p.to p.bytes out

  unfoldable pub next : ℕ → World a → Choice a → World a
  next n w (invoke c request out) = after_call n w c (remembered (w.invoked c) (C.all_meant (a.asks request))) (a.invoke (w.sessions c) request out)
  next n w (retry c number out) = after_call n w c (w.invoked c) (a.retry (w.sessions c) number out)
  next n w (deliver which out) = arrive_sent n w (at w.sent which) out

  -- some choices, in order
  unfoldable pub after : ℕ → World a → List (Choice a) → World a
  after n w [] = w
  after n w (x ∷ xs) = after n (next n w x) xs

  -- a run: some choices from the start on
  unfoldable pub run : ℕ → ℕ → List (Choice a) → World a
  run n m choices = after n (start n m) choices
