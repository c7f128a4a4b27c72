-- What else holds at every moment of every run, and later requests rest on; proved in proofs/Further.
-- Assumes nothing.
use Rattle.std.specs.Prelude.{◌≡◌, ◌≢◌, List, ℕ, suc, ◌≤◌, ◌<◌, T, length}
use Rattle.std.proofs.Math.Option.{none, some}
use Rattle.rules.specs.Lists.{at}
use Rattle.rules.specs.Answers.{breaks_rule, not_for_me, not_in_log, does_not_fit}
use Rattle.rules.specs.Transactions.{Read}
use Rattle.rules.specs.Frames.{Frame, submit, forward, shard_append, exec_notif, executed, response, decode}
use Rattle.rules.specs.Board.{Entry, is_exe}
use Rattle.rules.specs.Board as B
use Rattle.rules.specs.Shard as S
use Rattle.rules.specs.Session as C
use Rattle.safety.specs.World.{Address, board, shard, client, Packet, ReplyTaken, World, rules, Choice, run}

-- ---- Ended on every board

-- logs 1..n have one and the same entry at ind, and it is EXE, this client's number, with these reads
pub record Everywhere (n : ℕ) (logs : ℕ → List Entry) (c number : ℕ) (reads : List Read) : Type 0 where
  pub ind : ℕ
  pub entry : Entry
  pub exe : T (is_exe entry.status)
  pub client : entry.write.client ≡ c
  pub number_is : entry.write.number ≡ number
  pub reads_are : entry.reads ≡ reads
  pub stands : (i : ℕ) → 1 ≤ i → i ≤ n → at (logs i) ind ≡ some entry

-- ---- Numbers answered

pub record Answered (replies : List ReplyTaken) (c number : ℕ) : Type 0 where
  pub which : ℕ
  pub reply : ReplyTaken
  pub taken : at replies which ≡ some reply
  pub client : reply.client ≡ c
  pub number_is : reply.number ≡ number

-- ---- Acks

-- the smallest outstanding number of each client
abbrev pub least : (ℕ → C.Session) → ℕ → ℕ
least sessions c = C.smallest (sessions c).window

-- a frame's ack is no more than its client's
abbrev pub AckLow : (ℕ → ℕ) → Frame → Type 0
AckLow most (submit v ack) = ack ≤ most v.client
AckLow most (forward ind v ack) = ack ≤ most v.client
AckLow most (shard_append j ind sn xs) = Unit {0}
AckLow most (exec_notif j ind rs) = Unit {0}
AckLow most (executed ind rs) = Unit {0}
AckLow most (response c number rs) = Unit {0}

-- ---- Answers

-- what is answered where a packet arrives
abbrev pub answer_to : World rules → Address → List ℕ → List ℕ → ℕ
answer_to w (board i) bytes out = (B.step (w.boards i) bytes (length out)).answer
answer_to w (shard j) bytes out = (S.step (w.shards j) bytes (length out)).answer
answer_to w (client c) bytes out = (C.step (w.sessions c) bytes).answer

pub record Expected (answer : ℕ) : Type 0 where
  pub not_1 : answer ≢ breaks_rule
  pub not_2 : answer ≢ not_for_me
  pub not_6 : answer ≢ not_in_log
  pub not_8 : answer ≢ does_not_fit

-- ---- At every moment of every run

pub record Further (n m : ℕ) (w : World rules) : Type 0 where
  -- EXE at board i is EXE with the same reads at board i + 1: it is the same entry
  pub ended : (i ind : ℕ) (e : Entry) → 1 ≤ i → i < n → at (w.boards i).log ind ≡ some e → T (is_exe e.status) → at (w.boards (suc i)).log ind ≡ some e
  -- and what a client was told is EXE with these reads on every board
  pub told : (which : ℕ) (r : ReplyTaken) → at w.replies which ≡ some r → Everywhere n (λ i. (w.boards i).log) r.client r.number r.reads
  -- a number below next that is not outstanding was answered
  pub answered : (c number : ℕ) → number < (w.sessions c).window.next → C.operations_of number (w.sessions c).window.outstanding ≡ none → Answered w.replies c number
  -- every floor is at most the smallest outstanding number, and so is every ack in flight
  pub floors : (i c : ℕ) → (w.boards i).floor c ≤ least w.sessions c
  pub acks : (which : ℕ) (p : Packet) (f : Frame) → at w.sent which ≡ some p → decode p.bytes ≡ some f → AckLow (least w.sessions) f
  -- no frame of a run is answered 1, 2, 6 or 8 where it was sent
  pub answers : (which : ℕ) (p : Packet) (out : List ℕ) → at w.sent which ≡ some p → Expected (answer_to w p.to p.bytes out)

abbrev pub FurtherLaws : Type 0
FurtherLaws = (n m : ℕ) (choices : List (Choice rules)) → Further n m (run rules n m choices)
