-- A run of a session: what the lift controller's program calls, beside what must come of each call, and how the session must then stand.
-- Assumes nothing.
use Rattle.std.specs.Prelude.{true, false, List, [], ◌∷◌, ℕ}
use Rattle.rules.specs.Transactions.{Operation, Read}
use Rattle.rules.specs.Frames.{Frame, submit, forward, shard_append, exec_notif, executed, response}
use Rattle.rules.specs.Outcomes.{Outcome, sent_bytes}
use Rattle.rules.specs.Session as C

-- out: how many bytes the out area has; a Response step has none
pub data Call : Type 0 where
  start : (client : ℕ) → Call
  invoke : (asked : List C.Asked) (out : ℕ) → Call
  retry : (number out : ℕ) → Call
  hear : (bytes : List ℕ) → Call

-- number: the one that was taken, sent again or answered; 0 where none was
pub record Turn : Type 0 where
  pub call : Call
  pub answer : ℕ
  pub number : ℕ
  pub sent : List ℕ
  pub reads : List Read
  pub session : C.Session

-- the session before the first call, and the calls; it is not started, or stands where the second program's session came to by calls too many to list
pub record Calls : Type 0 where
  pub from : C.Session
  pub turns : List Turn

-- ---- Short words for the rows

abbrev pub asked : ℕ → ℕ → ℕ → C.Asked
asked code key value = record { code = code; key = key; value = value }

abbrev pub waits : ℕ → List Operation → C.Outstanding
waits number operations = record { number = number; operations = operations }

-- the session of a client with its next number and what is outstanding
abbrev pub stands : ℕ → ℕ → List C.Outstanding → C.Session
stands client next outstanding = record { started = true; client = client; window = record { next = next; outstanding = outstanding } }

-- "an empty state marked as not started"
abbrev pub not_started : C.Session
not_started = record { started = false; client = 0; window = C.empty_window }

-- ---- The same run, with what the rules give

-- the number in a frame that a session sends
unfoldable pub number_in : Frame → ℕ
number_in (submit w ack) = w.number
number_in (forward ind w ack) = 0
number_in (shard_append j ind sn xs) = 0
number_in (exec_notif j ind rs) = 0
number_in (executed ind rs) = 0
number_in (response client number rs) = 0

unfoldable pub number_sent : List Frame → ℕ
number_sent [] = 0
number_sent (f ∷ fs) = number_in f

unfoldable pub sends : Call → Outcome C.Session → Turn
sends call o = record { call = call; answer = o.answer; number = number_sent o.frames; sent = sent_bytes o.frames; reads = []; session = o.state }

unfoldable pub takes : Call → C.Reply → Turn
takes call r = record { call = call; answer = r.answer; number = r.number; sent = []; reads = r.reads; session = r.session }

unfoldable pub turn_of : C.Session → Call → Turn
turn_of s (start client) = sends (start client) (C.start client)
turn_of s (invoke list out) = sends (invoke list out) (C.invoke s list out)
turn_of s (retry number out) = sends (retry number out) (C.retry s number out)
turn_of s (hear bytes) = takes (hear bytes) (C.step s bytes)

unfoldable pub turns_from : C.Session → List Turn → List Turn
turns_from s [] = []
turns_from s (t ∷ ts) = turn_of s t.call ∷ turns_from (turn_of s t.call).session ts

unfoldable pub called_by_the_rules : Calls → Calls
called_by_the_rules r = record { from = r.from; turns = turns_from r.from r.turns }

-- a proof by computation says `unfolding calling`
unfoldable pub calling : Unit {0}
unfolding number_in number_sent sends takes turn_of turns_from called_by_the_rules
calling = tt
