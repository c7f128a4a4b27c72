-- 01, "Refusal numbers": the causes of each receiver in 01's order, each row in the words of the table. The answer is the number of the first
-- cause that applies, and 0 where none does: proofs/First.
-- Assumes nothing.
use Rattle.std.specs.Prelude.{Bool, true, false, not, ◌&&◌, List, [], ◌∷◌, ℕ, ◌+◌, length}
use Rattle.std.proofs.Math.Option.{Option, none, some}
use Rattle.rules.specs.Lists.{If◌then◌else◌, ◌<?◌, ◌≤?◌, ◌=?◌, at, below, has}
use Rattle.rules.specs.Answers.{done, breaks_rule, not_for_me, below_floor, too_early, log_full, not_in_log, too_late, does_not_fit, window_full, numbers_used_up, not_usable}
use Rattle.rules.specs.Transactions.{Operation, Write, placed, on_shard, same_write}
use Rattle.rules.specs.Frames.{Frame, submit, forward, shard_append, exec_notif, executed, response, ok_operations, decode}
use Rattle.rules.specs.Outcomes.{unusable}
use Rattle.rules.specs.Board.{Entry, Board, is_exe, log_size, writes, next_number, find, fits}
use Rattle.rules.specs.Shard.{Shard, all_mine}
use Rattle.rules.specs.Session.{Session, Asked, all_meant, smallest, window_size, operations_of}

pub record Cause : Type 0 where
  pub number : ℕ
  pub applies : Bool

infix 3 ◌when◌
abbrev pub ◌when◌ : ℕ → Bool → Cause
number when applies = record { number = number; applies = applies }

abbrev pub first : List Cause → ℕ
first [] = done
first (c ∷ cs) = If c.applies then c.number else first cs

-- there is something, and it passes a test
abbrev pub such : {A : Type 0} → (A → Bool) → Option A → Bool
such test none = false
such test (some x) = test x

abbrev pub there : {A : Type 0} → Option A → Bool
there x = such (λ y. true) x

-- ---- A board

-- the entry at a log number is this write: the same client, number and operations
abbrev pub holds : Board → Write → ℕ → Bool
holds b w ind = such (λ (e : Entry). same_write e.write w) (at b.log ind)

abbrev pub board_kind : Board → Frame → List Cause
board_kind b (submit w ack) =
    (not_for_me when not (b.own =? 1))
    ∷ (below_floor when w.number <? b.floor w.client)
    -- "number above high + 1"
    ∷ (too_early when next_number w.client (writes b.log) <? w.number)
    -- "number held with other operations": every number up to high is held
    ∷ (does_not_fit when w.number <? next_number w.client (writes b.log) && not (such (holds b w) (find w.client w.number (writes b.log))))
    -- "new number: the log has 256 entries"
    ∷ (log_full when not (w.number <? next_number w.client (writes b.log)) && log_size ≤? length b.log)
    ∷ []
board_kind b (forward ind w ack) =
    (not_for_me when not (2 ≤? b.own))
    -- "log number above the log's length"
    ∷ (too_early when length b.log <? ind)
    -- "entry held with another client, number or operations"
    ∷ (does_not_fit when ind <? length b.log && not (holds b w ind))
    -- "or a new entry whose number isn't that client's high + 1"
    ∷ (does_not_fit when not (ind <? length b.log) && not (w.number =? next_number w.client (writes b.log)))
    ∷ []
board_kind b (shard_append j ind sn xs) = (not_for_me when true) ∷ []
board_kind b (exec_notif j ind rs) =
    -- "or shard .. exceeds m"
    (not_for_me when not (b.own =? b.n && j ≤? b.m))
    ∷ (not_in_log when not (there (at b.log ind)))
    -- "shard not remaining in the entry"
    ∷ (too_late when not (such (λ (e : Entry). has j e.remaining) (at b.log ind)))
    -- "read places aren't exactly the places of the entry's gets on that shard"
    ∷ (does_not_fit when not (such (λ (e : Entry). fits rs (on_shard b.m j e.write.operations)) (at b.log ind)))
    ∷ []
board_kind b (executed ind rs) =
    (not_for_me when not (b.own <? b.n))
    ∷ (not_in_log when not (there (at b.log ind)))
    -- "entry already EXE"
    ∷ (too_late when such (λ (e : Entry). is_exe e.status) (at b.log ind))
    -- "the same, over all gets"
    ∷ (does_not_fit when not (such (λ (e : Entry). fits rs (placed 0 e.write.operations)) (at b.log ind)))
    ∷ []
board_kind b (response client number rs) = (not_for_me when true) ∷ []

-- what is read, or nothing
abbrev pub of_frame : (Frame → List Cause) → Option Frame → List Cause
of_frame kind none = []
of_frame kind (some f) = kind f

-- "Order: 11, 1, 2, then" the kind's
abbrev pub board_causes : Board → (bytes : List ℕ) (out : ℕ) → List Cause
board_causes b bytes out = (not_usable when unusable b.started out) ∷ (breaks_rule when not (there (decode bytes))) ∷ of_frame (board_kind b) (decode bytes)

-- ---- A shard group

abbrev pub shard_kind : Shard → Frame → List Cause
shard_kind s (submit w ack) = (not_for_me when true) ∷ []
shard_kind s (forward ind w ack) = (not_for_me when true) ∷ []
shard_kind s (shard_append j ind sn xs) =
    -- "shard isn't its own"
    (not_for_me when not (j =? s.own))
    ∷ (too_late when sn ≤? s.ssn)
    -- "sn above ssn + 1"
    ∷ (too_early when s.ssn + 1 <? sn)
    -- "a key of another shard, or log number not above the last one run"
    ∷ (does_not_fit when not (all_mine s xs))
    ∷ (does_not_fit when not (below s.last_run ind))
    ∷ []
shard_kind s (exec_notif j ind rs) = (not_for_me when true) ∷ []
shard_kind s (executed ind rs) = (not_for_me when true) ∷ []
shard_kind s (response client number rs) = (not_for_me when true) ∷ []

abbrev pub shard_causes : Shard → (bytes : List ℕ) (out : ℕ) → List Cause
shard_causes s bytes out = (not_usable when unusable s.started out) ∷ (breaks_rule when not (there (decode bytes))) ∷ of_frame (shard_kind s) (decode bytes)

-- ---- A client session

-- "11, 1, .. invoke: 10, 9"
abbrev pub invoke_causes : Session → List Asked → (out : ℕ) → List Cause
invoke_causes s asked out =
    (not_usable when unusable s.started out)
    -- "an invoked operation list breaks a rule"
    ∷ (breaks_rule when not (such ok_operations (all_meant asked)))
    -- "next number would be 65,535"
    ∷ (numbers_used_up when 65535 ≤? s.window.next)
    -- "next number minus the smallest outstanding one is 8 or more"
    ∷ (window_full when smallest s.window + window_size ≤? s.window.next)
    ∷ []

-- "retry: 7", "number not outstanding"
abbrev pub retry_causes : Session → (number out : ℕ) → List Cause
retry_causes s number out =
    (not_usable when unusable s.started out) ∷ (too_late when not (there (operations_of number s.window.outstanding))) ∷ []

abbrev pub session_kind : Session → Frame → List Cause
session_kind s (submit w ack) = (not_for_me when true) ∷ []
session_kind s (forward ind w ack) = (not_for_me when true) ∷ []
session_kind s (shard_append j ind sn xs) = (not_for_me when true) ∷ []
session_kind s (exec_notif j ind rs) = (not_for_me when true) ∷ []
session_kind s (executed ind rs) = (not_for_me when true) ∷ []
session_kind s (response client number rs) =
    -- "client isn't its own"
    (not_for_me when not (client =? s.client))
    ∷ (too_late when not (there (operations_of number s.window.outstanding)))
    ∷ (does_not_fit when not (such (λ (os : List Operation). fits rs (placed 0 os)) (operations_of number s.window.outstanding)))
    ∷ []

-- "A Response step has no out area, so there 11 has only its middle cause"
abbrev pub response_causes : Session → (bytes : List ℕ) → List Cause
response_causes s bytes = (not_usable when not s.started) ∷ (breaks_rule when not (there (decode bytes))) ∷ of_frame (session_kind s) (decode bytes)
