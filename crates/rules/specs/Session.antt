-- A client session: its window as a value, its start, invoke, retry and Response.
-- Assumes nothing.
use Rattle.std.specs.Prelude.{Bool, true, false, not, ◌&&◌, List, [], ◌∷◌, ℕ, suc, ◌+◌}
use Rattle.std.proofs.Math.Option.{Option, none, some}
use Rattle.rules.specs.Lists.{If◌then◌else◌, ◌≤?◌, ◌=?◌, snoc}
use Rattle.rules.specs.Answers.{done, breaks_rule, not_for_me, too_late, does_not_fit, window_full, numbers_used_up, not_usable}
use Rattle.rules.specs.Transactions.{Operation, get, put, Read, placed}
use Rattle.rules.specs.Frames.{Frame, submit, forward, shard_append, exec_notif, executed, response, ok_operations, ok_client, decode}
use Rattle.rules.specs.Outcomes.{Outcome, taken, refuse, unusable}
use Rattle.rules.specs.Board.{fits}

-- ---- The window, as a value

-- "A client's window: 8 numbers"
abbrev pub window_size : ℕ
window_size = 8

-- an "outstanding number with its operations"
pub record Outstanding : Type 0 where
  pub number : ℕ
  pub operations : List Operation

-- "the next number and each outstanding number with its operations", by rising number; 004's cwsn_max + 1 and InProg_cid
pub record Window : Type 0 where
  pub next : ℕ
  pub outstanding : List Outstanding

abbrev pub empty_window : Window
empty_window = record { next = 0; outstanding = [] }

-- min(InProg_cid), "the smallest outstanding number". Other than 004, where min ∅ is −1: the next number where nothing is
-- outstanding, so that refusal 9 never applies there. No frame carries it: when ack is taken the own number is outstanding.
abbrev pub first_of : List Outstanding → ℕ → ℕ
first_of [] next = next
first_of (o ∷ os) next = o.number

unfoldable pub smallest : Window → ℕ
smallest w = first_of w.outstanding w.next

-- "takes the next number, makes it outstanding"; SessionRuntimeAppend, lines 1 to 3
unfoldable pub invoked : List Operation → Window → Window
invoked os w = record { next = suc w.next; outstanding = snoc w.outstanding (record { number = w.next; operations = os }) }

abbrev pub without : ℕ → List Outstanding → List Outstanding
without number [] = []
without number (o ∷ os) = If o.number =? number then without number os else o ∷ without number os

-- "makes its number outstanding no more"; SessionRespWrite, line 1
unfoldable pub answered : ℕ → Window → Window
answered number w = record { next = w.next; outstanding = without number w.outstanding }

-- "the kept operations" of an outstanding number
abbrev pub operations_of : ℕ → List Outstanding → Option (List Operation)
operations_of number [] = none
operations_of number (o ∷ os) = If o.number =? number then some o.operations else operations_of number os

-- ---- The invoked list, as the lift controller's program hands it over

-- "An operation: 0 get or 1 put (1), key (1), value (4; 0 for get)"
pub record Asked : Type 0 where
  pub code : ℕ
  pub key : ℕ
  pub value : ℕ

-- the operation that is meant; none: a rule is broken
unfoldable pub meant : Asked → Option Operation
meant a =
    If a.code =? 0 && a.value =? 0 then some (get a.key) else
    If a.code =? 1 then some (put a.key a.value) else
    none

unfoldable pub put_before : Option Operation → Option (List Operation) → Option (List Operation)
put_before none os = none
put_before (some o) none = none
put_before (some o) (some os) = some (o ∷ os)

-- the operations that are meant, if each is
abbrev pub all_meant : List Asked → Option (List Operation)
all_meant [] = some []
all_meant (a ∷ rest) = put_before (meant a) (all_meant rest)

-- ---- The session

-- "The session record"; client is its own
pub record Session : Type 0 where
  pub started : Bool
  pub client : ℕ
  pub window : Window

-- "Clients 0..15"; "A refused start hands back an empty state marked as not started"
unfoldable pub start : ℕ → Outcome Session
start client =
    If ok_client client then taken (record { started = true; client = client; window = empty_window }) [] else
    refuse not_usable (record { started = false; client = 0; window = empty_window })

-- a session with this window, otherwise as before
unfoldable pub with_window : Window → Session → Session
with_window w s = record { started = s.started; client = s.client; window = w }

-- Submit with "the present ack": SessionRuntimeAppend, lines 4 and 5
unfoldable pub submit_of : Session → ℕ → List Operation → Frame
submit_of s number os = submit (record { client = s.client; number = number; operations = os }) (smallest s.window)

-- SessionRuntimeAppend; "Invoke takes the next number, makes it outstanding and sends Submit; ack is the smallest outstanding
-- number, its own included". Other than 004, line 4, where ackBound is taken before the own number is in InProg. Refusals 1, 10, 9.
unfoldable pub invoke_step : Session → Option (List Operation) → Outcome Session
invoke_step s none = refuse breaks_rule s
invoke_step s (some os) =
    let number = (s.window).next in
    If not (ok_operations os) then refuse breaks_rule s else
    If 65535 ≤? number then refuse numbers_used_up s else
    If smallest s.window + window_size ≤? number then refuse window_full s else
    let after = with_window (invoked os s.window) s in
    taken after (submit_of after number os ∷ [])

-- "Order: 11, 1, .. invoke: 10, 9"
unfoldable pub invoke : Session → List Asked → ℕ → Outcome Session
invoke s asked out = If unusable s.started out then refuse not_usable s else invoke_step s (all_meant asked)

-- "Retry sends Submit again with the kept operations and the present ack"
unfoldable pub send_again : Session → ℕ → Option (List Operation) → Outcome Session
send_again s number none = refuse too_late s
send_again s number (some os) = taken s (submit_of s number os ∷ [])

-- SessionRuntimeAppend with isRetry; refusals 11, 7
unfoldable pub retry : Session → ℕ → ℕ → Outcome Session
retry s number out = If unusable s.started out then refuse not_usable s else send_again s number (operations_of number (s.window).outstanding)

-- ---- Response: SessionRespWrite

-- the answer, the session as it then stands, the number answered, and the reads handed over
pub record Reply : Type 0 where
  pub answer : ℕ
  pub session : Session
  pub number : ℕ
  pub reads : List Read

-- "A refusal returns its number, .. and no reads, leaves the state as before"; it answers no number, which is said by 0
unfoldable pub decline : ℕ → Session → Reply
decline refusal s = record { answer = refusal; session = s; number = 0; reads = [] }

-- "makes its number outstanding no more and hands over the reads"; refusals 7, 8
unfoldable pub hand_over : Session → ℕ → List Read → Option (List Operation) → Reply
hand_over s number rs none = decline too_late s
hand_over s number rs (some os) =
    If not (fits rs (placed 0 os)) then decline does_not_fit s else
    record { answer = done; session = with_window (answered number s.window) s; number = number; reads = rs }

-- refusal 2: "the kind isn't for this receiver; or .. client isn't its own (kind 6)"
unfoldable pub frame_step : Session → Frame → Reply
frame_step s (submit w ack) = decline not_for_me s
frame_step s (forward ind w ack) = decline not_for_me s
frame_step s (shard_append j ind sn xs) = decline not_for_me s
frame_step s (exec_notif j ind rs) = decline not_for_me s
frame_step s (executed ind rs) = decline not_for_me s
frame_step s (response client number rs) = If client =? s.client then hand_over s number rs (operations_of number (s.window).outstanding) else decline not_for_me s

-- refusal 1: the bytes are no frame's
unfoldable pub read_step : Session → Option Frame → Reply
read_step s none = decline breaks_rule s
read_step s (some f) = frame_step s f

-- A frame's bytes arrive. "A Response step has no out area, so there 11 has only its middle cause"; then 1, 2, 7, 8.
unfoldable pub step : Session → List ℕ → Reply
step s bytes = If not s.started then decline not_usable s else read_step s (decode bytes)
