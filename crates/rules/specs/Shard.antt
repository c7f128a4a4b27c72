-- A shard group: its state, its start and its step.
-- Assumes nothing.
use Rattle.std.specs.Prelude.{Bool, true, false, not, ◌&&◌, List, [], ◌∷◌, ℕ, ◌+◌}
use Rattle.std.proofs.Math.Option.{Option, none, some}
use Rattle.rules.specs.Lists.{If◌then◌else◌, ◌<?◌, ◌≤?◌, ◌=?◌, within, every, below}
use Rattle.rules.specs.Answers.{breaks_rule, not_for_me, too_early, too_late, does_not_fit, not_usable}
use Rattle.rules.specs.Transactions.{Placed, Store, key_of, shard_of, store_after, reads_of}
use Rattle.rules.specs.Frames.{Frame, submit, forward, shard_append, exec_notif, executed, response, decode}
use Rattle.rules.specs.Outcomes.{Outcome, taken, refuse, unusable}

-- Shard group own of m; ssn is 004's ssn_j, last_run its shExec_j.
pub record Shard : Type 0 where
  pub started : Bool
  pub m : ℕ
  pub own : ℕ
  pub store : Store
  pub ssn : ℕ
  pub last_run : Option ℕ

-- "It starts with no key present, ssn 0, last run none"
unfoldable pub empty_shard : Bool → ℕ → ℕ → Shard
empty_shard started m own = record { started = started; m = m; own = own; store = λ key. none; ssn = 0; last_run = none }

-- "Shard groups m: 1..8, numbered from 1"; "A refused start hands back an empty state marked as not started"
unfoldable pub start : ℕ → ℕ → Outcome Shard
start m own = If within 1 8 m && within 1 m own then taken (empty_shard true m own) [] else refuse not_usable (empty_shard false 0 0)

-- "runs its operations in order; a get sees earlier puts of the same list. Each put stores the value and the log number. Then ssn
-- and last run move"; ShardExecAppend, lines 7 to 18. Other than 004's figure, where ssn counts only changes of state: it counts each.
unfoldable pub run : ℕ → ℕ → List Placed → Shard → Shard
run ind sn xs s = record { started = s.started; m = s.m; own = s.own; store = store_after ind s.store xs; ssn = sn; last_run = some ind }

-- no "key of another shard"
abbrev pub all_mine : Shard → List Placed → Bool
all_mine s xs = every (λ x. shard_of s.m (key_of x.operation) =? s.own) xs

-- "ShardAppend with sn = ssn + 1 .. and ExecNotif goes to the tail"; ShardExecAppend. Refusals 7, 4, 8, this last for two causes.
-- "Where 004 waits, refusal 4 is given and a later copy of the frame serves."
unfoldable pub append_step : Shard → ℕ → ℕ → List Placed → Outcome Shard
append_step s ind sn xs =
    If sn ≤? s.ssn then refuse too_late s else
    If s.ssn + 1 <? sn then refuse too_early s else
    If not (all_mine s xs) then refuse does_not_fit s else
    If not (below s.last_run ind) then refuse does_not_fit s else
    taken (run ind sn xs s) (exec_notif s.own ind (reads_of ind s.store xs) ∷ [])

-- refusal 2: "the kind isn't for this receiver; or shard isn't its own (kind 3)"
unfoldable pub frame_step : Shard → Frame → Outcome Shard
frame_step s (submit w ack) = refuse not_for_me s
frame_step s (forward ind w ack) = refuse not_for_me s
frame_step s (shard_append j ind sn xs) = If j =? s.own then append_step s ind sn xs else refuse not_for_me s
frame_step s (exec_notif j ind rs) = refuse not_for_me s
frame_step s (executed ind rs) = refuse not_for_me s
frame_step s (response client number rs) = refuse not_for_me s

-- refusal 1: the bytes are no frame's
unfoldable pub read_step : Shard → Option Frame → Outcome Shard
read_step s none = refuse breaks_rule s
read_step s (some f) = frame_step s f

-- A frame's bytes arrive, with an out area of some length: "Order: 11, 1, 2, then" the kind's.
unfoldable pub step : Shard → List ℕ → ℕ → Outcome Shard
step s bytes out = If unusable s.started out then refuse not_usable s else read_step s (decode bytes)
