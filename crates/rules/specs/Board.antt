-- A board, the paper's transaction manager node i: its state, its start and its steps.
-- Assumes nothing.
use Rattle.std.specs.Prelude.{Bool, true, false, not, ◌&&◌, List, [], ◌∷◌, map, ℕ, zero, suc, min, max, length, set}
use Rattle.std.proofs.Math.Option.{Option, none, some}
use Rattle.rules.specs.Lists.{If◌then◌else◌, ◌<?◌, ◌≤?◌, ◌=?◌, within, at, snoc, is_empty, changed, same, has, strike}
use Rattle.rules.specs.Answers.{breaks_rule, not_for_me, below_floor, too_early, log_full, not_in_log, too_late, does_not_fit, not_usable}
use Rattle.rules.specs.Transactions.{Write, Placed, Read, touched, touches, placed, on_shard, get_places, same_write}
use Rattle.rules.specs.Frames.{Frame, submit, forward, shard_append, exec_notif, executed, response, decode}
use Rattle.rules.specs.Outcomes.{Outcome, taken, refuse, unusable}
use Rattle.rules.specs.Queue.{Queue, empty_queue, enqueue, take_up_to}

-- "PRE or EXE": PreCommit and Executed of 004, Figure 1. Abort is left out.
pub data Status : Type 0 where
  PRE : Status
  EXE : Status

abbrev pub is_exe : Status → Bool
is_exe PRE = false
is_exe EXE = true

-- "entries (client, number, operations, PRE or EXE, reads, remaining shards)"
pub record Entry : Type 0 where
  pub write : Write
  pub status : Status
  pub reads : List Read
  pub remaining : List ℕ

-- Board own of n, with m shard groups; floor is by client, queue by shard. An entry's log number is its place in the log.
-- 004's L_i, W_i and C_i are the log, Q_i|j is the queue of shard j; SSN_i and high are counted from the log: touching, next_number.
pub record Board : Type 0 where
  pub started : Bool
  pub n : ℕ
  pub m : ℕ
  pub own : ℕ
  pub log : List Entry
  pub floor : ℕ → ℕ
  pub queue : ℕ → Queue

-- no entry; "floor .. (0 at start)", "the last number taken from it (none at start)"
unfoldable pub empty_board : Bool → ℕ → ℕ → ℕ → Board
empty_board started n m own =
    record { started = started; n = n; m = m; own = own; log = []; floor = λ client. 0; queue = λ shard. empty_queue }

-- "Boards n: 2..8, numbered 1 (head) to n (tail). Shard groups m: 1..8"; "A refused start hands back an empty state marked as not started"
unfoldable pub start : ℕ → ℕ → ℕ → Outcome Board
start n m own =
    If within 2 8 n && within 1 8 m && within 1 n own then taken (empty_board true n m own) [] else
    refuse not_usable (empty_board false 0 0 0)

-- ---- What a log says

-- "a log holds at most 256 entries and in this base frees none"
abbrev pub log_size : ℕ
log_size = 256

abbrev pub writes : List Entry → List Write
writes log = map (λ (e : Entry). e.write) log

-- high + 1, where high is "the largest number in the log (none: −1)"; 004's max(W_i^key | cid).num + 1
abbrev pub next_number : ℕ → List Write → ℕ
next_number client [] = 0
next_number client (w ∷ ws) = If w.client =? client then max (suc w.number) (next_number client ws) else next_number client ws

abbrev pub one_further : Option ℕ → Option ℕ
one_further none = none
one_further (some ind) = some (suc ind)

-- the log number under which a client's number is held: there is one at the most (only_once, in proofs/Numbers)
abbrev pub find : ℕ → ℕ → List Write → Option ℕ
find client number [] = none
find client number (w ∷ ws) = If w.client =? client && w.number =? number then some 0 else one_further (find client number ws)

abbrev pub one_more : ℕ → ℕ → Option Write → ℕ → ℕ
one_more m j none count = count
one_more m j (some w) count = If touches m j w.operations then suc count else count

-- how many of the first q entries touch shard j, "gets included"
abbrev pub touching : ℕ → ℕ → List Write → ℕ → ℕ
touching m j ws zero = 0
touching m j ws (suc q) = one_more m j (at ws q) (touching m j ws q)

-- ---- What a step changes

-- a board with this log, these floors and these queues, otherwise as before
unfoldable pub holding : List Entry → (ℕ → ℕ) → (ℕ → Queue) → Board → Board
holding log floor queue b = record { started = b.started; n = b.n; m = b.m; own = b.own; log = log; floor = floor; queue = queue }

-- "Floor becomes the larger of floor and ack"; AppendTransact, line 12, but nothing is removed
unfoldable pub raise_floor : ℕ → ℕ → Board → Board
raise_floor client ack b = holding b.log (changed b.floor client (max (b.floor client) ack)) b.queue b

-- the queues of some shards changed
unfoldable pub on_queues : List ℕ → (Queue → Queue) → (ℕ → Queue) → (ℕ → Queue)
on_queues shards change queue = λ j. If has j shards then change (queue j) else queue j

-- "The remaining shards of an entry are .. at first all that its keys touch"
unfoldable pub new_entry : ℕ → Write → Entry
new_entry m w = record { write = w; status = PRE; reads = []; remaining = touched m w.operations }

-- "append as PRE, queue it for each touched shard"; AppendTransact, lines 9 to 11 and 13 to 20.
-- Other than 004, line 15, which asks for T^write: a shard that only gets touch takes part too.
unfoldable pub append : Write → Board → Board
append w b = holding (snoc b.log (new_entry b.m w)) b.floor (on_queues (touched b.m w.operations) (enqueue (length b.log)) b.queue) b

-- "Take up to the log number" on the queues of some shards, and put the entry e there; ExecNotif, lines 1 to 3, and
-- ExecAppendTransact, lines 2 to 6
unfoldable pub settle : ℕ → Entry → List ℕ → Board → Board
settle ind e shards b = holding (set b.log ind e) b.floor (on_queues shards (take_up_to ind) b.queue) b

-- ---- What a step sends

-- "Forward carries the smaller of the sender's floor and the number as ack". Other than 004, line 27, which sends ackBound on, and no
-- log number.
unfoldable pub forward_of : Board → ℕ → Write → Frame
forward_of b ind w = forward ind w (min (b.floor w.client) w.number)

-- "sn for shard j counts the log's entries up to this one that touch j, gets included".
-- Other than 004, line 24, which sends SSN[j] as it stands: on a repeat that would be a later entry's.
unfoldable pub shard_append_of : Board → ℕ → Write → ℕ → Frame
shard_append_of b ind w j = shard_append j ind (touching b.m j (writes b.log) (suc ind)) (on_shard b.m j w.operations)

-- "Executed to i−1, or from the head Response to the client"; ExecAppendTransact, lines 9 to 13
unfoldable pub backward : Board → ℕ → Entry → Frame
backward b ind e = If b.own =? 1 then response e.write.client e.write.number e.reads else executed ind e.reads

-- "if EXE, send Executed to i−1; else if i < n, send Forward; else send ShardAppend for each remaining shard, rising";
-- AppendTransact, lines 21 to 28. Other than 004, line 5, which returns: a held entry that is still PRE is sent on again.
-- The head is before the tail, so there: "PRE: send Forward .. EXE: send Response with the stored reads".
unfoldable pub onward : Board → ℕ → Entry → List Frame
onward b ind e =
    If is_exe e.status then backward b ind e ∷ [] else
    If b.own <? b.n then forward_of b ind e.write ∷ [] else
    map (shard_append_of b ind e.write) e.remaining

-- ---- Submit at board 1, Forward at board i ≥ 2: AppendTransact

-- "Floor as above. New: append and queue. Then" onward
unfoldable pub serve_new : Board → Write → ℕ → Outcome Board
serve_new b w ack =
    let after = append w (raise_floor w.client ack b) in
    taken after (onward after (length b.log) (new_entry b.m w))

-- "Then, new or held": onward again, if the held entry has the same client, number and operations. What goes on is the held entry.
-- No state of a run comes to the clause for none: a log number below the log's length is in the log (at_some, in proofs/Lists).
unfoldable pub serve_held : Board → ℕ → Write → ℕ → Option Entry → Outcome Board
serve_held b ind w ack none = refuse does_not_fit b
serve_held b ind w ack (some e) =
    If not (same_write e.write w) then refuse does_not_fit b else
    let after = raise_floor w.client ack b in
    taken after (onward after ind e)

-- A client's number up to high is held somewhere. No state of a run comes to the clause for none (find_stands, in proofs/Numbers).
unfoldable pub serve_found : Board → Write → ℕ → Option ℕ → Outcome Board
serve_found b w ack none = refuse does_not_fit b
serve_found b w ack (some ind) = serve_held b ind w ack (at b.log ind)

-- Submit at board 1; refusals 3, 4, 8, 5. Where 004, line 7, waits, refusal 4 is given and a later copy of the frame serves.
unfoldable pub submit_step : Board → Write → ℕ → Outcome Board
submit_step b w ack =
    let next = next_number w.client (writes b.log) in
    If w.number <? b.floor w.client then refuse below_floor b else
    If next <? w.number then refuse too_early b else
    If w.number <? next then serve_found b w ack (find w.client w.number (writes b.log)) else
    If log_size ≤? length b.log then refuse log_full b else
    serve_new b w ack

-- Forward at board i ≥ 2; refusals 4, 8
unfoldable pub forward_step : Board → ℕ → Write → ℕ → Outcome Board
forward_step b ind w ack =
    If length b.log <? ind then refuse too_early b else
    If ind <? length b.log then serve_held b ind w ack (at b.log ind) else
    If not (w.number =? next_number w.client (writes b.log)) then refuse does_not_fit b else
    serve_new b w ack

-- ---- ExecNotif at the tail

-- "read places .. exactly the places of the entry's gets": on that shard (kind 4), or all (kinds 5, 6)
abbrev pub fits : List Read → List Placed → Bool
fits rs xs = same (map (λ (r : Read). r.place) rs) (get_places xs)

-- "store the reads": those of several shards stand by rising place, whichever answer came first; ExecNotif, line 9
abbrev pub add_read : Read → List Read → List Read
add_read r [] = r ∷ []
add_read r (s ∷ ss) = If r.place <? s.place then r ∷ s ∷ ss else s ∷ add_read r ss

abbrev pub add_reads : List Read → List Read → List Read
add_reads [] ss = ss
add_reads (r ∷ rs) ss = add_read r (add_reads rs ss)

-- "strike the shard from remaining, store the reads. When none remains: EXE"; ExecNotif, lines 4 to 11
unfoldable pub heard_from : ℕ → List Read → Entry → Entry
heard_from j rs e =
    let left = strike j e.remaining in
    record { write = e.write; status = If is_empty left then EXE else PRE; reads = add_reads rs e.reads; remaining = left }

-- "Take up to the log number on that shard's queue .. When none remains: EXE, and Executed goes to n−1"; ExecNotif. Refusals 6, 7, 8
unfoldable pub exec_notif_step : Board → ℕ → ℕ → List Read → Option Entry → Outcome Board
exec_notif_step b j ind rs none = refuse not_in_log b
exec_notif_step b j ind rs (some e) =
    If not (has j e.remaining) then refuse too_late b else
    If not (fits rs (on_shard b.m j e.write.operations)) then refuse does_not_fit b else
    let heard = heard_from j rs e in
    taken (settle ind heard (j ∷ []) b) (If is_exe heard.status then backward b ind heard ∷ [] else [])

-- ---- Executed at board i < n: ExecAppendTransact

-- "EXE, store the reads, remaining empty"; ExecAppendTransact, lines 7 and 8
unfoldable pub finished : List Read → Entry → Entry
finished rs e = record { write = e.write; status = EXE; reads = rs; remaining = [] }

-- "Take up to the log number on each touched shard's queue; .. Then Executed to i−1, or from the head Response". Refusals 6, 7, 8
unfoldable pub executed_step : Board → ℕ → List Read → Option Entry → Outcome Board
executed_step b ind rs none = refuse not_in_log b
executed_step b ind rs (some e) =
    If is_exe e.status then refuse too_late b else
    If not (fits rs (placed 0 e.write.operations)) then refuse does_not_fit b else
    taken (settle ind (finished rs e) (touched b.m e.write.operations) b) (backward b ind (finished rs e) ∷ [])

-- ---- A board's step

-- refusal 2: "the kind isn't for this receiver; or shard .. exceeds m (kind 4)". The column "to" of the table of frames: kind 1 is for
-- the head, 2 for every other board, 4 for the tail, 5 for every board but the tail.
unfoldable pub frame_step : Board → Frame → Outcome Board
frame_step b (submit w ack) = If b.own =? 1 then submit_step b w ack else refuse not_for_me b
frame_step b (forward ind w ack) = If 2 ≤? b.own then forward_step b ind w ack else refuse not_for_me b
frame_step b (shard_append j ind sn xs) = refuse not_for_me b
frame_step b (exec_notif j ind rs) = If b.own =? b.n && j ≤? b.m then exec_notif_step b j ind rs (at b.log ind) else refuse not_for_me b
frame_step b (executed ind rs) = If b.own <? b.n then executed_step b ind rs (at b.log ind) else refuse not_for_me b
frame_step b (response client number rs) = refuse not_for_me b

-- refusal 1: the bytes are no frame's
unfoldable pub read_step : Board → Option Frame → Outcome Board
read_step b none = refuse breaks_rule b
read_step b (some f) = frame_step b f

-- A frame's bytes arrive, with an out area of some length: "Order: 11, 1, 2, then" the kind's.
unfoldable pub step : Board → List ℕ → ℕ → Outcome Board
step b bytes out = If unusable b.started out then refuse not_usable b else read_step b (decode bytes)
