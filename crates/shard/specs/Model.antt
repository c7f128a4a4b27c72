-- What the code does with the records as they lie: every field and every byte, for every value of a record.
-- Assumes nothing.
use Rattle.std.specs.Prelude.{Bool, true, false, not, ◌&&◌, List, [], ◌∷◌, ◌++◌, ℕ, ◌+◌, ◌%◌, length, get_or, drop, set, replicate, Result, Ok, Err}
use Rattle.rules.specs.Lists.{If◌then◌else◌, ◌<?◌, ◌≤?◌, ◌=?◌, within, every}
use Rattle.rules.specs.Answers.{done, breaks_rule, not_for_me, too_early, too_late, does_not_fit, not_usable}
use Rattle.rules.specs.Outcomes.{unusable}
use Rattle.frames.specs.declared.Item.{Item}
use Rattle.frames.specs.declared.Head.{Head}
use Rattle.frames.specs.declared.Head.TheVariants.{Bad, Submit, Forward, ShardAppend, ExecNotif, Executed, Response}
use Rattle.frames.specs.declared.Items.{Items}
use Rattle.frames.specs.declared.Frame.{Frame}
use Rattle.frames.specs.Frames.{no_item, frames_bytes, read_frame}
use Rattle.frames.specs.Items.{in_list}
use Rattle.refusal.specs.declared.Refusal.{Refusal}
use Rattle.refusal.specs.Number.{number_of, answer_of}
use Rattle.shard.specs.declared.Cell.{Cell}
use Rattle.shard.specs.declared.Shard.{Shard}
use Rattle.shard.specs.declared.Append.{Append}

-- ---- What the results of a start, of the judging and of a step show, beside the group as it then stands

-- the group, and 0, or 11 with every field of the group empty and the group not started
pub record Started : Type 0 where
  pub shard : Shard
  pub answer : ℕ

abbrev pub shown_start : Shard → Result (Unit {0}) Refusal → Started
shown_start s result = record { shard = s; answer = answer_of result }

-- the answer to a frame; where it is 0, the log number and sn of the ShardAppend that the frame is
pub record Verdict : Type 0 where
  pub answer : ℕ
  pub log_number : ℕ
  pub sn : ℕ

abbrev pub shown_verdict : Result Append Refusal → Verdict
shown_verdict (Ok append) = record { answer = done; log_number = append.log_number; sn = append.sn }
shown_verdict (Err refusal) = record { answer = number_of refusal; log_number = 0; sn = 0 }

-- the group as it then stands, the answer, and how many frames and bytes stand in the out area
pub record Stepped : Type 0 where
  pub shard : Shard
  pub answer : ℕ
  pub frames : ℕ
  pub bytes : ℕ

-- a step that is taken sends one frame, a refused one none
abbrev pub frames_in : Result ℕ Refusal → ℕ
frames_in (Ok bytes) = 1
frames_in (Err refusal) = 0

abbrev pub bytes_in : Result ℕ Refusal → ℕ
bytes_in (Ok bytes) = bytes
bytes_in (Err refusal) = 0

abbrev pub shown : Shard → Result ℕ Refusal → Stepped
shown s result = record { shard = s; answer = answer_of result; frames = frames_in result; bytes = bytes_in result }

-- ---- Start

abbrev pub absent : Cell
absent = record { value = 0; log_number = 0; present = false }

-- "It starts with no key present, ssn 0, last run none"
unfoldable pub empty_shard : ℕ → ℕ → Bool → Shard
empty_shard m own started =
    record { cells = replicate 256 absent; ssn = 0; last_run = 0; m = m; own = own; started = started }

unfoldable pub start_of : ℕ → ℕ → Started
start_of m own =
    If within 1 8 m && within 1 m own
    then record { shard = empty_shard m own true; answer = done }
    else record { shard = empty_shard 0 0 false; answer = not_usable }

-- ---- The answer

-- "Key k belongs to shard (k mod m) + 1"; where there is no group, no key is anybody's
unfoldable pub mine : ℕ → ℕ → Item → Bool
mine m own x = not (m =? 0) && x.key % m + 1 =? own

abbrev pub all_mine : ℕ → ℕ → List Item → Bool
all_mine m own xs = every (mine m own) xs

abbrev pub refused : ℕ → Verdict
refused answer = record { answer = answer; log_number = 0; sn = 0 }

-- a ShardAppend to this group: refusals 7, 4, 8. last is 1 more than the log number last run, 0 where none was.
unfoldable pub judge_append : ℕ → ℕ → ℕ → ℕ → List Item → ℕ → ℕ → Verdict
judge_append m own ssn last xs log-number sn =
    If sn ≤? ssn then refused too_late else
    If ssn + 1 <? sn then refused too_early else
    If not (all_mine m own xs) then refused does_not_fit else
    If log-number <? last then refused does_not_fit else
    record { answer = done; log_number = log-number; sn = sn }

-- refusals 1, 2 before these
unfoldable pub judge_head : ℕ → ℕ → ℕ → ℕ → List Item → Head → Verdict
judge_head m own ssn last xs Bad = refused breaks_rule
judge_head m own ssn last xs (Submit client number ack) = refused not_for_me
judge_head m own ssn last xs (Forward log-number client number ack) = refused not_for_me
judge_head m own ssn last xs (ShardAppend shard log-number sn) = If shard =? own then judge_append m own ssn last xs log-number sn else refused not_for_me
judge_head m own ssn last xs (ExecNotif shard log-number) = refused not_for_me
judge_head m own ssn last xs (Executed log-number) = refused not_for_me
judge_head m own ssn last xs (Response client number) = refused not_for_me

-- refusal 11 before these
unfoldable pub judge : Bool → ℕ → ℕ → ℕ → ℕ → ℕ → Frame → Verdict
judge started room m own ssn last f =
    If unusable started room then refused not_usable else judge_head m own ssn last (in_list f.list) f.head

-- ---- Running

abbrev pub cell_at : List Cell → ℕ → Cell
cell_at cells key = get_or cells key absent

-- "Each put stores the value and the log number"; a get leaves its cell as it is
unfoldable pub cell_after : ℕ → Item → Cell → Cell
cell_after log-number x c = If x.code =? 0 then c else record { value = x.value; log_number = log-number; present = true }

-- "place (1), present 0 or 1 (1), value (4; 0 if absent)"
unfoldable pub read_of : Item → Cell → Item
read_of x c =
    If c.present
    then record { place = x.place; code = 1; key = 0; value = c.value }
    else record { place = x.place; code = 0; key = 0; value = 0 }

abbrev pub no_reads : Items
no_reads = record { count = 0; items = replicate 4 no_item }

-- a get adds what it sees, a put nothing
unfoldable pub noted : Items → Item → Cell → Items
noted rs x c =
    If x.code =? 0 && rs.count <? 4
    then record { count = rs.count + 1; items = set rs.items rs.count (read_of x c) }
    else rs

-- what changes while a list runs: the cells, and the reads so far
pub record Running : Type 0 where
  pub cells : List Cell
  pub reads : Items

unfoldable pub turn : ℕ → Item → Running → Running
turn log-number x r =
    record {
      cells = set r.cells x.key (cell_after log-number x (cell_at r.cells x.key));
      reads = noted r.reads x (cell_at r.cells x.key);
    }

-- "runs its operations in order; a get sees earlier puts of the same list"
unfoldable pub ran : ℕ → List Item → Running → Running
ran log-number [] r = r
ran log-number (x ∷ xs) r = ran log-number xs (turn log-number x r)

-- ---- The step

unfoldable pub exec_notif : ℕ → ℕ → Items → Frame
exec_notif own log-number rs = record { head = ExecNotif own log-number; list = rs }

-- the group as it then stands, the answer, and the frames sent
pub record Outcome : Type 0 where
  pub shard : Shard
  pub answer : ℕ
  pub frames : List Frame

-- "Then ssn and last run move, and ExecNotif goes to the tail"
unfoldable pub after : Shard → ℕ → ℕ → Running → Outcome
after s log-number sn r =
    record {
      shard = record { cells = r.cells; ssn = sn; last_run = log-number + 1; m = s.m; own = s.own; started = s.started };
      answer = done;
      frames = exec_notif s.own log-number r.reads ∷ [];
    }

-- the operations run, or all stays as it was
unfoldable pub settled : Shard → List Item → Verdict → Outcome
settled s xs v =
    If v.answer =? done
    then after s v.log_number v.sn (ran v.log_number xs (record { cells = s.cells; reads = no_reads }))
    else record { shard = s; answer = v.answer; frames = [] }

abbrev pub items_of : Frame → List Item
items_of f = in_list f.list

-- a frame's bytes arrive, with an out area of some length
unfoldable pub outcome : Shard → List ℕ → ℕ → Outcome
outcome s bytes room = settled s (items_of (read_frame bytes)) (judge s.started room s.m s.own s.ssn s.last_run (read_frame bytes))

unfoldable pub stepped : Outcome → Stepped
stepped o = record { shard = o.shard; answer = o.answer; frames = length o.frames; bytes = length (frames_bytes o.frames) }

-- "its frames stand back to back from the first byte of the out area, the other bytes are untouched"
unfoldable pub laid : List Frame → List ℕ → List ℕ
laid fs out = frames_bytes fs ++ drop (length (frames_bytes fs)) out

-- what a step gives, and what it leaves in the out area
unfoldable pub step_of : Shard → List ℕ → ℕ → Stepped
step_of s bytes room = stepped (outcome s bytes room)

unfoldable pub out_of : Shard → List ℕ → List ℕ → List ℕ
out_of s bytes out = laid (outcome s bytes (length out)).frames out
