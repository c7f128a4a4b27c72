-- What a frame comes to, on the records as they lie, for every input: each refusal in its place, or the entry as it then stands.
-- Assumes nothing.
use Rattle.std.specs.Prelude.{Bool, true, false, not, ◌&&◌, List, ℕ, ◌+◌, get_or, Result, Ok, Err, Option, Some, None}
use Rattle.rules.specs.Lists.{If◌then◌else◌, ◌<?◌, ◌≤?◌, ◌=?◌}
use Rattle.rules.specs.Answers.{done, breaks_rule, not_for_me, below_floor, too_early, log_full, not_in_log, too_late, does_not_fit}
use Rattle.rules.specs.Board.{log_size}
use Rattle.frames.specs.declared.Item.{Item}
use Rattle.frames.specs.declared.Head.{Head}
use Rattle.frames.specs.declared.Head.TheVariants.{Bad, Submit, Forward, ShardAppend, ExecNotif, Executed, Response}
use Rattle.entry.specs.declared.Entry.{Entry}
use Rattle.entry.specs.Model.{in_mask, insert_of, touched_of, part_on, fits_of, no_entry, new_entry_of, same_write_of, heard_from_of, finished_of}
use Rattle.refusal.specs.declared.Refusal.{Refusal}
use Rattle.refusal.specs.Number.{number_of}
use Rattle.verdict.specs.declared.Change.{Change}

-- What a frame comes to: a refusal's number; or 0, with the entry that the frame is about as it then stands, the log's length then,
-- the shards whose queues change, the ack that may raise the client's floor (0 raises none), and whether the entry is sent on.
pub record Verdict : Type 0 where
  pub answer : ℕ
  pub entry : Entry
  pub fresh : Bool
  pub len : ℕ
  pub shards : ℕ
  pub ack : ℕ
  pub sends : Bool

-- ---- A client's numbers

-- high + 1
abbrev pub next_of : List ℕ → ℕ → ℕ
next_of next client = get_or next client 0

abbrev pub floor_of : List ℕ → ℕ → ℕ
floor_of floor client = get_or floor client 0

-- ---- The kinds

unfoldable pub refuse_of : ℕ → Verdict
refuse_of answer = record { answer = answer; entry = no_entry; fresh = false; len = 0; shards = 0; ack = 0; sends = false }

-- what a judgement's result shows
abbrev pub shown_verdict : Result Change Refusal → Verdict
shown_verdict (Ok change) =
    record {
      answer = done;
      entry = change.entry;
      fresh = change.fresh;
      len = change.len;
      shards = change.shards;
      ack = change.ack;
      sends = change.sends;
    }
shown_verdict (Err refusal) = refuse_of (number_of refusal)

-- what is judged of an entry that may not be held, as an Option has it; of one that is not held the entry doesn't count
abbrev pub by_held : (Bool → Entry → Verdict) → Option Entry → Verdict
by_held judged (Some e) = judged true e
by_held judged None = judged false no_entry

unfoldable pub new_of : ℕ → ℕ → ℕ → ℕ → ℕ → List Item → ℕ → Verdict
new_of m client number ack count items len =
    If log_size ≤? len then refuse_of log_full else
    record {
      answer = done;
      entry = new_entry_of m client number count items;
      fresh = true;
      len = len + 1;
      shards = (new_entry_of m client number count items).remaining;
      ack = ack;
      sends = true;
    }

unfoldable pub held_of : ℕ → ℕ → ℕ → ℕ → List Item → ℕ → Bool → Entry → Verdict
held_of client number ack count items len held e =
    If not (held && same_write_of e client number count items) then refuse_of does_not_fit else
    record { answer = done; entry = e; fresh = false; len = len; shards = 0; ack = ack; sends = true }

unfoldable pub judge_submit : ℕ → ℕ → ℕ → ℕ → ℕ → List Item → ℕ → ℕ → ℕ → Bool → Entry → Verdict
judge_submit m client number ack count items low next len held e =
    If number <? low then refuse_of below_floor else
    If next <? number then refuse_of too_early else
    If number <? next then held_of client number ack count items len held e else
    new_of m client number ack count items len

unfoldable pub judge_forward : ℕ → ℕ → ℕ → ℕ → ℕ → ℕ → List Item → ℕ → ℕ → Entry → Verdict
judge_forward m ind client number ack count items next len e =
    If len <? ind then refuse_of too_early else
    If ind <? len then held_of client number ack count items len true e else
    If not (number =? next) then refuse_of does_not_fit else
    new_of m client number ack count items len

unfoldable pub judge_exec_notif : ℕ → ℕ → ℕ → List Item → ℕ → Bool → Entry → Verdict
judge_exec_notif m shard count reads len held e =
    If not held then refuse_of not_in_log else
    If not (in_mask e.remaining shard) then refuse_of too_late else
    If not (fits_of (part_on m shard e.count e.items).count (part_on m shard e.count e.items).items count reads) then refuse_of does_not_fit else
    record {
      answer = done;
      entry = heard_from_of e shard count reads;
      fresh = false;
      len = len;
      shards = insert_of 0 shard;
      ack = 0;
      sends = (heard_from_of e shard count reads).exe;
    }

unfoldable pub judge_executed : ℕ → ℕ → List Item → ℕ → Bool → Entry → Verdict
judge_executed m count reads len held e =
    If not held then refuse_of not_in_log else
    If e.exe then refuse_of too_late else
    If not (fits_of e.count e.items count reads) then refuse_of does_not_fit else
    record {
      answer = done;
      entry = finished_of e count reads;
      fresh = false;
      len = len;
      shards = touched_of m e.count e.items;
      ack = 0;
      sends = true;
    }

-- 1, 2, then the kind's own
unfoldable pub judge_of : Head → ℕ → List Item → ℕ → ℕ → ℕ → List ℕ → List ℕ → ℕ → Bool → Entry → Verdict
judge_of Bad count items n m own floor next len held e = refuse_of breaks_rule
judge_of (Submit client number ack) count items n m own floor next len held e =
    If own =? 1 then judge_submit m client number ack count items (floor_of floor client) (next_of next client) len held e else refuse_of not_for_me
judge_of (Forward ind client number ack) count items n m own floor next len held e =
    If 2 ≤? own then judge_forward m ind client number ack count items (next_of next client) len e else refuse_of not_for_me
judge_of (ShardAppend shard ind sn) count items n m own floor next len held e = refuse_of not_for_me
judge_of (ExecNotif shard ind) count items n m own floor next len held e =
    If own =? n && shard ≤? m then judge_exec_notif m shard count items len held e else refuse_of not_for_me
judge_of (Executed ind) count items n m own floor next len held e =
    If own <? n then judge_executed m count items len held e else refuse_of not_for_me
judge_of (Response client number) count items n m own floor next len held e = refuse_of not_for_me
