-- What a start and a step give, on the records as they lie: the answer, every field and element of the board, the frames sent and
-- every byte of the out area, for every input. What it means in the rules' words is in View.
-- Assumes nothing.
use Rattle.std.specs.Prelude.{Bool, true, false, ◌&&◌, List, [], ◌∷◌, ℕ, suc, ◌+◌, ◌*◌, ◌%◌, max, length, get_or, set, take, replicate, Result, Ok, Err}
use Rattle.rules.specs.Lists.{If◌then◌else◌, ◌<?◌, ◌=?◌, within}
use Rattle.rules.specs.Answers.{done, not_usable}
use Rattle.rules.specs.Outcomes.{unusable}
use Rattle.frames.specs.declared.Frame.{Frame}
use Rattle.frames.specs.declared.Head.{Head}
use Rattle.frames.specs.declared.Head.TheVariants.{Bad, Submit, Forward, ShardAppend, ExecNotif, Executed, Response}
use Rattle.frames.specs.Frames.{read_frame}
use Rattle.entry.specs.declared.Entry.{Entry}
use Rattle.entry.specs.Model.{is_empty_of, touched_of, no_entry}
use Rattle.queue.specs.declared.Queue.{Queue}
use Rattle.queue.specs.Model.{no_queue, changed_all}
use Rattle.send.specs.Model.{send_parts, bytes_of, laid}
use Rattle.refusal.specs.declared.Refusal.{Refusal}
use Rattle.refusal.specs.Number.{number_of, answer_of}
use Rattle.send.specs.declared.Sent.{Sent}
use Rattle.verdict.specs.Model.{Verdict, next_of, floor_of, judge_of}
use Rattle.board.specs.declared.Board.{Board}

-- ---- What a start and a step hand back

-- the board then, and the answer
pub record Started : Type 0 where
  pub board : Board
  pub answer : ℕ

-- the board then, the answer, and "the counts of frames and bytes"
pub record Stepped : Type 0 where
  pub board : Board
  pub answer : ℕ
  pub frames : ℕ
  pub bytes : ℕ

-- what a start's result shows
abbrev pub started_of : {A : Type 0} → Board → Result A Refusal → Started
started_of b result = record { board = b; answer = answer_of result }

-- what a step's result shows: "Answer 0 means the step was taken"; of a refusal the counts are 0
abbrev pub shown : Board → Result Sent Refusal → Stepped
shown b (Ok sent) = record { board = b; answer = done; frames = sent.frames; bytes = sent.bytes }
shown b (Err refusal) = record { board = b; answer = number_of refusal; frames = 0; bytes = 0 }

-- ---- Start

unfoldable pub empty_board : ℕ → ℕ → ℕ → Bool → Board
empty_board n m own started =
    record {
      log = replicate 256 no_entry;
      len = 0;
      names = replicate 256 0;
      touched = replicate 256 0;
      next = replicate 16 0;
      floor = replicate 16 0;
      queues = replicate 8 no_queue;
      n = n;
      m = m;
      own = own;
      started = started;
    }

unfoldable pub in_range : ℕ → ℕ → ℕ → Bool
in_range n m own = within 2 8 n && within 1 8 m && within 1 n own

unfoldable pub start_of : ℕ → ℕ → ℕ → Started
start_of n m own =
    If in_range n m own then record { board = empty_board n m own true; answer = done } else
    record { board = empty_board 0 0 0 false; answer = not_usable }

-- ---- The log, by log number and by client

unfoldable pub slot_of : ℕ → ℕ
slot_of ind = ind % 256

-- what an index past the end of a log reads as; no code reads there
abbrev pub blank : Entry
blank = record { client = 0; number = 0; count = 0; items = []; exe = false; reads = []; remaining = 0 }

unfoldable pub entry_at : List Entry → ℕ → Entry
entry_at log ind = get_or log (slot_of ind) blank

-- a client's number in one word
unfoldable pub name_of : ℕ → ℕ → ℕ
name_of client number = client * 65536 + number

-- the place of the first that equals x; the list's length where none does
unfoldable pub position_of : ℕ → List ℕ → ℕ
position_of x [] = 0
position_of x (y ∷ ys) = If y =? x then 0 else suc (position_of x ys)

-- the log number that a frame is about
unfoldable pub place_of : Head → List ℕ → List ℕ → ℕ → ℕ
place_of Bad next names len = len
place_of (Submit client number ack) next names len =
    If number <? next_of next client then position_of (name_of client number) (take len names) else len
place_of (Forward ind client number ack) next names len = ind
place_of (ShardAppend shard ind sn) next names len = len
place_of (ExecNotif shard ind) next names len = ind
place_of (Executed ind) next names len = ind
place_of (Response client number) next names len = len

-- ---- What a step changes

unfoldable pub raised_of : List ℕ → ℕ → ℕ → List ℕ
raised_of floor client ack = set floor client (max (floor_of floor client) ack)

unfoldable pub followed_of : List ℕ → Bool → ℕ → ℕ → List ℕ
followed_of next fresh client number = If fresh then set next client (number + 1) else next

unfoldable pub queues_after : List Queue → Bool → ℕ → ℕ → List Queue
queues_after queues fresh shards ind =
    If is_empty_of shards then queues else changed_all queues fresh shards ind

unfoldable pub frames_of : Bool → Entry → ℕ → ℕ → ℕ → List ℕ → ℕ → List ℕ → ℕ → List Frame
frames_of sends e n m own floor ind touched room =
    If sends then send_parts e n m own (floor_of floor e.client) ind touched room else []

-- the board after a step that is taken
unfoldable pub board_after : Board → ℕ → Verdict → Board
board_after b ind v =
    record {
      log = set b.log (slot_of ind) v.entry;
      len = v.len;
      names = set b.names (slot_of ind) (name_of v.entry.client v.entry.number);
      touched = set b.touched (slot_of ind) (touched_of b.m v.entry.count v.entry.items);
      next = followed_of b.next v.fresh v.entry.client v.entry.number;
      floor = raised_of b.floor v.entry.client v.ack;
      queues = queues_after b.queues v.fresh v.shards ind;
      n = b.n;
      m = b.m;
      own = b.own;
      started = b.started;
    }

-- ---- The step

-- the board then, the answer, and the frames sent, in order
pub record Outcome : Type 0 where
  pub board : Board
  pub answer : ℕ
  pub frames : List Frame

abbrev pub refused : Board → ℕ → Outcome
refused b answer = record { board = b; answer = answer; frames = [] }

unfoldable pub taken_step : Board → ℕ → Verdict → ℕ → Outcome
taken_step b ind v room =
    let after = board_after b ind v in
    record {
      board = after;
      answer = done;
      frames = frames_of v.sends v.entry b.n b.m b.own after.floor ind after.touched room;
    }

unfoldable pub judged_step : Board → ℕ → Verdict → ℕ → Outcome
judged_step b ind v room = If v.answer =? 0 then taken_step b ind v room else refused b v.answer

-- the verdict on a frame that is about a log number
unfoldable pub verdict_of : Board → Frame → ℕ → Verdict
verdict_of b f ind =
    judge_of f.head f.list.count f.list.items b.n b.m b.own b.floor b.next b.len (ind <? b.len) (entry_at b.log ind)

unfoldable pub frame_step : Board → Frame → ℕ → ℕ → Outcome
frame_step b f ind room = judged_step b ind (verdict_of b f ind) room

-- "Order: 11, 1, 2, then" the kind's
unfoldable pub outcome : Board → List ℕ → ℕ → Outcome
outcome b s room =
    If unusable b.started room then refused b not_usable else
    frame_step b (read_frame s) (place_of (read_frame s).head b.next b.names b.len) room

abbrev pub stepped_of : Outcome → Stepped
stepped_of o = record { board = o.board; answer = o.answer; frames = length o.frames; bytes = length (bytes_of o.frames) }

unfoldable pub step_of : Board → List ℕ → ℕ → Stepped
step_of b s room = stepped_of (outcome b s room)

unfoldable pub out_of : Board → List ℕ → List ℕ → List ℕ
out_of b s out = laid (outcome b s (length out)).frames out
