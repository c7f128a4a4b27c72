-- What a board's record means in the rules' words, what every start gives and every step keeps, and what a start and a step mean.
-- Assumes nothing.
use Rattle.std.specs.Prelude.{◌≡◌, ◌&&◌, List, map, ℕ, ◌-◌, ◌≤◌, T, length, take, drop, replicate}
use Rattle.std.proofs.Math.Option.{some}
use Rattle.rules.specs.Lists.{at, within}
use Rattle.rules.specs.Outcomes.{frame_count, byte_count, out_after}
use Rattle.rules.specs.Board as B
use Rattle.rules.specs.Board.{writes, next_number}
use Rattle.rules.specs.Kept.{Kept, SizesKept, NumbersKept}
use Rattle.entry.specs.declared.Entry.{Entry}
use Rattle.entry.specs.Model.{touched_of, no_entry}
use Rattle.entry.specs.View.{view_entry, EntryHeld}
use Rattle.queue.specs.View.{view_queues, QueuesHeld, AllTidy}
use Rattle.verdict.specs.Model.{next_of, floor_of}
use Rattle.board.specs.declared.Board.{Board}
use Rattle.board.specs.Model.{Started, Stepped, name_of}

-- the entries of the log: the first len
abbrev pub entries_of : Board → List Entry
entries_of b = take b.len b.log

abbrev pub view_log : ℕ → List Entry → List B.Entry
view_log m es = map (view_entry m) es

unfoldable pub view_board : Board → B.Board
view_board b =
    record {
      started = b.started;
      n = b.n;
      m = b.m;
      own = b.own;
      log = view_log b.m (entries_of b);
      floor = λ client. floor_of b.floor client;
      queue = view_queues b.queues;
    }

-- the columns beside the log: each entry's client and number in one word, and the shards that it touches
abbrev pub name_in : Entry → ℕ
name_in e = name_of e.client e.number

abbrev pub mask_in : ℕ → Entry → ℕ
mask_in m e = touched_of m e.count e.items

-- How the record lies: every array has its length, every entry is one that is kept, the columns say what the entries say, behind the log's
-- end all is empty, next is each client's high + 1, no queue is longer than the log, and its free slots are zero.
pub record Columns (b : Board) : Type 0 where
  pub slots : length b.log ≡ 256
  pub few : b.len ≤ 256
  pub entries : (ind : ℕ) (e : Entry) → at (entries_of b) ind ≡ some e → EntryHeld b.m e
  pub log_rest : drop b.len b.log ≡ replicate (256 - b.len) no_entry
  pub name_slots : length b.names ≡ 256
  pub names : take b.len b.names ≡ map name_in (entries_of b)
  pub name_rest : drop b.len b.names ≡ replicate (256 - b.len) 0
  pub mask_slots : length b.touched ≡ 256
  pub masks : take b.len b.touched ≡ map (mask_in b.m) (entries_of b)
  pub mask_rest : drop b.len b.touched ≡ replicate (256 - b.len) 0
  pub clients : length b.next ≡ 16
  pub next : (c : ℕ) → next_of b.next c ≡ next_number c (writes (view_log b.m (entries_of b)))
  pub floors : length b.floor ≡ 16
  pub queues : QueuesHeld b.len b.queues
  pub tidy : AllTidy b.queues

-- What every start gives and every step keeps.
pub record Held (b : Board) : Type 0 where
  pub columns : Columns b
  pub setup : T b.started → T (within 2 8 b.n && within 1 8 b.m && within 1 b.n b.own)
  pub kept : Kept (view_board b)
  pub sizes : SizesKept (view_board b)
  pub numbers : NumbersKept (view_board b)

-- What a start means: it is held, and it is the rules' start.
pub record StartMeans (n m own : ℕ) (r : Started) : Type 0 where
  pub held : Held r.board
  pub answer : r.answer ≡ (B.start n m own).answer
  pub state : view_board r.board ≡ (B.start n m own).state

-- What a step of a board that is held means: it is held again, and it is the rules' step on what the board means: its answer, the board as
-- it then stands, the counts of frames and bytes, and every byte left in the out area.
pub record StepMeans (b : Board) (given out : List ℕ) (r : Stepped) (left : List ℕ) : Type 0 where
  pub held : Held r.board
  pub answer : r.answer ≡ (B.step (view_board b) given (length out)).answer
  pub state : view_board r.board ≡ (B.step (view_board b) given (length out)).state
  pub frames : r.frames ≡ frame_count (B.step (view_board b) given (length out))
  pub bytes : r.bytes ≡ byte_count (B.step (view_board b) given (length out))
  pub written : left ≡ out_after (B.step (view_board b) given (length out)).frames out
