-- What the bench program's register means in the rules' words, and what the delivery of some bytes means.
-- Assumes nothing.
use Rattle.std.specs.Prelude.{◌≡◌, List, [], ◌∷◌, ◌++◌, ℕ, ◌+◌, ◌≤◌, ◌<◌, length, get_or, drop}
use Rattle.rules.specs.Frames.{back_to_back}
use Rattle.rules.specs.Board as B
use Rattle.rules.specs.Shard as S
use Rattle.board.specs.declared.Board.{Board}
use Rattle.board_means.specs.View as BV
use Rattle.board_means.specs.View.{view_board}
use Rattle.shard.specs.declared.Shard.{Shard}
use Rattle.shard.specs.View as SV
use Rattle.shard.specs.View.{view_shard}
use Rattle.records.specs.declared.Next.{Next}
use Rattle.records.specs.declared.Next.TheVariants.{Record, Need, Cut}
use Rattle.records.specs.Records.{next_of}
use Rattle.delivery.specs.declared.Register.{Register}
use Rattle.delivery.specs.Register as D
use Rattle.delivery.specs.Register.{board_at_start, shard_at_start, turn_of}
use Rattle.delivery.specs.Delivery.{Run}
use Rattle.bench_means.specs.Transcript.{Park, Addressed, Parts, parts, Turn, after, d_lines}

-- ---- The register

-- a board is held, and is the rules' board
pub record BoardMeans (b : Board) (r : B.Board) : Type 0 where
  pub held : BV.Held b
  pub view : view_board b ≡ r

-- the same of a shard group
pub record ShardMeans (s : Shard) (r : S.Shard) : Type 0 where
  pub held : SV.Held s
  pub view : view_shard s ≡ r

-- eight records in a row mean what is numbered 1 to 8
pub record Eight {A B : Type 0} (Each : A → B → Type 0) (blank : A) (row : List A) (numbered : ℕ → B) : Type 0 where
  pub eight : length row ≡ 8
  pub each : (place : ℕ) → place < 8 → Each (get_or row place blank) (numbered (place + 1))

-- each board and each shard group of the register, the ones above n and m too
pub record Means (r : Register) (p : Park) : Type 0 where
  pub n : r.n ≡ p.n
  pub m : r.m ≡ p.m
  pub few : p.n ≤ 8
  pub boards : Eight BoardMeans (board_at_start 0 0 0) r.boards p.board
  pub shards : Eight ShardMeans (shard_at_start 0 0) r.shards p.shard

-- what a record does
pub record TurnMeans (t : D.Turn) (u : Turn) : Type 0 where
  pub register : Means t.register u.park
  pub answer : t.answer ≡ u.answer
  pub frames : t.frames ≡ u.frames

-- ---- Records

-- no whole record stands at the front of some bytes
abbrev pub NoRecord : Next → Type 0
NoRecord (Record address end) = ⊥
NoRecord Need = Unit {0}
NoRecord Cut = Unit {0}

-- some records before others
unfoldable pub before : List Addressed → Parts → Parts
before rs x = record { records = rs ++ x.records; left = x.left }

-- the bytes that records and what is left behind them are
abbrev pub record_bytes : Addressed → List ℕ
record_bytes r = r.address ∷ r.frame

unfoldable pub joined : Parts → List ℕ
joined x = back_to_back record_bytes x.records ++ x.left

-- ---- A delivery

-- the register after some records
abbrev pub register_after : Register → List Addressed → Register
register_after r [] = r
register_after r (x ∷ xs) = register_after (turn_of r x.address x.frame).register xs

-- How far a run over some bytes has come: the records done are those that stand at the front, whatever follows the bytes; the text is their d lines,
-- the register is the one after them and means the park after them, and the index is behind theirs.
pub record Done (r : Register) (p : Park) (first : ℕ) (input : List ℕ) (run : Run) : Type 0 where
  pub done : List Addressed
  pub inside : run.taken ≤ length input
  pub front : (later : List ℕ) → parts (input ++ later) ≡ before done (parts (drop run.taken input ++ later))
  pub text : run.text ≡ d_lines p first done
  pub register : run.register ≡ register_after r done
  pub means : Means run.register (after p done)
  pub index : run.index ≡ first + length done
  pub fewer : length done ≤ run.taken

-- the last index that 64 bits hold; no record gets it
abbrev pub last_index : ℕ
last_index = 18446744073709551615

-- why a delivery stops: no whole record is left, the text area has less than 128 bytes left, or no index is left
pub data Stopped (input : List ℕ) (room : ℕ) (run : Run) : Type 0 where
  no_record : NoRecord (next_of (drop run.taken input)) → Stopped input room run
  no_room : room < length run.text + 128 → Stopped input room run
  no_index : last_index ≤ run.index → Stopped input room run

-- a delivery of all bytes beside one of some of them and then one of the rest: the lines, the register, the next index, and the bytes that are left
pub record Same (one two all : Run) (left_by_two left_by_all : List ℕ) : Type 0 where
  pub text : all.text ≡ one.text ++ two.text
  pub register : all.register ≡ two.register
  pub index : all.index ≡ two.index
  pub rest : left_by_all ≡ left_by_two
