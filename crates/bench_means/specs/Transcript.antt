-- 01, "The bench program": which bytes it writes for the bytes that it reads, in the rules' words. Text in quotes is 01's.
-- Where a record ends and whom an address names is crate records' (`next_of`, `receiver_of`), how a line reads is crate lines' (specs/Text).
-- Assumes nothing.
use Rattle.std.specs.Prelude.{List, [], ◌∷◌, ◌++◌, ℕ, zero, suc, ◌+◌, ◌-◌, length, take, drop}
use Rattle.rules.specs.Lists.{If◌then◌else◌, changed}
use Rattle.rules.specs.Answers.{not_for_me}
use Rattle.rules.specs.Outcomes.{Outcome, frame_count, least_out}
use Rattle.rules.specs.Board as B
use Rattle.rules.specs.Board.{is_exe}
use Rattle.rules.specs.Shard as S
use Rattle.lines.specs.Text.{header_line, d_line, l_line, cut_line, setup_line}
use Rattle.records.specs.declared.Next.{Next}
use Rattle.records.specs.declared.Next.TheVariants.{Record, Need, Cut}
use Rattle.records.specs.declared.Receiver.{Receiver}
use Rattle.records.specs.declared.Receiver.TheVariants.{Board as to_board, Shard as to_shard, Nobody as to_nobody}
use Rattle.records.specs.Records.{usable_of, next_of, receiver_of}

-- ---- The boards and shard groups under test

-- each by its number
pub record Park : Type 0 where
  pub n : ℕ
  pub m : ℕ
  pub board : ℕ → B.Board
  pub shard : ℕ → S.Shard

unfoldable pub fresh : (n m : ℕ) → Park
fresh n m = record { n = n; m = m; board = λ i. (B.start n m i).state; shard = λ j. (S.start m j).state }

-- ---- The records

-- "an address byte .. and a frame"
pub record Addressed : Type 0 where
  pub address : ℕ
  pub frame : List ℕ

-- some bytes taken apart: the whole records that they begin with, and the bytes behind those
pub record Parts : Type 0 where
  pub records : List Addressed
  pub left : List ℕ

unfoldable pub parts_by : List ℕ → Next → (List ℕ → Parts) → Parts
parts_by s (Record address end) more =
    let rest = more (drop end s) in
    record { records = record { address = address; frame = take (end - 1) (drop 1 s) } ∷ rest.records; left = rest.left }
parts_by s Need more = record { records = []; left = s }
parts_by s Cut more = record { records = []; left = s }

-- at most so many records
unfoldable pub parts_up_to : (most : ℕ) → List ℕ → Parts
parts_up_to zero s = record { records = []; left = s }
parts_up_to (suc most) s = parts_by s (next_of s) (parts_up_to most)

-- a record has 3 bytes or more, so there are fewer of them than bytes (`none_left`, in proofs/Parts)
abbrev pub parts : List ℕ → Parts
parts s = parts_up_to (length s) s

-- ---- What a record does

-- the park after it, the answer, and how many frames were sent
pub record Turn : Type 0 where
  pub park : Park
  pub answer : ℕ
  pub frames : ℕ

-- "Frames sent are counted, not delivered": only the receiver changes
unfoldable pub at_board : Park → ℕ → Outcome B.Board → Turn
at_board p i o = record { park = record { n = p.n; m = p.m; board = changed p.board i o.state; shard = p.shard }; answer = o.answer; frames = frame_count o }

unfoldable pub at_shard : Park → ℕ → Outcome S.Shard → Turn
at_shard p j o = record { park = record { n = p.n; m = p.m; board = p.board; shard = changed p.shard j o.state }; answer = o.answer; frames = frame_count o }

-- A receiver's place is its number less one; it gets the least out area, and no step sends more. "An address that names nobody: answer 2, 0 frames",
-- whatever the frame is.
unfoldable pub turn_to : Park → (frame : List ℕ) → Receiver → Turn
turn_to p frame (to_board place) = at_board p (place + 1) (B.step (p.board (place + 1)) frame least_out)
turn_to p frame (to_shard place) = at_shard p (place + 1) (S.step (p.shard (place + 1)) frame least_out)
turn_to p frame to_nobody = record { park = p; answer = not_for_me; frames = 0 }

-- "1..8 boards, 17..24 shards 1..8"
abbrev pub turn : Park → Addressed → Turn
turn p r = turn_to p r.frame (receiver_of p.n p.m r.address)

abbrev pub after : Park → List Addressed → Park
after p [] = p
after p (r ∷ rs) = after (turn p r).park rs

-- ---- The lines

-- "A d line: record index, answer, frames sent", of each record, counted on from an index
abbrev pub d_lines : Park → (index : ℕ) → List Addressed → List ℕ
d_lines p index [] = []
d_lines p index (r ∷ rs) = d_line index (turn p r).answer (turn p r).frames ++ d_lines (turn p r).park (index + 1) rs

-- "An L line: board, log number, client, number, and `PRE` or `EXE`", of each entry, counted on from a log number
abbrev pub entry_lines : (board ind : ℕ) → List B.Entry → List ℕ
entry_lines board ind [] = []
entry_lines board ind (e ∷ es) = l_line board ind e.write.client e.write.number (is_exe e.status) ++ entry_lines board (ind + 1) es

-- "board by board, rising": so many boards, counted on from one
abbrev pub board_lines : Park → (board : ℕ) (more : ℕ) → List ℕ
board_lines p board zero = []
board_lines p board (suc more) = entry_lines board 0 (p.board board).log ++ board_lines p (board + 1) more

abbrev pub l_lines : Park → List ℕ
l_lines p = board_lines p 1 p.n

-- "Input that ends within a record, or a length over 36: a line `cut`, then the L lines". Of an input that ends behind a record nothing is left.
abbrev pub cut_before : (left : List ℕ) → List ℕ
cut_before [] = []
cut_before (x ∷ left) = cut_line

-- ---- The whole output

-- for the bytes behind n and m, the next record's index given
unfoldable pub lines : Park → (index : ℕ) → List ℕ → List ℕ
lines p index s = d_lines p index (parts s).records ++ (cut_before (parts s).left ++ l_lines (after p (parts s).records))

-- "Input: n (1 byte), m (1), then records"; "Bad or missing n or m: only `setup 11`."
unfoldable pub transcript : List ℕ → List ℕ
transcript [] = setup_line
transcript (n ∷ []) = setup_line
transcript (n ∷ m ∷ s) = If usable_of n m then header_line n m ++ lines (fresh n m) 0 s else setup_line
