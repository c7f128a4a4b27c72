-- 01's example, computed from the transcript: n = 2, m = 1 and five records give its eight lines. And the readings of the section (docs/DECISIONS.md,
-- 1 to 9), each by the shortest inputs that show it.
-- Assumes nothing.
use mathlib.Core.List.{List, [], ◌∷◌, ◌++◌, map}
use mathlib.Core.Path.{◌≡◌, refl}
use Prim.Native.Nat.{ℕ}
use Prim.Native.Char.{code}
use Prim.Native.String as Text
use Prim.Native.String.{String}
use lib.ListN.{replicate}
use Rattle.rules.specs.Transactions.{put, Write}
use Rattle.rules.specs.Frames.{submit, forward, shard_append, exec_notif, encode}
use Rattle.rules.specs.Computing.{computing}
use Rattle.lines.specs.Text.{digits, header_line, d_line, l_line}
use Rattle.records.specs.Records.{next_of, receiver_of}
use Rattle.bench_means.specs.Transcript.{fresh, parts_by, parts_up_to, at_board, at_shard, turn_to, lines, transcript}

-- the bytes of a text of letters, digits, spaces and newlines
abbrev pub bytes_of : String → List ℕ
bytes_of Text.[] = []
bytes_of (Text.◌∷◌ c text) = code c ∷ bytes_of text

-- all that computes
unfoldable pub transcribing : Unit {0}
unfolding computing next_of receiver_of digits header_line d_line l_line fresh parts_by parts_up_to at_board at_shard turn_to lines transcript
transcribing = tt

-- ---- The example

-- client 3's number 0, put key 5 value 1000
abbrev pub write : Write
write = record { client = 3; number = 0; operations = put 5 1000 ∷ [] }

abbrev pub append : List ℕ
append = encode (shard_append 1 0 1 (record { place = 0; operation = put 5 1000 } ∷ []))

-- "the Submit of case A to board 1; its Forward to board 2; its ShardAppend to shard 1, twice; ExecNotif for log number 0 without reads to board 2"
abbrev pub input : List ℕ
input =
    2 ∷ 1 ∷
    1 ∷ encode (submit write 0) ++
    2 ∷ encode (forward 0 write 0) ++
    17 ∷ append ++
    17 ∷ append ++
    2 ∷ encode (exec_notif 1 0 [])

-- the bytes of crates/bench/stdin, on which the program is run and held to the same eight lines
pub as_stored :
    input ≡
    0x02 ∷ 0x01 ∷ 0x01 ∷ 0x0E ∷ 0x00 ∷ 0x01 ∷ 0x00 ∷ 0x03 ∷ 0x00 ∷ 0x00 ∷ 0x00 ∷ 0x00 ∷ 0x01 ∷ 0x01 ∷ 0x05 ∷ 0xE8 ∷
    0x03 ∷ 0x00 ∷ 0x00 ∷ 0x02 ∷ 0x10 ∷ 0x00 ∷ 0x02 ∷ 0x00 ∷ 0x00 ∷ 0x00 ∷ 0x03 ∷ 0x00 ∷ 0x00 ∷ 0x00 ∷ 0x00 ∷ 0x01 ∷
    0x01 ∷ 0x05 ∷ 0xE8 ∷ 0x03 ∷ 0x00 ∷ 0x00 ∷ 0x11 ∷ 0x0F ∷ 0x00 ∷ 0x03 ∷ 0x00 ∷ 0x01 ∷ 0x00 ∷ 0x00 ∷ 0x01 ∷ 0x00 ∷
    0x01 ∷ 0x00 ∷ 0x01 ∷ 0x05 ∷ 0xE8 ∷ 0x03 ∷ 0x00 ∷ 0x00 ∷ 0x11 ∷ 0x0F ∷ 0x00 ∷ 0x03 ∷ 0x00 ∷ 0x01 ∷ 0x00 ∷ 0x00 ∷
    0x01 ∷ 0x00 ∷ 0x01 ∷ 0x00 ∷ 0x01 ∷ 0x05 ∷ 0xE8 ∷ 0x03 ∷ 0x00 ∷ 0x00 ∷ 0x02 ∷ 0x06 ∷ 0x00 ∷ 0x04 ∷ 0x00 ∷ 0x01 ∷
    0x00 ∷ 0x00 ∷ 0x00 ∷ []
unfolding computing
as_stored = refl

pub example :
    transcript input ≡
    bytes_of "chain 2 shards 1\n" ++
    bytes_of "d0 0 1\n" ++
    bytes_of "d1 0 1\n" ++
    bytes_of "d2 0 1\n" ++
    bytes_of "d3 7 0\n" ++
    bytes_of "d4 0 1\n" ++
    bytes_of "L1 0 3 0 PRE\n" ++
    bytes_of "L2 0 3 0 EXE\n"
unfolding transcribing
example = refl

-- ---- The readings

-- what is read, and what must be written
pub record Case : Type 0 where
  pub given : List ℕ
  pub written : String

infix 4 ◌writes◌
abbrev pub ◌writes◌ : List ℕ → String → Case
s writes t = record { given = s; written = t }

abbrev pub readings : List Case
readings =
    -- 1: an address that names nobody is answered 2, and its frame is not looked at: here it has no room for a kind
    (2 ∷ 1 ∷ 9 ∷ 0 ∷ 0 ∷ [] writes "chain 2 shards 1\nd0 2 0\n")
    ∷ (2 ∷ 1 ∷ 0 ∷ 0 ∷ 0 ∷ 255 ∷ 0 ∷ 0 ∷ [] writes "chain 2 shards 1\nd0 2 0\nd1 2 0\n")
    -- 2: board 3 of 2, shard 2 of 1
    ∷ (2 ∷ 1 ∷ 3 ∷ encode (forward 0 write 0) writes "chain 2 shards 1\nd0 2 0\n")
    ∷ (2 ∷ 1 ∷ 18 ∷ append writes "chain 2 shards 1\nd0 2 0\n")
    -- 3: length 0 and length 1 are records, answered 1, and the run goes on
    ∷ (2 ∷ 1 ∷ 1 ∷ 0 ∷ 0 ∷ 17 ∷ 1 ∷ 0 ∷ 3 ∷ 17 ∷ append writes "chain 2 shards 1\nd0 1 0\nd1 1 0\nd2 0 1\n")
    -- 4: 37 is cut whatever the address; the length has 16 bits; 36 is a record
    ∷ (2 ∷ 1 ∷ 9 ∷ 37 ∷ 0 ∷ [] writes "chain 2 shards 1\ncut\n")
    ∷ (2 ∷ 1 ∷ 1 ∷ 0 ∷ 1 ∷ [] writes "chain 2 shards 1\ncut\n")
    ∷ (2 ∷ 1 ∷ 1 ∷ 36 ∷ 0 ∷ replicate 36 0 writes "chain 2 shards 1\nd0 1 0\n")
    -- 5: behind a cut record nothing is read; the L lines follow
    ∷ (2 ∷ 1 ∷ 1 ∷ encode (submit write 0) ++ 1 ∷ 37 ∷ 0 ∷ 2 ∷ encode (forward 0 write 0) writes "chain 2 shards 1\nd0 0 1\ncut\nL1 0 3 0 PRE\n")
    -- 6: n and m alone; an address byte alone, with half a length, and with a frame that is not all there
    ∷ (8 ∷ 8 ∷ [] writes "chain 8 shards 8\n")
    ∷ (2 ∷ 1 ∷ 1 ∷ [] writes "chain 2 shards 1\ncut\n")
    ∷ (2 ∷ 1 ∷ 1 ∷ 14 ∷ [] writes "chain 2 shards 1\ncut\n")
    ∷ (2 ∷ 1 ∷ 1 ∷ 14 ∷ 0 ∷ 1 ∷ [] writes "chain 2 shards 1\ncut\n")
    -- 8: n or m bad, whatever follows; m missing; both missing
    ∷ (1 ∷ 1 ∷ 1 ∷ encode (submit write 0) writes "setup 11\n")
    ∷ (9 ∷ 1 ∷ [] writes "setup 11\n")
    ∷ (2 ∷ 0 ∷ [] writes "setup 11\n")
    ∷ (2 ∷ 9 ∷ [] writes "setup 11\n")
    ∷ (2 ∷ [] writes "setup 11\n")
    ∷ ([] writes "setup 11\n")
    -- 9: the index counts refused records too
    ∷ (2 ∷ 1 ∷ 1 ∷ append ++ 9 ∷ append ++ 17 ∷ append writes "chain 2 shards 1\nd0 2 0\nd1 2 0\nd2 0 1\n")
    ∷ []

pub as_read_lem : map (λ (c : Case). transcript c.given) readings ≡ map (λ (c : Case). bytes_of c.written) readings
unfolding transcribing
as_read_lem = refl
