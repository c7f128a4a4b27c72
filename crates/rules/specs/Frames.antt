-- Frames: the six kinds, the rules they obey, their bytes, and the reading of bytes.
-- Assumes nothing.
use Rattle.std.specs.Prelude.{Bool, true, ◌&&◌, List, [], ◌∷◌, ◌++◌, map, ℕ, zero, suc, ◌+◌, ◌*◌, ◌/◌, ◌%◌, length, get_or, drop}
use Rattle.std.proofs.Math.Option.{Option, none, some}
use Rattle.rules.specs.Lists.{If◌then◌else◌, ◌≤?◌, ◌=?◌, within, every, same}
use Rattle.rules.specs.Transactions.{Operation, get, put, Write, Placed, Read}

-- the table's rows: kind, from and to, body; behind the colon 004's procedure that such a frame calls
pub data Frame : Type 0 where
  -- kind 1, client to head: AppendTransact; ack is its ackBound
  submit : (write : Write) (ack : ℕ) → Frame
  -- kind 2, board i to i+1: AppendTransact, with the log number
  forward : (ind : ℕ) (write : Write) (ack : ℕ) → Frame
  -- kind 3, tail to shard: ShardExecAppend
  shard_append : (shard ind sn : ℕ) (operations : List Placed) → Frame
  -- kind 4, shard to tail: ExecNotif
  exec_notif : (shard ind : ℕ) (reads : List Read) → Frame
  -- kind 5, board i to i−1: ExecAppendTransact
  executed : (ind : ℕ) (reads : List Read) → Frame
  -- kind 6, head to client: SessionRespWrite
  response : (client number : ℕ) (reads : List Read) → Frame

-- ---- The rules of "Sizes" and "Frames": refusal 1 is given exactly where one is broken

-- "Clients 0..15"
abbrev pub ok_client : ℕ → Bool
ok_client client = client ≤? 15

-- "A client's write numbers: 0..65,534"
abbrev pub ok_number : ℕ → Bool
ok_number number = number ≤? 65534

-- "Log numbers 0..255"
abbrev pub ok_ind : ℕ → Bool
ok_ind ind = ind ≤? 255

-- "Values are 0..4,294,967,295"
abbrev pub ok_value : ℕ → Bool
ok_value value = value ≤? 4294967295

-- "Keys 0..255"
abbrev pub ok_operation : Operation → Bool
ok_operation (get key) = key ≤? 255
ok_operation (put key value) = key ≤? 255 && ok_value value

-- "c is 1..4"
unfoldable pub ok_operations : List Operation → Bool
ok_operations os = within 1 4 (length os) && every ok_operation os

-- "ack ≤ number, and number − ack ≤ 7"
unfoldable pub ok_write : Write → ℕ → Bool
ok_write w ack = ok_client w.client && ok_number w.number && ack ≤? w.number && w.number ≤? ack + 7 && ok_operations w.operations

-- "Places rise strictly", the first at least p; "place 0..3"
abbrev pub rising : ℕ → List ℕ → Bool
rising p [] = true
rising p (q ∷ qs) = within p 3 q && rising (suc q) qs

-- "c is 1..4", of placed operations
unfoldable pub ok_placed : List Placed → Bool
ok_placed xs = within 1 4 (length xs) && rising 0 (map (λ (x : Placed). x.place) xs) && every (λ x. ok_operation x.operation) xs

abbrev pub ok_seen : Option ℕ → Bool
ok_seen none = true
ok_seen (some value) = ok_value value

-- "r is 0..4"
unfoldable pub ok_reads : List Read → Bool
ok_reads rs = length rs ≤? 4 && rising 0 (map (λ (r : Read). r.place) rs) && every (λ r. ok_seen r.value) rs

-- "Shard is 1..8, sn 1..256, log number 0..255"; whose shard or client it is, is no rule of frames but refusal 2
unfoldable pub obeys : Frame → Bool
obeys (submit w ack) = ok_write w ack
obeys (forward ind w ack) = ok_ind ind && ok_write w ack
obeys (shard_append j ind sn xs) = within 1 8 j && ok_ind ind && within 1 256 sn && ok_placed xs
obeys (exec_notif j ind rs) = within 1 8 j && ok_ind ind && ok_reads rs
obeys (executed ind rs) = ok_ind ind && ok_reads rs
obeys (response client number rs) = ok_client client && ok_number number && ok_reads rs

-- ---- A frame's bytes

-- numbers of two and of four bytes, little-endian
abbrev pub two : ℕ → List ℕ
two x = x % 256 ∷ x / 256 % 256 ∷ []

abbrev pub four : ℕ → List ℕ
four x = two x ++ two (x / 65536)

-- "0 get or 1 put (1), key (1), value (4; 0 for get)"
abbrev pub operation_bytes : Operation → List ℕ
operation_bytes (get key) = 0 ∷ key ∷ four 0
operation_bytes (put key value) = 1 ∷ key ∷ four value

-- "A placed operation has its place 0..3 (1) before it"
abbrev pub placed_bytes : Placed → List ℕ
placed_bytes x = x.place ∷ operation_bytes x.operation

-- "place (1), present 0 or 1 (1), value (4; 0 if absent)"
abbrev pub seen_bytes : Option ℕ → List ℕ
seen_bytes none = 0 ∷ four 0
seen_bytes (some value) = 1 ∷ four value

abbrev pub read_bytes : Read → List ℕ
read_bytes r = r.place ∷ seen_bytes r.value

-- the bytes of each, back to back
abbrev pub back_to_back : {A : Type 0} → (A → List ℕ) → List A → List ℕ
back_to_back bytes [] = []
back_to_back bytes (x ∷ xs) = bytes x ++ back_to_back bytes xs

-- "Each list begins with a one-byte count"
abbrev pub list_bytes : {A : Type 0} → (A → List ℕ) → List A → List ℕ
list_bytes bytes xs = length xs ∷ back_to_back bytes xs

-- "client 1, number 2, ack 2, operations"
abbrev pub write_bytes : Write → ℕ → List ℕ
write_bytes w ack = w.client ∷ two w.number ++ two ack ++ list_bytes operation_bytes w.operations

-- the columns "kind" and "body" of the table
abbrev pub kind_of : Frame → ℕ
kind_of (submit w ack) = 1
kind_of (forward ind w ack) = 2
kind_of (shard_append j ind sn xs) = 3
kind_of (exec_notif j ind rs) = 4
kind_of (executed ind rs) = 5
kind_of (response client number rs) = 6

abbrev pub body_of : Frame → List ℕ
body_of (submit w ack) = write_bytes w ack
body_of (forward ind w ack) = two ind ++ write_bytes w ack
body_of (shard_append j ind sn xs) = j ∷ two ind ++ two sn ++ list_bytes placed_bytes xs
body_of (exec_notif j ind rs) = j ∷ two ind ++ list_bytes read_bytes rs
body_of (executed ind rs) = two ind ++ list_bytes read_bytes rs
body_of (response client number rs) = client ∷ two number ++ list_bytes read_bytes rs

-- "The length counts what follows it"
abbrev pub with_length : List ℕ → List ℕ
with_length rest = two (length rest) ++ rest

-- what stands between the length and the body, and how many bytes that is
abbrev pub header_of : Frame → List ℕ
header_of f = two (kind_of f)

abbrev pub header_width : ℕ
header_width = 2

-- "a two-byte length, a two-byte kind and a body, all little-endian"
unfoldable pub encode : Frame → List ℕ
encode f = with_length (header_of f ++ body_of f)

-- the column "length" of the table; encode agrees with it: length_column, in proofs/Frames
abbrev pub length_of : Frame → ℕ
length_of (submit w ack) = 8 + 6 * length w.operations
length_of (forward ind w ack) = 10 + 6 * length w.operations
length_of (shard_append j ind sn xs) = 8 + 7 * length xs
length_of (exec_notif j ind rs) = 6 + 6 * length rs
length_of (executed ind rs) = 5 + 6 * length rs
length_of (response client number rs) = 6 + 6 * length rs

-- ---- The reading of bytes
-- The only frame that some bytes can spell is made; it is read if it obeys the rules and these are its bytes, otherwise nothing is.
-- So decode s ≡ some f exactly if f obeys the rules and encode f ≡ s: decode_exactly, in proofs/Frames.

-- past the end a byte counts as 0
abbrev pub byte_at : List ℕ → ℕ → ℕ
byte_at s i = get_or s i 0

abbrev pub two_at : List ℕ → ℕ → ℕ
two_at s i = byte_at s i + 256 * byte_at s (i + 1)

abbrev pub four_at : List ℕ → ℕ → ℕ
four_at s i = two_at s i + 65536 * two_at s (i + 2)

-- the item with which some bytes begin
abbrev pub first_operation : List ℕ → Operation
first_operation s = If byte_at s 0 =? 0 then get (byte_at s 1) else put (byte_at s 1) (four_at s 2)

abbrev pub first_placed : List ℕ → Placed
first_placed s = record { place = byte_at s 0; operation = first_operation (drop 1 s) }

abbrev pub first_read : List ℕ → Read
first_read s = record { place = byte_at s 0; value = If byte_at s 1 =? 0 then none else some (four_at s 2) }

-- so many items of a width, and the list whose count stands at i
abbrev pub items : {A : Type 0} → (List ℕ → A) → ℕ → ℕ → List ℕ → List A
items first width zero s = []
items first width (suc count) s = first s ∷ items first width count (drop width s)

abbrev pub list_at : {A : Type 0} → (List ℕ → A) → ℕ → List ℕ → ℕ → List A
list_at first width s i = items first width (byte_at s i) (drop (suc i) s)

abbrev pub operations_at : List ℕ → ℕ → List Operation
operations_at = list_at first_operation 6

abbrev pub placed_at : List ℕ → ℕ → List Placed
placed_at = list_at first_placed 7

abbrev pub reads_at : List ℕ → ℕ → List Read
reads_at = list_at first_read 6

-- client, number and operations from i on; the ack stands between, at i + 3
abbrev pub write_at : List ℕ → ℕ → Write
write_at s i = record { client = byte_at s i; number = two_at s (i + 1); operations = operations_at s (i + 5) }

-- "The two-byte kind decides the body's layout"
unfoldable pub candidate : ℕ → List ℕ → Option Frame
candidate kind body =
    If kind =? 1 then some (submit (write_at body 0) (two_at body 3)) else
    If kind =? 2 then some (forward (two_at body 0) (write_at body 2) (two_at body 5)) else
    If kind =? 3 then some (shard_append (byte_at body 0) (two_at body 1) (two_at body 3) (placed_at body 5)) else
    If kind =? 4 then some (exec_notif (byte_at body 0) (two_at body 1) (reads_at body 3)) else
    If kind =? 5 then some (executed (two_at body 0) (reads_at body 2)) else
    If kind =? 6 then some (response (byte_at body 0) (two_at body 1) (reads_at body 3)) else
    none

-- a frame that obeys the rules, with these bytes and no other: "Nothing may follow a frame"
unfoldable pub spelled : List ℕ → Option Frame → Option Frame
spelled s none = none
spelled s (some f) = If obeys f && same (encode f) s then some f else none

-- the kind stands behind the length, the body behind the header
unfoldable pub decode : List ℕ → Option Frame
decode s = spelled s (candidate (two_at s 2) (drop (2 + header_width) s))
