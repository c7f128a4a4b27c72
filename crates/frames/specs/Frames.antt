-- The frames as records: the bytes of a record, the tests that a record passes, and the record that some bytes are read as.
-- Numbers and their bytes are the rules' own (two, four, byte_at, two_at, four_at). Assumes nothing.
use Rattle.std.specs.Prelude.{Bool, true, false, ◌&&◌, ◌||◌, Option, None, Some, List, [], ◌∷◌, ◌++◌, ℕ, zero, suc, ◌+◌, ◌*◌, ◌-◌, length, take, drop, ◌≡◌}
use Rattle.std.proofs.lemmas.List.Edits.{sets}
use Rattle.rules.specs.Lists.{If◌then◌else◌, ◌<?◌, ◌≤?◌, ◌=?◌, within}
use Rattle.rules.specs.Frames.{ok_client, ok_number, ok_ind, two, four, byte_at, two_at, four_at, header_width, back_to_back}
use Rattle.frames.specs.declared.Item.{Item}
use Rattle.frames.specs.declared.Items.{Items}
use Rattle.frames.specs.declared.Shape.{Shape}
use Rattle.frames.specs.declared.Shape.TheVariants.{Operation, Placed, Read}
use Rattle.frames.specs.declared.Head.{Head}
use Rattle.frames.specs.declared.Head.TheVariants.{Bad, Submit, Forward, ShardAppend, ExecNotif, Executed, Response}
use Rattle.frames.specs.declared.Frame.{Frame}
use Rattle.frames.specs.declared.Front.{Front}
use Rattle.frames.specs.declared.Writer.{Writer}

-- ---- The table of kinds

-- a refused frame has no kind, no fields and no bytes
abbrev pub kind_of : Head → ℕ
kind_of Bad = 0
kind_of (Submit client number ack) = 1
kind_of (Forward log-number client number ack) = 2
kind_of (ShardAppend shard log-number sn) = 3
kind_of (ExecNotif shard log-number) = 4
kind_of (Executed log-number) = 5
kind_of (Response client number) = 6

abbrev pub field_bytes : Head → List ℕ
field_bytes Bad = []
field_bytes (Submit client number ack) = client ∷ two number ++ two ack
field_bytes (Forward log-number client number ack) = two log-number ++ (client ∷ two number ++ two ack)
field_bytes (ShardAppend shard log-number sn) = shard ∷ two log-number ++ two sn
field_bytes (ExecNotif shard log-number) = shard ∷ two log-number
field_bytes (Executed log-number) = two log-number
field_bytes (Response client number) = client ∷ two number

-- how many bytes the fields are
abbrev pub field_width : Head → ℕ
field_width Bad = 0
field_width (Submit client number ack) = 5
field_width (Forward log-number client number ack) = 7
field_width (ShardAppend shard log-number sn) = 5
field_width (ExecNotif shard log-number) = 3
field_width (Executed log-number) = 2
field_width (Response client number) = 3

abbrev pub shape_of : Head → Shape
shape_of Bad = Operation
shape_of (Submit client number ack) = Operation
shape_of (Forward log-number client number ack) = Operation
shape_of (ShardAppend shard log-number sn) = Placed
shape_of (ExecNotif shard log-number) = Read
shape_of (Executed log-number) = Read
shape_of (Response client number) = Read

abbrev pub is_bad : Head → Bool
is_bad Bad = true
is_bad (Submit client number ack) = false
is_bad (Forward log-number client number ack) = false
is_bad (ShardAppend shard log-number sn) = false
is_bad (ExecNotif shard log-number) = false
is_bad (Executed log-number) = false
is_bad (Response client number) = false

-- how many bytes an item is
abbrev pub width : Shape → ℕ
width Operation = 6
width Placed = 7
width Read = 6

-- ---- A record's bytes

abbrev pub item_bytes : Shape → Item → List ℕ
item_bytes Operation x = x.code ∷ x.key ∷ four x.value
item_bytes Placed x = x.place ∷ x.code ∷ x.key ∷ four x.value
item_bytes Read x = x.place ∷ x.code ∷ four x.value

abbrev pub items_bytes : Shape → List Item → List ℕ
items_bytes shape [] = []
items_bytes shape (x ∷ xs) = item_bytes shape x ++ items_bytes shape xs

-- "Each list begins with a one-byte count"
abbrev pub list_bytes : Shape → ℕ → List Item → List ℕ
list_bytes shape count items = count ∷ items_bytes shape (take count items)

-- what stands between the length and the fields
abbrev pub header_bytes : ℕ → List ℕ
header_bytes kind = two kind

-- the length field: "The length counts what follows it"
abbrev pub len_of : Head → ℕ → ℕ
len_of head count = header_width + field_width head + 1 + width (shape_of head) * count

-- length, header, fields, list
abbrev pub framed : ℕ → Head → ℕ → List Item → List ℕ
framed len head count items = two len ++ (header_bytes (kind_of head) ++ (field_bytes head ++ list_bytes (shape_of head) count items))

unfoldable pub frame_bytes : Frame → List ℕ
frame_bytes f = If is_bad f.head then [] else framed (len_of f.head f.list.count) f.head f.list.count f.list.items

-- ---- The tests of "Sizes" and "Frames"

-- "0 get or 1 put", "present 0 or 1", "value (.. 0 for get)", "0 if absent"; places up to 3
abbrev pub ok_item : Item → Bool
ok_item x = x.place ≤? 3 && x.code ≤? 1 && (1 ≤? x.code || x.value =? 0)

-- count items are there, each is right, and their places rise strictly, the first at least p
abbrev pub ok_from : ℕ → ℕ → List Item → Bool
ok_from p zero xs = true
ok_from p (suc count) [] = false
ok_from p (suc count) (x ∷ xs) = p ≤? x.place && ok_item x && ok_from (suc x.place) count xs

abbrev pub ok_items : ℕ → List Item → Bool
ok_items count xs = ok_from 0 count xs

-- "ack ≤ number, and number − ack ≤ 7"
abbrev pub ok_window : ℕ → ℕ → Bool
ok_window number ack = ok_number number && ack ≤? number && number ≤? ack + 7

-- the fields, and "c is 1..4" at its lower end
abbrev pub ok_head : Head → ℕ → Bool
ok_head Bad count = false
ok_head (Submit client number ack) count = 1 ≤? count && ok_client client && ok_window number ack
ok_head (Forward log-number client number ack) count = 1 ≤? count && ok_ind log-number && ok_client client && ok_window number ack
ok_head (ShardAppend shard log-number sn) count = 1 ≤? count && within 1 8 shard && ok_ind log-number && within 1 256 sn
ok_head (ExecNotif shard log-number) count = within 1 8 shard && ok_ind log-number
ok_head (Executed log-number) count = ok_ind log-number
ok_head (Response client number) count = ok_client client && ok_number number

unfoldable pub valid : Frame → Bool
valid f = ok_head f.head f.list.count && ok_items f.list.count f.list.items

-- ---- Bytes as a record

abbrev pub no_item : Item
no_item = record { place = 0; code = 0; key = 0; value = 0 }

-- refusal 1
unfoldable pub bad_frame : Frame
bad_frame = record { head = Bad; list = record { count = 0; items = no_item ∷ no_item ∷ no_item ∷ no_item ∷ [] } }

-- item i of a list, its bytes from `at` on; an operation's place is its index, a read has no key
abbrev pub item_at : Shape → ℕ → List ℕ → ℕ → Item
item_at Operation i s at = record { place = i; code = byte_at s at; key = byte_at s (at + 1); value = four_at s (at + 2) }
item_at Placed i s at = record { place = byte_at s at; code = byte_at s (at + 1); key = byte_at s (at + 2); value = four_at s (at + 3) }
item_at Read i s at = record { place = byte_at s at; code = byte_at s (at + 1); key = 0; value = four_at s (at + 2) }

-- slots past the count are zero
abbrev pub slot_at : Shape → ℕ → ℕ → List ℕ → ℕ → Item
slot_at shape i count s at = If i <? count then item_at shape i s at else no_item

-- k slots from the i-th on, the first at `at`
abbrev pub slots : Shape → ℕ → ℕ → ℕ → List ℕ → ℕ → List Item
slots shape i zero count s at = []
slots shape i (suc k) count s at = slot_at shape i count s at ∷ slots shape (suc i) k count s (at + width shape)

-- the fields of each kind, by their places in the body
abbrev pub read_submit : List ℕ → Head
read_submit body = Submit (byte_at body 0) (two_at body 1) (two_at body 3)

abbrev pub read_forward : List ℕ → Head
read_forward body = Forward (two_at body 0) (byte_at body 2) (two_at body 3) (two_at body 5)

abbrev pub read_shard_append : List ℕ → Head
read_shard_append body = ShardAppend (byte_at body 0) (two_at body 1) (two_at body 3)

abbrev pub read_exec_notif : List ℕ → Head
read_exec_notif body = ExecNotif (byte_at body 0) (two_at body 1)

abbrev pub read_executed : List ℕ → Head
read_executed body = Executed (two_at body 0)

abbrev pub read_response : List ℕ → Head
read_response body = Response (byte_at body 0) (two_at body 1)

-- "The two-byte kind decides the body's layout"
unfoldable pub head_of : ℕ → List ℕ → Head
head_of kind body =
    If kind =? 1 then read_submit body else
    If kind =? 2 then read_forward body else
    If kind =? 3 then read_shard_append body else
    If kind =? 4 then read_exec_notif body else
    If kind =? 5 then read_executed body else
    If kind =? 6 then read_response body else
    Bad

-- a list: its count at `at`, its items behind it
abbrev pub list_at : Shape → List ℕ → ℕ → Items
list_at shape s at = record { count = byte_at s at; items = slots shape 0 4 (byte_at s at) s (at + 1) }

-- fields and the list behind them
unfoldable pub listed : Head → List ℕ → Frame
listed head body = record { head = head; list = list_at (shape_of head) body (field_width head) }

-- the body stands behind length and header
abbrev pub body_at : ℕ
body_at = 2 + header_width

-- the only frame that some bytes can begin with
unfoldable pub candidate_of : List ℕ → Frame
candidate_of s = listed (head_of (two_at s 2) (drop body_at s)) (drop body_at s)

-- the frame is right, the length field is its own, and its bytes are there
abbrev pub taken : Frame → List ℕ → Bool
taken f s = valid f && two_at s 0 =? len_of f.head f.list.count && len_of f.head f.list.count + 2 ≤? length s

unfoldable pub accept : Frame → List ℕ → Option Front
accept f s = If taken f s then Some (record { frame = f; end = len_of f.head f.list.count + 2 }) else None

-- the frame with which some bytes begin, and where it ends
unfoldable pub read_front : List ℕ → Option Front
read_front s = accept (candidate_of s) s

-- the frame of a front that ends where n bytes do
abbrev pub alone : ℕ → Option Front → Frame
alone n None = bad_frame
alone n (Some r) = If r.end =? n then r.frame else bad_frame

-- "Nothing may follow a frame"
unfoldable pub read_frame : List ℕ → Frame
read_frame s = alone (length s) (read_front s)

-- ---- A record laid into an out area

-- some bytes were stored from `at` on, and they end at `end`
pub record Put (before after : List ℕ) (at end : ℕ) (bytes : List ℕ) : Type 0 where
  pub stored : after ≡ sets before at bytes
  pub ended : end ≡ at + length bytes

-- a writer stored some bytes behind what it had written, in the same area
pub record Writes (before after : Writer) (bytes : List ℕ) : Type 0 where
  pub same_area : after.out.ghost_name ≡ before.out.ghost_name
  pub put : Put before.out.now after.out.now before.at after.at bytes

-- a frame is written if it has at most four items and its bytes have room
unfoldable pub fits : Frame → ℕ → Bool
fits f room = f.list.count ≤? 4 && length (frame_bytes f) ≤? room

-- how many bytes are written
unfoldable pub written_of : Frame → ℕ → ℕ
written_of f room = If fits f room then length (frame_bytes f) else 0

-- the out area afterwards: the frame's bytes from the first on and all others as they were, or no byte written
unfoldable pub laid_of : Frame → List ℕ → List ℕ
laid_of f out = If fits f (length out) then frame_bytes f ++ drop (length (frame_bytes f)) out else out

-- a frame written behind what stands in the first `at` bytes: where its bytes end, and the out area afterwards
unfoldable pub end_of : Frame → ℕ → ℕ → ℕ
end_of f at room = If at ≤? room then at + written_of f (room - at) else at

unfoldable pub laid_behind : Frame → ℕ → List ℕ → List ℕ
laid_behind f at out = If at ≤? length out then take at out ++ laid_of f (drop at out) else out

-- the bytes of frames back to back
abbrev pub frames_bytes : List Frame → List ℕ
frames_bytes fs = back_to_back frame_bytes fs
