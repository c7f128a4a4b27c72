-- What the records mean in the rules' words, and the records of what the rules speak of.
-- Assumes nothing.
use Rattle.std.specs.Prelude.{◌≡◌, List, [], ◌∷◌, map, ℕ, zero, suc, ◌<◌, length, take, get_or}
use Rattle.std.proofs.Math.Option.{Option, none, some}
use Rattle.rules.specs.Lists.{If◌then◌else◌, ◌=?◌}
use Rattle.rules.specs.Answers.{done, breaks_rule}
use Rattle.rules.specs.Transactions as R
use Rattle.rules.specs.Transactions.{get, put}
use Rattle.rules.specs.Frames as F
use Rattle.rules.specs.Frames.{submit, forward, shard_append, exec_notif, executed, response}
use Rattle.frames.specs.declared.Item.{Item}
use Rattle.frames.specs.declared.Shape.{Shape}
use Rattle.frames.specs.declared.Shape.TheVariants.{Operation, Placed, Read}
use Rattle.frames.specs.declared.Head.{Head}
use Rattle.frames.specs.declared.Head.TheVariants.{Bad, Submit, Forward, ShardAppend, ExecNotif, Executed, Response}
use Rattle.frames.specs.declared.Frame.{Frame}
use Rattle.frames.specs.Frames.{no_item, shape_of}

-- ---- The last log number taken or run, kept in one word: 0 is none, else it is the number and one

abbrev pub view_last : ℕ → Option ℕ
view_last zero = none
view_last (suc ind) = some ind

-- ---- Items

-- "0 get or 1 put"
abbrev pub as_operation : Item → R.Operation
as_operation x = If x.code =? 0 then get x.key else put x.key x.value

abbrev pub as_placed : Item → R.Placed
as_placed x = record { place = x.place; operation = as_operation x }

-- "present 0 or 1"
abbrev pub as_read : Item → R.Read
as_read x = record { place = x.place; value = If x.code =? 0 then none else some x.value }

-- the lists that the first `count` items mean
abbrev pub operations_of : ℕ → List Item → List R.Operation
operations_of count items = map as_operation (take count items)

abbrev pub placed_of : ℕ → List Item → List R.Placed
placed_of count items = map as_placed (take count items)

abbrev pub reads_of : ℕ → List Item → List R.Read
reads_of count items = map as_read (take count items)

-- ---- Frames

-- 01's number for what was read: refusal 1, or none
abbrev pub answer_of : Head → ℕ
answer_of Bad = breaks_rule
answer_of (Submit client number ack) = done
answer_of (Forward log-number client number ack) = done
answer_of (ShardAppend shard log-number sn) = done
answer_of (ExecNotif shard log-number) = done
answer_of (Executed log-number) = done
answer_of (Response client number) = done

-- 01's number where the rules read this
abbrev pub answer_to : Option F.Frame → ℕ
answer_to none = breaks_rule
answer_to (some g) = done

-- the rules' frame with these fields and items; none for the refusal
abbrev pub meant : Head → ℕ → List Item → Option F.Frame
meant Bad count items = none
meant (Submit client number ack) count items = some (submit (record { client = client; number = number; operations = operations_of count items }) ack)
meant (Forward log-number client number ack) count items = some (forward log-number (record { client = client; number = number; operations = operations_of count items }) ack)
meant (ShardAppend shard log-number sn) count items = some (shard_append shard log-number sn (placed_of count items))
meant (ExecNotif shard log-number) count items = some (exec_notif shard log-number (reads_of count items))
meant (Executed log-number) count items = some (executed log-number (reads_of count items))
meant (Response client number) count items = some (response client number (reads_of count items))

unfoldable pub meaning : Frame → Option F.Frame
meaning f = meant f.head f.list.count f.list.items

-- the bytes of what a record means; of the refusal none
abbrev pub encoded : Option F.Frame → List ℕ
encoded none = []
encoded (some g) = F.encode g

-- ---- Records as they lie: an operation's place is its index, a read has no key, keys and values have their size,
-- and the slots past the count are zero. What is read is so; what is written must be, for the bytes to say all of it.

abbrev pub Sized : Item → Type 0
Sized x = (x.key < 256) × (x.value < 4294967296)

abbrev pub CanonItem : Shape → ℕ → Item → Type 0
CanonItem Operation i x = (x.place ≡ i) × Sized x
CanonItem Placed i x = Sized x
CanonItem Read i x = (x.key ≡ 0) × Sized x

-- the items of a list from the i-th on, of which so many are still to come
abbrev pub CanonFrom : Shape → ℕ → ℕ → List Item → Type 0
CanonFrom shape i count [] = Unit
CanonFrom shape i zero (x ∷ xs) = (x ≡ no_item) × CanonFrom shape (suc i) zero xs
CanonFrom shape i (suc count) (x ∷ xs) = CanonItem shape i x × CanonFrom shape (suc i) count xs

abbrev pub Canon : Shape → ℕ → List Item → Type 0
Canon shape count items = CanonFrom shape 0 count items

abbrev pub CanonFrame : Frame → Type 0
CanonFrame f = (length f.list.items ≡ 4) × Canon (shape_of f.head) f.list.count f.list.items

-- ---- The record of a frame of the rules

abbrev pub operation_item : ℕ → R.Operation → Item
operation_item place (get key) = record { place = place; code = 0; key = key; value = 0 }
operation_item place (put key value) = record { place = place; code = 1; key = key; value = value }

abbrev pub operation_items : ℕ → List R.Operation → List Item
operation_items place [] = []
operation_items place (o ∷ os) = operation_item place o ∷ operation_items (suc place) os

abbrev pub placed_item : R.Placed → Item
placed_item x = operation_item x.place x.operation

abbrev pub seen_item : ℕ → Option ℕ → Item
seen_item place none = record { place = place; code = 0; key = 0; value = 0 }
seen_item place (some value) = record { place = place; code = 1; key = 0; value = value }

abbrev pub read_item : R.Read → Item
read_item r = seen_item r.place r.value

-- so many slots, the first ones filled
abbrev pub filled : ℕ → List Item → List Item
filled zero xs = []
filled (suc k) [] = no_item ∷ filled k []
filled (suc k) (x ∷ xs) = x ∷ filled k xs

abbrev pub record_of : F.Frame → Frame
record_of (submit w ack) =
    record { head = Submit w.client w.number ack; list = record { count = length w.operations; items = filled 4 (operation_items 0 w.operations) } }
record_of (forward ind w ack) =
    record { head = Forward ind w.client w.number ack; list = record { count = length w.operations; items = filled 4 (operation_items 0 w.operations) } }
record_of (shard_append j ind sn xs) = record { head = ShardAppend j ind sn; list = record { count = length xs; items = filled 4 (map placed_item xs) } }
record_of (exec_notif j ind rs) = record { head = ExecNotif j ind; list = record { count = length rs; items = filled 4 (map read_item rs) } }
record_of (executed ind rs) = record { head = Executed ind; list = record { count = length rs; items = filled 4 (map read_item rs) } }
record_of (response client number rs) = record { head = Response client number; list = record { count = length rs; items = filled 4 (map read_item rs) } }

-- each element of a list is a byte
abbrev pub Bytes : List ℕ → Type 0
Bytes s = (i : ℕ) → get_or s i 0 < 256
