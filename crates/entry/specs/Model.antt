-- What each function of the crate gives, on the records as they lie: every field and every element is determined, for
-- every input. What it means in the rules' words is in View.
-- Assumes nothing.
use Rattle.std.specs.Prelude.{◌≡◌, Bool, true, false, not, ◌&&◌, List, [], ◌∷◌, ◌++◌, ℕ, ◌+◌, ◌-◌, ◌/◌, ◌%◌, ◌^◌, length, set, take, replicate}
use Rattle.rules.specs.Lists.{If◌then◌else◌, ◌=?◌, within}
use Rattle.rules.specs.Transactions.{shard_of}
use Rattle.frames.specs.declared.Item.{Item}
use Rattle.frames.specs.Frames.{no_item}
use Rattle.entry.specs.declared.Entry.{Entry}
use Rattle.frames.specs.declared.Items.{Items}

-- ---- Sets of shards, 1..8, as one byte

-- shift by shard minus one
abbrev pub bit_of : ℕ → ℕ
bit_of shard = 2 ^ (shard - 1)

unfoldable pub in_mask : ℕ → ℕ → Bool
in_mask mask shard = within 1 8 shard && mask / bit_of shard % 2 =? 1

-- there is no shard 0, nor one above 8
unfoldable pub insert_of : ℕ → ℕ → ℕ
insert_of mask shard = If within 1 8 shard && not (in_mask mask shard) then mask + bit_of shard else mask

unfoldable pub strike_of : ℕ → ℕ → ℕ
strike_of mask shard = If in_mask mask shard then mask - bit_of shard else mask

abbrev pub is_empty_of : ℕ → Bool
is_empty_of mask = mask =? 0

-- ---- Keys and shards

-- without shards a key belongs to none, 0
unfoldable pub shard_number : ℕ → ℕ → ℕ
shard_number m key = If m =? 0 then 0 else shard_of m key

abbrev pub touched_mask : ℕ → List Item → ℕ
touched_mask m [] = 0
touched_mask m (x ∷ xs) = insert_of (touched_mask m xs) (shard_number m x.key)

unfoldable pub touched_of : ℕ → ℕ → List Item → ℕ
touched_of m count items = touched_mask m (take count items)

-- ---- Parts of a list

-- some items, at most 4, in the first slots; the others are zero
abbrev pub part_of : List Item → Items
part_of xs = record { count = length xs; items = xs ++ replicate (4 - length xs) no_item }

abbrev pub no_part : Items
no_part = part_of []

-- those of ys that stand beside an item of xs that passes a test
abbrev pub beside : (Item → Bool) → List Item → List Item → List Item
beside ok [] ys = []
beside ok (x ∷ xs) [] = []
beside ok (x ∷ xs) (y ∷ ys) = If ok x then y ∷ beside ok xs ys else beside ok xs ys

-- the part is those of ys that stand beside an item of xs that passes a test, of which only what a call of it gives is known
abbrev pub PicksBeside : (Item → Bool → Type 0) → List Item → List Item → Items → Type 0
PicksBeside gives xs ys part = (ok : Item → Bool) → ((x : Item) (r : Bool) → gives x r → r ≡ ok x) → part ≡ part_of (beside ok xs ys)

abbrev pub is_on : ℕ → ℕ → Item → Bool
is_on m shard x = shard_number m x.key =? shard

abbrev pub is_get : Item → Bool
is_get x = x.code =? 0

-- those of the first count that pass a test
abbrev pub chosen : (Item → Bool) → ℕ → List Item → List Item
chosen ok count items = beside ok (take count items) items

unfoldable pub part_on : ℕ → ℕ → ℕ → List Item → Items
part_on m shard count items = part_of (chosen (is_on m shard) count items)

unfoldable pub gets_of : ℕ → List Item → Items
gets_of count items = part_of (chosen is_get count items)

-- ---- The same operations, the same places

-- two lists agree, item by item
abbrev pub agree : (Item → Item → Bool) → List Item → List Item → Bool
agree same [] [] = true
agree same [] (y ∷ ys) = false
agree same (x ∷ xs) [] = false
agree same (x ∷ xs) (y ∷ ys) = same x y && agree same xs ys

-- two lists are as long and agree by a comparison, of which only what a call of it gives is known
abbrev pub ComparesBy : (Item → Item → Bool → Type 0) → Items → Items → Bool → Type 0
ComparesBy gives a b r =
    (same : Item → Item → Bool) → ((x y : Item) (s : Bool) → gives x y s → s ≡ same x y)
    → r ≡ (a.count =? b.count && agree same (take a.count a.items) (take b.count b.items))

abbrev pub same_operation : Item → Item → Bool
same_operation x y = x.code =? y.code && x.key =? y.key && x.value =? y.value

unfoldable pub same_operations_of : ℕ → List Item → ℕ → List Item → Bool
same_operations_of count xs other ys = count =? other && agree same_operation (take count xs) (take other ys)

abbrev pub same_place : Item → Item → Bool
same_place x y = x.place =? y.place

unfoldable pub fits_of : ℕ → List Item → ℕ → List Item → Bool
fits_of count items read_count reads =
    length (chosen is_get count items) =? read_count && agree same_place (chosen is_get count items) (take read_count reads)

-- ---- Reads

-- each read at its place; there is no place above 3
abbrev pub stored_all : List Item → List Item → List Item
stored_all reads [] = reads
stored_all reads (r ∷ rs) = stored_all (set reads r.place r) rs

unfoldable pub stored_of : List Item → ℕ → List Item → List Item
stored_of reads count rs = stored_all reads (take count rs)

-- a get whose shard was heard from
abbrev pub answered_of : ℕ → ℕ → Item → Bool
answered_of m left x = is_get x && not (in_mask left (shard_number m x.key))

unfoldable pub reads_held : ℕ → Entry → Items
reads_held m e = part_of (beside (answered_of m e.remaining) (take e.count e.items) e.reads)

-- ---- Entries

-- the operations of an entry
abbrev pub list_of : Entry → Items
list_of e = record { count = e.count; items = e.items }

abbrev pub no_items : List Item
no_items = replicate 4 no_item

abbrev pub no_entry : Entry
no_entry = record { client = 0; number = 0; count = 0; items = no_items; exe = false; reads = no_items; remaining = 0 }

unfoldable pub new_entry_of : ℕ → ℕ → ℕ → ℕ → List Item → Entry
new_entry_of m client number count items =
    record { client = client; number = number; count = count; items = items; exe = false; reads = no_items; remaining = touched_of m count items }

unfoldable pub same_write_of : Entry → ℕ → ℕ → ℕ → List Item → Bool
same_write_of e client number count items =
    e.client =? client && e.number =? number && same_operations_of e.count e.items count items

unfoldable pub heard_from_of : Entry → ℕ → ℕ → List Item → Entry
heard_from_of e shard count rs =
    let left = strike_of e.remaining shard in
    record {
      client = e.client;
      number = e.number;
      count = e.count;
      items = e.items;
      exe = is_empty_of left;
      reads = stored_of e.reads count rs;
      remaining = left;
    }

unfoldable pub finished_of : Entry → ℕ → List Item → Entry
finished_of e count rs =
    record {
      client = e.client;
      number = e.number;
      count = e.count;
      items = e.items;
      exe = true;
      reads = stored_of no_items count rs;
      remaining = 0;
    }
