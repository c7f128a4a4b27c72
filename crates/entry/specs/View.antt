-- What an entry's record means in the rules' words, and what holds of every entry that a board keeps.
-- Assumes nothing.
use Rattle.std.specs.Prelude.{◌≡◌, Bool, true, false, not, ◌&&◌, List, [], ◌∷◌, ℕ, zero, suc, ◌<◌, T, length, get_or}
use Rattle.std.proofs.Math.Option.{Option, none, some}
use Rattle.rules.specs.Lists.{If◌then◌else◌, at, has}
use Rattle.rules.specs.Transactions.{Operation, get, put, Write, key_of, shard_of, placed, keep, gather}
use Rattle.rules.specs.Board as B
use Rattle.rules.specs.Board.{PRE, EXE}
use Rattle.rules.specs.Kept.{EntryKept}
use Rattle.frames.specs.declared.Item.{Item}
use Rattle.frames.specs.declared.Shape.TheVariants.{Operation as AnOperation, Read as ARead}
use Rattle.frames.specs.Frames.{no_item, ok_item, ok_items}
use Rattle.frames.specs.View.{as_read, operations_of, CanonItem, Canon}
use Rattle.entry.specs.declared.Entry.{Entry}
use Rattle.entry.specs.Model.{in_mask}

-- ---- Sets of shards

-- so many shards, the first given, as far as they are in the mask
abbrev pub set_from : ℕ → ℕ → ℕ → List ℕ
set_from zero shard mask = []
set_from (suc k) shard mask = If in_mask mask shard then shard ∷ set_from k (suc shard) mask else set_from k (suc shard) mask

-- the shards of a mask, rising
unfoldable pub set_of : ℕ → List ℕ
set_of mask = set_from 8 1 mask

-- ---- Reads by place

-- what the slot of a place says that its get saw
abbrev pub saw : List Item → ℕ → Option ℕ
saw slots p = (as_read (get_or slots p no_item)).value

-- a key whose shard remains no more
abbrev pub heard_key : ℕ → List ℕ → ℕ → Bool
heard_key m remaining key = not (has (shard_of m key) remaining)

-- ---- The entry

unfoldable pub write_of : Entry → Write
write_of e = record { client = e.client; number = e.number; operations = operations_of e.count e.items }

-- the reads are those of the gets on shards that remain no more
unfoldable pub view_entry : ℕ → Entry → B.Entry
view_entry m e =
    record {
      write = write_of e;
      status = If e.exe then EXE else PRE;
      reads = gather (keep (heard_key m (set_of e.remaining)) (placed 0 (operations_of e.count e.items))) (saw e.reads);
      remaining = set_of e.remaining;
    }

-- a slot has the read of its place, as a frame carries it
pub record ReadOf (p : ℕ) (x : Item) : Type 0 where
  pub place : x.place ≡ p
  pub ok : T (ok_item x)
  pub canon : CanonItem ARead p x

abbrev pub is_get : Operation → Bool
is_get (get key) = true
is_get (put key value) = false

-- whether the operation at a place is a get that was answered
abbrev pub answered_get : ℕ → List ℕ → Option Operation → Bool
answered_get m remaining none = false
answered_get m remaining (some o) = is_get o && heard_key m remaining (key_of o)

-- What every new entry is and every change keeps: the operations as a frame carries them, four slots of each, a byte of shards, in the
-- slot of every get that was answered its read, zero in every other, and what the rules keep of an entry.
pub record EntryHeld (m : ℕ) (e : Entry) : Type 0 where
  pub slots : length e.items ≡ 4
  pub items : T (ok_items e.count e.items)
  pub canon : Canon AnOperation e.count e.items
  pub places : length e.reads ≡ 4
  pub answered : (p : ℕ) (o : Operation) → at (operations_of e.count e.items) p ≡ some o → T (is_get o) → T (heard_key m (set_of e.remaining) (key_of o))
      → ReadOf p (get_or e.reads p no_item)
  pub unanswered : (p : ℕ) → T (not (answered_get m (set_of e.remaining) (at (operations_of e.count e.items) p))) → get_or e.reads p no_item ≡ no_item
  pub byte : e.remaining < 256
  pub kept : EntryKept m (view_entry m e)
