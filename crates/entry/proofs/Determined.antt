-- An entry is determined by what it means: two that are held and mean the same are the same, slot by slot.
-- Assumes nothing.
use mathlib.Core.Path.{◌≡◌, refl, sym, ap, ◌∙◌}
use mathlib.Core.Bool.{Bool, true, false, not, ◌&&◌}
use mathlib.Core.List.{List}
use mathlib.Core.Option.{Option, none, some}
use Prim.Native.Nat.{ℕ, ◌+◌}
use native.Mathlib.Omega.{arith}
use lib.Dec.{T}
use lib.ListN.{get_or}
use lib.Seq.{ext_get_or}
use Rattle.rules.specs.Lists.{at, has}
use Rattle.rules.specs.Transactions.{Operation, key_of, placed, keep, gather}
use Rattle.rules.specs.Board as B
use Rattle.rules.specs.Board.{is_exe}
use Rattle.rules.proofs.Lists.{and_l, and_r}
use Rattle.frames.specs.declared.Item.{Item}
use Rattle.frames.specs.Frames.{no_item}
use Rattle.frames.specs.View.{as_read, seen_item, operations_of}
use Rattle.frames.proofs.Slots.{read_made, same_operations_lem}
use Rattle.entry.specs.declared.Entry.{Entry}
use Rattle.entry.specs.View.{set_of, saw, heard_key, write_of, view_entry, is_get, ReadOf, answered_get, EntryHeld}
use Rattle.entry.proofs.Masks.{same_mask}
use Rattle.entry.proofs.Sets.{in_set}
use Rattle.entry.proofs.Entries.{exe_view}
use Rattle.entry.proofs.ByPlace.{told}

-- what holds of the slots of reads, over the operations and the shards that remain
record Slots (m : ℕ) (remaining : List ℕ) (os : List Operation) (xs : List Item) : Type 0 where
  answered : (p : ℕ) (o : Operation) → at os p ≡ some o → T (is_get o) → T (heard_key m remaining (key_of o)) → ReadOf p (get_or xs p no_item)
  unanswered : (p : ℕ) → T (not (answered_get m remaining (at os p))) → get_or xs p no_item ≡ no_item

slots_of_lem : (m : ℕ) (e : Entry) → EntryHeld m e → Slots m (set_of e.remaining) (operations_of e.count e.items) e.reads
slots_of_lem m e h = record { answered = h.answered; unanswered = h.unanswered }

-- a read is its place and what was seen
one_read : (p : ℕ) (x y : Item) → ReadOf p x → ReadOf p y → (as_read x).value ≡ (as_read y).value → x ≡ y
one_read p x y a b v = sym (read_made p x a.ok a.canon) ∙ (λ i. seen_item ((a.place ∙ sym b.place) i) (v i)) ∙ read_made p y b.ok b.canon

module _ (m : ℕ) (remaining : List ℕ) (os : List Operation) (xs ys : List Item) (a : Slots m remaining os xs) (b : Slots m remaining os ys)
    (e : gather (keep (heard_key m remaining) (placed 0 os)) (saw xs) ≡ gather (keep (heard_key m remaining) (placed 0 os)) (saw ys)) where
  slot_alike : (p : ℕ) → get_or xs p no_item ≡ get_or ys p no_item
  slot_alike p = go (at os p) refl
    where
      both : (o : Operation) → some o ≡ at os p → (t : Bool) → t ≡ (is_get o && heard_key m remaining (key_of o)) → get_or xs p no_item ≡ get_or ys p no_item
      both o q true u =
          let yes : T (is_get o && heard_key m remaining (key_of o)) = rw (← u) tt in
          let g = and_l (is_get o) (heard_key m remaining (key_of o)) yes in
          let h = and_r (is_get o) (heard_key m remaining (key_of o)) yes in
          let z : 0 + p ≡ p = omega arith in
          one_read p (get_or xs p no_item) (get_or ys p no_item) (a.answered p o (sym q) g h) (b.answered p o (sym q) g h) (rw z at (told (heard_key m remaining) (saw xs) (saw ys) 0 os e p o (sym q) g h))
      both o q false u =
          let none_there : T (not (answered_get m remaining (at os p))) = rw (← q, ← u) tt in
          a.unanswered p none_there ∙ sym (b.unanswered p none_there)

      go : (x : Option Operation) → x ≡ at os p → get_or xs p no_item ≡ get_or ys p no_item
      go none q = let none_there : T (not (answered_get m remaining (at os p))) = rw (← q) tt in a.unanswered p none_there ∙ sym (b.unanswered p none_there)
      go (some o) q = both o q (is_get o && heard_key m remaining (key_of o)) refl

pub determined : (m : ℕ) (e f : Entry) → EntryHeld m e → EntryHeld m f → view_entry m e ≡ view_entry m f → e ≡ f
unfolding view_entry write_of
determined m e f h k q =
    let ops : operations_of e.count e.items ≡ operations_of f.count f.items = ap (λ (x : B.Entry). x.write.operations) q in
    let items = same_operations_lem e.count f.count e.items f.items h.items k.items h.canon k.canon (h.slots ∙ sym k.slots) ops in
    let shards : set_of e.remaining ≡ set_of f.remaining = ap (λ (x : B.Entry). x.remaining) q in
    let remaining : e.remaining ≡ f.remaining
    = same_mask e.remaining f.remaining h.byte k.byte (λ j. sym (in_set e.remaining j) ∙ ap (has j) shards ∙ in_set f.remaining j) in
    let exe : e.exe ≡ f.exe = sym (exe_view m e) ∙ ap (λ (x : B.Entry). is_exe x.status) q ∙ exe_view m f in
    let theirs : Slots m (set_of e.remaining) (operations_of e.count e.items) f.reads = rw (ops, shards) (slots_of_lem m f k) in
    let same : gather (keep (heard_key m (set_of e.remaining)) (placed 0 (operations_of e.count e.items))) (saw e.reads)
    ≡ gather (keep (heard_key m (set_of e.remaining)) (placed 0 (operations_of e.count e.items))) (saw f.reads)
    = ap (λ (x : B.Entry). x.reads) q ∙ (λ i. gather (keep (heard_key m (sym shards i)) (placed 0 (sym ops i))) (saw f.reads)) in
    let reads : e.reads ≡ f.reads
    = ext_get_or no_item e.reads f.reads (h.places ∙ sym k.places)
    (λ p l. slot_alike m (set_of e.remaining) (operations_of e.count e.items) e.reads f.reads (slots_of_lem m e h) theirs same p) in
    λ i.
    record {
      client = (q i).write.client;
      number = (q i).write.number;
      count = items.0 i;
      items = items.1 i;
      exe = exe i;
      reads = reads i;
      remaining = remaining i;
    }
