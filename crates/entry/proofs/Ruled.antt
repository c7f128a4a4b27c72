-- Wrong answers that the promises of this crate rule out, beside those that the laws in Sets, Meaning and Entries do: each is shown of the definition
-- that the contract cites.
-- Assumes nothing.
use mathlib.Core.Path.{◌≡◌, refl, ap, sym, ◌∙◌}
use mathlib.Core.Logic.{◌≢◌}
use mathlib.Core.Bool.{Bool, true, false, ◌&&◌}
use mathlib.Core.List.{List, []}
use Prim.Native.Nat.{ℕ, ◌≤◌}
use native.Mathlib.Omega.{arith}
use lib.Dec.{eqb}
use lib.ListN.{length, take, length-take}
use mir.Facts.{no_eqb}
use Rattle.rules.specs.Lists.{If◌then◌else◌, has}
use Rattle.rules.proofs.Lists.{T_false}
use Rattle.frames.specs.declared.Item.{Item}
use Rattle.entry.specs.declared.Entry.{Entry}
use Rattle.entry.specs.Model.{in_mask, strike_of, touched_mask, touched_of, no_part, chosen, is_get, same_operations_of, fits_of, answered_of, reads_held, no_entry, same_write_of, heard_from_of, finished_of}
use Rattle.entry.specs.View.{set_of}
use Rattle.entry.proofs.Masks.{in_strike}
use Rattle.entry.proofs.Sets.{in_set}
use Rattle.entry.proofs.Slots.{picked_few}

differ : {x y : ℕ} → x ≢ y → eqb x y ≡ false
differ {x} {y} d = T_false (eqb x y) (no_eqb d)

-- ---- touched

-- the shard of an operation behind the count
pub touched_front : (m count : ℕ) (xs ys : List Item) → take count xs ≡ take count ys → touched_of m count xs ≡ touched_of m count ys
unfolding touched_of
touched_front m count xs ys e = ap (touched_mask m) e

-- ---- same_operations, same_write

-- a list that goes on, taken for the same
pub another_count : (count : ℕ) (xs : List Item) (other : ℕ) (ys : List Item) → count ≢ other → same_operations_of count xs other ys ≡ false
unfolding same_operations_of
another_count count xs other ys d = rw (differ d)

-- another client's number, or another number of the client, taken for the same write
pub another_client : (e : Entry) (client number count : ℕ) (items : List Item) → e.client ≢ client → same_write_of e client number count items ≡ false
unfolding same_write_of
another_client e client number count items d = rw (differ d)

pub another_number : (e : Entry) (client number count : ℕ) (items : List Item) → e.number ≢ number → same_write_of e client number count items ≡ false
unfolding same_write_of
another_number e client number count items d = rw (differ d) (go (eqb e.client client))
  where
    go : (a : Bool) → (a && false && same_operations_of e.count e.items count items) ≡ false
    go true = refl
    go false = refl

-- ---- fits

-- a read too few or too many
pub another_read_count : (count : ℕ) (items : List Item) (read_count : ℕ) (reads : List Item) → length (chosen is_get count items) ≢ read_count
    → fits_of count items read_count reads ≡ false
unfolding fits_of
another_read_count count items read_count reads d = rw (differ d)

-- ---- no_entry

nobody : set_of 0 ≡ []
unfolding set_of in_mask If◌then◌else◌
nobody = refl

-- a shard to hear from
pub no_entry_remaining : set_of no_entry.remaining ≡ []
no_entry_remaining = nobody

-- a read to hand over
pub no_entry_reads : (m : ℕ) → reads_held m no_entry ≡ no_part
unfolding reads_held
no_entry_reads m = refl

-- ---- reads_of

-- more reads than there are operations
pub reads_few : (m : ℕ) (e : Entry) → (reads_held m e).count ≤ e.count
unfolding reads_held
reads_few m e = omega (arith, picked_few (answered_of m e.remaining) (take e.count e.items) e.reads, length-take e.count e.items)

-- ---- heard_from

-- EXE while another shard remains
pub another_remains : (e : Entry) (shard other count : ℕ) (rs : List Item) → in_mask e.remaining other ≡ true → other ≢ shard
    → (heard_from_of e shard count rs).exe ≡ false
unfolding heard_from_of
another_remains e shard other count rs there d =
    differ
    (λ (none : strike_of e.remaining shard ≡ 0).
    let still : in_mask (strike_of e.remaining shard) other ≡ true = in_strike e.remaining shard other ∙ rw (differ d, there) in
    let gone : in_mask (strike_of e.remaining shard) other ≡ false = ap (λ (x : ℕ). in_mask x other) none ∙ sym (in_set 0 other) ∙ ap (has other) nobody in
    let z : ◌≡◌ {A = ℕ} 0 1 = cc in
    omega arith)

-- ---- finished

-- reads that were stored before
pub finished_forgets : (e d : Entry) (count : ℕ) (rs : List Item) → (finished_of e count rs).reads ≡ (finished_of d count rs).reads
unfolding finished_of
finished_forgets e d count rs = refl
