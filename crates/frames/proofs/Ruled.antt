-- Wrong answers that the promises of this crate rule out, beside those that the laws in Round, Behind and Meaning do: each is shown of the definition
-- that the contract cites.
-- Assumes nothing.
use mathlib.Core.Path.{◌≡◌, refl}
use mathlib.Core.Bool.{false}
use mathlib.Core.List.{List, [], ◌∷◌, ◌++◌}
use mathlib.Core.Option.{none}
use Prim.Native.Nat.{ℕ, ◌≤◌, ◌<◌}
use lib.Dec.{leb, leb→le}
use lib.ListN.{length, take, drop, replicate}
use lib.Seq.{length-take-le, take_at}
use native.Mathlib.Omega.{arith}
use Rattle.std.proofs.Math.Nat.{min-le_left, min-le_right}
use Rattle.std.proofs.lemmas.Bool.{le-ltb, lt-ltb}
use Rattle.std.proofs.lemmas.List.{length-take, take_more_set}
use Rattle.rules.specs.Lists.{If◌then◌else◌}
use Rattle.rules.proofs.Lists.{by}
use Rattle.frames.specs.declared.Shape.{Shape}
use Rattle.frames.specs.declared.Shape.TheVariants.{Operation, Placed, Read}
use Rattle.frames.specs.declared.Frame.{Frame}
use Rattle.frames.specs.Frames.{width, item_bytes, no_item, bad_frame, valid, laid_of, laid_behind}
use Rattle.frames.specs.declared.Item.{Item}
use Rattle.frames.specs.declared.Items.{Items}
use Rattle.frames.specs.Items.{in_list, empty_list, pushed_on}
use Rattle.frames.specs.View.{as_read, meaning}

-- ---- no_item

-- a field that is not 0 shows in the bytes of a placed operation
pub no_item_bytes : (shape : Shape) → item_bytes shape no_item ≡ replicate (width shape) 0
no_item_bytes Operation = refl
no_item_bytes Placed = refl
no_item_bytes Read = refl

-- a value from nowhere
pub no_item_absent : as_read no_item ≡ record { place = 0; value = none }
unfolding If◌then◌else◌
no_item_absent = refl

-- ---- A list

-- an item in a new list
pub empty_has_none : in_list empty_list ≡ []
empty_has_none = refl

-- more items than the count, or than there are slots
pub listed_few : (list : Items) → (length (in_list list) ≤ list.count) × (length (in_list list) ≤ length list.items)
listed_few list =
    let e = length-take list.count list.items in
    (omega (arith, e, min-le_left list.count (length list.items)), omega (arith, e, min-le_right list.count (length list.items)))

-- a fifth item taken
pub push_full : (list : Items) (x : Item) → 4 ≤ list.count → pushed_on list x ≡ list
unfolding pushed_on If◌then◌else◌
push_full list x full = rw (le-ltb list.count 4 full)

-- another item than the one that came, another order, or one too many
pub push_lists : (list : Items) (x : Item) → list.count < 4 → length list.items ≡ 4 → in_list (pushed_on list x) ≡ in_list list ++ x ∷ []
unfolding pushed_on If◌then◌else◌
push_lists list x room slots = rw (lt-ltb list.count 4 room) (take_more_set list.items list.count x (omega (arith, slots, room)))

-- ---- bad_frame

-- a frame that somebody would serve
pub bad_means_nothing : meaning bad_frame ≡ none
unfolding meaning bad_frame
bad_means_nothing = refl

pub bad_is_refused : valid bad_frame ≡ false
unfolding valid bad_frame
bad_is_refused = refl

-- ---- write_behind

-- a byte changed of what stands there already
pub behind_keeps : (f : Frame) (at : ℕ) (out : List ℕ) → take at (laid_behind f at out) ≡ take at out
unfolding laid_behind
behind_keeps f at out =
    by (λ (l : List ℕ). take at l ≡ take at out) (leb at (length out))
    (λ t. take_at (take at out) (laid_of f (drop at out)) at (length-take-le at out (leb→le at (length out) t))) (λ t. refl)
