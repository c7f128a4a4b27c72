-- Parts of a list, and what a turn of a loop over the list does.
-- Assumes nothing.
use mathlib.Core.Path.{◌≡◌, refl, ap, ◌∙◌}
use mathlib.Core.Bool.{Bool, true, false, ◌&&◌}
use mathlib.Core.List.{List, [], ◌∷◌, ◌++◌, append-nil}
use Prim.Native.Nat.{ℕ, zero, suc, ◌+◌, ◌-◌, ◌≤◌, ◌<◌}
use native.Mathlib.Omega.{arith}
use lib.ListN.{length, get_or, take, replicate, length-append, length-replicate, length-take}
use lib.Seq.{take-append_seam, set-append_seam, append_snoc}
use borrow.Author.Tests.{lt-ltb}
use Rattle.rules.specs.Lists.{If◌then◌else◌}
use Rattle.rules.proofs.Lists.{by}
use Rattle.frames.specs.declared.Item.{Item}
use Rattle.frames.specs.declared.Items.{Items}
use Rattle.frames.specs.Frames.{no_item}
use Rattle.frames.specs.Items.{pushed_on}
use Rattle.entry.specs.Model.{part_of, beside, agree}
use Rattle.std.specs.List.{list_all, zip}

pub beside_few : (ok : Item → Bool) (xs ys : List Item) → length (beside ok xs ys) ≤ length ys
beside_few ok [] ys = omega arith
beside_few ok (x ∷ xs) [] = omega arith
beside_few ok (x ∷ xs) (y ∷ ys) =
    let h = beside_few ok xs ys in
    by (λ (l : List Item). length l ≤ suc (length ys)) (ok x) (λ t. omega arith) (λ t. omega arith)

-- no more are picked than there are items to test
pub picked_few : (ok : Item → Bool) (xs ys : List Item) → length (beside ok xs ys) ≤ length xs
picked_few ok [] ys = omega arith
picked_few ok (x ∷ xs) [] = omega arith
picked_few ok (x ∷ xs) (y ∷ ys) =
    let h = picked_few ok xs ys in
    by (λ (l : List Item). length l ≤ suc (length xs)) (ok x) (λ t. omega arith) (λ t. omega arith)

-- the items of a part are its list
pub part_take : (xs : List Item) → take (part_of xs).count (part_of xs).items ≡ xs
part_take xs = take-append_seam xs (replicate (4 - length xs) no_item)

pub part_slots : (xs : List Item) → length xs ≤ 4 → length (part_of xs).items ≡ 4
part_slots xs h = omega (arith, length-append xs (replicate (4 - length xs) no_item), length-replicate (4 - length xs) no_item)

-- one item more
part_push : (xs : List Item) (x : Item) → length xs ≤ 3 → pushed_on (part_of xs) x ≡ part_of (xs ++ (x ∷ []))
unfolding pushed_on If◌then◌else◌
part_push xs x h =
    let e : 4 - length xs ≡ suc (3 - length xs) = omega arith in
    let f : length (xs ++ (x ∷ [])) ≡ length xs + 1 = length-append xs (x ∷ []) in
    let g : 4 - (length xs + 1) ≡ 3 - length xs = omega arith in
    rw (lt-ltb (length xs) 4 (omega arith), e, set-append_seam, f, g, append_snoc)

-- an item, or none
abbrev one : Bool → Item → List Item
one t x = If t then x ∷ [] else []

beside_more : (ok : Item → Bool) (n : ℕ) (xs ys : List Item) → n < length xs → n < length ys
    → beside ok (take (suc n) xs) ys ≡ beside ok (take n xs) ys ++ one (ok (get_or xs n no_item)) (get_or ys n no_item)
beside_more ok n [] ys h k = absurd (omega arith)
beside_more ok n (x ∷ xs) [] h k = absurd (omega arith)
beside_more ok zero (x ∷ xs) (y ∷ ys) h k = refl
beside_more ok (suc n) (x ∷ xs) (y ∷ ys) h k = go (ok x) _ _ _ (beside_more ok n xs ys (omega arith) (omega arith))
  where
    go : (t : Bool) (l k m : List Item) → l ≡ k ++ m → (If t then y ∷ l else l) ≡ (If t then y ∷ k else k) ++ m
    go true l k m e = unfold If◌then◌else◌ in (ap (λ (l : List Item). y ∷ l) e)
    go false l k m e = unfold If◌then◌else◌ in e

-- ---- A turn of the loop that picks: the item at n passes, or it does not

module _ (ok : Item → Bool) (xs ys : List Item) (n : ℕ) (x y : Item) (lo : n < length xs) (hi : n < length ys) (four : length ys ≡ 4)
    (x_is : x ≡ get_or xs n no_item) (y_is : y ≡ get_or ys n no_item) (p : Items) (p_is : p ≡ part_of (beside ok (take n xs) ys)) where
  grown : beside ok (take (n + 1) xs) ys ≡ beside ok (take n xs) ys ++ one (ok x) y
  grown = let e : n + 1 ≡ suc n = omega arith in rw (e, x_is, y_is) (beside_more ok n xs ys lo hi)

  pub picked_one : ok x ≡ true → pushed_on p y ≡ part_of (beside ok (take (n + 1) xs) ys)
  picked_one t =
      let few = picked_few ok (take n xs) ys in
      rw (grown, t, p_is) (part_push (beside ok (take n xs) ys) y (omega (arith, length-take n xs)) ∙ (unfold If◌then◌else◌ in refl))

  pub picked_none : ok x ≡ false → p ≡ part_of (beside ok (take (n + 1) xs) ys)
  picked_none t = rw (grown, t) (p_is ∙ (unfold If◌then◌else◌ in (rw append-nil)))

-- ---- Two lists compared by a zip that leaves nothing out

pub zip_agrees : (same : Item → Item → Bool) (xs ys : List Item) → length xs ≡ length ys → list_all (λ (p : Item × Item). same p.0 p.1) (zip xs ys) ≡ agree same xs ys
zip_agrees same [] [] h = refl
zip_agrees same [] (y ∷ ys) h = absurd (omega arith)
zip_agrees same (x ∷ xs) [] h = absurd (omega arith)
zip_agrees same (x ∷ xs) (y ∷ ys) h = ap (λ b. same x y && b) (zip_agrees same xs ys (omega arith))
