-- What is looked for from the front, what is moved to the front, and what the loop over the queues changes in place.
-- Assumes nothing.
use mathlib.Core.Path.{◌≡◌, refl, sym, ap, ◌∙◌}
use mathlib.Core.Bool.{Bool, true, false}
use mathlib.Core.List.{List, [], ◌∷◌, ◌++◌, append-nil}
use Prim.Native.Nat.{ℕ, zero, suc, ◌+◌, ◌-◌, ◌≤◌, ◌<◌}
use native.Mathlib.Nat.{add-zero}
use native.Mathlib.Numerals.{add-one}
use native.Mathlib.Omega.{arith}
use lib.ListN.{length, get_or, set, take, drop, replicate, length-drop, length-replicate, drop_of_length-le}
use lib.Seq.{paste, drop-cons, take-suc, set_at, get_or-append-add, get_or-drop, length-take-le, append_snoc, take_all}
use borrow.Author.Tests.{ne_eqb}
use Rattle.std.specs.Prelude.{cond, ltb, eqb, ◌==◌, Some, None, not, Option}
use borrow.Rule.Slice.PartMut.{put_mid, same_len_mid, mid_len}
use Rattle.std.specs.List.{position, position_or_len, copy_within}
use Rattle.std.proofs.lemmas.List.{drop-take}
use Rattle.std.proofs.lemmas.List.Edits.{take-paste}
use Rattle.std.proofs.lemmas.Slice.{take-put_mid}
use Rattle.rules.specs.Lists.{If◌then◌else◌}
use Rattle.rules.proofs.Lists.{by}
use Rattle.entry.specs.Model.{in_mask}
use Rattle.queue.specs.declared.Queue.{Queue}
use Rattle.queue.specs.Model.{slots_of, up_to, last_of, change_from}

-- ---- Reading the first n of an array

pub up_to_few : (ind : ℕ) (xs : List ℕ) → up_to ind xs ≤ length xs
unfolding up_to
up_to_few ind [] = omega arith
up_to_few ind (x ∷ xs) = let h = up_to_few ind xs in by (λ (k : ℕ). k ≤ suc (length xs)) (eqb x ind) (λ t. omega arith) (λ t. omega arith)

-- up to a number is up to the place where it is first found
abbrev place : ℕ → List ℕ → ℕ
place ind xs = position_or_len (λ x. x == ind) xs

up_to_place : (ind : ℕ) (xs : List ℕ) → up_to ind xs ≡ cond (ltb (place ind xs) (length xs)) (place ind xs + 1) (length xs)
unfolding up_to If◌then◌else◌
up_to_place ind [] = refl
up_to_place ind (x ∷ xs) = go (eqb x ind) (up_to_place ind xs)
  where
    go : (b : Bool) → up_to ind xs ≡ cond (ltb (place ind xs) (length xs)) (place ind xs + 1) (length xs)
        → (If b then 1 else suc (up_to ind xs))
        ≡ cond (ltb (cond (not b) (1 + place ind xs) 0) (suc (length xs))) (cond (not b) (1 + place ind xs) 0 + 1) (suc (length xs))
    go true e = grind arith
    go false e = grind arith

pub up_to_found : (ind : ℕ) (xs : List ℕ) (i : ℕ) → position (λ x. x == ind) xs ≡ Some i → i + 1 ≡ up_to ind xs
up_to_found ind xs i e = rw (up_to_place ind xs) (go (ltb (place ind xs) (length xs)) e)
  where
    go : (b : Bool) → cond b (Some (place ind xs)) None ≡ Some i → i + 1 ≡ cond b (place ind xs + 1) (length xs)
    go true e = cc
    go false e = cc

pub up_to_none : (ind : ℕ) (xs : List ℕ) → position (λ x. x == ind) xs ≡ None → length xs ≡ up_to ind xs
up_to_none ind xs e = rw (up_to_place ind xs) (go (ltb (place ind xs) (length xs)) e)
  where
    go : (b : Bool) → ◌≡◌ {A = Option ℕ} (cond b (Some (place ind xs)) None) None → length xs ≡ cond b (place ind xs + 1) (length xs)
    go true e = cc
    go false e = refl

pub last_some : (q : Queue) (count : ℕ) → 0 < count → last_of q count ≡ get_or q.numbers (count - 1) 0 + 1
unfolding last_of If◌then◌else◌
last_some q count h = rw (ne_eqb count 0 (λ (e : count ≡ 0). omega arith))

-- ---- Writing s over l from the front: i elements are done

module _ {A : Type 0} (s l : List A) (i : ℕ) where
  over_step : (d : A) → i < length s → i < length l → set (take i s ++ drop i l) i (get_or s i d) ≡ take (i + 1) s ++ drop (i + 1) l
  over_step d hs hl =
      rw (add-one, drop-cons l i d, take-suc s i d, append_snoc)
      (set_at (take i s) (get_or l i d) (drop (suc i) l) (get_or s i d) i (length-take-le i s (omega arith)))

  -- the same where the two agree there, so that nothing is written
  over_kept : (d : A) → i < length s → i < length l → get_or s i d ≡ get_or l i d → take i s ++ drop i l ≡ take (i + 1) s ++ drop (i + 1) l
  over_kept d hs hl e = rw (add-one, drop-cons l i d, take-suc s i d, append_snoc, e)

  -- what stands at i is what was there at first
  over_here : (d : A) → i ≤ length s → get_or (take i s ++ drop i l) i d ≡ get_or l i d
  over_here d h =
      let e : length (take i s) ≡ i = length-take-le i s h in
      ap (λ (n : ℕ). get_or (take i s ++ drop i l) n d) (sym e ∙ sym (add-zero (length (take i s))))
      ∙ (get_or-append-add (take i s) (drop i l) 0 d
      ∙ (get_or-drop i l 0 d
      ∙ ap (λ (n : ℕ). get_or l n d) (add-zero i)))

-- ---- What waits behind the first count, moved to the front, and zeros behind it

pub left_moved : (n count : ℕ) (l xs ys : List ℕ) → length l ≡ 256 → n ≤ 256 → count ≤ n → length xs ≡ 256 → xs ≡ copy_within l count n 0
    → ys ≡ replicate (256 - (n - count)) 0 → put_mid (n - count) (256 - (n - count)) xs ys ≡ slots_of (drop count (take n l))
left_moved n count l xs ys e h k m moved zeros =
    let left : ℕ = n - count in
    let there : length ys ≡ 256 - left = rw zeros (length-replicate _ _) in
    let long : length (put_mid left (256 - left) xs ys) ≡ 256 = same_len_mid left (256 - left) xs ys (there ∙ sym (mid_len left 256 xs (omega arith))) ∙ m in
    let start : left ≡ 0 + left = omega arith in
    let front : take left xs ≡ drop count (take n l) =
    rw moved (ap (λ (j : ℕ). take j (paste l 0 (drop count l) left)) start ∙ take-paste l 0 (drop count l) left (omega arith) (omega (arith, length-drop count l)) ∙ (sym (drop-take count left l) ∙ ap (λ (j : ℕ). drop count (take j l)) (omega arith))) in
    let few : length (drop count (take n l)) ≡ left = length-drop count (take n l) ∙ rw (length-take-le n l (omega arith)) in
    sym (take_all 256 _ (omega arith)) ∙ take-put_mid left (256 - left) xs ys 256 (omega arith) (omega arith) ∙ rw (front, zeros, few)

-- ---- The queues of a set of shards changed in place

module _ (change : Queue → Queue) (mask : ℕ) where
  pub change_length : (shard : ℕ) (qs : List Queue) → length (change_from change mask shard qs) ≡ length qs
  change_length shard [] = refl
  change_length shard (q ∷ qs) = ap suc (change_length (suc shard) qs)

  pub change_at : (shard : ℕ) (qs : List Queue) (i : ℕ) (d : Queue) → i < length qs
      → get_or (change_from change mask shard qs) i d ≡ (If in_mask mask (shard + i) then change (get_or qs i d) else get_or qs i d)
  change_at shard [] i d h = absurd (omega arith)
  change_at shard (q ∷ qs) zero d h = rw add-zero
  change_at shard (q ∷ qs) (suc i) d h = let e : shard + suc i ≡ suc shard + i = omega arith in rw e (change_at (suc shard) qs i d (omega arith))

  -- cur is the array when the first i queues are done
  module _ (qs cur : List Queue) (i : ℕ) (d : Queue) (h : i < length qs) (e : cur ≡ take i (change_from change mask 1 qs) ++ drop i qs)
      (inside : Bool) (t : inside ≡ in_mask mask (i + 1)) where
    abbrev all : List Queue
    all = change_from change mask 1 qs

    n : length all ≡ length qs
    n = change_length 1 qs

    here : get_or cur i d ≡ get_or qs i d
    here = ap (λ (l : List Queue). get_or l i d) e ∙ over_here all qs i d (omega (arith, n))

    there : get_or all i d ≡ (If inside then change (get_or cur i d) else get_or cur i d)
    there = let f : 1 + i ≡ i + 1 = omega arith in change_at 1 qs i d h ∙ rw (f, ← t, here)

    pub change_yes : (v : Queue) → inside ≡ true → v ≡ change (get_or cur i d) → set cur i v ≡ take (i + 1) all ++ drop (i + 1) qs
    change_yes v y w =
        let f : v ≡ get_or all i d = w ∙ sym (there ∙ rw y (unfold If◌then◌else◌ in refl)) in
        rw (f, e) (over_step all qs i d (omega (arith, n)) h)

    pub change_no : inside ≡ false → cur ≡ take (i + 1) all ++ drop (i + 1) qs
    change_no y =
        let f : get_or all i d ≡ get_or qs i d = there ∙ (rw y (unfold If◌then◌else◌ in refl) ∙ here) in
        e ∙ over_kept all qs i d (omega (arith, n)) h f

  pub change_all : (qs : List Queue) (n : ℕ) → length qs ≤ n → take n (change_from change mask 1 qs) ++ drop n qs ≡ change_from change mask 1 qs
  change_all qs n h =
      let l = change_length 1 qs in
      rw (take_all n (change_from change mask 1 qs) (omega arith), drop_of_length-le qs h, append-nil)
