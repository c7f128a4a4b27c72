-- Arrays and the lists that they begin with: an element stored behind the list's end makes it longer by one, an element stored within it changes
-- it there.
-- Assumes nothing.
use mathlib.Core.Path.{◌≡◌, refl, sym, ap}
use mathlib.Core.List.{List, [], ◌∷◌, map}
use mathlib.Core.Option.{none, some}
use Prim.Native.Nat.{ℕ, zero, suc, ◌+◌, ◌≤◌, ◌<◌}
use native.Mathlib.Omega.{arith}
use native.Mathlib.Numerals.{add-one}
use lib.ListN.{length, get_or, set, take, drop, replicate}
use lib.Seq.{take-suc-set}
use Rattle.rules.specs.Lists.{at, snoc}
use Rattle.rules.proofs.Lists.{nothing}

module _ {A : Type 0} where
  pub take_set : (l : List A) (i n : ℕ) (x : A) → i < n → take n (set l i x) ≡ set (take n l) i x
  take_set l i zero x h = absurd (omega arith)
  take_set [] i (suc n) x h = refl
  take_set (y ∷ l) zero (suc n) x h = refl
  take_set (y ∷ l) (suc i) (suc n) x h = ap {B = List A} (λ k. y ∷ k) (take_set l i n x (omega arith))

  pub take_snoc : (l : List A) (n : ℕ) (x : A) → n < length l → take (n + 1) (set l n x) ≡ snoc (take n l) x
  take_snoc l n x h = rw (add-one n) (take-suc-set l n x h)

  pub set_same : (l : List A) (i : ℕ) (x : A) → at l i ≡ some x → set l i x ≡ l
  set_same [] i x e = nothing e
  set_same (y ∷ l) zero x e = let d : y ≡ x = cc in λ k. sym d k ∷ l
  set_same (y ∷ l) (suc i) x e = ap {B = List A} (λ k. y ∷ k) (set_same l i x e)

  pub at_take : (l : List A) (i n : ℕ) (d : A) → i < n → i < length l → at (take n l) i ≡ some (get_or l i d)
  at_take [] i n d h g = absurd (omega arith)
  at_take (y ∷ l) i zero d h g = absurd (omega arith)
  at_take (y ∷ l) zero (suc n) d h g = refl
  at_take (y ∷ l) (suc i) (suc n) d h g = at_take l i n d (omega arith) (omega arith)

  pub at_none : (l : List A) (i : ℕ) → length l ≤ i → at l i ≡ none
  at_none [] i h = refl
  at_none (y ∷ l) zero h = absurd (omega arith)
  at_none (y ∷ l) (suc i) h = at_none l i (omega arith)

module _ {A B : Type 0} (f : A → B) where
  pub map_set : (l : List A) (i : ℕ) (x : A) → map f (set l i x) ≡ set (map f l) i (f x)
  map_set [] i x = refl
  map_set (y ∷ l) zero x = refl
  map_set (y ∷ l) (suc i) x = ap {B = List B} (λ k. f y ∷ k) (map_set l i x)

  pub map_snoc : (l : List A) (x : A) → map f (snoc l x) ≡ snoc (map f l) (f x)
  map_snoc [] x = refl
  map_snoc (y ∷ l) x = ap {B = List B} (λ k. f y ∷ k) (map_snoc l x)

  pub at_map : (l : List A) (i : ℕ) (x : A) → at l i ≡ some x → at (map f l) i ≡ some (f x)
  at_map [] i x e = nothing e
  at_map (y ∷ l) zero x e = let d : y ≡ x = cc in cc
  at_map (y ∷ l) (suc i) x e = at_map l i x e

module _ {A : Type 0} where
  pub at_set : (l : List A) (i : ℕ) (x : A) → i < length l → at (set l i x) i ≡ some x
  at_set [] i x h = absurd (omega arith)
  at_set (y ∷ l) zero x h = refl
  at_set (y ∷ l) (suc i) x h = at_set l i x (omega arith)

-- ---- What lies behind the list

module _ {A : Type 0} where
  pub drop_set : (l : List A) (i n : ℕ) (x : A) → i < n → drop n (set l i x) ≡ drop n l
  drop_set l i zero x h = absurd (omega arith)
  drop_set [] i (suc n) x h = refl
  drop_set (y ∷ l) zero (suc n) x h = refl
  drop_set (y ∷ l) (suc i) (suc n) x h = drop_set l i n x (omega arith)

  -- one of them fewer
  pub drop_next : (l : List A) (n k : ℕ) (x : A) → drop n l ≡ replicate (suc k) x → drop (suc n) l ≡ replicate k x
  drop_next [] zero k x e = nothing_left e
    where
      nothing_left : ◌≡◌ {A = List A} [] (x ∷ replicate k x) → ◌≡◌ {A = List A} [] (replicate k x)
      nothing_left e = let z : ◌≡◌ {A = ℕ} 0 1 = cc in absurd (omega arith)
  drop_next [] (suc n) k x e = let z : ◌≡◌ {A = ℕ} 0 1 = cc in absurd (omega arith)
  drop_next (y ∷ l) zero k x e = let d : l ≡ replicate k x = cc in d
  drop_next (y ∷ l) (suc n) k x e = drop_next l n k x e
