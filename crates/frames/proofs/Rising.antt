-- The test of a list: each item is right by itself, and each place is above the one before it.
-- Assumes nothing.
use mathlib.Core.Path.{◌≡◌, refl, sym, ap, ◌∙◌}
use mathlib.Core.Bool.{Bool, true, false, ◌&&◌}
use mathlib.Core.List.{List, [], ◌∷◌}
use Prim.Native.Nat.{ℕ, zero, suc, ◌<◌, ◌≤◌}
use native.Mathlib.Nat.{suc-add, le_of_suc-le-suc}
use native.Mathlib.Omega.{arith}
use lib.ListN.{length, take}
use lib.Dec.{leb, ltb, leb-zero}
use Rattle.std.specs.List.{list_all, IsAllAdjacentAnswer}
use Rattle.frames.specs.declared.Item.{Item}
use Rattle.frames.specs.Frames.{ok_item, ok_from}
use Rattle.frames.proofs.Cases.{and-false}
use Rattle.frames.proofs.Round.{enough}

-- places rise strictly, the first at least p
rises : ℕ → List Item → Bool
rises p [] = true
rises p (x ∷ xs) = leb p x.place && rises (suc x.place) xs

shuffle : (a b c d : Bool) → (a && b) && (c && d) ≡ (b && c) && (a && d)
shuffle true true c d = refl
shuffle true false c d = refl
shuffle false true true d = refl
shuffle false true false d = refl
shuffle false false c d = refl

apart : (p : ℕ) (xs : List Item) → ok_from p (length xs) xs ≡ list_all ok_item xs && rises p xs
unfolding rises
apart p [] = refl
apart p (x ∷ xs) =
    ap (λ (b : Bool). (leb p x.place && ok_item x) && b) (apart (suc x.place) xs) ∙ shuffle (leb p x.place) (ok_item x) (list_all ok_item xs) (rises (suc x.place) xs)

-- each item and the next were asked whether their places rise
abbrev Asked : List Item → Bool → Type 0
Asked xs r = IsAllAdjacentAnswer (λ (x : Item) (y : Item) (b : Bool). b ≡ ltb x.place y.place) xs r

neighbours : (x : Item) (xs : List Item) (r : Bool) → Asked (x ∷ xs) r → r ≡ rises (suc x.place) xs
unfolding rises
neighbours x [] true h = refl
neighbours x [] false (k, l, f) = absurd (omega arith)
neighbours x (y ∷ xs) true h =
    let e : true ≡ ltb x.place y.place = h 0 x (omega arith) in
    rw (← e) (neighbours y xs true (λ k d l. rw suc-add at (h (suc k) d (omega arith))))
neighbours x (y ∷ xs) false (zero, l, f) = let e : false ≡ ltb x.place y.place = f x in rw (← e)
neighbours x (y ∷ xs) false (suc k, l, f) =
    rw (← neighbours y xs false (k, omega arith, λ d. rw suc-add at (f d))) (sym (and-false (ltb x.place y.place)))

asked : (xs : List Item) (r : Bool) → Asked xs r → r ≡ rises 0 xs
unfolding rises
asked [] true h = refl
asked [] false (k, l, f) = absurd (omega arith)
asked (x ∷ xs) r h = neighbours x xs r h ∙ rw leb-zero

-- only the items of the list are tested
in_front : (p n : ℕ) (xs : List Item) → n ≤ length xs → ok_from p n xs ≡ ok_from p (length (take n xs)) (take n xs)
in_front p zero xs h = refl
in_front p (suc n) [] h = absurd (omega arith)
in_front p (suc n) (x ∷ xs) h = ap (λ (b : Bool). (leb p x.place && ok_item x) && b) (in_front (suc x.place) n xs (le_of_suc-le-suc h))

-- ---- What the code decides of the first n of four items, which are ys: a says whether each is right by itself, r whether their places rise

module _ (n : ℕ) (xs ys : List Item) (four : length xs ≡ 4) (front : ys ≡ take n xs) where
  tested : n ≤ 4 → ok_from 0 n xs ≡ list_all ok_item ys && rises 0 ys
  tested h = rw front (in_front 0 n xs (omega arith) ∙ apart 0 (take n xs))

  pub all_right : (a r : Bool) → n ≤ 4 → a ≡ list_all ok_item ys → a ≡ true → Asked ys r → r ≡ ok_from 0 n xs
  all_right a r h e t s = sym (tested h ∙ rw (← e, t) (sym (asked ys r s)))

  pub one_wrong : (a : Bool) → n ≤ 4 → a ≡ list_all ok_item ys → a ≡ false → false ≡ ok_from 0 n xs
  one_wrong a h e t = sym (tested h ∙ rw (← e, t))

  pub too_many : 4 < n → false ≡ ok_from 0 n xs
  too_many h = go (ok_from 0 n xs) refl
    where
      go : (b : Bool) → ok_from 0 n xs ≡ b → false ≡ ok_from 0 n xs
      go true e = absurd (omega (arith, enough 0 n xs (rw e tt)))
      go false e = sym e
