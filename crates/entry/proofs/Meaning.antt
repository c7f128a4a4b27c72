-- What the functions on entries mean in the rules' words, one law for each: the part of a shard, the same write, reads that fit, and an entry
-- that is new, heard from, or finished.
-- Assumes nothing.
use mathlib.Core.Path.{◌≡◌, refl, sym, ap, ◌∙◌}
use mathlib.Core.Bool.{Bool, true, false, not, ◌&&◌}
use mathlib.Core.List.{List, [], ◌∷◌, map}
use Prim.Native.Nat.{ℕ, zero, suc, ◌≤◌}
use native.Mathlib.Omega.{arith}
use lib.Dec.{T, leb, eqb, eqb→eq}
use lib.ListN.{length, take}
use mir.Facts.{yes_eqb, eqb_no}
use Rattle.rules.specs.Lists.{If◌then◌else◌, same}
use Rattle.rules.specs.Transactions as R
use Rattle.rules.specs.Transactions.{get, put, Read, key_of, shard_of, placed, keep, on_shard, get_place, get_places, same_operations, same_write}
use Rattle.rules.specs.Board as B
use Rattle.rules.proofs.Lists.{and, and_l, and_r}
use Rattle.frames.specs.declared.Item.{Item}
use Rattle.frames.specs.declared.Shape.TheVariants.{Operation as AnOperation}
use Rattle.frames.specs.Frames.{ok_item, ok_from, ok_items}
use Rattle.frames.specs.View.{as_operation, as_placed, as_read, operations_of, placed_of, reads_of, CanonFrom, Canon}
use Rattle.frames.proofs.Slots.{ItemRules, item_rules, key_of_lem}
use Rattle.frames.proofs.Round.{enough}
use Rattle.entry.specs.declared.Entry.{Entry}
use Rattle.entry.specs.Model.{beside, is_on, chosen, part_on, agree, same_operation, same_operations_of, same_place, fits_of, same_write_of}
use Rattle.entry.specs.Model as M
use Rattle.entry.specs.View.{write_of}
use Rattle.entry.proofs.Slots.{part_take}
use Rattle.entry.proofs.Sets.{iff, shard_number_lem}

-- ---- Operations with their places

pub placed_view : (i n : ℕ) (items : List Item) → CanonFrom AnOperation i n items → n ≤ length items → map as_placed (take n items) ≡ placed i (map as_operation (take n items))
placed_view i zero [] c h = refl
placed_view i zero (x ∷ xs) c h = refl
placed_view i (suc n) [] c h = absurd (omega arith)
placed_view i (suc n) (x ∷ xs) c h = λ k. record { place = c.0.0 k; operation = as_operation x } ∷ placed_view (suc i) n xs c.1 (omega arith) k

-- the items that pass a test are the placed operations whose key passes it
kept_view : (ok : Item → Bool) (key_ok : ℕ → Bool) → ((x : Item) → ok x ≡ key_ok x.key) → (i n : ℕ) (items : List Item) → CanonFrom AnOperation i n items → n ≤ length items
    → map as_placed (beside ok (take n items) items) ≡ keep key_ok (placed i (map as_operation (take n items)))
kept_view ok key_ok f i zero [] c h = refl
kept_view ok key_ok f i zero (x ∷ xs) c h = refl
kept_view ok key_ok f i (suc n) [] c h = absurd (omega arith)
kept_view ok key_ok f i (suc n) (x ∷ xs) c h =
    go (ok x) (key_ok (key_of (as_operation x))) (f x ∙ ap key_ok (sym (key_of_lem x))) (kept_view ok key_ok f (suc i) n xs c.1 (omega arith))
  where
    go : (a b : Bool) → a ≡ b → map as_placed (beside ok (take n xs) xs) ≡ keep key_ok (placed (suc i) (map as_operation (take n xs)))
        → map as_placed (If a then x ∷ beside ok (take n xs) xs else beside ok (take n xs) xs)
        ≡ (If b then record { place = i; operation = as_operation x } ∷ keep key_ok (placed (suc i) (map as_operation (take n xs)))
        else keep key_ok (placed (suc i) (map as_operation (take n xs))))
    go true b e r = rw (← e) (unfold If◌then◌else◌ in (λ k. record { place = c.0.0 k; operation = as_operation x } ∷ r k))
    go false b e r = rw (← e) (unfold If◌then◌else◌ in r)

pub part_view : (m j count : ℕ) (items : List Item) → 1 ≤ m → Canon AnOperation count items → count ≤ length items
    → placed_of (part_on m j count items).count (part_on m j count items).items ≡ on_shard m j (operations_of count items)
unfolding part_on
part_view m j count items lo c h =
    ap (map as_placed) (part_take (chosen (is_on m j) count items))
    ∙ kept_view (is_on m j) (λ key. eqb (shard_of m key) j) (λ x. ap (λ s. eqb s j) (shard_number_lem m x.key lo)) 0 count items c h

-- ---- Lists that agree

eqb_turn : (a b : ℕ) → eqb a b ≡ eqb b a
eqb_turn a b = iff (eqb a b) (eqb b a) (λ t. yes_eqb (sym (eqb→eq a b t))) (λ t. yes_eqb (sym (eqb→eq b a t)))

-- lists that agree are as long as each other
agree_length : (f : Item → Item → Bool) (xs ys : List Item) → T (agree f xs ys) → length xs ≡ length ys
agree_length f [] [] t = refl
agree_length f [] (y ∷ ys) t = absurd t
agree_length f (x ∷ xs) [] t = absurd t
agree_length f (x ∷ xs) (y ∷ ys) t = ap suc (agree_length f xs ys (and_r (f x y) (agree f xs ys) t))

-- so a test of the lengths in front says nothing new
counted : (f : Item → Item → Bool) (n k : ℕ) (xs ys : List Item) → n ≡ length xs → k ≡ length ys → (eqb n k && agree f xs ys) ≡ agree f xs ys
counted f n k xs ys a b =
    iff (eqb n k && agree f xs ys) (agree f xs ys) (λ t. and_r (eqb n k) (agree f xs ys) t)
    (λ t. and (eqb n k) (agree f xs ys) (let e = agree_length f xs ys t in let d : n ≡ k = omega arith in yes_eqb d) t)

take_length : (n : ℕ) (xs : List Item) → n ≤ length xs → n ≡ length (take n xs)
take_length zero [] h = refl
take_length zero (x ∷ xs) h = refl
take_length (suc n) [] h = absurd (omega arith)
take_length (suc n) (x ∷ xs) h = ap suc (take_length n xs (omega arith))

-- ---- The same operations

one_code : (x : Item) → ItemRules x → (t : Bool) → t ≡ eqb x.code 0 → T (not t) → x.code ≡ 1
one_code x r true e t = absurd t
one_code x r false e t = let d = eqb_no {a = x.code} {b = 0} (rw (← e) tt) in omega (arith, r.code)

zero_value : (x : Item) → ItemRules x → x.code ≡ 0 → x.value ≡ 0
zero_value x r e = r.value e

same_view : (x y : Item) → T (ok_item x) → T (ok_item y) → same_operation x y ≡ R.same_operation (as_operation x) (as_operation y)
unfolding If◌then◌else◌
same_view x y hx hy = go (eqb x.code 0) refl (eqb y.code 0) refl
  where
    rx : ItemRules x
    rx = item_rules x hx

    ry : ItemRules y
    ry = item_rules y hy

    go : (a : Bool) → a ≡ eqb x.code 0 → (b : Bool) → b ≡ eqb y.code 0
        → same_operation x y ≡ R.same_operation (If a then get x.key else put x.key x.value) (If b then get y.key else put y.key y.value)
    go true p true q =
        let cx : x.code ≡ 0 = eqb→eq x.code 0 (rw (← p) tt) in
        let cy : y.code ≡ 0 = eqb→eq y.code 0 (rw (← q) tt) in
        rw (cx, cy, zero_value x rx cx, zero_value y ry cy) (end (eqb x.key y.key))
      where
        end : (k : Bool) → (true && k && true) ≡ k
        end true = refl
        end false = refl
    go true p false q =
        let cx : x.code ≡ 0 = eqb→eq x.code 0 (rw (← p) tt) in
        let cy : y.code ≡ 1 = one_code y ry false q tt in
        rw (cx, cy) refl
    go false p true q =
        let cx : x.code ≡ 1 = one_code x rx false p tt in
        let cy : y.code ≡ 0 = eqb→eq y.code 0 (rw (← q) tt) in
        rw (cx, cy) refl
    go false p false q = let cx : x.code ≡ 1 = one_code x rx false p tt in let cy : y.code ≡ 1 = one_code y ry false q tt in rw (cx, cy) refl

item_front : (p : ℕ) (n : ℕ) (x : Item) (xs : List Item) → T (ok_from p (suc n) (x ∷ xs)) → T (ok_item x) × T (ok_from (suc x.place) n xs)
item_front p n x xs h =
    (and_r (leb p x.place) (ok_item x) (and_l (leb p x.place && ok_item x) (ok_from (suc x.place) n xs) h), and_r (leb p x.place && ok_item x) (ok_from (suc x.place) n xs) h)

same_lists : (p q n k : ℕ) (xs ys : List Item) → T (ok_from p n xs) → T (ok_from q k ys)
    → agree same_operation (take n xs) (take k ys) ≡ same_operations (map as_operation (take n xs)) (map as_operation (take k ys))
same_lists p q zero zero [] [] a b = refl
same_lists p q zero zero [] (y ∷ ys) a b = refl
same_lists p q zero zero (x ∷ xs) [] a b = refl
same_lists p q zero zero (x ∷ xs) (y ∷ ys) a b = refl
same_lists p q zero (suc k) xs [] a b = absurd b
same_lists p q zero (suc k) [] (y ∷ ys) a b = refl
same_lists p q zero (suc k) (x ∷ xs) (y ∷ ys) a b = refl
same_lists p q (suc n) k [] ys a b = absurd a
same_lists p q (suc n) zero (x ∷ xs) [] a b = refl
same_lists p q (suc n) zero (x ∷ xs) (y ∷ ys) a b = refl
same_lists p q (suc n) (suc k) (x ∷ xs) [] a b = absurd b
same_lists p q (suc n) (suc k) (x ∷ xs) (y ∷ ys) a b =
    let f = item_front p n x xs a in
    let g = item_front q k y ys b in
    λ i. same_view x y f.0 g.0 i && same_lists (suc x.place) (suc y.place) n k xs ys f.1 g.1 i

pub same_operations_view : (n : ℕ) (xs : List Item) (k : ℕ) (ys : List Item) → T (ok_items n xs) → T (ok_items k ys)
    → same_operations_of n xs k ys ≡ same_operations (operations_of n xs) (operations_of k ys)
unfolding same_operations_of
same_operations_view n xs k ys a b =
    counted same_operation n k (take n xs) (take k ys) (take_length n xs (enough 0 n xs a)) (take_length k ys (enough 0 k ys b)) ∙ same_lists 0 0 n k xs ys a b

pub same_write_view : (e : Entry) (client number count : ℕ) (items : List Item) → T (ok_items e.count e.items) → T (ok_items count items)
    → same_write_of e client number count items ≡ same_write (write_of e) (record { client = client; number = number; operations = operations_of count items })
unfolding same_write_of same_write write_of
same_write_view e client number count items a b =
    ap (λ t. eqb e.client client && eqb e.number number && t) (same_operations_view e.count e.items count items a b)

-- ---- Reads that fit

gets_view : (n : ℕ) (items : List Item) → n ≤ length items → map (λ (x : Item). x.place) (beside M.is_get (take n items) items) ≡ get_places (map as_placed (take n items))
gets_view zero [] h = refl
gets_view zero (x ∷ xs) h = refl
gets_view (suc n) [] h = absurd (omega arith)
gets_view (suc n) (x ∷ xs) h = go (eqb x.code 0) (gets_view n xs (omega arith))
  where
    go : (t : Bool) → map (λ (y : Item). y.place) (beside M.is_get (take n xs) xs) ≡ get_places (map as_placed (take n xs))
        → map (λ (y : Item). y.place) (If t then x ∷ beside M.is_get (take n xs) xs else beside M.is_get (take n xs) xs)
        ≡ get_place (as_placed x) (If t then get x.key else put x.key x.value) (get_places (map as_placed (take n xs)))
    go true e = unfold If◌then◌else◌ in (ap {B = List ℕ} (λ l. x.place ∷ l) e)
    go false e = unfold If◌then◌else◌ in e

agree_places : (xs rs : List Item) → agree same_place xs rs ≡ same (map (λ (r : Read). r.place) (map as_read rs)) (map (λ (x : Item). x.place) xs)
agree_places [] [] = refl
agree_places [] (r ∷ rs) = refl
agree_places (x ∷ xs) [] = refl
agree_places (x ∷ xs) (r ∷ rs) = λ i. eqb_turn x.place r.place i && agree_places xs rs i

pub fits_view : (n : ℕ) (items : List Item) (k : ℕ) (rs : List Item) → n ≤ length items → k ≤ length rs → fits_of n items k rs ≡ B.fits (reads_of k rs) (placed_of n items)
unfolding fits_of
fits_view n items k rs h g =
    counted same_place (length (chosen M.is_get n items)) k (chosen M.is_get n items) (take k rs) refl (take_length k rs g)
    ∙ (agree_places (chosen M.is_get n items) (take k rs) ∙ ap (same (map (λ (r : Read). r.place) (reads_of k rs))) (gets_view n items h))
