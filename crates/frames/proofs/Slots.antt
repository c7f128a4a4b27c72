-- Items and the operations, placed operations and reads that they mean: bytes, rules and back, each proved once over the view.
-- Assumes nothing.
use mathlib.Core.Path.{◌≡◌, refl, sym, ap, ◌∙◌}
use mathlib.Core.Bool.{Bool, not, ◌&&◌, ◌||◌}
use mathlib.Core.List.{List, [], ◌∷◌, ◌++◌, map}
use mathlib.Core.Option.{Option, none, some}
use Prim.Native.Nat.{ℕ, zero, suc, ◌+◌, ◌<◌, ◌≤◌}
use native.Mathlib.Omega.{arith}
use lib.ListN.{length, take}
use lib.Dec.{T, leb, eqb, leb→le, le→leb, eqb→eq}
use Rattle.rules.specs.Lists.{If◌then◌else◌, within, every}
use Rattle.rules.specs.Transactions as R
use Rattle.rules.specs.Transactions.{get, put}
use Rattle.rules.specs.Frames.{four, operation_bytes, placed_bytes, seen_bytes, read_bytes, back_to_back, ok_operation, ok_seen, ok_value, rising}
use Rattle.rules.proofs.Lists.{by, and, and_l, and_r, or_cases}
use Rattle.rules.proofs.Frames.{value_lt}
use Rattle.frames.specs.declared.Item.{Item}
use Rattle.frames.specs.declared.Shape.{Shape}
use Rattle.frames.specs.declared.Shape.TheVariants.{Operation, Read}
use Rattle.frames.specs.Frames.{item_bytes, items_bytes, ok_item, ok_from}
use Rattle.frames.specs.View.{as_operation, as_placed, as_read, Sized, CanonItem, CanonFrom, operation_item, operation_items, placed_item, seen_item, read_item, filled}

-- ---- One item

pub record ItemRules (x : Item) : Type 0 where
  pub place : x.place ≤ 3
  pub code : x.code ≤ 1
  pub value : x.code ≡ 0 → x.value ≡ 0

pub item_rules : (x : Item) → T (ok_item x) → ItemRules x
item_rules x t =
    let a : Bool = leb x.place 3 in
    let b : Bool = leb x.code 1 in
    let c : Bool = leb 1 x.code || eqb x.value 0 in
    let u = and_l (a && b) c t in
    record {
      place = leb→le x.place 3 (and_l a b u);
      code = leb→le x.code 1 (and_r a b u);
      value = λ e. or_cases (leb 1 x.code) (eqb x.value 0) (and_r (a && b) c t) (λ h. let k = leb→le 1 x.code h in absurd (omega arith)) (eqb→eq x.value 0);
    }

-- a code that is not 0 is 1
one : (n : ℕ) → n ≤ 1 → T (not (eqb n 0)) → n ≡ 1
one zero h t = absurd t
one (suc n) h t = omega arith

pub operation_bytes_lem : (x : Item) → T (ok_item x) → operation_bytes (as_operation x) ≡ x.code ∷ x.key ∷ four x.value
operation_bytes_lem x t =
    let r = item_rules x t in
    by (λ (o : R.Operation). operation_bytes o ≡ x.code ∷ x.key ∷ four x.value) (eqb x.code 0)
    (λ u. let e = eqb→eq x.code 0 u in λ i. sym e i ∷ x.key ∷ four (sym (r.value e) i))
    (λ u. λ i. sym (one x.code r.code u) i ∷ x.key ∷ four x.value)

pub placed_bytes_lem : (x : Item) → T (ok_item x) → placed_bytes (as_placed x) ≡ x.place ∷ x.code ∷ x.key ∷ four x.value
placed_bytes_lem x t = λ i. x.place ∷ operation_bytes_lem x t i

pub read_bytes_lem : (x : Item) → T (ok_item x) → read_bytes (as_read x) ≡ x.place ∷ x.code ∷ four x.value
read_bytes_lem x t =
    let r = item_rules x t in
    by (λ (v : Option ℕ). x.place ∷ seen_bytes v ≡ x.place ∷ x.code ∷ four x.value) (eqb x.code 0)
    (λ u. let e = eqb→eq x.code 0 u in λ i. x.place ∷ sym e i ∷ four (sym (r.value e) i))
    (λ u. λ i. x.place ∷ sym (one x.code r.code u) i ∷ four x.value)

value_ok : (v : ℕ) → v < 4294967296 → T (ok_value v)
value_ok v h = le→leb v 4294967295 (omega arith)

key_ok : (k : ℕ) → k < 256 → T (leb k 255)
key_ok k h = le→leb k 255 (omega arith)

pub operation_ok : (x : Item) → Sized x → T (ok_operation (as_operation x))
operation_ok x (k, v) =
    by (λ (o : R.Operation). T (ok_operation o)) (eqb x.code 0) (λ u. key_ok x.key k)
    (λ u. and (leb x.key 255) (ok_value x.value) (key_ok x.key k) (value_ok x.value v))

pub seen_ok : (x : Item) → Sized x → T (ok_seen (as_read x).value)
seen_ok x (k, v) = by (λ (o : Option ℕ). T (ok_seen o)) (eqb x.code 0) (λ u. tt) (λ u. value_ok x.value v)

-- ---- A list of them, whatever the view

module _ {A : Type 0} (view : Item → A) where
  pub view_length : (p n : ℕ) (xs : List Item) → T (ok_from p n xs) → length (map view (take n xs)) ≡ n
  view_length p zero xs t = refl
  view_length p (suc n) [] t = absurd t
  view_length p (suc n) (x ∷ xs) t = ap suc (view_length (suc x.place) n xs (and_r (leb p x.place && ok_item x) (ok_from (suc x.place) n xs) t))

  pub view_bytes : (shape : Shape) (bytes : A → List ℕ) → ((x : Item) → T (ok_item x) → bytes (view x) ≡ item_bytes shape x)
      → (p n : ℕ) (xs : List Item) → T (ok_from p n xs) → back_to_back bytes (map view (take n xs)) ≡ items_bytes shape (take n xs)
  view_bytes shape bytes one p zero xs t = refl
  view_bytes shape bytes one p (suc n) [] t = absurd t
  view_bytes shape bytes one p (suc n) (x ∷ xs) t =
      let a : Bool = leb p x.place in
      let r : Bool = ok_from (suc x.place) n xs in
      λ i. one x (and_r a (ok_item x) (and_l (a && ok_item x) r t)) i ++ view_bytes shape bytes one (suc x.place) n xs (and_r (a && ok_item x) r t) i

  pub view_rising : (place : A → ℕ) → ((x : Item) → place (view x) ≡ x.place) → (p n : ℕ) (xs : List Item) → T (ok_from p n xs) → T (rising p (map place (map view (take n xs))))
  view_rising place at p zero xs t = tt
  view_rising place at p (suc n) [] t = absurd t
  view_rising place at p (suc n) (x ∷ xs) t =
      let a : Bool = leb p x.place in
      let r : Bool = ok_from (suc x.place) n xs in
      let u = and_l (a && ok_item x) r t in
      let w = item_rules x (and_r a (ok_item x) u) in
      rw (at x)
      (and (within p 3 x.place) (rising (suc x.place) (map place (map view (take n xs)))) (and a (leb x.place 3) (and_l a (ok_item x) u) (le→leb x.place 3 w.place))
      (view_rising place at (suc x.place) n xs (and_r (a && ok_item x) r t)))

  pub view_every : (shape : Shape) (ok : A → Bool) → ((i : ℕ) (x : Item) → CanonItem shape i x → T (ok (view x)))
      → (i n : ℕ) (xs : List Item) → CanonFrom shape i n xs → T (every ok (map view (take n xs)))
  view_every shape ok one i zero xs c = tt
  view_every shape ok one i (suc n) [] c = tt
  view_every shape ok one i (suc n) (x ∷ xs) (d, c) = and (ok (view x)) (every ok (map view (take n xs))) (one i x d) (view_every shape ok one (suc i) n xs c)

-- ---- Items made of what the rules speak of

-- slots behind the items
pub filled_length : (k : ℕ) (xs : List Item) → length (filled k xs) ≡ k
filled_length zero xs = refl
filled_length (suc k) [] = ap suc (filled_length k [])
filled_length (suc k) (x ∷ xs) = ap suc (filled_length k xs)

pub filled_take : (k : ℕ) (xs : List Item) → length xs ≤ k → take (length xs) (filled k xs) ≡ xs
filled_take k [] h = refl
filled_take zero (x ∷ xs) h = absurd (omega arith)
filled_take (suc k) (x ∷ xs) h = ap (λ (l : List Item). x ∷ l) (filled_take k xs (omega arith))

pub filled_ok : (k p : ℕ) (xs : List Item) → length xs ≤ k → T (ok_from p (length xs) xs) → T (ok_from p (length xs) (filled k xs))
filled_ok k p [] h t = tt
filled_ok zero p (x ∷ xs) h t = absurd (omega arith)
filled_ok (suc k) p (x ∷ xs) h t =
    let a : Bool = leb p x.place && ok_item x in
    let r : Bool = ok_from (suc x.place) (length xs) xs in
    and a (ok_from (suc x.place) (length xs) (filled k xs)) (and_l a r t) (filled_ok k (suc x.place) xs (omega arith) (and_r a r t))

empty_canon : (shape : Shape) (k i : ℕ) → CanonFrom shape i zero (filled k [])
empty_canon shape zero i = tt
empty_canon shape (suc k) i = (refl, empty_canon shape k (suc i))

pub filled_canon : (shape : Shape) (k i : ℕ) (xs : List Item) → CanonFrom shape i (length xs) xs → CanonFrom shape i (length xs) (filled k xs)
filled_canon shape k i [] c = empty_canon shape k i
filled_canon shape zero i (x ∷ xs) c = tt
filled_canon shape (suc k) i (x ∷ xs) (d, c) = (d, filled_canon shape k (suc i) xs c)

-- one more item in front
ok_front : (p q n : ℕ) (x : Item) (xs : List Item) → x.place ≡ q → T (leb p q) → T (ok_item x) → T (ok_from (suc q) n xs) → T (ok_from p (suc n) (x ∷ xs))
ok_front p q n x xs e l o t =
    let a : T (leb p x.place) = rw e l in
    let c : T (ok_from (suc x.place) n xs) = rw e t in
    and (leb p x.place && ok_item x) (ok_from (suc x.place) n xs) (and (leb p x.place) (ok_item x) a o) c

key_lt : (k : ℕ) → T (leb k 255) → k < 256
key_lt k t = let h = leb→le k 255 t in omega arith

-- operations
pub key_of_lem : (x : Item) → R.key_of (as_operation x) ≡ x.key
key_of_lem x = by (λ (o : R.Operation). R.key_of o ≡ x.key) (eqb x.code 0) (λ t. refl) (λ t. refl)

pub operation_back : (p : ℕ) (o : R.Operation) → as_operation (operation_item p o) ≡ o
unfolding If◌then◌else◌
operation_back p (get key) = refl
operation_back p (put key value) = refl

pub operation_place : (p : ℕ) (o : R.Operation) → (operation_item p o).place ≡ p
operation_place p (get key) = refl
operation_place p (put key value) = refl

pub operation_item_ok : (p : ℕ) (o : R.Operation) → p ≤ 3 → T (ok_item (operation_item p o))
operation_item_ok p (get key) h = and (leb p 3 && leb 0 1) (leb 1 0 || eqb 0 0) (and (leb p 3) (leb 0 1) (le→leb p 3 h) tt) tt
operation_item_ok p (put key value) h = and (leb p 3 && leb 1 1) (leb 1 1 || eqb value 0) (and (leb p 3) (leb 1 1) (le→leb p 3 h) tt) tt

pub operation_sized : (p : ℕ) (o : R.Operation) → T (ok_operation o) → Sized (operation_item p o)
operation_sized p (get key) t = (key_lt key t, omega arith)
operation_sized p (put key value) t = (key_lt key (and_l (leb key 255) (ok_value value) t), value_lt value (and_r (leb key 255) (ok_value value) t))

pub operations_length : (p : ℕ) (os : List R.Operation) → length (operation_items p os) ≡ length os
operations_length p [] = refl
operations_length p (o ∷ os) = ap suc (operations_length (suc p) os)

pub operations_back : (p : ℕ) (os : List R.Operation) → map as_operation (operation_items p os) ≡ os
operations_back p [] = refl
operations_back p (o ∷ os) = λ i. operation_back p o i ∷ operations_back (suc p) os i

pub operations_ok : (p : ℕ) (os : List R.Operation) → p + length os ≤ 4 → T (ok_from p (length os) (operation_items p os))
operations_ok p [] h = tt
operations_ok p (o ∷ os) h =
    ok_front p p (length os) (operation_item p o) (operation_items (suc p) os) (operation_place p o) (le→leb p p (omega arith)) (operation_item_ok p o (omega arith))
    (operations_ok (suc p) os (omega arith))

pub operations_canon : (p : ℕ) (os : List R.Operation) → T (every ok_operation os) → CanonFrom Operation p (length os) (operation_items p os)
operations_canon p [] t = tt
operations_canon p (o ∷ os) t =
    ((operation_place p o, operation_sized p o (and_l (ok_operation o) (every ok_operation os) t)), operations_canon (suc p) os (and_r (ok_operation o) (every ok_operation os) t))

-- placed operations and reads, whatever the item
module _ {A : Type 0} (item : A → Item) where
  pub made_length : (xs : List A) → length (map item xs) ≡ length xs
  made_length [] = refl
  made_length (x ∷ xs) = ap suc (made_length xs)

  pub made_back : (view : Item → A) → ((x : A) → view (item x) ≡ x) → (xs : List A) → map view (map item xs) ≡ xs
  made_back view back [] = refl
  made_back view back (x ∷ xs) = λ i. back x i ∷ made_back view back xs i

  pub made_ok : (place : A → ℕ) → ((x : A) → (item x).place ≡ place x) → ((x : A) → place x ≤ 3 → T (ok_item (item x)))
      → (p : ℕ) (xs : List A) → T (rising p (map place xs)) → T (ok_from p (length xs) (map item xs))
  made_ok place at ok p [] t = tt
  made_ok place at ok p (x ∷ xs) t =
      let w : Bool = within p 3 (place x) in
      let r : Bool = rising (suc (place x)) (map place xs) in
      let u = and_l w r t in
      ok_front p (place x) (length xs) (item x) (map item xs) (at x) (and_l (leb p (place x)) (leb (place x) 3) u)
      (ok x (leb→le (place x) 3 (and_r (leb p (place x)) (leb (place x) 3) u))) (made_ok place at ok (suc (place x)) xs (and_r w r t))

  pub made_canon : (shape : Shape) (ok : A → Bool) → ((i : ℕ) (x : A) → T (ok x) → CanonItem shape i (item x)) → (i : ℕ) (xs : List A) → T (every ok xs) → CanonFrom shape i (length xs) (map item xs)
  made_canon shape ok one i [] t = tt
  made_canon shape ok one i (x ∷ xs) t = (one i x (and_l (ok x) (every ok xs) t), made_canon shape ok one (suc i) xs (and_r (ok x) (every ok xs) t))

pub placed_back : (x : R.Placed) → as_placed (placed_item x) ≡ x
placed_back x = λ i. record { place = operation_place x.place x.operation i; operation = operation_back x.place x.operation i }

pub read_place : (x : R.Read) → (read_item x).place ≡ x.place
read_place x = go x.value
  where
    go : (v : Option ℕ) → (seen_item x.place v).place ≡ x.place
    go none = refl
    go (some value) = refl

pub read_back : (x : R.Read) → as_read (read_item x) ≡ x
unfolding If◌then◌else◌
read_back x = go x.value
  where
    go : (v : Option ℕ) → as_read (seen_item x.place v) ≡ record { place = x.place; value = v }
    go none = refl
    go (some value) = refl

pub read_item_ok : (x : R.Read) → x.place ≤ 3 → T (ok_item (read_item x))
read_item_ok x h = go x.value
  where
    go : (v : Option ℕ) → T (ok_item (seen_item x.place v))
    go none = and (leb x.place 3 && leb 0 1) (leb 1 0 || eqb 0 0) (and (leb x.place 3) (leb 0 1) (le→leb x.place 3 h) tt) tt
    go (some value) = and (leb x.place 3 && leb 1 1) (leb 1 1 || eqb value 0) (and (leb x.place 3) (leb 1 1) (le→leb x.place 3 h) tt) tt

pub read_canon : (i : ℕ) (x : R.Read) → T (ok_seen x.value) → CanonItem Read i (read_item x)
read_canon i x = go x.value
  where
    go : (v : Option ℕ) → T (ok_seen v) → CanonItem Read i (seen_item x.place v)
    go none t = (refl, (omega arith, omega arith))
    go (some value) t = (refl, (omega arith, value_lt value t))

-- ---- Right items that lie as they should are made of what they mean

operation_made : (p : ℕ) (x : Item) → x.place ≡ p → T (ok_item x) → operation_item p (as_operation x) ≡ x
operation_made p x e t =
    let r = item_rules x t in
    by (λ (o : R.Operation). operation_item p o ≡ x) (eqb x.code 0)
    (λ u. let c = eqb→eq x.code 0 u in λ i. record { place = sym e i; code = sym c i; key = x.key; value = sym (r.value c) i })
    (λ u. λ i. record { place = sym e i; code = sym (one x.code r.code u) i; key = x.key; value = x.value })

pub read_made : (i : ℕ) (x : Item) → T (ok_item x) → CanonItem Read i x → read_item (as_read x) ≡ x
read_made i x t (k, c) =
    let r = item_rules x t in
    by (λ (v : Option ℕ). seen_item x.place v ≡ x) (eqb x.code 0)
    (λ u. let c = eqb→eq x.code 0 u in λ i. record { place = x.place; code = sym c i; key = sym k i; value = sym (r.value c) i })
    (λ u. λ i. record { place = x.place; code = sym (one x.code r.code u) i; key = sym k i; value = x.value })

empty_made : (shape : Shape) (i : ℕ) (xs : List Item) → CanonFrom shape i zero xs → filled (length xs) [] ≡ xs
empty_made shape i [] c = refl
empty_made shape i (x ∷ xs) (e, c) = λ j. sym e j ∷ empty_made shape (suc i) xs c j

operations_made : (p i n : ℕ) (xs : List Item) → T (ok_from p n xs) → CanonFrom Operation i n xs → filled (length xs) (operation_items i (map as_operation (take n xs))) ≡ xs
operations_made p i zero xs t c = empty_made Operation i xs c
operations_made p i (suc n) [] t c = absurd t
operations_made p i (suc n) (x ∷ xs) t (d, c) =
    let a : Bool = leb p x.place in
    let r : Bool = ok_from (suc x.place) n xs in
    λ j. operation_made i x d.0 (and_r a (ok_item x) (and_l (a && ok_item x) r t)) j ∷ operations_made (suc x.place) (suc i) n xs (and_r (a && ok_item x) r t) c j

-- so the same operations are the same items
pub same_operations_lem : (n m : ℕ) (xs ys : List Item) → T (ok_from 0 n xs) → T (ok_from 0 m ys) → CanonFrom Operation 0 n xs → CanonFrom Operation 0 m ys → length xs ≡ length ys
    → map as_operation (take n xs) ≡ map as_operation (take m ys) → (n ≡ m) × (xs ≡ ys)
same_operations_lem n m xs ys t u c d l e = (
  sym (view_length as_operation 0 n xs t) ∙ ap length e ∙ view_length as_operation 0 m ys u,
  sym (operations_made 0 0 n xs t c) ∙ (λ i. filled (l i) (operation_items 0 (e i))) ∙ operations_made 0 0 m ys u d,
)
