-- What a held entry hands to a frame: the stored reads are the rules' reads of the entry, and they, like the operations on one shard,
-- keep the rules of a frame's list.
-- Assumes nothing.
use mathlib.Core.Path.{◌≡◌, refl, sym, ap, ◌∙◌, fun_ext}
use mathlib.Core.Bool.{Bool, true, false, not, ◌&&◌}
use mathlib.Core.List.{List, [], ◌∷◌, ◌++◌, map}
use mathlib.Core.Option.{Option, some}
use Prim.Native.Nat.{ℕ, zero, suc, ◌+◌, ◌-◌, ◌≤◌}
use native.Mathlib.Nat.{add-zero}
use native.Mathlib.Omega.{arith}
use lib.Dec.{T, leb, eqb, leb→le, le→leb}
use lib.ListN.{length, get_or, take, replicate}
use Rattle.rules.specs.Lists.{If◌then◌else◌, at}
use Rattle.rules.specs.Transactions as R
use Rattle.rules.specs.Transactions.{get, put, key_of, shard_of, placed, keep, gather}
use Rattle.rules.proofs.Lists.{by, and, and_l, and_r}
use Rattle.frames.specs.declared.Item.{Item}
use Rattle.frames.specs.Frames.{no_item, ok_item, ok_from, ok_items}
use Rattle.frames.specs.View.{as_operation, as_read, operations_of, reads_of}
use Rattle.frames.proofs.Round.{enough}
use Rattle.frames.proofs.Slots.{key_of_lem}
use Rattle.entry.specs.declared.Entry.{Entry}
use Rattle.entry.specs.Model as M
use Rattle.entry.specs.Model.{in_mask, beside, is_on, chosen, part_on, answered_of, reads_held}
use Rattle.entry.specs.View.{set_of, saw, heard_key, view_entry, is_get, ReadOf, EntryHeld}
use Rattle.entry.proofs.Slots.{part_take}
use Rattle.entry.proofs.Sets.{in_set, shard_number_lem}

-- ---- Lists that rise

-- from further down
ok_lower : (p q n : ℕ) (xs : List Item) → p ≤ q → T (ok_from q n xs) → T (ok_from p n xs)
ok_lower p q zero xs h t = tt
ok_lower p q (suc n) [] h t = absurd t
ok_lower p q (suc n) (x ∷ xs) h t =
    let a = and_l (leb q x.place && ok_item x) (ok_from (suc x.place) n xs) t in
    let l = leb→le q x.place (and_l (leb q x.place) (ok_item x) a) in
    and (leb p x.place && ok_item x) (ok_from (suc x.place) n xs)
    (and (leb p x.place) (ok_item x) (le→leb p x.place (omega arith)) (and_r (leb q x.place) (ok_item x) a))
    (and_r (leb q x.place && ok_item x) (ok_from (suc x.place) n xs) t)

-- an item in front
ok_front : (p n : ℕ) (x : Item) (xs : List Item) → p ≤ x.place → T (ok_item x) → T (ok_from (suc x.place) n xs) → T (ok_from p (suc n) (x ∷ xs))
ok_front p n x xs h t u =
    and (leb p x.place && ok_item x) (ok_from (suc x.place) n xs) (and (leb p x.place) (ok_item x) (le→leb p x.place h) t) u

-- some of a list that keeps the rules, whatever stands behind them
abbrev Right : ℕ → List Item → List Item → Type 0
Right p zs xs = T (ok_from p (length xs) (xs ++ zs))

chosen_right : (ok : Item → Bool) (zs : List Item) (p n : ℕ) (xs : List Item) → T (ok_from p n xs) → Right p zs (beside ok (take n xs) xs)
chosen_right ok zs p zero xs t = tt
chosen_right ok zs p (suc n) [] t = tt
chosen_right ok zs p (suc n) (x ∷ xs) t =
    let a = and_l (leb p x.place && ok_item x) (ok_from (suc x.place) n xs) t in
    let l = leb→le p x.place (and_l (leb p x.place) (ok_item x) a) in
    let r = chosen_right ok zs (suc x.place) n xs (and_r (leb p x.place && ok_item x) (ok_from (suc x.place) n xs) t) in
    by (Right p zs) (ok x)
    (λ u. ok_front p (length (beside ok (take n xs) xs)) x (beside ok (take n xs) xs ++ zs) l (and_r (leb p x.place) (ok_item x) a) r)
    (λ u. ok_lower p (suc x.place) (length (beside ok (take n xs) xs)) (beside ok (take n xs) xs ++ zs) (omega arith) r)

-- the operations on one shard keep the rules of a frame's list
pub part_right : (m j count : ℕ) (items : List Item) → T (ok_items count items) → T (ok_items (part_on m j count items).count (part_on m j count items).items)
unfolding part_on
part_right m j count items t =
    chosen_right (is_on m j) (replicate (4 - length (chosen (is_on m j) count items)) no_item) 0 count items t

-- ---- The stored reads

-- the slots ys beside the gets whose keys pass a test have the reads of their places
abbrev Answered : (ℕ → Bool) → ℕ → List R.Operation → List Item → Type 0
Answered ok p os ys = (i : ℕ) (o : R.Operation) → at os i ≡ some o → T (is_get o) → T (ok (key_of o)) → ReadOf (p + i) (get_or ys i no_item)

get_code : (x : Item) → T (eqb x.code 0) → T (is_get (as_operation x))
get_code x t = by (λ (o : R.Operation). T (is_get o)) (eqb x.code 0) (λ u. tt) (λ u. absurd (no (eqb x.code 0) t u))
  where
    no : (b : Bool) → T b → T (not b) → ⊥
    no true t u = u
    no false t u = t

module _ (ok : ℕ → Bool) (p : ℕ) (x y : Item) (os : List R.Operation) (ys : List Item) (h : Answered ok p (as_operation x ∷ os) (y ∷ ys)) where
  first_read_lem : T (eqb x.code 0 && ok x.key) → ReadOf p y
  first_read_lem t =
      let a = and_l (eqb x.code 0) (ok x.key) t in
      let b = and_r (eqb x.code 0) (ok x.key) t in
      rw (add-zero p) at (h 0 (as_operation x) refl (get_code x a) (rw (key_of_lem x) b))

  later_reads : Answered ok (suc p) os ys
  later_reads i o a t u = let e : p + suc i ≡ suc p + i = omega arith in rw e at (h (suc i) o a t u)

reads_right : (ok : ℕ → Bool) (zs : List Item) (p n : ℕ) (xs ys : List Item) → n ≤ length xs → length xs ≤ length ys → Answered ok p (map as_operation (take n xs)) ys
    → Right p zs (beside (λ x. M.is_get x && ok x.key) (take n xs) ys)
reads_right ok zs p zero xs ys l k h = tt
reads_right ok zs p (suc n) [] ys l k h = absurd (omega arith)
reads_right ok zs p (suc n) (x ∷ xs) [] l k h = absurd (omega arith)
reads_right ok zs p (suc n) (x ∷ xs) (y ∷ ys) l k h =
    let os : List R.Operation = map as_operation (take n xs) in
    let rest : List Item = beside (λ z. M.is_get z && ok z.key) (take n xs) ys in
    let r = reads_right ok zs (suc p) n xs ys (omega arith) (omega arith) (later_reads ok p x y os ys h) in
    by (Right p zs) (M.is_get x && ok x.key)
    (λ t.
    let f = first_read_lem ok p x y os ys h t in
    let e : suc p ≡ suc y.place = ap suc (sym f.place) in
    ok_front p (length rest) y (rest ++ zs) (omega (arith, f.place)) f.ok (rw e at r))
    (λ t. ok_lower p (suc p) (length rest) (rest ++ zs) (omega arith) r)

-- one slot more
slot_view : (see : ℕ → Option ℕ) (p : ℕ) (x y : Item) (ys : List Item) (xs : List R.Placed) (g t : Bool) → (T (g && t) → as_read y ≡ record { place = p; value = see p })
    → map as_read ys ≡ gather xs see
    → map as_read (If g && t then y ∷ ys else ys) ≡ gather (If t then record { place = p; operation = If g then get x.key else put x.key x.value } ∷ xs else xs) see
unfolding If◌then◌else◌
slot_view see p x y ys xs true true f e = λ i. f tt i ∷ e i
slot_view see p x y ys xs true false f e = e
slot_view see p x y ys xs false true f e = e
slot_view see p x y ys xs false false f e = e

slots_view : (ok : ℕ → Bool) (see : ℕ → Option ℕ) (p n : ℕ) (xs ys : List Item) → n ≤ length xs → length xs ≤ length ys → Answered ok p (map as_operation (take n xs)) ys
    → ((i : ℕ) → see (p + i) ≡ (as_read (get_or ys i no_item)).value)
    → map as_read (beside (λ x. M.is_get x && ok x.key) (take n xs) ys) ≡ gather (keep ok (placed p (map as_operation (take n xs)))) see
slots_view ok see p zero xs ys l k h s = refl
slots_view ok see p (suc n) [] ys l k h s = absurd (omega arith)
slots_view ok see p (suc n) (x ∷ xs) [] l k h s = absurd (omega arith)
slots_view ok see p (suc n) (x ∷ xs) (y ∷ ys) l k h s =
    let os : List R.Operation = map as_operation (take n xs) in
    let here : see p ≡ (as_read y).value = rw (add-zero p) at (s 0) in
    rw (key_of_lem x)
    (slot_view see p x y (beside (λ z. M.is_get z && ok z.key) (take n xs) ys) (keep ok (placed (suc p) os)) (M.is_get x) (ok x.key)
    (λ t. let f = first_read_lem ok p x y os ys h t in λ i. record { place = f.place i; value = sym here i })
    (slots_view ok see (suc p) n xs ys (omega arith) (omega arith) (later_reads ok p x y os ys h)
    (λ i. let e : p + suc i ≡ suc p + i = omega arith in rw e at (s (suc i)))))

module _ (m : ℕ) (e : Entry) (lo : 1 ≤ m) (h : EntryHeld m e) where
  abbrev ok : ℕ → Bool
  ok = heard_key m (set_of e.remaining)

  -- a get is answered where its shard remains no more
  answered_key : answered_of m e.remaining ≡ (λ (x : Item). M.is_get x && ok x.key)
  answered_key =
      fun_ext (λ x. ap (λ (b : Bool). M.is_get x && not b) (ap (in_mask e.remaining) (shard_number_lem m x.key lo) ∙ sym (in_set e.remaining (shard_of m x.key))))

  few : e.count ≤ length e.items
  few = enough 0 e.count e.items h.items

  answers : Answered ok 0 (operations_of e.count e.items) e.reads
  answers i o a t u = let z : 0 + i ≡ i = omega arith in rw z (h.answered i o a t u)

  -- the stored reads are the rules' reads of the entry ..
  pub held_reads : reads_of (reads_held m e).count (reads_held m e).items ≡ (view_entry m e).reads
  unfolding reads_held view_entry
  held_reads =
      ap (map as_read) (part_take (beside (answered_of m e.remaining) (take e.count e.items) e.reads))
      ∙ rw answered_key
      (slots_view ok (saw e.reads) 0 e.count e.items e.reads few (omega (arith, h.slots, h.places)) answers
      (λ i. let z : 0 + i ≡ i = omega arith in ap (saw e.reads) z))

  -- .. and keep the rules of a frame's list
  pub held_right : T (ok_items (reads_held m e).count (reads_held m e).items)
  unfolding reads_held
  held_right =
      rw answered_key
      (reads_right ok (replicate (4 - length (beside (λ x. M.is_get x && ok x.key) (take e.count e.items) e.reads)) no_item) 0 e.count e.items e.reads few
      (omega (arith, h.slots, h.places)) answers)
