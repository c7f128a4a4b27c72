-- Reads kept by place: storing the reads of some gets puts each into the slot of its place and leaves every other slot, so that what the
-- slots then say is what was stored, for these gets, and what they said before, for all others.
-- Assumes nothing.
use mathlib.Core.Path.{◌≡◌, refl, sym, ap, ◌∙◌}
use mathlib.Core.Bool.{Bool, true, false, not, ◌&&◌}
use mathlib.Core.List.{List, [], ◌∷◌, map}
use mathlib.Core.Option.{Option, some}
use Prim.Native.Nat.{ℕ, zero, suc, ◌+◌, ◌≤◌, ◌<◌}
use native.Mathlib.Omega.{arith}
use lib.Dec.{T, leb, leb→le, le→leb, T_not}
use lib.ListN.{length, get_or, set, length-set}
use lib.Seq.{get_or-set_same, get_or-set_other}
use Rattle.rules.specs.Lists.{at}
use Rattle.rules.specs.Transactions.{Operation, get, put, Placed, Read, key_of, placed, keep, get_place, get_places, gather, gather_one}
use Rattle.rules.proofs.Lists.{by, and, and_l, and_r, nothing}
use Rattle.frames.specs.declared.Item.{Item}
use Rattle.frames.specs.Frames.{no_item, ok_item, ok_from}
use Rattle.frames.specs.View.{as_read}
use Rattle.entry.specs.Model.{stored_all}
use Rattle.entry.specs.View.{saw, is_get}

-- a slot
abbrev slot : List Item → ℕ → Item
slot l p = get_or l p no_item

abbrev places_of : List Item → List ℕ
places_of rs = map (λ (r : Read). r.place) (map as_read rs)

-- an item in front of a list that rises
record Front (p : ℕ) (r : Item) (rs : List Item) : Type 0 where
  low : p ≤ r.place
  ok : T (ok_item r)
  rest : T (ok_from (suc r.place) (length rs) rs)

front : (p : ℕ) (r : Item) (rs : List Item) → T (ok_from p (suc (length rs)) (r ∷ rs)) → Front p r rs
front p r rs h =
    let a : Bool = leb p r.place in
    let b : Bool = ok_item r in
    let c : Bool = ok_from (suc r.place) (length rs) rs in
    let ab = and_l (a && b) c h in
    record { low = leb→le p r.place (and_l a b ab); ok = and_r a b ab; rest = and_r (a && b) c h }

small : (r : Item) → T (ok_item r) → r.place < 4
small r h =
    let a : Bool = leb r.place 3 in
    let b : Bool = leb r.code 1 in
    let l = leb→le r.place 3 (and_l a b (and_l (a && b) _ h)) in
    omega arith

-- ---- Slots

-- a place below all that is stored
stays : (q p : ℕ) (slots rs : List Item) → T (ok_from q (length rs) rs) → p < q → slot (stored_all slots rs) p ≡ slot slots p
stays q p slots [] h l = refl
stays q p slots (r ∷ rs) h l =
    let f = front q r rs h in
    stays (suc r.place) p (set slots r.place r) rs f.rest (omega (arith, f.low))
    ∙ get_or-set_other slots r.place p r no_item (λ e. omega (arith, f.low))

-- the first that is stored
first : (q : ℕ) (slots : List Item) (r : Item) (rs : List Item) → T (ok_from q (suc (length rs)) (r ∷ rs)) → length slots ≡ 4
    → slot (stored_all slots (r ∷ rs)) r.place ≡ r
first q slots r rs h n =
    let f = front q r rs h in
    stays (suc r.place) r.place (set slots r.place r) rs f.rest (omega arith)
    ∙ get_or-set_same slots r.place r no_item (let s = small r f.ok in omega arith)

-- ---- The reads of exactly the gets that were stored

no_cons : {A : Type 0} {x : ℕ} {xs : List ℕ} → ◌≡◌ {A = List ℕ} (x ∷ xs) [] → A
no_cons e = let z : ◌≡◌ {A = ℕ} 0 1 = cc in absurd (omega arith)

pub stored_reads : (q : ℕ) (xs : List Placed) (slots rs : List Item) → T (ok_from q (length rs) rs) → length slots ≡ 4 → places_of rs ≡ get_places xs
    → gather xs (saw (stored_all slots rs)) ≡ map as_read rs
stored_reads q [] slots [] h n e = refl
stored_reads q [] slots (r ∷ rs) h n e = no_cons e
stored_reads q (x ∷ xs) slots rs h n e = go x.operation rs h e (λ slots' q' rs' h' n' e'. stored_reads q' xs slots' rs' h' n' e')
  where
    go : (o : Operation) (rs : List Item) → T (ok_from q (length rs) rs) → places_of rs ≡ get_place x o (get_places xs)
        → ((slots : List Item) (q : ℕ) (rs : List Item) → T (ok_from q (length rs) rs) → length slots ≡ 4 → places_of rs ≡ get_places xs → gather xs (saw (stored_all slots rs)) ≡ map as_read rs)
        → gather_one x o (saw (stored_all slots rs)) (gather xs (saw (stored_all slots rs))) ≡ map as_read rs
    go (put key value) rs h e ih = ih slots q rs h n e
    go (get key) [] h e ih = no_cons (sym e)
    go (get key) (r ∷ rs) h e ih =
        let p : r.place ≡ x.place = cc in
        let rest : places_of rs ≡ get_places xs = cc in
        let f = front q r rs h in
        let v : saw (stored_all slots (r ∷ rs)) x.place ≡ (as_read r).value = ap (λ k. saw (stored_all slots (r ∷ rs)) k) (sym p) ∙ ap (λ (y : Item). (as_read y).value) (first q slots r rs h n) in
        λ i. record { place = sym p i; value = v i } ∷ ih (set slots r.place r) (suc r.place) rs f.rest (rw length-set n) rest i

-- ---- Every place of a list of operations

-- the places of the gets from p on are p and above
gets_from : (s : ℕ → Bool) (p : ℕ) (os : List Operation) (k : ℕ) (ks : List ℕ) → k ∷ ks ≡ get_places (keep s (placed p os)) → p ≤ k
gets_from s p [] k ks = λ e. no_cons e
gets_from s p (o ∷ os) k ks =
    by (λ (l : List Placed). k ∷ ks ≡ get_places l → p ≤ k) (s (key_of o)) (λ t e. go o e (λ e'. gets_from s (suc p) os k ks e'))
    (λ t e. let h = gets_from s (suc p) os k ks e in omega arith)
  where
    go : (o : Operation) → k ∷ ks ≡ get_place (record { place = p; operation = o }) o (get_places (keep s (placed (suc p) os)))
        → (k ∷ ks ≡ get_places (keep s (placed (suc p) os)) → suc p ≤ k) → p ≤ k
    go (get key) e ih = let d : k ≡ p = cc in omega arith
    go (put key value) e ih = let h = ih e in omega arith

-- so a list of reads at these places rises from there
from_on : (s : ℕ → Bool) (q p : ℕ) (os : List Operation) (rs : List Item) → T (ok_from q (length rs) rs) → places_of rs ≡ get_places (keep s (placed p os)) → T (ok_from p (length rs) rs)
from_on s q p os [] h e = tt
from_on s q p os (r ∷ rs) h e =
    let f = front q r rs h in
    let l = gets_from s p os r.place (places_of rs) e in
    and (leb p r.place && ok_item r) (ok_from (suc r.place) (length rs) rs) (and (leb p r.place) (ok_item r) (le→leb p r.place l) f.ok) f.rest

-- what is asked of every read of a list
abbrev pub Each : (Item → Type 0) → List Item → Type 0
Each Q [] = Unit {0}
Each Q (r ∷ rs) = Q r × Each Q rs

-- the slot of a place after storing the reads of the gets that pass a test: that get's read, or as before
pub data After (Q : Item → Type 0) (stores : Bool) (p : ℕ) (before after : Item) : Type 0 where
  new : T stores → after.place ≡ p → Q after → After Q stores p before after
  old : T (not stores) → after ≡ before → After Q stores p before after

module _ (Q : Item → Type 0) (s : ℕ → Bool) where
  abbrev stores : Operation → Bool
  stores o = is_get o && s (key_of o)

  -- how the head of the list splits: its read is the first, or none is for it
  data Head (p : ℕ) (o : Operation) (os : List Operation) (rs : List Item) : Type 0 where
    mine : (r : Item) (rest : List Item) → T (stores o) → rs ≡ r ∷ rest → r.place ≡ p → places_of rest ≡ get_places (keep s (placed (suc p) os)) → Head p o os rs
    other : T (not (stores o)) → places_of rs ≡ get_places (keep s (placed (suc p) os)) → Head p o os rs

  head : (p : ℕ) (o : Operation) (os : List Operation) (rs : List Item) → places_of rs ≡ get_places (keep s (placed p (o ∷ os))) → Head p o os rs
  head p o os rs =
      by (λ (l : List Placed). places_of rs ≡ get_places l → Head p o os rs) (s (key_of o)) (λ t e. yes o t rs e) (λ t e. other (no (is_get o) (s (key_of o)) t) e)
    where
      no : (a b : Bool) → T (not b) → T (not (a && b))
      no true b t = t
      no false b t = tt

      yes : (o : Operation) → T (s (key_of o)) → (rs : List Item) → places_of rs ≡ get_place (record { place = p; operation = o }) o (get_places (keep s (placed (suc p) os))) → Head p o os rs
      yes (put key value) t rs e = other tt e
      yes (get key) t [] e = no_cons (sym e)
      yes (get key) t (r ∷ rs) e = let d : r.place ≡ p = cc in let rest : places_of rs ≡ get_places (keep s (placed (suc p) os)) = cc in mine r rs t refl d rest

  -- what storing leaves in the slot k of the operation o
  abbrev Slot : Operation → ℕ → List Item → List Item → Type 0
  Slot o k slots rs = After Q (stores o) k (slot slots k) (slot (stored_all slots rs) k)

  -- the same for the operations from p on
  abbrev From : ℕ → List Operation → Operation → ℕ → Type 0
  From p os o k =
      (slots rs : List Item) → T (ok_from p (length rs) rs) → length slots ≡ 4 → Each Q rs → places_of rs ≡ get_places (keep s (placed p os)) → (i : ℕ) → k ≡ p + i
      → at os i ≡ some o → Slot o k slots rs

  one_more_lem : (p : ℕ) (o' : Operation) (os : List Operation) (o : Operation) (k : ℕ) (slots : List Item) → length slots ≡ 4 → From (suc p) os o k → (rs : List Item)
      → Head p o' os rs → T (ok_from p (length rs) rs) → Each Q rs → (i : ℕ) → k ≡ p + i → at (o' ∷ os) i ≡ some o → Slot o k slots rs
  one_more_lem p o' os o k slots n ih rs (mine r rest t e d f) h q zero k-is a =
      let same : o' ≡ o = cc in
      let here : r.place ≡ k = omega arith in
      let is : slot (stored_all slots (r ∷ rest)) k ≡ r = ap (slot (stored_all slots (r ∷ rest))) (sym here) ∙ first p slots r rest (rw e at h) n in
      rw (e, is) (new (rw (← same) t) here (rw e at q).0)
  one_more_lem p o' os o k slots n ih rs (mine r rest t e d f) h q (suc i) k-is a =
      let u = front p r rest (rw e at h) in
      let m = ih (set slots r.place r) rest (rw (← d) u.rest) (rw length-set n) (rw e at q).1 f i (omega arith) a in
      let before : slot (set slots r.place r) k ≡ slot slots k = get_or-set_other slots r.place k r no_item (λ z. omega arith) in
      rw e (rw before at m)
  one_more_lem p o' os o k slots n ih rs (other t f) h q zero k-is a =
      let same : o' ≡ o = cc in
      old (rw (← same) t) (stays (suc p) k slots rs (from_on s p (suc p) os rs h f) (omega arith))
  one_more_lem p o' os o k slots n ih rs (other t f) h q (suc i) k-is a = ih slots rs (from_on s p (suc p) os rs h f) n q f i (omega arith) a

  pub after_store : (p : ℕ) (os : List Operation) (o : Operation) (k : ℕ) → From p os o k
  after_store p [] o k = λ slots rs h n q e i d a. nothing a
  after_store p (o' ∷ os) o k = λ slots rs h n q e i d a. one_more_lem p o' os o k slots n (after_store (suc p) os o k) rs (head p o' os rs e) h q i d a

  -- a slot behind those of the operations is as before
  pub behind : (p : ℕ) (os : List Operation) (slots rs : List Item) → places_of rs ≡ get_places (keep s (placed p os)) → (k : ℕ) → p + length os ≤ k → slot (stored_all slots rs) k ≡ slot slots k
  behind p [] slots [] e k l = refl
  behind p [] slots (r ∷ rs) e k l = no_cons e
  behind p (o ∷ os) slots rs e k l = go (head p o os rs e) (λ slots rs f. behind (suc p) os slots rs f k (omega arith))
    where
      go : Head p o os rs → ((slots rs : List Item) → places_of rs ≡ get_places (keep s (placed (suc p) os)) → slot (stored_all slots rs) k ≡ slot slots k)
          → slot (stored_all slots rs) k ≡ slot slots k
      go (mine r rest t d q f) ih = rw d (ih (set slots r.place r) rest f ∙ get_or-set_other slots r.place k r no_item (λ z. omega arith))
      go (other t f) ih = ih slots rs f

-- ---- Reads that depend on some slots only

pub same_reads : (t : ℕ → Bool) (p : ℕ) (os : List Operation) (see saw : ℕ → Option ℕ)
    → ((k i : ℕ) (o : Operation) → k ≡ p + i → at os i ≡ some o → T (is_get o) → T (t (key_of o)) → see k ≡ saw k)
    → gather (keep t (placed p os)) see ≡ gather (keep t (placed p os)) saw
same_reads t p [] see saw h = refl
same_reads t p (o ∷ os) see saw h =
    let rest = same_reads t (suc p) os see saw (λ k i o d a. h k (suc i) o (omega arith) a) in
    by (λ (l : List Placed). gather l see ≡ gather l saw) (t (key_of o)) (λ u. go o (h p 0 o (omega arith) refl) u rest) (λ u. rest)
  where
    go : (o : Operation) → (T (is_get o) → T (t (key_of o)) → see p ≡ saw p) → T (t (key_of o))
        → gather (keep t (placed (suc p) os)) see ≡ gather (keep t (placed (suc p) os)) saw
        → gather_one (record { place = p; operation = o }) o see (gather (keep t (placed (suc p) os)) see)
        ≡ gather_one (record { place = p; operation = o }) o saw (gather (keep t (placed (suc p) os)) saw)
    go (get key) f u e = λ i. record { place = p; value = f tt u i } ∷ e i
    go (put key value) f u e = e

-- and the reads of the gets that pass a test tell what these slots say
abbrev Told : (t : ℕ → Bool) (see tell : ℕ → Option ℕ) → ℕ → List Operation → Type 0
Told t see tell p os = (i : ℕ) (o : Operation) → at os i ≡ some o → T (is_get o) → T (t (key_of o)) → see (p + i) ≡ tell (p + i)

pub told : (t : ℕ → Bool) (see tell : ℕ → Option ℕ) (p : ℕ) (os : List Operation) → gather (keep t (placed p os)) see ≡ gather (keep t (placed p os)) tell → Told t see tell p os
told t see tell p [] = λ e i o a. nothing a
told t see tell p (x ∷ os) =
    by (λ (l : List Placed). gather l see ≡ gather l tell → Told t see tell p (x ∷ os)) (t (key_of x)) (λ u e. yes x e (told t see tell (suc p) os)) (λ u e. no u (told t see tell (suc p) os e))
  where
    later : (o : Operation) → Told t see tell (suc p) os → (i : ℕ) → at os i ≡ some o → T (is_get o) → T (t (key_of o)) → see (p + suc i) ≡ tell (p + suc i)
    later o ih i a g h = let z : suc p + i ≡ p + suc i = omega arith in rw z at (ih i o a g h)

    yes : (x : Operation) → gather_one (record { place = p; operation = x }) x see (gather (keep t (placed (suc p) os)) see) ≡ gather_one (record { place = p; operation = x }) x tell (gather (keep t (placed (suc p) os)) tell)
        → (gather (keep t (placed (suc p) os)) see ≡ gather (keep t (placed (suc p) os)) tell → Told t see tell (suc p) os) → Told t see tell p (x ∷ os)
    yes (get key) e ih zero o a g h =
        let r : ◌≡◌ {A = Read} (record { place = p; value = see p }) (record { place = p; value = tell p }) = cc in
        let z : p + 0 ≡ p = omega arith in
        rw z (ap (λ (x : Read). x.value) r)
    yes (get key) e ih (suc i) o a g h = let rest : gather (keep t (placed (suc p) os)) see ≡ gather (keep t (placed (suc p) os)) tell = cc in later o (ih rest) i a g h
    yes (put key value) e ih zero o a g h = let d : put key value ≡ o = cc in absurd (rw (← d) at g)
    yes (put key value) e ih (suc i) o a g h = later o (ih e) i a g h

    no : T (not (t (key_of x))) → Told t see tell (suc p) os → Told t see tell p (x ∷ os)
    no u ih zero o a g h = let d : x ≡ o = cc in absurd (T_not (t (key_of o)) (rw d at u) h)
    no u ih (suc i) o a g h = later o ih i a g h
