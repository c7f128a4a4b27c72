-- A byte is a set of shards: testing, inserting, striking and being empty mean the same of the byte and of the rules' rising list.
-- Assumes nothing.
use mathlib.Core.Path.{◌≡◌, refl, sym, ap, ◌∙◌}
use mathlib.Core.Bool.{Bool, true, false, not, ◌&&◌, ◌||◌}
use mathlib.Core.Logic.{◌⊎◌, inl, inr}
use mathlib.Core.List.{List, [], ◌∷◌, map}
use Prim.Native.Nat.{ℕ, zero, suc, ◌+◌, ◌≤◌, ◌<◌}
use native.Mathlib.Nat.{mod-lt}
use native.Mathlib.Omega.{arith}
use borrow.Author.Tests.{leb-true}
use lib.Dec.{T, leb, eqb, eqb→eq, eqb_refl}
use lib.ListN.{take}
use mir.Facts.{yes_eqb, no_eqb, eqb_no}
use Rattle.rules.specs.Lists.{If◌then◌else◌, within, is_empty, has, insert, strike}
use Rattle.rules.specs.Transactions.{shard_of, touched}
use Rattle.rules.specs.Kept.{Ascending}
use Rattle.rules.proofs.Lists.{by, if_yes, if_no, or_cases, or_left, or_right, T_true, T_false}
use Rattle.rules.proofs.Sets.{insert_same, insert_old, insert_cases, strike_has}
use Rattle.rules.proofs.Room.{insert_ascends, strike_ascends}
use Rattle.frames.specs.declared.Item.{Item}
use Rattle.frames.specs.View.{as_operation, operations_of}
use Rattle.frames.proofs.Slots.{key_of_lem}
use Rattle.entry.specs.Model.{bit_of, in_mask, insert_of, strike_of, is_empty_of, shard_number, touched_mask, touched_of}
use Rattle.entry.specs.View.{set_from, set_of}
use Rattle.entry.proofs.Masks.{in_range_lem, bit_room, in_insert, in_strike, empty_mask, same_mask}

-- two tests that imply each other are the same
pub iff : (a b : Bool) → (T a → T b) → (T b → T a) → a ≡ b
iff true true f g = refl
iff true false f g = absurd (f tt)
iff false true f g = absurd (g tt)
iff false false f g = refl

-- ---- Rising lists with the same members are the same

-- no member of a rising list is below its bound
has_from : (p x : ℕ) (l : List ℕ) → Ascending p l → T (has x l) → p ≤ x
has_from p x [] a t = absurd t
has_from p x (y ∷ l) a t =
    or_cases (eqb x y) (has x l) t (λ e. let d : x ≡ y = eqb→eq x y e in omega (arith, a.0)) (λ h. let r = has_from (suc y) x l a.1 h in omega (arith, a.0))

same_tail : (p x : ℕ) (l k : List ℕ) → Ascending (suc x) l → Ascending (suc x) k → ((z : ℕ) → T (has z (x ∷ l)) → T (has z (x ∷ k))) → (z : ℕ) → T (has z l) → T (has z k)
same_tail p x l k a b h z t =
    or_cases (eqb z x) (has z k) (h z (or_right (eqb z x) (has z l) t)) (λ e. let d : z ≡ x = eqb→eq z x e in let r = has_from (suc x) z l a t in absurd (omega arith)) (λ r. r)

pub same_set : (p q : ℕ) (l k : List ℕ) → Ascending p l → Ascending q k → ((x : ℕ) → T (has x l) → T (has x k)) → ((x : ℕ) → T (has x k) → T (has x l)) → l ≡ k
same_set p q [] [] a b f g = refl
same_set p q [] (y ∷ k) a b f g = absurd (g y (or_left (eqb y y) (has y k) (eqb_refl y)))
same_set p q (x ∷ l) [] a b f g = absurd (f x (or_left (eqb x x) (has x l) (eqb_refl x)))
same_set p q (x ∷ l) (y ∷ k) a b f g =
    let low = has_from y x (y ∷ k) (omega arith, b.1) (f x (or_left (eqb x x) (has x l) (eqb_refl x))) in
    let high = has_from x y (x ∷ l) (omega arith, a.1) (g y (or_left (eqb y y) (has y k) (eqb_refl y))) in
    let e : x ≡ y = omega arith in
    let b' : Ascending (suc x) k = rw e b.1 in
    let f' : (z : ℕ) → T (has z (x ∷ l)) → T (has z (x ∷ k)) = λ z. rw e (rw e at (f z)) in
    let g' : (z : ℕ) → T (has z (x ∷ k)) → T (has z (x ∷ l)) = λ z. rw e (rw e at (g z)) in
    λ i. e i ∷ same_set (suc x) (suc x) l k a.1 b' (same_tail p x l k a.1 b' f') (same_tail p x k l b' a.1 g') i

-- ---- The shards of a mask

set_ascends : (k s mask : ℕ) → Ascending s (set_from k s mask)
set_ascends zero s mask = tt
set_ascends (suc k) s mask =
    let r = set_ascends k (suc s) mask in
    by (Ascending s) (in_mask mask s) (λ t. (omega arith, r)) (λ t. lower (set_from k (suc s) mask) r)
  where
    lower : (l : List ℕ) → Ascending (suc s) l → Ascending s l
    lower [] a = tt
    lower (x ∷ l) a = (omega (arith, a.0), a.1)

set_has : (k s j mask : ℕ) → T (has j (set_from k s mask)) → T (in_mask mask j)
set_has zero s j mask = λ t. absurd t
set_has (suc k) s j mask =
    by (λ (l : List ℕ). T (has j l) → T (in_mask mask j)) (in_mask mask s)
    (λ i t. or_cases (eqb j s) (has j (set_from k (suc s) mask)) t (λ e. let d : j ≡ s = eqb→eq j s e in rw d i) (λ h. set_has k (suc s) j mask h))
    (λ i t. set_has k (suc s) j mask t)

has_set : (k s j mask : ℕ) → s ≤ j → j < s + k → T (in_mask mask j) → T (has j (set_from k s mask))
has_set zero s j mask low high i = absurd (omega arith)
has_set (suc k) s j mask low high i = go (λ l. has_set k (suc s) j mask l (omega arith) i) (eqb j s) refl
  where
    go : (suc s ≤ j → T (has j (set_from k (suc s) mask))) → (b : Bool) → b ≡ eqb j s → T (has j (set_from (suc k) s mask))
    go rest true e =
        let d : j ≡ s = eqb→eq j s (rw (← e) tt) in
        rw (if_yes (in_mask mask s) (s ∷ set_from k (suc s) mask) (set_from k (suc s) mask) (rw (← d) i)) (or_left (eqb j s) (has j (set_from k (suc s) mask)) (yes_eqb d))
    go rest false e =
        let d = eqb_no {a = j} {b = s} (rw (← e) tt) in
        let r = rest (omega arith) in
        by (λ (l : List ℕ). T (has j l)) (in_mask mask s) (λ t. or_right (eqb j s) (has j (set_from k (suc s) mask)) r) (λ t. r)

pub in_set : (mask j : ℕ) → has j (set_of mask) ≡ in_mask mask j
unfolding set_of
in_set mask j =
    iff (has j (set_of mask)) (in_mask mask j) (set_has 8 1 j mask)
    (λ i. let r = in_range_lem mask j (T_true (in_mask mask j) i) in has_set 8 1 j mask r.0 (omega (arith, r.1)) i)

abbrev ascends : (mask : ℕ) → Ascending 1 (set_of mask)
unfolding set_of
ascends mask = set_ascends 8 1 mask

-- ---- Insert, strike, empty

-- members of the one are members of the other
both_ways : (mask : ℕ) (l : List ℕ) → Ascending 0 l → ((x : ℕ) → has x l ≡ in_mask mask x) → set_of mask ≡ l
both_ways mask l a h = same_set 1 0 (set_of mask) l (ascends mask) a (λ x t. rw (h x, ← (in_set mask x)) t) (λ x t. rw (in_set mask x, ← (h x)) t)

ascends_0 : (l : List ℕ) → Ascending 1 l → Ascending 0 l
ascends_0 [] a = tt
ascends_0 (x ∷ l) a = (omega arith, a.1)

pub strike_set : (mask j : ℕ) → set_of (strike_of mask j) ≡ strike j (set_of mask)
strike_set mask j =
    both_ways (strike_of mask j) (strike j (set_of mask)) (strike_ascends 0 j (set_of mask) (ascends_0 (set_of mask) (ascends mask)))
    (λ x. strike_has x j (set_of mask) ∙ (ap (λ b. not (eqb x j) && b) (in_set mask x) ∙ sym (in_strike mask j x)))

pub insert_set : (mask j : ℕ) → 1 ≤ j → j ≤ 8 → set_of (insert_of mask j) ≡ insert j (set_of mask)
insert_set mask j lo hi =
    both_ways (insert_of mask j) (insert j (set_of mask)) (insert_ascends 0 j (set_of mask) (omega arith) (ascends_0 (set_of mask) (ascends mask)))
    (λ x. iff (has x (insert j (set_of mask))) (in_mask (insert_of mask j) x)
    (λ t. rw (in_insert mask j lo hi x) (insert_cases x j (set_of mask) t (λ e. or_left (eqb x j) (in_mask mask x) e) (λ h. or_right (eqb x j) (in_mask mask x) (rw (in_set mask x) at h))))
    (λ t.
    or_cases (eqb x j) (in_mask mask x) (rw (in_insert mask j lo hi x) at t) (λ e. let d : x ≡ j = eqb→eq x j e in rw d (insert_same j (set_of mask)))
    (λ h. insert_old x j (set_of mask) (rw (in_set mask x) h))))

pub empty_set : (mask : ℕ) → mask < 256 → is_empty (set_of mask) ≡ is_empty_of mask
empty_set mask h =
    iff (is_empty (set_of mask)) (is_empty_of mask) (λ t. yes_eqb (empty_mask mask h (λ x. T_false (in_mask mask x) (none (set_of mask) t x (in_set mask x)))))
    (λ t. let e : mask ≡ 0 = eqb→eq mask 0 t in rw e (unfold set_of in_mask If◌then◌else◌ in tt))
  where
    none : (l : List ℕ) → T (is_empty l) → (x : ℕ) → has x l ≡ in_mask mask x → T (not (in_mask mask x))
    none [] t x e = rw (← e) tt
    none (y ∷ l) t x e = absurd t

-- ---- The shards that operations touch

pub shard_number_lem : (m key : ℕ) → 1 ≤ m → shard_number m key ≡ shard_of m key
unfolding shard_number
shard_number_lem m key h = if_no (eqb m 0) 0 (shard_of m key) (no_eqb {a = m} {b = 0} (omega arith))

pub shard_range : (m key : ℕ) → 1 ≤ m → m ≤ 8 → (1 ≤ shard_of m key) × (shard_of m key ≤ 8)
unfolding shard_of
shard_range m key lo hi = let h = mod-lt key {m = m} (omega arith) in (omega arith, omega arith)

touched_all : (m : ℕ) → 1 ≤ m → m ≤ 8 → (xs : List Item) → set_of (touched_mask m xs) ≡ touched m (map as_operation xs)
touched_all m lo hi [] = unfold set_of in_mask If◌then◌else◌ in refl
touched_all m lo hi (x ∷ xs) =
    let r = shard_range m x.key lo hi in
    ap (λ j. set_of (insert_of (touched_mask m xs) j)) (shard_number_lem m x.key lo)
    ∙ (insert_set (touched_mask m xs) (shard_of m x.key) r.0 r.1
    ∙ (λ i. insert (shard_of m (sym (key_of_lem x) i)) (touched_all m lo hi xs i)))

pub touched_set : (m count : ℕ) (items : List Item) → 1 ≤ m → m ≤ 8 → set_of (touched_of m count items) ≡ touched m (operations_of count items)
unfolding touched_of
touched_set m count items lo hi = touched_all m lo hi (take count items)

-- ---- The order in which shards are inserted makes no difference

insert_out : (mask j : ℕ) → within 1 8 j ≡ false → insert_of mask j ≡ mask
unfolding insert_of If◌then◌else◌
insert_out mask j e = rw e

insert_small : (mask j : ℕ) → mask < 256 → insert_of mask j < 256
unfolding insert_of
insert_small mask j h = go (leb 1 j) refl (leb j 8) refl (in_mask mask j) refl
  where
    go : (a : Bool) → a ≡ leb 1 j → (b : Bool) → b ≡ leb j 8 → (t : Bool) → in_mask mask j ≡ t → (If (a && b) && not t then mask + bit_of j else mask) < 256
    go true p true q false e = unfold If◌then◌else◌ in (bit_room mask j (leb-true 1 j (sym p)) (leb-true j 8 (sym q)) h e)
    go true p true q true e = unfold If◌then◌else◌ in h
    go true p false q t e = unfold If◌then◌else◌ in h
    go false p b q t e = unfold If◌then◌else◌ in h

insert_swap : (mask i j : ℕ) → mask < 256 → insert_of (insert_of mask i) j ≡ insert_of (insert_of mask j) i
insert_swap mask i j h = go (within_or i) (within_or j)
  where
    within_or : (k : ℕ) → (within 1 8 k ≡ false) ⊎ ((1 ≤ k) × (k ≤ 8))
    within_or k = ways (leb 1 k) refl (leb k 8) refl
      where
        ways : (a : Bool) → a ≡ leb 1 k → (b : Bool) → b ≡ leb k 8 → ((a && b) ≡ false) ⊎ ((1 ≤ k) × (k ≤ 8))
        ways true p true q = inr (leb-true 1 k (sym p), leb-true k 8 (sym q))
        ways true p false q = inl refl
        ways false p b q = inl refl

    either : (a b c : Bool) → (a || (b || c)) ≡ (b || (a || c))
    either true true c = refl
    either true false c = refl
    either false b c = refl

    go : (within 1 8 i ≡ false) ⊎ ((1 ≤ i) × (i ≤ 8)) → (within 1 8 j ≡ false) ⊎ ((1 ≤ j) × (j ≤ 8)) → insert_of (insert_of mask i) j ≡ insert_of (insert_of mask j) i
    go (inl e) r = rw (insert_out mask i e, insert_out (insert_of mask j) i e)
    go (inr l) (inl e) = rw (insert_out mask j e, insert_out (insert_of mask i) j e)
    go (inr l) (inr k) =
        same_mask _ _ (insert_small (insert_of mask i) j (insert_small mask i h)) (insert_small (insert_of mask j) i (insert_small mask j h))
        (λ x.
        rw (in_insert (insert_of mask i) j k.0 k.1 x, in_insert mask i l.0 l.1 x, in_insert (insert_of mask j) i l.0 l.1 x, in_insert mask j k.0 k.1 x)
        (either (eqb x j) (eqb x i) (in_mask mask x)))

-- the shards of the items put into a set, first to last
abbrev pub joined : ℕ → ℕ → List Item → ℕ
joined m mask [] = mask
joined m mask (x ∷ xs) = joined m (insert_of mask (shard_number m x.key)) xs

joined_insert : (m mask j : ℕ) (xs : List Item) → mask < 256 → joined m (insert_of mask j) xs ≡ insert_of (joined m mask xs) j
joined_insert m mask j [] h = refl
joined_insert m mask j (x ∷ xs) h =
    ap (λ n. joined m n xs) (insert_swap mask j (shard_number m x.key) h)
    ∙ joined_insert m (insert_of mask (shard_number m x.key)) j xs (insert_small mask (shard_number m x.key) h)

pub joined_all : (m : ℕ) (xs : List Item) → joined m 0 xs ≡ touched_mask m xs
joined_all m [] = refl
joined_all m (x ∷ xs) =
    joined_insert m 0 (shard_number m x.key) xs (omega arith) ∙ ap (λ n. insert_of n (shard_number m x.key)) (joined_all m xs)
