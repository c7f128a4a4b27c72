-- Running a log: what a shard group does with its part of each entry is what the whole log does with that shard's keys, what it reads there is
-- what the whole entry reads, and a log that grows gives what it gave.
-- Assumes nothing.
use mathlib.Core.Path.{◌≡◌, refl, sym, ap, ◌∙◌}
use mathlib.Core.Logic.{◌≢◌, ◌⊎◌, inl, inr}
use mathlib.Core.Bool.{Bool, true, false, not}
use mathlib.Core.List.{List, [], ◌∷◌}
use mathlib.Core.Option.{Option, none, some}
use Prim.Native.Nat.{ℕ, zero, suc, ◌+◌, ◌≤◌}
use native.Mathlib.Omega.{arith}
use lib.Dec.{T, eqb}
use lib.ListN.{length}
use mir.Facts.{T_not, not_T, yes_eqb, no_eqb}
use Rattle.rules.specs.Lists.{If◌then◌else◌, at, changed}
use Rattle.rules.specs.Transactions.{Operation, get, put, Write, Placed, Read, Cell, Store, key_of, shard_of, touched, touches, placed, keep, effect, store_after, value_of, note, reads_of, run_entry, store_after_log, gather_one, gather}
use Rattle.rules.specs.Board.{one_more, touching}
use Rattle.rules.proofs.Lists.{by, if_yes, if_no, at_some}
use Rattle.rules.proofs.Sets.{insert_same, insert_old}
use Rattle.rules.proofs.Obeys.{all_left}
use Rattle.safety.proofs.Lists.{last_or, changed_other, changed_cases, Changed, there, elsewhere, Under}

-- ---- Stores

-- two stores that agree on the keys that pass a test
abbrev pub AgreeOn : (ℕ → Bool) → Store → Store → Type 0
AgreeOn t s u = (k : ℕ) → T (t k) → s k ≡ u k

-- a shard's keys
abbrev pub own : ℕ → ℕ → ℕ → Bool
own m j k = eqb (shard_of m k) j

effect_other : (q : ℕ) (s : Store) (o : Operation) (k : ℕ) → k ≢ key_of o → effect q s o k ≡ s k
effect_other q s (get i) k h = refl
effect_other q s (put i v) k h = changed_other s i _ k h

effect_agree : (t : ℕ → Bool) (q : ℕ) (s u : Store) (o : Operation) → AgreeOn t s u → AgreeOn t (effect q s o) (effect q u o)
effect_agree t q s u (get i) a k h = a k h
effect_agree t q s u (put i v) a k h = go (changed_cases s i _ k) (changed_cases u i _ k)
  where
    c : Option Cell
    c = some (record { value = v; ind = q })

    go : Changed s i c k (changed s i c k) → Changed u i c k (changed u i c k) → changed s i c k ≡ changed u i c k
    go (there x y) (there z w) = y ∙ sym w
    go (there x y) (elsewhere z w) = absurd (z x)
    go (elsewhere x y) (there z w) = absurd (x z)
    go (elsewhere x y) (elsewhere z w) = y ∙ (a k h ∙ sym w)

-- an operation whose key fails the test
effect_apart : (t : ℕ → Bool) (q : ℕ) (s : Store) (o : Operation) → T (not (t (key_of o))) → AgreeOn t (effect q s o) s
effect_apart t q s o h k e = effect_other q s o k (λ z. T_not (t k) e (rw z h))

-- operations that do not touch a shard leave its keys alone
untouched : (m j q p : ℕ) (ops : List Operation) (s : Store) → T (not (touches m j ops)) → AgreeOn (own m j) (store_after q s (placed p ops)) s
untouched m j q p [] s h k e = refl
untouched m j q p (o ∷ ops) s h k e =
    let i = shard_of m (key_of o) in
    let here = no_eqb {a = i} {b = j} (λ d. T_not (touches m j (o ∷ ops)) (rw (← d) (insert_same i (touched m ops))) h) in
    let rest = not_T (touches m j ops) (λ d. T_not (touches m j (o ∷ ops)) (insert_old j i (touched m ops) d) h) in
    untouched m j q (suc p) ops (effect q s o) rest k e ∙ effect_apart (own m j) q s o here k e

-- running the part of a test, and running the whole
pub project : (t : ℕ → Bool) (q : ℕ) (xs : List Placed) (s u : Store) → AgreeOn t s u → AgreeOn t (store_after q s (keep t xs)) (store_after q u xs)
project t q [] s u a = a
project t q (x ∷ xs) s u a =
    by (λ l. AgreeOn t (store_after q s l) (store_after q (effect q u x.operation) xs)) (t (key_of x.operation))
    (λ y. project t q xs (effect q s x.operation) (effect q u x.operation) (effect_agree t q s u x.operation a))
    (λ y. project t q xs s (effect q u x.operation) (λ k e. a k e ∙ sym (effect_apart t q u x.operation y k e)))

pub project_other : (t : ℕ → Bool) (q : ℕ) (xs : List Placed) (s : Store) (k : ℕ) → T (not (t k)) → store_after q s (keep t xs) k ≡ s k
project_other t q [] s k h = refl
project_other t q (x ∷ xs) s k h =
    by (λ l. store_after q s l k ≡ s k) (t (key_of x.operation))
    (λ y. project_other t q xs (effect q s x.operation) k h ∙ effect_other q s x.operation k (λ z. T_not (t (key_of x.operation)) y (rw (← z) h)))
    (λ y. project_other t q xs s k h)

-- ---- Reads

-- what the get at a place sees, when a whole list is run
abbrev pub seen : ℕ → Store → List Placed → ℕ → Option ℕ
seen q s [] r = none
seen q s (x ∷ xs) r = If eqb x.place r then value_of (s (key_of x.operation)) else seen q (effect q s x.operation) xs r

-- slots that agree at the gets give the same reads
same_one : (x : Placed) (o : Operation) (f g : ℕ → Option ℕ) (rs ss : List Read) → ((k : ℕ) → o ≡ get k → f x.place ≡ g x.place) → rs ≡ ss
    → gather_one x o f rs ≡ gather_one x o g ss
same_one x (get k) f g rs ss h e = let q : f x.place ≡ g x.place = h k refl in cc
same_one x (put k v) f g rs ss h e = e

same_reads : (t : ℕ → Bool) (z : ℕ) (ops : List Operation) (f g : ℕ → Option ℕ)
    → ((p k r : ℕ) → at ops p ≡ some (get k) → r ≡ z + p → f r ≡ g r) → gather (keep t (placed z ops)) f ≡ gather (keep t (placed z ops)) g
same_reads t z [] f g h = refl
same_reads t z (o ∷ ops) f g h =
    let rest : gather (keep t (placed (suc z) ops)) f ≡ gather (keep t (placed (suc z) ops)) g =
    same_reads t (suc z) ops f g (λ p k r e q. h (suc p) k r e (omega arith)) in
    by (λ l. gather l f ≡ gather l g) (t (key_of o))
    (λ u. same_one (record { place = z; operation = o }) o f g _ _ (λ k e. h 0 k z (ap some e) (omega arith)) rest) (λ u. rest)

first_read_lem : (x : Placed) (o : Operation) (s : Store) (vs : ℕ → Option ℕ) (rs ss : List Read) → ((k : ℕ) → o ≡ get k → value_of (s k) ≡ vs x.place) → rs ≡ ss
    → note x o s rs ≡ gather_one x o vs ss
first_read_lem x (get k) s vs rs ss h e = let d : value_of (s k) ≡ vs x.place = h k refl in cc
first_read_lem x (put k v) s vs rs ss h e = e

-- what the part of a test reads, run alone, is what its gets see in the whole
pub part_reads : (t : ℕ → Bool) (q z : ℕ) (ops : List Operation) (s u : Store) → AgreeOn t s u
    → reads_of q s (keep t (placed z ops)) ≡ gather (keep t (placed z ops)) (seen q u (placed z ops))
part_reads t q z [] s u a = refl
part_reads t q z (o ∷ ops) s u a =
    let vs : ℕ → Option ℕ = seen q u (placed z (o ∷ ops)) in
    let rest : (s' : Store) → AgreeOn t s' (effect q u o) → reads_of q s' (keep t (placed (suc z) ops)) ≡ gather (keep t (placed (suc z) ops)) vs =
    λ s' a'. part_reads t q (suc z) ops s' (effect q u o) a'
    ∙ same_reads t (suc z) ops _ vs (λ p k r e d. sym (if_no (eqb z r) _ _ (no_eqb {a = z} {b = r} (omega arith)))) in
    by (λ l. reads_of q s l ≡ gather l vs) (t (key_of o))
    (λ y. first_read_lem (record { place = z; operation = o }) o s vs _ _
    (λ k e. ap value_of (a k (rw e at y)) ∙ sym (if_yes (eqb z z) _ _ (yes_eqb {a = z} refl) ∙ ap (λ x. value_of (u (key_of x))) e))
    (rest (effect q s o) (effect_agree t q s u o a)))
    (λ y. rest s (λ k e. a k e ∙ sym (effect_apart t q u o y k e)))

-- what a whole transaction reads is what its gets see
pub whole_reads : (q : ℕ) (ops : List Operation) (s : Store) → reads_of q s (placed 0 ops) ≡ gather (placed 0 ops) (seen q s (placed 0 ops))
whole_reads q ops s = rw (all_left 0 ops) at (part_reads (λ k. true) q 0 ops s s (λ k e. refl))

-- ---- A log that begins another gives the same stores and counts

pub store_stable : (L M : List Write) → Under L M → (q : ℕ) → q ≤ length L → store_after_log L q ≡ store_after_log M q
unfolding store_after_log
store_stable L M u zero h = refl
store_stable L M u (suc q) h =
    let x = at_some L q h in
    rw (x.1, u q x.0 x.1) (ap (λ (s : Store). store_after q s (placed 0 x.0.operations)) (store_stable L M u q (omega arith)))

pub count_stable : (m j : ℕ) (L M : List Write) → Under L M → (q : ℕ) → q ≤ length L → touching m j L q ≡ touching m j M q
count_stable m j L M u zero h = refl
count_stable m j L M u (suc q) h =
    let x = at_some L q h in
    rw (x.1, u q x.0 x.1) (ap (one_more m j (some x.0)) (count_stable m j L M u q (omega arith)))

-- ---- A shard's keys stand still where its count does

one_more_lem : (m j : ℕ) (o : Option Write) (c : ℕ) → c ≤ one_more m j o c
one_more_lem m j none c = omega arith
one_more_lem m j (some e) c = by (λ x. c ≤ x) (touches m j e.operations) (λ t. omega arith) (λ t. omega arith)

pub count_rises : (m j : ℕ) (L : List Write) (c q : ℕ) → c ≤ q → touching m j L c ≤ touching m j L q
count_rises m j L c zero h = let e : c ≡ 0 = omega arith in rw e (omega arith)
count_rises m j L c (suc q) h = go (last_or c q h) (count_rises m j L c q)
  where
    go : (c ≤ q) ⊎ (c ≡ suc q) → (c ≤ q → touching m j L c ≤ touching m j L q) → touching m j L c ≤ touching m j L (suc q)
    go (inl a) before = let b = before a in omega (arith, one_more_lem m j (at L q) (touching m j L q))
    go (inr a) before = rw a (omega arith)

still : (m j q : ℕ) (s : Store) (o : Option Write) (c : ℕ) → one_more m j o c ≡ c → AgreeOn (own m j) s (run_entry q s o)
unfolding If◌then◌else◌
still m j q s none c h k e = refl
still m j q s (some x) c h k e = sym (untouched m j q 0 x.operations s (go (touches m j x.operations) h) k e)
  where
    go : (b : Bool) → (If b then suc c else c) ≡ c → T (not b)
    go true z = absurd (omega arith)
    go false z = tt

pub gap : (m j : ℕ) (L : List Write) (c q : ℕ) → c ≤ q → touching m j L c ≡ touching m j L q → AgreeOn (own m j) (store_after_log L c) (store_after_log L q)
unfolding store_after_log
gap m j L c zero h e = let d : c ≡ 0 = omega arith in rw d (λ k x. refl)
gap m j L c (suc q) h e = go (last_or c q h) (gap m j L c q)
  where
    go : (c ≤ q) ⊎ (c ≡ suc q) → (c ≤ q → touching m j L c ≡ touching m j L q → AgreeOn (own m j) (store_after_log L c) (store_after_log L q))
        → AgreeOn (own m j) (store_after_log L c) (store_after_log L (suc q))
    go (inl a) before =
        let b = count_rises m j L c q a in
        let d = one_more_lem m j (at L q) (touching m j L q) in
        let f : touching m j L c ≡ touching m j L q = omega arith in
        λ k x. before a f k x ∙ still m j q (store_after_log L q) (at L q) (touching m j L q) (omega arith) k x
    go (inr a) before = rw a (λ k x. refl)
