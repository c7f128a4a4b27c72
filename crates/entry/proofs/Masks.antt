-- The bits of a byte: what adding and taking away a shard's bit does to every other bit, by halving.
-- Assumes nothing.
use mathlib.Core.Path.{◌≡◌, refl, sym, ap, ◌∙◌}
use mathlib.Core.Bool.{cond, Bool, true, false, not, ◌&&◌, ◌||◌}
use Prim.Native.Nat.{ℕ, zero, suc, ◌+◌, ◌-◌, ◌/◌, ◌%◌, ◌^◌, ◌≤◌, ◌<◌}
use native.Mathlib.Nat.{pow-suc, div-one}
use native.Mathlib.Omega.{arith}
use lib.Dec.{leb, eqb}
use lib.Pow.{shr-shr}
use borrow.Author.Rules.{rules}
use Rattle.std.specs.Ordering.{is_le, is_lt, nat_cmp}
use borrow.Author.Tests.{tests, leb-true, eqb-true, eqb-false, le-leb}
use Rattle.rules.specs.Lists.{If◌then◌else◌, within}
use Rattle.entry.specs.Model.{bit_of, in_mask, insert_of, strike_of}

-- the digit k of x, counted from the lowest
abbrev digit : ℕ → ℕ → ℕ
digit zero x = x % 2
digit (suc k) x = digit k (x / 2)

digit_shift : (k x : ℕ) → x / 2 ^ k % 2 ≡ digit k x
digit_shift zero x = rw (div-one x)
digit_shift (suc k) x =
    let e : 1 + k ≡ suc k = omega arith in
    let f : x / 2 ^ suc k ≡ x / 2 / 2 ^ k = rw (← e) (sym (shr-shr x 1 k)) in
    rw f (digit_shift k (x / 2))

digit_small : (k x : ℕ) → digit k x < 2
digit_small zero x = omega arith
digit_small (suc k) x = digit_small k (x / 2)

-- a digit that is 1 counts
digit_counts : (k x : ℕ) → digit k x ≡ 1 → 2 ^ k ≤ x
digit_counts zero x e = omega arith
digit_counts (suc k) x e = let h = digit_counts k (x / 2) e in omega (arith, pow-suc 2 k)

-- where a digit is 0 there is room for it
digit_room : (n k x : ℕ) → k < n → x < 2 ^ n → digit k x ≡ 0 → x + 2 ^ k < 2 ^ n
digit_room zero k x l h e = absurd (omega arith)
digit_room (suc n) zero x l h e = omega (arith, pow-suc 2 n)
digit_room (suc n) (suc k) x l h e =
    let i = digit_room n k (x / 2) (omega arith) (omega (arith, pow-suc 2 n)) e in
    omega (arith, pow-suc 2 n, pow-suc 2 k)

-- the digit itself after its bit was added, and after it was taken away
digit_set : (k x : ℕ) → digit k x ≡ 0 → digit k (x + 2 ^ k) ≡ 1
digit_set zero x e = omega arith
digit_set (suc k) x e =
    let h : (x + 2 ^ suc k) / 2 ≡ x / 2 + 2 ^ k = omega (arith, pow-suc 2 k) in
    rw h (digit_set k (x / 2) e)

digit_clear : (k x : ℕ) → digit k x ≡ 1 → digit k (x - 2 ^ k) ≡ 0
digit_clear zero x e = omega arith
digit_clear (suc k) x e =
    let h : (x - 2 ^ suc k) / 2 ≡ x / 2 - 2 ^ k = omega (arith, pow-suc 2 k) in
    rw h (digit_clear k (x / 2) e)

-- every other digit stays
digit_stays : (j k x : ℕ) → (j ≡ k → ⊥) → digit k x ≡ 0 → digit j (x + 2 ^ k) ≡ digit j x
digit_stays zero zero x d e = absurd (d refl)
digit_stays zero (suc k) x d e = omega (arith, pow-suc 2 k)
digit_stays (suc j) zero x d e = let h : (x + 1) / 2 ≡ x / 2 = omega arith in rw h
digit_stays (suc j) (suc k) x d e =
    let h : (x + 2 ^ suc k) / 2 ≡ x / 2 + 2 ^ k = omega (arith, pow-suc 2 k) in
    rw h (digit_stays j k (x / 2) (λ p. d (ap suc p)) e)

-- ---- The same of shards

module _ (mask shard : ℕ) where
  abbrev at : ℕ
  at = digit (shard - 1) mask

  in_at : in_mask mask shard ≡ (within 1 8 shard && eqb at 1)
  unfolding in_mask
  in_at = rw (digit_shift (shard - 1) mask)

  pub in_range_lem : in_mask mask shard ≡ true → (1 ≤ shard) × (shard ≤ 8)
  unfolding in_mask
  in_range_lem h = go (eqb (mask / bit_of shard % 2) 1) (leb 1 shard) refl (leb shard 8) refl h
    where
      go : (t a : Bool) → a ≡ leb 1 shard → (b : Bool) → b ≡ leb shard 8 → (a && b && t) ≡ true → (1 ≤ shard) × (shard ≤ 8)
      go t true p true q e = (leb-true 1 shard (sym p), leb-true shard 8 (sym q))
      go t true p false q e = let z : ◌≡◌ {A = ℕ} 0 1 = cc in absurd (omega arith)
      go t false p b q e = let z : ◌≡◌ {A = ℕ} 0 1 = cc in absurd (omega arith)

  pub in_one : in_mask mask shard ≡ true → at ≡ 1
  in_one h = go (within 1 8 shard) (eqb at 1) refl (sym in_at ∙ h)
    where
      go : (a b : Bool) → b ≡ eqb at 1 → (a && b) ≡ true → at ≡ 1
      go true true q e = eqb-true at 1 (sym q)
      go true false q e = let z : ◌≡◌ {A = ℕ} 0 1 = cc in absurd (omega arith)
      go false b q e = let z : ◌≡◌ {A = ℕ} 0 1 = cc in absurd (omega arith)

  module _ (lo : 1 ≤ shard) (hi : shard ≤ 8) where
    inside : within 1 8 shard ≡ true
    inside = rw (le-leb 1 shard lo, le-leb shard 8 hi)

    pub in_is : in_mask mask shard ≡ eqb at 1
    in_is = rw (in_at, inside)

    pub out_zero : in_mask mask shard ≡ false → at ≡ 0
    out_zero h = go (eqb at 1) refl (sym in_is ∙ h)
      where
        go : (b : Bool) → b ≡ eqb at 1 → b ≡ false → at ≡ 0
        go true q e = let z : ◌≡◌ {A = ℕ} 0 1 = cc in absurd (omega arith)
        go false q e = let d = eqb-false at 1 (sym q) in small d (digit_small (shard - 1) mask)
          where
            small : (at ≡ 1 → ⊥) → at < 2 → at ≡ 0
            small d l = omega arith

    pub bit_room : mask < 256 → in_mask mask shard ≡ false → mask + bit_of shard < 256
    bit_room h f = digit_room 8 (shard - 1) mask (omega arith) h (out_zero f)

-- ---- The test of a range

le_is : (a b : ℕ) → is_le (nat_cmp a b) ≡ leb a b
le_is a b = search (rules, tests)

-- what `contains` of a range 1..=8 gives
pub range_is : (r : Bool) (low high : ℕ) (over : Bool) (x : ℕ) → low ≡ 1 → high ≡ 8 → over ≡ false
    → r ≡ (is_le (nat_cmp low x) && cond over (is_lt (nat_cmp x high)) (is_le (nat_cmp x high))) → r ≡ within 1 8 x
range_is r low high over x l h o e = e ∙ rw (l, h, o) (λ i. le_is 1 x i && le_is x 8 i)

-- ---- What inserting and striking a shard does to the test of every shard

-- the digit of another shard
other_digit : (x j : ℕ) → 1 ≤ x → 1 ≤ j → (x ≡ j → ⊥) → x - 1 ≡ j - 1 → ⊥
other_digit x j lo lo' d e = d (omega arith)

digit_left : (j k x : ℕ) → (j ≡ k → ⊥) → digit k x ≡ 1 → digit j (x - 2 ^ k) ≡ digit j x
digit_left j k x d e =
    let h : x - 2 ^ k + 2 ^ k ≡ x = let l = digit_counts k x e in omega arith in
    sym (digit_stays j k (x - 2 ^ k) d (digit_clear k x e)) ∙ ap (digit j) h

-- a test of x that only its digit decides
by_digit : (mask mask' x : ℕ) → digit (x - 1) mask ≡ digit (x - 1) mask' → in_mask mask x ≡ in_mask mask' x
by_digit mask mask' x e = in_at mask x ∙ (ap (λ d. within 1 8 x && eqb d 1) e ∙ sym (in_at mask' x))

is_one : (mask x : ℕ) → 1 ≤ x → x ≤ 8 → digit (x - 1) mask ≡ 1 → in_mask mask x ≡ true
is_one mask x lo hi e = in_is mask x lo hi ∙ ap (λ d. eqb d 1) e

is_zero : (mask x : ℕ) → 1 ≤ x → x ≤ 8 → digit (x - 1) mask ≡ 0 → in_mask mask x ≡ false
is_zero mask x lo hi e = in_is mask x lo hi ∙ ap (λ d. eqb d 1) e

-- there is no shard 0
no_shard : (mask : ℕ) → in_mask mask 0 ≡ false
unfolding in_mask
no_shard mask = refl

module _ (mask j : ℕ) where
  strike_at : (x : ℕ) → (t : Bool) → t ≡ eqb x j → in_mask mask j ≡ true → in_mask (mask - bit_of j) x ≡ (not t && in_mask mask x)
  strike_at x true e h =
      let d : x ≡ j = eqb-true x j (sym e) in
      let r = in_range_lem mask j h in
      rw d (is_zero (mask - bit_of j) j r.0 r.1 (digit_clear (j - 1) mask (in_one mask j h)))
  strike_at zero false e h = no_shard (mask - bit_of j) ∙ sym (no_shard mask)
  strike_at (suc x) false e h =
      let r = in_range_lem mask j h in
      by_digit (mask - bit_of j) mask (suc x)
      (digit_left (suc x - 1) (j - 1) mask (other_digit (suc x) j (omega arith) r.0 (eqb-false (suc x) j (sym e))) (in_one mask j h))

  pub in_strike : (x : ℕ) → in_mask (strike_of mask j) x ≡ (not (eqb x j) && in_mask mask x)
  unfolding strike_of
  in_strike x = go (in_mask mask j) refl
    where
      out : (t : Bool) → t ≡ eqb x j → in_mask mask j ≡ false → in_mask mask x ≡ (not t && in_mask mask x)
      out true e h = let d : x ≡ j = eqb-true x j (sym e) in rw d h
      out false e h = refl

      go : (b : Bool) → in_mask mask j ≡ b → in_mask (If b then mask - bit_of j else mask) x ≡ (not (eqb x j) && in_mask mask x)
      go true h = unfold If◌then◌else◌ in (strike_at x (eqb x j) refl h)
      go false h = unfold If◌then◌else◌ in (out (eqb x j) refl h)

  module _ (lo : 1 ≤ j) (hi : j ≤ 8) where
    insert_at : (x : ℕ) → (t : Bool) → t ≡ eqb x j → in_mask mask j ≡ false → in_mask (mask + bit_of j) x ≡ (t || in_mask mask x)
    insert_at x true e h =
        let d : x ≡ j = eqb-true x j (sym e) in rw d (is_one (mask + bit_of j) j lo hi (digit_set (j - 1) mask (out_zero mask j lo hi h)))
    insert_at zero false e h = no_shard (mask + bit_of j) ∙ sym (no_shard mask)
    insert_at (suc x) false e h =
        by_digit (mask + bit_of j) mask (suc x)
        (digit_stays (suc x - 1) (j - 1) mask (other_digit (suc x) j (omega arith) lo (eqb-false (suc x) j (sym e))) (out_zero mask j lo hi h))

    pub in_insert : (x : ℕ) → in_mask (insert_of mask j) x ≡ (eqb x j || in_mask mask x)
    unfolding insert_of
    in_insert x = rw (inside mask j lo hi) (go (in_mask mask j) refl)
      where
        held : (t : Bool) → t ≡ eqb x j → in_mask mask j ≡ true → in_mask mask x ≡ (t || in_mask mask x)
        held true e h = let d : x ≡ j = eqb-true x j (sym e) in rw d h
        held false e h = refl

        go : (b : Bool) → in_mask mask j ≡ b → in_mask (If not b then mask + bit_of j else mask) x ≡ (eqb x j || in_mask mask x)
        go true h = unfold If◌then◌else◌ in (held (eqb x j) refl h)
        go false h = unfold If◌then◌else◌ in (insert_at x (eqb x j) refl h)

-- a byte without a shard is 0
digits_zero : (n x : ℕ) → x < 2 ^ n → ((k : ℕ) → k < n → digit k x ≡ 0) → x ≡ 0
digits_zero zero x h f = omega arith
digits_zero (suc n) x h f =
    let e = digits_zero n (x / 2) (omega (arith, pow-suc 2 n)) (λ k l. f (suc k) (omega arith)) in
    let z = f 0 (omega arith) in
    omega arith

pub empty_mask : (mask : ℕ) → mask < 256 → ((x : ℕ) → in_mask mask x ≡ false) → mask ≡ 0
empty_mask mask h f =
    digits_zero 8 mask h
    (λ k l. let e : suc k - 1 ≡ k = omega arith in rw (← e) (out_zero mask (suc k) (omega arith) (omega arith) (f (suc k))))

-- two bytes with the same shards are the same
digits_same : (n x y : ℕ) → x < 2 ^ n → y < 2 ^ n → ((k : ℕ) → k < n → digit k x ≡ digit k y) → x ≡ y
digits_same zero x y h l f = omega arith
digits_same (suc n) x y h l f =
    let e = digits_same n (x / 2) (y / 2) (omega (arith, pow-suc 2 n)) (omega (arith, pow-suc 2 n)) (λ k u. f (suc k) (omega arith)) in
    let z = f 0 (omega arith) in
    omega arith

pub same_mask : (x y : ℕ) → x < 256 → y < 256 → ((j : ℕ) → in_mask x j ≡ in_mask y j) → x ≡ y
same_mask x y h l f =
    digits_same 8 x y h l
    (λ k u.
    let e : suc k - 1 ≡ k = omega arith in
    rw (← e) (go (suc k) (omega arith) (omega arith) (in_mask x (suc k)) refl))
  where
    go : (j : ℕ) → 1 ≤ j → j ≤ 8 → (b : Bool) → b ≡ in_mask x j → digit (j - 1) x ≡ digit (j - 1) y
    go j lo hi true e = in_one x j (sym e) ∙ sym (in_one y j (sym (f j) ∙ sym e))
    go j lo hi false e = out_zero x j lo hi (sym e) ∙ sym (out_zero y j lo hi (sym (f j) ∙ sym e))
