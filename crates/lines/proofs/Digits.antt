-- The laws of decimal digits: there are at most as many as places; a number from 10 on has the digits of its tenth and one more; and where there are
-- places enough, one place more changes nothing.
-- Assumes nothing.
use mathlib.Core.Path.{◌≡◌, refl, ap, sym, ◌∙◌}
use mathlib.Core.Bool.{Bool, true, false, cond}
use mathlib.Core.List.{List, [], ◌∷◌, ◌++◌, append_assoc}
use Prim.Native.Nat.{ℕ, zero, suc, ◌+◌, ◌/◌, ◌%◌, ◌^◌, ◌<◌, ◌≤◌}
use native.Mathlib.Omega.{arith}
use native.Mathlib.Nat.{pow-suc}
use lib.Dec.{ltb}
use lib.ListN.{length, length-append}
use Rattle.std.proofs.lemmas.List.{take-append-drop}
use borrow.Author.Tests.{lt-ltb, le-ltb, ltb-true, ltb-false}
use Rattle.std.specs.Fmt.{decimal}
use Rattle.std.proofs.lemmas.Fmt.{decimal_by_steps}
use Rattle.lines.specs.Text.{digits, decimal_of}

pub small : (places x : ℕ) → x < 10 → digits (suc places) x ≡ (48 + x) ∷ []
unfolding digits
small places x h = rw (lt-ltb x 10 h)

pub large : (places x : ℕ) → 10 ≤ x → digits (suc places) x ≡ digits places (x / 10) ++ (48 + x % 10) ∷ []
unfolding digits
large places x h = rw (le-ltb x 10 h)

few : (places x : ℕ) → length (digits places x) ≤ places
unfolding digits
few zero x = omega arith
few (suc places) x = by (ltb x 10) (few places (x / 10))
  where
    by : (t : Bool) → length (digits places (x / 10)) ≤ places → length (cond t ((48 + x) ∷ []) (digits places (x / 10) ++ (48 + x % 10) ∷ [])) ≤ suc places
    by true h = omega arith
    by false h = rw length-append (omega arith)

more : (places x : ℕ) → x < 10 ^ suc places → digits (suc (suc places)) x ≡ digits (suc places) x
more zero x h = small 1 x (omega arith) ∙ sym (small 0 x (omega arith))
more (suc places) x h = by (ltb x 10) refl (more places (x / 10))
  where
    by : (t : Bool) → ltb x 10 ≡ t → (x / 10 < 10 ^ suc places → digits (suc (suc places)) (x / 10) ≡ digits (suc places) (x / 10))
        → digits (suc (suc (suc places))) x ≡ digits (suc (suc places)) x
    by true e d = small (suc (suc places)) x (ltb-true x 10 e) ∙ sym (small (suc places) x (ltb-true x 10 e))
    by false e d =
        let l : 10 ≤ x = ltb-false x 10 e in
        large (suc (suc places)) x l
        ∙ ap (λ (ds : List ℕ). ds ++ (48 + x % 10) ∷ []) (d (omega (arith, rw (pow-suc 10 (suc places)) at h)))
        ∙ sym (large (suc places) x l)

-- a number of 64 bits: its decimal digits by those of its tenth
pub decimal_few : (x : ℕ) → length (decimal_of x) ≤ 20
decimal_few x = few 20 x

pub decimal_small : (x : ℕ) → x < 10 → decimal_of x ≡ (48 + x) ∷ []
decimal_small x h = small 19 x h

pub decimal_large : (x : ℕ) → 10 ≤ x → x < 2 ^ 64 → decimal_of x ≡ decimal_of (x / 10) ++ (48 + x % 10) ∷ []
decimal_large x l h = large 19 x l ∙ ap (λ (ds : List ℕ). ds ++ (48 + x % 10) ∷ []) (sym (more 18 (x / 10) (omega arith)))

-- they are those that the crate itoa writes
pub decimal_is : (x : ℕ) → x < 2 ^ 64 → decimal x ≡ decimal_of x
decimal_is x h = decimal_by_steps (λ n ds. n < 2 ^ 64 → ds ≡ decimal_of n) (λ n d l. sym (decimal_small n d))
    (λ n ds l p h. ap (λ (k : List ℕ). k ++ (48 + n % 10) ∷ []) (p (omega arith)) ∙ sym (decimal_large n l h)) x h h

-- how long a line is so far
pub ruleset lengths = (decimal_few, length-append)

-- what `decimal` is proved by. The last two are of a number that is written in two parts, the first before the second: so the edit last_digit_first
-- is refused for their order alone.
pub ruleset decimal_laws = (decimal_is, length-append, append_assoc, take-append-drop)
