-- The decimal digits that a line shows are worth the number, whatever its size: so `decimal_of` is what its name says.
-- Assumes nothing.
use mathlib.Core.Bool.{Bool, true, false}
use mathlib.Core.List.{List, [], ◌∷◌, ◌++◌}
use mathlib.Core.Path.{◌≡◌, refl}
use Prim.Native.Nat.{ℕ, zero, suc, ◌+◌, ◌-◌, ◌*◌, ◌/◌, ◌%◌, ◌^◌, ◌<◌}
use native.Mathlib.Omega.{arith}
use native.Mathlib.Nat.{pow-suc}
use lib.Dec.{ltb}
use borrow.Author.Tests.{ltb-true, ltb-false}
use Rattle.lines.specs.Text.{digits, decimal_of}
use Rattle.lines.proofs.Digits.{small, large}

-- what digits are worth behind those that are worth x
abbrev pub worth : (x : ℕ) → List ℕ → ℕ
worth x [] = x
worth x (d ∷ ds) = worth (10 * x + (d - 48)) ds

last : (ds : List ℕ) (x d : ℕ) → worth x (ds ++ d ∷ []) ≡ 10 * worth x ds + (d - 48)
last [] x d = refl
last (e ∷ ds) x d = last ds (10 * x + (e - 48)) d

digits_worth : (places x : ℕ) → x < 10 ^ suc places → worth 0 (digits (suc places) x) ≡ x
digits_worth zero x h = rw (small 0 x (omega arith)) (omega arith)
digits_worth (suc places) x h = by (ltb x 10) refl (digits_worth places (x / 10) (omega (arith, rw (pow-suc 10 (suc places)) at h)))
  where
    by : (t : Bool) → ltb x 10 ≡ t → worth 0 (digits (suc places) (x / 10)) ≡ x / 10 → worth 0 (digits (suc (suc places)) x) ≡ x
    by true e w = rw (small (suc places) x (ltb-true x 10 e)) (omega arith)
    by false e w = rw (large (suc places) x (ltb-false x 10 e), last (digits (suc places) (x / 10)) 0 (48 + x % 10), w) (omega arith)

pub decimal_worth : (x : ℕ) → x < 2 ^ 64 → worth 0 (decimal_of x) ≡ x
decimal_worth x h = digits_worth 19 x (omega arith)
