-- Every line is shorter than the 128 bytes that an area for one must have.
-- Assumes nothing.
use mathlib.Core.Bool.{Bool, true, false}
use mathlib.Core.Path.{◌≡◌, refl}
use mathlib.Core.List.{List}
use Prim.Native.Nat.{ℕ, ◌≤◌}
use native.Mathlib.Omega.{arith}
use lib.Dec.{leb}
use lib.ListN.{length, length-append}
use borrow.Author.Tests.{leb-true}
use Rattle.std.specs.Prelude.{cond}
use Rattle.lines.specs.Area.{Laid}
use Rattle.lines.specs.Text.{state_of, header_line, d_line, l_line, cut_line, setup_line}
use Rattle.lines.proofs.Digits.{decimal_few}

state_short : (exe : Bool) → length (state_of exe) ≤ 3
state_short true = omega arith
state_short false = omega arith

pub d_short : (index answer frames : ℕ) → length (d_line index answer frames) ≤ 128
unfolding d_line
d_short index answer frames =
    simp length-append (omega (arith, decimal_few index, decimal_few answer, decimal_few frames))

pub l_short : (board log_number client number : ℕ) (exe : Bool) → length (l_line board log_number client number exe) ≤ 128
unfolding l_line
l_short board log_number client number exe =
    simp length-append
    (omega (arith, decimal_few board, decimal_few log_number, decimal_few client, decimal_few number, state_short exe))

-- what is laid lies within the area
fits : {line area after : List ℕ} {count : ℕ} → length line ≤ 128 → Laid line area after count → count ≤ length area
fits {line} {area} short laid = rw laid.counted (by (leb 128 (length area)) refl)
  where
    by : (t : Bool) → leb 128 (length area) ≡ t → cond t (length line) 0 ≤ length area
    by true e = let room : 128 ≤ length area = leb-true 128 (length area) e in omega arith
    by false e = omega arith

header_short : (n m : ℕ) → length (header_line n m) ≤ 128
unfolding header_line
header_short n m = simp length-append (omega (arith, decimal_few n, decimal_few m))

pub header_fits : (n m : ℕ) {area after : List ℕ} {count : ℕ} → Laid (header_line n m) area after count → count ≤ length area
header_fits n m laid = fits (header_short n m) laid

pub cut_fits : {area after : List ℕ} {count : ℕ} → Laid cut_line area after count → count ≤ length area
cut_fits laid = fits (omega arith) laid

pub setup_fits : {area after : List ℕ} {count : ℕ} → Laid setup_line area after count → count ≤ length area
setup_fits laid = fits (omega arith) laid
