-- Wrong answers that the promises of this crate rule out, beside those that the laws in Parts and Worth do: each is shown of the text that the
-- contract cites.
-- Assumes nothing.
use mathlib.Core.Path.{◌≡◌, refl, ap, sym, ◌∙◌}
use mathlib.Core.Bool.{Bool}
use mathlib.Core.List.{List, [], ◌∷◌, ◌++◌, append_assoc}
use Prim.Native.Nat.{ℕ}
use native.Mathlib.Omega.{arith}
use lib.ListN.{get_or}
use Rattle.lines.specs.Text.{decimal_of, space, newline, state_of, field_of, chain, shards, header_line, d_line, l_line, cut_line, setup_line}

-- ---- A missing newline

-- a line ends with a newline
pub record Ends (line : List ℕ) : Type 0 where
  pub front : List ℕ
  pub is : line ≡ front ++ newline ∷ []

longer : (p : List ℕ) {line : List ℕ} → Ends line → Ends (p ++ line)
longer p e = record { front = p ++ e.front; is = ap (λ (l : List ℕ). p ++ l) e.is ∙ sym (append_assoc p e.front (newline ∷ [])) }

field : (x : ℕ) → Ends (field_of x newline)
field x = record { front = decimal_of x; is = refl }

pub header_ends : (n m : ℕ) → Ends (header_line n m)
unfolding header_line
header_ends n m = longer (chain ++ field_of n space ++ shards) (field m)

pub d_ends : (index answer frames : ℕ) → Ends (d_line index answer frames)
unfolding d_line
d_ends index answer frames = longer (100 ∷ field_of index space ++ field_of answer space) (field frames)

pub l_ends : (board log_number client number : ℕ) (exe : Bool) → Ends (l_line board log_number client number exe)
unfolding l_line
l_ends board log_number client number exe = record {
  front = 76 ∷ field_of board space ++ field_of log_number space ++ field_of client space ++ field_of number space ++ state_of exe;
  is = refl;
}

pub cut_ends : Ends cut_line
cut_ends = record { front = 99 ∷ 117 ∷ 116 ∷ []; is = refl }

pub setup_ends : Ends setup_line
setup_ends = record { front = 115 ∷ 101 ∷ 116 ∷ 117 ∷ 112 ∷ space ∷ 49 ∷ 49 ∷ []; is = refl }

-- ---- One line for another

-- `cut` and `setup 11` are no line that a record, a chain or an entry has
pub cut_is_no_d_line : (index answer frames : ℕ) → cut_line ≡ d_line index answer frames → ⊥
unfolding d_line
cut_is_no_d_line index answer frames e = let f : ◌≡◌ {A = ℕ} 99 100 = ap (λ (l : List ℕ). get_or l 0 0) e in omega arith

pub cut_is_no_header : (n m : ℕ) → cut_line ≡ header_line n m → ⊥
unfolding header_line
cut_is_no_header n m e = let f : ◌≡◌ {A = ℕ} 117 104 = ap (λ (l : List ℕ). get_or l 1 0) e in omega arith

pub setup_is_no_header : (n m : ℕ) → setup_line ≡ header_line n m → ⊥
unfolding header_line
setup_is_no_header n m e = let f : ◌≡◌ {A = ℕ} 115 99 = ap (λ (l : List ℕ). get_or l 0 0) e in omega arith
