-- The lines of 01's example, by computation: "chain 2 shards 1", "d3 7 0", "L1 0 3 0 PRE", "L2 0 3 0 EXE"; and the last record index that 64 bits hold.
-- Assumes nothing.
use mathlib.Core.Bool.{true, false}
use mathlib.Core.List.{[], ◌∷◌}
use mathlib.Core.Path.{◌≡◌, refl}
use Rattle.lines.specs.Text.{digits, decimal_of, header_line, d_line, l_line}

pub header : header_line 2 1 ≡ 99 ∷ 104 ∷ 97 ∷ 105 ∷ 110 ∷ 32 ∷ 50 ∷ 32 ∷ 115 ∷ 104 ∷ 97 ∷ 114 ∷ 100 ∷ 115 ∷ 32 ∷ 49 ∷ 10 ∷ []
unfolding header_line digits
header = refl

pub third : d_line 3 7 0 ≡ 100 ∷ 51 ∷ 32 ∷ 55 ∷ 32 ∷ 48 ∷ 10 ∷ []
unfolding d_line digits
third = refl

pub first_log : l_line 1 0 3 0 false ≡ 76 ∷ 49 ∷ 32 ∷ 48 ∷ 32 ∷ 51 ∷ 32 ∷ 48 ∷ 32 ∷ 80 ∷ 82 ∷ 69 ∷ 10 ∷ []
unfolding l_line digits
first_log = refl

pub second_log : l_line 2 0 3 0 true ≡ 76 ∷ 50 ∷ 32 ∷ 48 ∷ 32 ∷ 51 ∷ 32 ∷ 48 ∷ 32 ∷ 69 ∷ 88 ∷ 69 ∷ 10 ∷ []
unfolding l_line digits
second_log = refl

-- 18446744073709551615
pub last_index_lem :
    decimal_of 18446744073709551615 ≡
    49 ∷ 56 ∷ 52 ∷ 52 ∷ 54 ∷ 55 ∷ 52 ∷ 52 ∷ 48 ∷ 55 ∷ 51 ∷ 55 ∷ 48 ∷ 57 ∷ 53 ∷ 53 ∷ 49 ∷ 54 ∷ 49 ∷ 53 ∷ []
unfolding digits
last_index_lem = refl
