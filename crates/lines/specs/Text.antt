-- The text of each line, as bytes: 01, "The bench program".
-- Assumes nothing.
use Rattle.std.specs.Prelude.{Bool, true, false, cond, List, [], ◌∷◌, ◌++◌, ℕ, zero, suc, ◌+◌, ◌/◌, ◌%◌, ltb}

-- the decimal digits of a number below 10 to the places, the first one not 0 unless it is the only one
unfoldable pub digits : (places : ℕ) → ℕ → List ℕ
digits zero x = []
digits (suc places) x = cond (ltb x 10) ((48 + x) ∷ []) (digits places (x / 10) ++ (48 + x % 10) ∷ [])

-- a number of 64 bits has at most 20 digits
abbrev pub decimal_of : ℕ → List ℕ
decimal_of x = digits 20 x

abbrev pub space : ℕ
space = 32

abbrev pub newline : ℕ
newline = 10

-- EXE, PRE
abbrev pub state_of : Bool → List ℕ
state_of true = 69 ∷ 88 ∷ 69 ∷ []
state_of false = 80 ∷ 82 ∷ 69 ∷ []

-- a number and the byte that ends it
abbrev pub field_of : (x end : ℕ) → List ℕ
field_of x end = decimal_of x ++ end ∷ []

-- "chain ", "shards "
abbrev pub chain : List ℕ
chain = 99 ∷ 104 ∷ 97 ∷ 105 ∷ 110 ∷ space ∷ []

abbrev pub shards : List ℕ
shards = 115 ∷ 104 ∷ 97 ∷ 114 ∷ 100 ∷ 115 ∷ space ∷ []

-- "Header: n and m."
unfoldable pub header_line : (n m : ℕ) → List ℕ
header_line n m = chain ++ field_of n space ++ shards ++ field_of m newline

-- "A d line: record index, answer, frames sent."
unfoldable pub d_line : (index answer frames : ℕ) → List ℕ
d_line index answer frames = 100 ∷ field_of index space ++ field_of answer space ++ field_of frames newline

-- "An L line: board, log number, client, number, and PRE or EXE"
unfoldable pub l_line : (board log_number client number : ℕ) (exe : Bool) → List ℕ
l_line board log_number client number exe =
    76 ∷ field_of board space ++ field_of log_number space ++ field_of client space ++ field_of number space ++ state_of exe ++ newline ∷ []

-- cut
abbrev pub cut_line : List ℕ
cut_line = 99 ∷ 117 ∷ 116 ∷ newline ∷ []

-- setup 11
abbrev pub setup_line : List ℕ
setup_line = 115 ∷ 101 ∷ 116 ∷ 117 ∷ 112 ∷ space ∷ 49 ∷ 49 ∷ newline ∷ []
