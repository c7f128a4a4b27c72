-- What a line leaves in an area.
-- Assumes nothing.
use Rattle.std.specs.Prelude.{cond, ◌≡◌, List, ◌++◌, ℕ, leb, length, drop}

-- a line from the first byte of an area, the other bytes as they were; an area of less than 128 bytes takes no line
abbrev pub laid : (line area : List ℕ) → List ℕ
laid line area = cond (leb 128 (length area)) (line ++ drop (length line) area) area

-- how many bytes of an area a line takes
abbrev pub taken : (line area : List ℕ) → ℕ
taken line area = cond (leb 128 (length area)) (length line) 0

-- an area as it was before and is after a line was laid in it, and the count that is answered
pub record Laid (line before after : List ℕ) (count : ℕ) : Type 0 where
  pub counted : count ≡ taken line before
  pub stands : after ≡ laid line before
