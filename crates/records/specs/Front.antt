-- A part of some bytes moved to their front.
-- Assumes nothing.
use Rattle.std.specs.Prelude.{Bool, ◌&&◌, List, ◌++◌, ℕ, ◌-◌, length, take, drop}
use Rattle.rules.specs.Lists.{If◌then◌else◌, ◌≤?◌}

-- from..end is a part of so many bytes
abbrev pub is_part : (from end most : ℕ) → Bool
is_part from end most = from ≤? end && end ≤? most

unfoldable pub part_length : (from end most : ℕ) → ℕ
part_length from end most = If is_part from end most then end - from else 0

-- the part, and behind it what stood there
unfoldable pub front_of : (from end : ℕ) → List ℕ → List ℕ
front_of from end s = If is_part from end (length s) then take (end - from) (drop from s) ++ drop (end - from) s else s
