-- A small area takes no line, and what a line's promise admits is one outcome.
-- Assumes nothing.
use mathlib.Core.Path.{◌≡◌, sym, ◌∙◌}
use mathlib.Core.List.{List}
use Prim.Native.Nat.{ℕ, ◌<◌}
use lib.ListN.{length}
use borrow.Author.Tests.{lt-leb}
use Rattle.lines.specs.Area.{Laid}

pub lays_not : {line l : List ℕ} → length l < 128 → Laid line l l 0
lays_not {line} {l} small = record { counted = rw (lt-leb 128 (length l) small); stands = rw (lt-leb 128 (length l) small) }

-- what a line's promise admits is one outcome
pub one_outcome : {line l m m' : List ℕ} {k k' : ℕ} → Laid line l m k → Laid line l m' k' → (k ≡ k') × (m ≡ m')
one_outcome a b = (a.counted ∙ sym b.counted, a.stands ∙ sym b.stands)
