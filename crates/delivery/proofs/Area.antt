-- A text that grows in an area by one line: what stands before the line, and the bytes behind it, are as they were.
-- Assumes nothing.
use mathlib.Core.List.{List, ◌++◌, append-nil}
use mathlib.Core.Path.{◌≡◌, ap, sym, ◌∙◌}
use Prim.Native.Nat.{ℕ, ◌+◌, ◌-◌, ◌≤◌}
use native.Mathlib.Omega.{arith}
use lib.ListN.{length, take, drop, length-append, length-drop, take-append-drop}
use lib.Seq.{length-take-le, take-append-add, drop-append-add, drop-drop, take-append_seam, drop-append_seam, take_all, drop-length}
use borrow.Author.Tests.{le-leb}
use borrow.Rule.Slice.PartMut.{mid_of, put_mid, Post-is}
use Rattle.lines.specs.Area.{laid, Laid}

-- how an area stands: so many bytes of text, and behind them what was there at first
pub record Grown (l₀ l : List ℕ) (written : ℕ) : Type 0 where
  pub within : written ≤ length l₀
  pub as_long : length l ≡ length l₀
  pub behind : drop written l ≡ drop written l₀

-- a line laid behind the text
abbrev pub lined : List ℕ → ℕ → List ℕ → List ℕ
lined l written line = take written l ++ laid line (drop written l)

module _ (l₀ l line : List ℕ) (written : ℕ) (g : Grown l₀ l written) (room : written + 128 ≤ length l₀) (short : length line ≤ 128) where
  rest : List ℕ
  rest = drop (length line) (drop written l)

  front : length (take written l) ≡ written
  front = length-take-le written l (omega (arith, g.as_long))

  opened : lined l written line ≡ take written l ++ (line ++ rest)
  unfolding rest
  opened = rw (le-leb 128 (length (drop written l)) (rw (length-drop written l) (omega (arith, g.as_long))))

  placed : written + length line ≡ length (take written l) + length line
  placed = omega (arith, front)

  pub more_text : take (written + length line) (lined l written line) ≡ take written l ++ line
  more_text =
      ap (λ (k : List ℕ). take (written + length line) k) opened
      ∙ ap (λ (k : ℕ). take k (take written l ++ (line ++ rest))) placed
      ∙ take-append-add (take written l) (line ++ rest) (length line)
      ∙ ap (λ (k : List ℕ). take written l ++ k) (take-append_seam line rest)

  pub grows : Grown l₀ (lined l written line) (written + length line)
  unfolding rest
  grows = record {
    within = omega arith;
    as_long =
        ap length opened ∙ length-append (take written l) (line ++ rest)
        ∙ omega (arith, front, length-append line rest, length-drop (length line) (drop written l), length-drop written l, g.as_long);
    behind =
        ap (λ (k : List ℕ). drop (written + length line) k) opened
        ∙ ap (λ (k : ℕ). drop k (take written l ++ (line ++ rest))) placed
        ∙ drop-append-add (take written l) (line ++ rest) (length line)
        ∙ drop-append_seam line rest
        ∙ ap (λ (k : List ℕ). drop (length line) k) g.behind
        ∙ drop-drop (length line) written l₀;
  }

-- the whole area: the text, and what was there behind it
pub stands : (l₀ l : List ℕ) (written : ℕ) → Grown l₀ l written → l ≡ take written l ++ drop (length (take written l)) l₀
stands l₀ l written g =
    sym (take-append-drop written l)
    ∙ ap (λ (k : List ℕ). take written l ++ k) (g.behind ∙ ap (λ (k : ℕ). drop k l₀) (sym (length-take-le written l (omega (arith, g.as_long, g.within)))))

-- a line laid in the part of an area that lies behind the text
module _ (l line after : List ℕ) (written count : ℕ) (room : written + 128 ≤ length l) (done : Laid line (mid_of written (length l - written) l) after count) where
  part : mid_of written (length l - written) l ≡ drop written l
  part = take_all (length l - written) (drop written l) (rw (length-drop written l) (omega arith))

  pub relaid_count : count ≡ length line
  relaid_count =
      done.counted ∙ rw (part, le-leb 128 (length (drop written l)) (rw (length-drop written l) (omega arith)))

  pub relaid : put_mid written (length l - written) l after ≡ lined l written line
  relaid =
      ap (λ (k : List ℕ). take written l ++ (after ++ k)) (Post-is written (length l) l (omega arith) ∙ drop-length l)
      ∙ ap (λ (k : List ℕ). take written l ++ k) (append-nil after ∙ done.stands ∙ ap (λ (k : List ℕ). laid line k) part)
