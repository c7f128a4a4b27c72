-- The cases of the reader's definitions, as the code meets them.
-- Assumes nothing.
use mathlib.Core.Path.{◌≡◌, refl, ap, ◌∙◌}
use mathlib.Core.Bool.{Bool, true, false, ◌&&◌}
use mathlib.Core.List.{List}
use Rattle.std.specs.Prelude.{None}
use Prim.Native.Nat.{ℕ, zero, suc, ◌+◌, ◌*◌, ◌-◌, ◌<◌}
use native.Mathlib.Nat.{le_of_eq}
use native.Mathlib.Omega.{arith}
use lib.ListN.{length, take, drop, set, length-drop}
use lib.Seq.{take_all}
use borrow.Author.Tests.{lt-leb, ne_eqb}
use Rattle.rules.specs.Lists.{If◌then◌else◌}
use Rattle.frames.specs.declared.Item.{Item}
use Rattle.frames.specs.declared.Shape.{Shape}
use Rattle.frames.specs.declared.Head.TheVariants.{Bad}
use Rattle.frames.specs.declared.Frame.{Frame}
use Rattle.frames.specs.Frames.{len_of, width, item_at, slots, head_of, body_at, accept}

-- the part of a list from a on, up to the end
pub part : {A : Type 0} (s : List A) (a : ℕ) → take (length s - a) (drop a s) ≡ drop a s
part s a = take_all (length s - a) (drop a s) (le_of_eq (length-drop a s))

-- a body of no kind is read as head_of says
pub other : (body : List ℕ) (k : ℕ) → (k ≡ 1 → ⊥) → (k ≡ 2 → ⊥) → (k ≡ 3 → ⊥) → (k ≡ 4 → ⊥) → (k ≡ 5 → ⊥) → (k ≡ 6 → ⊥) → head_of k body ≡ Bad
unfolding head_of If◌then◌else◌
other body k a b c d e f = simp (ne_eqb k 1 a, ne_eqb k 2 b, ne_eqb k 3 c, ne_eqb k 4 d, ne_eqb k 5 e, ne_eqb k 6 f)

pub and-false : (a : Bool) → a && false ≡ false
and-false true = refl
and-false false = refl

-- ---- The slots of a list, read one by one

-- those below i are read, and then the next
pub slots_more : (shape : Shape) (s : List ℕ) (at i : ℕ) (xs : List Item) (x : Item) → i < 4 → xs ≡ slots shape 0 4 i s at → x ≡ item_at shape i s (at + width shape * i)
    → set xs i x ≡ slots shape 0 4 (i + 1) s at
unfolding If◌then◌else◌
slots_more shape s at zero xs x h e f = let g : x ≡ item_at shape 0 s at = f ∙ ap (item_at shape 0 s) (omega arith) in rw (e, g)
slots_more shape s at (suc zero) xs x h e f = let g : x ≡ item_at shape 1 s (at + width shape) = f ∙ ap (item_at shape 1 s) (omega arith) in rw (e, g)
slots_more shape s at (suc (suc zero)) xs x h e f =
    let g : x ≡ item_at shape 2 s (at + width shape + width shape) = f ∙ ap (item_at shape 2 s) (omega arith) in rw (e, g)
slots_more shape s at (suc (suc (suc zero))) xs x h e f =
    let g : x ≡ item_at shape 3 s (at + width shape + width shape + width shape) = f ∙ ap (item_at shape 3 s) (omega arith) in rw (e, g)
slots_more shape s at (suc (suc (suc (suc i)))) xs x h e f = absurd (omega arith)

-- with no room for a header nothing is read
pub short : (f : Frame) (s : List ℕ) → length s < body_at → accept f s ≡ None
unfolding accept If◌then◌else◌
short f s h = simp (lt-leb (len_of f.head f.list.count + 2) (length s) (omega arith), and-false)
