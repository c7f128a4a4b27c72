-- Frames written one behind the other: all their bytes stand from the first byte of the out area on, and nothing else changes.
-- Assumes nothing.
use mathlib.Core.Path.{◌≡◌, refl, sym, ap, ◌∙◌}
use mathlib.Core.Bool.{◌&&◌}
use mathlib.Core.List.{List, [], ◌++◌, append_assoc, append-nil}
use Prim.Native.Nat.{ℕ, ◌+◌, ◌-◌, ◌<◌, ◌≤◌}
use native.Mathlib.Nat.{le_of_eq}
use native.Mathlib.Omega.{arith}
use lib.ListN.{length, take, drop, length-append, length-drop, drop_of_length-le}
use lib.Seq.{take_at, drop_at, drop-drop}
use lib.Dec.{leb, leb→le}
use Rattle.rules.specs.Lists.{If◌then◌else◌}
use borrow.Author.Tests.{le-leb, lt-leb}
use Rattle.rules.proofs.Lists.{by, and_r}
use Rattle.frames.specs.declared.Frame.{Frame}
use Rattle.frames.specs.Frames.{frame_bytes, fits, written_of, laid_of, end_of, laid_behind}
use Rattle.frames.proofs.Cases.{part}
use Rattle.frames.proofs.Puts.{writes, lays}

-- ---- What the code leaves

-- an area that ends before `at` stays as it is
pub refused : (f : Frame) (at : ℕ) (l : List ℕ) → length l < at → (at ≡ end_of f at (length l)) × (l ≡ laid_behind f at l)
unfolding end_of laid_behind If◌then◌else◌
refused f at l h = (simp (lt-leb at (length l) h), simp (lt-leb at (length l) h))

-- n is what was written from `at` on
pub ended : (f : Frame) (at n : ℕ) (l : List ℕ) → at ≤ length l → n ≡ written_of f (length (take (length l - at) (drop at l)))
    → at + n ≡ end_of f at (length l)
unfolding end_of If◌then◌else◌
ended f at n l h en = simp (le-leb at (length l) h, en, part l at, length-drop)

-- m is what the part from `at` on became
pub laid : (f : Frame) (at : ℕ) (l m : List ℕ) → at ≤ length l → m ≡ laid_of f (take (length l - at) (drop at l))
    → take at l ++ (m ++ drop (length l - at) (drop at l)) ≡ laid_behind f at l
unfolding laid_behind If◌then◌else◌
laid f at l m h em =
    let z : drop (length l - at) (drop at l) ≡ [] = drop_of_length-le (drop at l) (le_of_eq (length-drop at l)) in
    simp (le-leb at (length l) h, em, part l at, z, append-nil)

-- a frame has no more bytes than there is room
written_small : (f : Frame) (room : ℕ) → written_of f room ≤ room
unfolding written_of fits
written_small f room =
    by (λ (n : ℕ). n ≤ room) (leb f.list.count 4 && leb (length (frame_bytes f)) room)
    (λ t. leb→le (length (frame_bytes f)) room (and_r (leb f.list.count 4) (leb (length (frame_bytes f)) room) t)) (λ t. omega arith)

pub end_small : (f : Frame) (at n : ℕ) (l : List ℕ) → at ≤ length l → n ≡ written_of f (length (take (length l - at) (drop at l))) → at + n ≤ length l
end_small f at n l h e =
    let k : length (take (length l - at) (drop at l)) ≡ length l - at = ap length (part l at) ∙ length-drop at l in
    omega (arith, written_small f (length (take (length l - at) (drop at l))))

-- ---- The laws for callers

-- p stands in front, and a frame is written behind it
pub ends_behind : (f : Frame) (p l : List ℕ) → f.list.count ≤ 4 → length (p ++ frame_bytes f) ≤ length l → end_of f (length p) (length l) ≡ length (p ++ frame_bytes f)
unfolding end_of If◌then◌else◌
ends_behind f p l k h =
    let e = length-append p (frame_bytes f) in
    let a : length p ≤ length l = omega arith in
    let r : length (frame_bytes f) ≤ length l - length p = omega arith in
    simp (le-leb (length p) (length l) a, writes f (length l - length p) k r) (sym e)

pub lays_behind : (f : Frame) (p l : List ℕ) → f.list.count ≤ 4 → length (p ++ frame_bytes f) ≤ length l
    → laid_behind f (length p) (p ++ drop (length p) l) ≡ (p ++ frame_bytes f) ++ drop (length (p ++ frame_bytes f)) l
unfolding laid_behind If◌then◌else◌
lays_behind f p l k h =
    let e = length-append p (frame_bytes f) in
    let d : List ℕ = drop (length p) l in
    let a : length p ≤ length (p ++ d) = omega (arith, length-append p d) in
    let r : length (frame_bytes f) ≤ length d = omega (arith, length-drop (length p) l) in
    let t : take (length p) (p ++ d) ≡ p = take_at p d (length p) refl in
    let u : drop (length p) (p ++ d) ≡ d = drop_at p d (length p) refl in
    let w : laid_of f d ≡ frame_bytes f ++ drop (length (p ++ frame_bytes f)) l = lays f d k r ∙ rw (drop-drop, e) in
    simp (le-leb (length p) (length (p ++ d)) a, t, u, w) (sym (append_assoc p (frame_bytes f) (drop (length (p ++ frame_bytes f)) l)))
