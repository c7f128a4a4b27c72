-- Wrong answers that the promises of this crate rule out, beside those that the laws in Records and Front do: each is shown of the definition that
-- the contract cites.
-- Assumes nothing.
use mathlib.Core.Path.{◌≡◌, refl, ap, ◌∙◌}
use mathlib.Core.List.{List}
use Prim.Native.Nat.{ℕ, ◌+◌, ◌-◌, ◌≤◌}
use native.Mathlib.Omega.{arith}
use lib.Dec.{T, leb, leb→le}
use lib.ListN.{length, take, drop, length-append, length-drop}
use lib.Seq.{length-take-le}
use Rattle.rules.specs.Lists.{within}
use Rattle.rules.proofs.Lists.{by, and_l, and_r}
use Rattle.records.specs.Records.{usable_of}
use Rattle.records.specs.Front.{is_part, front_of}

-- ---- usable

range : (low high x : ℕ) → T (within low high x) → (low ≤ x) × (x ≤ high)
range low high x t = (leb→le low x (and_l (leb low x) (leb x high) t), leb→le x high (and_r (leb low x) (leb x high) t))

-- a chain of one board, or of nine
pub usable_boards : (n m : ℕ) → T (usable_of n m) → (2 ≤ n) × (n ≤ 8)
usable_boards n m t = range 2 8 n (and_l (within 2 8 n) (within 1 8 m) t)

-- no shard group, or nine
pub usable_shards : (n m : ℕ) → T (usable_of n m) → (1 ≤ m) × (m ≤ 8)
usable_shards n m t = range 1 8 m (and_r (within 2 8 n) (within 1 8 m) t)

-- ---- to_front

part : (from end : ℕ) (s : List ℕ) → T (is_part from end (length s)) → length (take (end - from) (drop from s)) ≡ end - from
part from end s t =
    let h = leb→le from end (and_l (leb from end) (leb end (length s)) t) in
    let g = leb→le end (length s) (and_r (leb from end) (leb end (length s)) t) in
    length-take-le (end - from) (drop from s) (rw length-drop (omega arith))

-- a byte lost, or one too many
pub front_length : (from end : ℕ) (s : List ℕ) → length (front_of from end s) ≡ length s
unfolding front_of
front_length from end s =
    by (λ (l : List ℕ). length l ≡ length s) (is_part from end (length s))
    (λ t.
    let h = leb→le from end (and_l (leb from end) (leb end (length s)) t) in
    let g = leb→le end (length s) (and_r (leb from end) (leb end (length s)) t) in
    length-append (take (end - from) (drop from s)) (drop (end - from) s)
    ∙ ap (λ (k : ℕ). k + length (drop (end - from) s)) (part from end s t)
    ∙ rw length-drop (omega arith))
    (λ t. refl)
