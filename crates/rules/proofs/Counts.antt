-- "So touching entries = taken + queued", and a queue has at most 256 log numbers.
-- Assumes nothing.
use mathlib.Core.Path.{◌≡◌, refl, sym, ap, ◌∙◌}
use mathlib.Core.Bool.{Bool, true, false}
use mathlib.Core.List.{List, [], ◌∷◌}
use mathlib.Core.Option.{Option, none, some}
use Prim.Native.Nat.{ℕ, zero, suc, ◌+◌, ◌≤◌}
use native.Mathlib.Omega.{arith}
use lib.Dec.{T}
use lib.ListN.{length, length-map}
use Rattle.rules.specs.Lists.{If◌then◌else◌, at, below}
use Rattle.rules.specs.Transactions.{Write, touches}
use Rattle.rules.specs.Board.{Entry, Board, writes, one_more, touching}
use Rattle.rules.specs.Kept.{numbers, above, up_to, Kept, SizesKept}
use Rattle.rules.proofs.Lists.{by, if_yes}

-- ---- Counting entries that touch a shard

pub touching_most : (m j : ℕ) (ws : List Write) (q : ℕ) → touching m j ws q ≤ q
touching_most m j ws zero = omega arith
touching_most m j ws (suc q) = go (at ws q) (touching_most m j ws q)
  where
    go : (o : Option Write) → touching m j ws q ≤ q → one_more m j o (touching m j ws q) ≤ suc q
    go none h = omega arith
    go (some w) h = by (λ (x : ℕ). x ≤ suc q) (touches m j w.operations) (λ t. omega arith) (λ t. omega arith)

pub touching_one : (m j : ℕ) (ws : List Write) (q : ℕ) (w : Write) → at ws q ≡ some w → T (touches m j w.operations) → touching m j ws (suc q) ≡ suc (touching m j ws q)
touching_one m j ws q w a t =
    ap (λ o. one_more m j o (touching m j ws q)) a ∙ if_yes (touches m j w.operations) (suc (touching m j ws q)) (touching m j ws q) t

one_more_add : (m j : ℕ) (o : Option Write) (x c : ℕ) → one_more m j o (x + c) ≡ x + one_more m j o c
unfolding If◌then◌else◌
one_more_add m j none x c = refl
one_more_add m j (some w) x c = go (touches m j w.operations)
  where
    go : (t : Bool) → (If t then suc (x + c) else x + c) ≡ x + (If t then suc c else c)
    go true = omega arith
    go false = refl

-- the first entry counts, and those behind it
pub touching_cons : (m j : ℕ) (w : Write) (ws : List Write) (q : ℕ) → touching m j (w ∷ ws) (suc q) ≡ one_more m j (some w) 0 + touching m j ws q
touching_cons m j w ws zero = omega arith
touching_cons m j w ws (suc q) =
    ap (λ c. one_more m j (at ws q) c) (touching_cons m j w ws q) ∙ one_more_add m j (at ws q) (one_more m j (some w) 0) (touching m j ws q)

pub touching_numbers : (m j p : ℕ) (ws : List Write) → touching m j ws (length ws) ≡ length (numbers m j p ws)
unfolding If◌then◌else◌
touching_numbers m j p [] = refl
touching_numbers m j p (w ∷ ws) = touching_cons m j w ws (length ws) ∙ go (touches m j w.operations) (touching_numbers m j (suc p) ws)
  where
    go : (t : Bool) → touching m j ws (length ws) ≡ length (numbers m j (suc p) ws)
        → (If t then 1 else 0) + touching m j ws (length ws) ≡ length (If t then p ∷ numbers m j (suc p) ws else numbers m j (suc p) ws)
    go true e = omega arith
    go false e = omega arith

-- ---- Taken and queued

two_parts : (last : Option ℕ) (l : List ℕ) → length l ≡ length (up_to last l) + length (above last l)
unfolding If◌then◌else◌
two_parts last [] = refl
two_parts last (x ∷ l) = go (below last x) (two_parts last l)
  where
    go : (t : Bool) → length l ≡ length (up_to last l) + length (above last l)
        → suc (length l) ≡ length (If t then up_to last l else x ∷ up_to last l) + length (If t then x ∷ above last l else above last l)
    go true e = omega arith
    go false e = omega arith

-- how many numbers of shard j were taken
abbrev pub taken_count : Board → ℕ → ℕ
taken_count b j = length (up_to (b.queue j).last_taken (numbers b.m j 0 (writes b.log)))

pub touching_is : (b : Board) (j : ℕ) → Kept b → touching b.m j (writes b.log) (length (writes b.log)) ≡ taken_count b j + length (b.queue j).waiting
touching_is b j k =
    touching_numbers b.m j 0 (writes b.log)
    ∙ (two_parts (b.queue j).last_taken (numbers b.m j 0 (writes b.log)) ∙ ap (λ (l : List ℕ). taken_count b j + length l) (sym (k.queues j)))

pub queue_most : (b : Board) (j : ℕ) → Kept b → SizesKept b → length (b.queue j).waiting ≤ 256
queue_most b j k s =
    let e = touching_is b j k in
    let most = touching_most b.m j (writes b.log) (length (writes b.log)) in
    let same : length (writes b.log) ≡ length b.log = length-map b.log (λ (e : Entry). e.write) in
    omega (arith, s.size)
