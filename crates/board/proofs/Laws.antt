-- The place of a name in a list is the position at which it is found, or the list's length where it is not. No queue changes where there is no shard.
-- Assumes nothing.
use Rattle.std.proofs.Common.{◌≡◌, ℕ, suc, ◌+◌, ◌≤◌, ◌==◌, min, Bool, true, false, not, ◌&&◌, cond, nat_lt, List, [], ◌∷◌, length, take, refl, ap, arith, length-take}
use Rattle.std.proofs.lemmas.Bool.Decides.{nat_tests}
use Rattle.std.proofs.lemmas.List.Sums.{prefix_len-le-length}
use Rattle.std.specs.Option.{unwrap_or}
use Rattle.std.proofs.Common.{Some, None}
use Rattle.std.specs.List.{position, position_or_len}
use Rattle.std.proofs.lemmas.List.Recursion.{is_position_or_len}
use Rattle.std.proofs.Math.Nat.{zero-div}
use lib.Dec.{eqb→eq}
use Rattle.rules.specs.Lists.{If◌then◌else◌, within}
use Rattle.rules.proofs.Lists.{by}
use Rattle.entry.specs.Model.{in_mask, is_empty_of}
use Rattle.queue.specs.declared.Queue.{Queue}
use Rattle.queue.specs.Model.{changed_of, change_from, changed_all}
use Rattle.board.specs.Model.{position_of, queues_after}

same_test : (b : Bool) (p : ℕ) → (If b then 0 else suc p) ≡ cond b 0 (1 + p)
unfolding If◌then◌else◌
same_test true p = refl
same_test false p = omega arith

-- the search from the front is the library's
position_is : (x : ℕ) (l : List ℕ) → position_of x l ≡ position_or_len (λ y. y == x) l
unfolding position_of
position_is x l = is_position_or_len (position_of x) (λ y. y == x) refl (λ y ys. same_test (y == x) (position_of x ys)) l

found_or : (k m : ℕ) → k ≤ m → unwrap_or (cond (nat_lt k m) (Some k) None) m ≡ k
found_or k m h = grind (arith, nat_tests)

position_most : (p : ℕ → Bool) (l : List ℕ) → position_or_len p l ≤ length l
position_most p l = prefix_len-le-length (λ x. not (p x)) l

pub position_found : (x n : ℕ) (l : List ℕ) → length l ≡ 256 → unwrap_or (position (λ y. y == x) (take n l)) (min n 256) ≡ position_of x (take n l)
position_found x n l h =
    let p = λ (y : ℕ). y == x in
    let e : length (take n l) ≡ min n 256 = simp (length-take, h) in
    rw (position_is x (take n l), ← e) (found_or (position_or_len p (take n l)) (length (take n l)) (position_most p (take n l)))

-- ---- The queues

and_false : (b : Bool) → (b && false) ≡ false
and_false true = refl
and_false false = refl

in_none : (shard : ℕ) → in_mask 0 shard ≡ false
unfolding in_mask
in_none shard = rw zero-div (and_false (within 1 8 shard))

kept : (change : Queue → Queue) (shard : ℕ) (queues : List Queue) → change_from change 0 shard queues ≡ queues
unfolding If◌then◌else◌
kept change shard [] = refl
kept change shard (q ∷ queues) = rw (in_none shard) (ap (λ l. q ∷ l) (kept change (suc shard) queues))

pub queues_changed : (queues : List Queue) (fresh : Bool) (shards ind : ℕ) → changed_all queues fresh shards ind ≡ queues_after queues fresh shards ind
unfolding queues_after changed_all
queues_changed queues fresh shards ind =
    by (λ (r : List Queue). change_from (changed_of fresh ind) shards 1 queues ≡ r) (is_empty_of shards)
    (λ t. rw (eqb→eq shards 0 t) (kept (changed_of fresh ind) 1 queues))
    (λ t. refl)
