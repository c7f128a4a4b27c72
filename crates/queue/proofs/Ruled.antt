-- Wrong answers that the promises of this crate rule out, beside those that the laws in Meaning do: each is shown of the definition that the
-- contract cites.
-- Assumes nothing.
use mathlib.Core.Path.{◌≡◌, refl}
use mathlib.Core.Bool.{Bool, false}
use mathlib.Core.List.{List, [], ◌∷◌}
use Prim.Native.Nat.{ℕ, zero, suc, ◌+◌, ◌≤◌, ◌<◌}
use native.Mathlib.Omega.{arith}
use lib.Dec.{ltb}
use lib.ListN.{get_or, get_or-replicate}
use borrow.Author.Tests.{le-ltb}
use Rattle.rules.specs.Lists.{If◌then◌else◌}
use Rattle.rules.specs.Queue.{empty_queue}
use Rattle.rules.proofs.Lists.{by}
use Rattle.entry.specs.Model.{in_mask}
use Rattle.queue.specs.declared.Queue.{Queue}
use Rattle.queue.specs.Model.{no_queue, pushed_of, change_from, changed_of, changed_all}
use Rattle.queue.specs.View.{view_queue}

-- ---- no_queue

-- a number that waits, or one that was taken
pub no_queue_view : view_queue no_queue ≡ empty_queue
unfolding view_queue
no_queue_view = refl

-- a slot in use
pub no_queue_slots : (i : ℕ) → i < 256 → get_or no_queue.numbers i 1 ≡ 0
no_queue_slots i h = get_or-replicate 256 i 0 1 h

-- ---- push

-- the last taken number changed
pub push_keeps_last : (q : Queue) (ind : ℕ) → (pushed_of q ind).taken ≡ q.taken
unfolding pushed_of
push_keeps_last q ind = by (λ (p : Queue). p.taken ≡ q.taken) (ltb q.len 256) (λ t. refl) (λ t. refl)

-- a 257th number
pub push_full : (q : Queue) (ind : ℕ) → 256 ≤ q.len → pushed_of q ind ≡ q
unfolding pushed_of If◌then◌else◌
push_full q ind h = rw (le-ltb q.len 256 h)

-- ---- change_all: the queue of a shard outside the set changed

outside : (change : Queue → Queue) (mask shard : ℕ) (qs : List Queue) (i : ℕ) (z : Queue) → in_mask mask (shard + i) ≡ false
    → get_or (change_from change mask shard qs) i z ≡ get_or qs i z
unfolding If◌then◌else◌
outside change mask shard [] i z h = refl
outside change mask shard (q ∷ qs) zero z h =
    let e : shard + 0 ≡ shard = omega arith in
    let g = rw e at h in
    rw g
outside change mask shard (q ∷ qs) (suc i) z h =
    let e : shard + suc i ≡ suc shard + i = omega arith in
    outside change mask (suc shard) qs i z (rw e at h)

pub changed_outside : (qs : List Queue) (fresh : Bool) (mask ind i : ℕ) (z : Queue) → in_mask mask (1 + i) ≡ false → get_or (changed_all qs fresh mask ind) i z ≡ get_or qs i z
unfolding changed_all
changed_outside qs fresh mask ind i z h = outside (changed_of fresh ind) mask 1 qs i z h
