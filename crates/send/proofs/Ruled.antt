-- What the promise of send_parts admits is one outcome, and a wrong answer that the promise of count_touching rules out.
-- Assumes nothing.
use mathlib.Core.Path.{◌≡◌, sym, ◌∙◌}
use mathlib.Core.List.{List, [], ◌∷◌}
use Prim.Native.Nat.{ℕ, ◌+◌, ◌≤◌}
use native.Mathlib.Omega.{arith}
use lib.ListN.{length, take, length-take}
use Rattle.rules.proofs.Lists.{by}
use Rattle.frames.specs.declared.Frame.{Frame}
use Rattle.entry.specs.Model.{in_mask}
use Rattle.send.specs.declared.Sent.{Sent}
use Rattle.send.specs.Model.{Sends, count_in}

pub one_outcome : {fs : List Frame} {before after after' : List ℕ} {r r' : Sent} → Sends fs before after r → Sends fs before after' r' → (r ≡ r') × (after ≡ after')
one_outcome a b = (
  (λ i. record { frames = (a.frames ∙ sym b.frames) i; bytes = (a.bytes ∙ sym b.bytes) i }),
  a.out ∙ sym b.out,
)

few : (shard : ℕ) (masks : List ℕ) → count_in shard masks ≤ length masks
few shard [] = omega arith
few shard (mask ∷ masks) =
    let h = few shard masks in
    by (λ (k : ℕ). k + count_in shard masks ≤ length (mask ∷ masks)) (in_mask mask shard) (λ t. omega arith) (λ t. omega arith)

-- sn above the number of entries up to this one
pub count_few : (shard ind : ℕ) (masks : List ℕ) → count_in shard (take (ind + 1) masks) ≤ ind + 1
count_few shard ind masks = omega (arith, few shard (take (ind + 1) masks), length-take (ind + 1) masks)
