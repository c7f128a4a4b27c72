-- Counting the entries that touch a shard: the loop has passed i of the masks.
-- Assumes nothing.
use mathlib.Core.Path.{◌≡◌, refl, sym, ◌∙◌}
use mathlib.Core.Bool.{Bool, true, false, cond}
use mathlib.Core.List.{List}
use Prim.Native.Nat.{ℕ, ◌+◌, ◌<◌}
use native.Mathlib.Omega.{arith}
use native.Mathlib.Numerals.{add-one}
use lib.ListN.{length, get_or, drop}
use lib.Seq.{drop-cons}
use Rattle.std.specs.Prelude.{filter}
use Rattle.std.proofs.lemmas.List.Recursion.{is_count_by}
use Rattle.std.proofs.lemmas.List.Sums.{length-filter}
use Rattle.rules.specs.Lists.{If◌then◌else◌}
use Rattle.entry.specs.Model.{in_mask}
use Rattle.send.specs.Model.{count_in}

module _ (shard : ℕ) (masks : List ℕ) (i d count : ℕ) (here : i < length masks) (kept : count + count_in shard (drop i masks) ≡ count_in shard masks) where
  next : (inside : Bool) → in_mask (get_or masks i d) shard ≡ inside → count_in shard (drop i masks) ≡ (If inside then 1 else 0) + count_in shard (drop (i + 1) masks)
  next inside e = rw (add-one i, drop-cons masks i d here, ← e)

  pub counted_one : in_mask (get_or masks i d) shard ≡ true → count + 1 + count_in shard (drop (i + 1) masks) ≡ count_in shard masks
  unfolding If◌then◌else◌
  counted_one e = let n = next true e in omega arith

  pub passed_by : in_mask (get_or masks i d) shard ≡ false → count + count_in shard (drop (i + 1) masks) ≡ count_in shard masks
  unfolding If◌then◌else◌
  passed_by e = let n = next false e in omega arith

-- the same by the library's words for it
pub count_is : (shard : ℕ) (masks : List ℕ) → length (filter (λ mask. in_mask mask shard) masks) ≡ count_in shard masks
count_is shard masks =
    length-filter (λ mask. in_mask mask shard) masks
    ∙ sym (is_count_by (count_in shard) (λ mask. in_mask mask shard) refl (λ mask rest. one (in_mask mask shard) (count_in shard rest)) masks)
  where
    one : (t : Bool) (k : ℕ) → (If t then 1 else 0) + k ≡ cond t (1 + k) k
    one true k = unfold If◌then◌else◌ in refl
    one false k = unfold If◌then◌else◌ in (omega arith)
