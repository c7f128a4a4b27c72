-- Walking a list: what is left at i begins with the element there, and a run of the rest goes on behind it; a test of each is the library's.
-- Assumes nothing.
use mathlib.Core.Path.{◌≡◌, refl, ap}
use mathlib.Core.Bool.{Bool, ◌&&◌}
use mathlib.Core.List.{List, [], ◌∷◌}
use Prim.Native.Nat.{ℕ, ◌+◌, ◌≤◌, ◌<◌}
use native.Mathlib.Numerals.{add-one}
use lib.ListN.{length, get_or, drop, drop_of_length-le}
use lib.Seq.{drop-cons}
use Rattle.std.specs.List.{list_all}
use Rattle.rules.specs.Lists.{every}
use Rattle.frames.specs.declared.Item.{Item}
use Rattle.shard.specs.Model.{Running, turn, ran}

pub list_all_is : {A : Type 0} (ok : A → Bool) (xs : List A) → list_all ok xs ≡ every ok xs
list_all_is ok [] = refl
list_all_is ok (x ∷ xs) = ap (λ (b : Bool). ok x && b) (list_all_is ok xs)

-- a run
module _ (xs : List Item) (ind : ℕ) where
  pub ran_on : (i : ℕ) (d : Item) (r : Running) → i < length xs → ran ind (drop (i + 1) xs) (turn ind (get_or xs i d) r) ≡ ran ind (drop i xs) r
  unfolding ran
  ran_on i d r k = rw (add-one, drop-cons xs i d k)

  pub ran_end : (i : ℕ) (r : Running) → length xs ≤ i → ran ind (drop i xs) r ≡ r
  unfolding ran
  ran_end i r k = rw (drop_of_length-le xs {i = i} k)
