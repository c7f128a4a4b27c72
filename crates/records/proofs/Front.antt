-- A part moved to the front, and what stands where there is no such part.
-- Assumes nothing.
use mathlib.Core.List.{List}
use mathlib.Core.Path.{◌≡◌}
use Prim.Native.Nat.{ℕ, ◌-◌, ◌≤◌, ◌<◌}
use native.Mathlib.Nat.{zero-add}
use lib.ListN.{length}
use borrow.Author.Tests.{le-leb, lt-leb}
use Rattle.std.specs.List.{copy_within}
use Rattle.rules.specs.Lists.{If◌then◌else◌}
use Rattle.records.specs.Front.{part_length, front_of}

module _ (from end : ℕ) where
  pub length_inside : (most : ℕ) → from ≤ end → end ≤ most → part_length from end most ≡ end - from
  unfolding part_length If◌then◌else◌
  length_inside most h g = rw (le-leb from end h, le-leb end most g)

  pub length_backwards : (most : ℕ) → end < from → part_length from end most ≡ 0
  unfolding part_length If◌then◌else◌
  length_backwards most h = rw (lt-leb from end h)

  pub length_too_long : (most : ℕ) → from ≤ end → most < end → part_length from end most ≡ 0
  unfolding part_length If◌then◌else◌
  length_too_long most h g = rw (le-leb from end h, lt-leb end most g)

  pub front_inside : (s : List ℕ) → from ≤ end → end ≤ length s → front_of from end s ≡ copy_within s from end 0
  unfolding front_of If◌then◌else◌
  front_inside s h g = rw (le-leb from end h, le-leb end (length s) g, zero-add)

  pub front_backwards : (s : List ℕ) → end < from → front_of from end s ≡ s
  unfolding front_of If◌then◌else◌
  front_backwards s h = rw (lt-leb from end h)

  pub front_too_long : (s : List ℕ) → from ≤ end → length s < end → front_of from end s ≡ s
  unfolding front_of If◌then◌else◌
  front_too_long s h g = rw (le-leb from end h, lt-leb end (length s) g)

-- what `to_front` is proved by
pub ruleset front_laws = (length_inside, length_backwards, length_too_long, front_inside, front_backwards, front_too_long)
