-- The machine's words on bits are the definitions: a bit tested, set and cleared.
-- Assumes nothing.
use mathlib.Core.Path.{◌≡◌, ◌∙◌}
use mathlib.Core.Bool.{true, not, ◌&&◌}
use Prim.Native.Nat.{ℕ, zero, suc, ◌+◌, ◌-◌, ◌*◌, ◌<◌}
use native.Mathlib.Omega.{arith}
use lib.Dec.{eqb}
use lib.Bits.{bit_and, bit_or}
use borrow.Author.Tests.{ne_eqb}
use Rattle.std.specs.Int.{bit_at}
use Rattle.std.specs.Int.Bits.{or_add_and}
use Rattle.std.proofs.lemmas.Nat.{pow_pos, and-not, and_comm}
use Rattle.std.proofs.lemmas.Nat.Bits.{and_pow, bit_at-lt}
use Rattle.rules.specs.Lists.{If◌then◌else◌, within}
use Rattle.entry.specs.Model.{bit_of, in_mask, insert_of, strike_of}

module _ (mask shard : ℕ) where
  -- the shard's digit
  abbrev at : ℕ
  at = bit_at mask (shard - 1)

  both : bit_and mask (bit_of shard) ≡ at * bit_of shard
  both = and_pow mask (shard - 1)

  pub bit_tested : not (eqb (bit_and mask (bit_of shard)) 0) ≡ eqb at 1
  bit_tested = rw both (go at (bit_at-lt mask (shard - 1)) (bit_of shard) (pow_pos (shard - 1)))
    where
      go : (d : ℕ) → d < 2 → (b : ℕ) → 0 < b → not (eqb (d * b) 0) ≡ eqb d 1
      go zero l b h = let z : 0 * b ≡ 0 = omega arith in rw z
      go (suc zero) l b h = rw (ne_eqb (1 * b) 0 (λ e. omega arith))
      go (suc (suc d)) l b h = absurd (omega arith)

  module _ (inside : within 1 8 shard ≡ true) where
    pub bit_set : bit_or mask (bit_of shard) ≡ insert_of mask shard
    unfolding insert_of in_mask
    bit_set = rw inside (go at (bit_at-lt mask (shard - 1)) both (or_add_and mask (bit_of shard)))
      where
        go : (d : ℕ) → d < 2 → bit_and mask (bit_of shard) ≡ d * bit_of shard → bit_or mask (bit_of shard) + bit_and mask (bit_of shard) ≡ mask + bit_of shard
            → bit_or mask (bit_of shard) ≡ (If true && not (true && eqb d 1) then mask + bit_of shard else mask)
        go zero l e s = unfold If◌then◌else◌ in (omega arith)
        go (suc zero) l e s = unfold If◌then◌else◌ in (omega arith)
        go (suc (suc d)) l e s = absurd (omega arith)

    pub bit_cleared : mask < 256 → bit_of shard < 256 → bit_and mask (255 - bit_of shard) ≡ strike_of mask shard
    unfolding strike_of in_mask
    bit_cleared h k =
        rw inside
        (go at (bit_at-lt mask (shard - 1)) (and_comm (bit_of shard) mask ∙ both)
        (rw (and_comm mask (255 - bit_of shard)) (and-not 8 (bit_of shard) mask k h)))
      where
        go : (d : ℕ) → d < 2 → bit_and (bit_of shard) mask ≡ d * bit_of shard
            → bit_and mask (255 - bit_of shard) + bit_and (bit_of shard) mask ≡ mask
            → bit_and mask (255 - bit_of shard) ≡ (If true && eqb d 1 then mask - bit_of shard else mask)
        go zero l e s = unfold If◌then◌else◌ in (omega arith)
        go (suc zero) l e s = unfold If◌then◌else◌ in (omega arith)
        go (suc (suc d)) l e s = absurd (omega arith)
