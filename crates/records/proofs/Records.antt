-- What stands at the front of some bytes and whom an address names, case by case: a law for each way out of `record_at` and of `named`.
-- Assumes nothing.
use mathlib.Core.List.{List}
use mathlib.Core.Path.{◌≡◌, refl}
use Prim.Native.Nat.{ℕ, ◌+◌, ◌-◌, ◌≤◌, ◌<◌}
use lib.Dec.{ltb}
use mathlib.Core.Bool.{Bool, true, false}
use native.Mathlib.Omega.{arith}
use lib.ListN.{length}
use borrow.Author.Tests.{lt-ltb, le-ltb, le-leb, lt-leb, ltb-false}
use Rattle.rules.specs.Lists.{If◌then◌else◌}
use Rattle.rules.specs.Frames.{byte_at, two_at}
use Rattle.records.specs.declared.Next.TheVariants.{Record, Need, Cut}
use Rattle.records.specs.declared.Receiver.TheVariants.{Board, Shard, Nobody}
use Rattle.records.specs.Records.{next_of, receiver_of}

module _ (s : List ℕ) where
  pub next_short : length s < 3 → next_of s ≡ Need
  unfolding next_of If◌then◌else◌
  next_short h = rw (lt-ltb (length s) 3 h)

  pub next_cut : 3 ≤ length s → 36 < two_at s 1 → next_of s ≡ Cut
  unfolding next_of If◌then◌else◌
  next_cut h g = rw (le-ltb (length s) 3 h, lt-ltb 36 (two_at s 1) g)

  pub next_part : 3 ≤ length s → two_at s 1 ≤ 36 → length s < 3 + two_at s 1 → next_of s ≡ Need
  unfolding next_of If◌then◌else◌
  next_part h g k = rw (le-ltb (length s) 3 h, le-ltb 36 (two_at s 1) g, lt-ltb (length s) (3 + two_at s 1) k)

  pub next_record : 3 ≤ length s → two_at s 1 ≤ 36 → 3 + two_at s 1 ≤ length s → next_of s ≡ Record (byte_at s 0) (3 + two_at s 1)
  unfolding next_of If◌then◌else◌
  next_record h g k = rw (le-ltb (length s) 3 h, le-ltb 36 (two_at s 1) g, le-ltb (length s) (3 + two_at s 1) k)

module _ (n m a : ℕ) where
  pub names_board : 1 ≤ a → a ≤ 8 → a ≤ n → receiver_of n m a ≡ Board (a - 1)
  unfolding receiver_of If◌then◌else◌
  names_board h g k = rw (le-leb 1 a h, le-leb a 8 g, le-leb a n k)

  pub names_no_board : 1 ≤ a → a ≤ 8 → n < a → receiver_of n m a ≡ Nobody
  unfolding receiver_of If◌then◌else◌
  names_no_board h g k = rw (le-leb 1 a h, le-leb a 8 g, lt-leb a n k, lt-leb 17 a (omega arith))

  pub names_shard : 17 ≤ a → a ≤ 24 → a - 16 ≤ m → receiver_of n m a ≡ Shard (a - 17)
  unfolding receiver_of If◌then◌else◌
  names_shard h g k = rw (le-leb 1 a (omega arith), lt-leb a 8 (omega arith), le-leb 17 a h, le-leb a 24 g, le-leb (a - 16) m k)

  pub names_no_shard : 17 ≤ a → a ≤ 24 → m < a - 16 → receiver_of n m a ≡ Nobody
  unfolding receiver_of If◌then◌else◌
  names_no_shard h g k = rw (le-leb 1 a (omega arith), lt-leb a 8 (omega arith), le-leb 17 a h, le-leb a 24 g, lt-leb (a - 16) m k)

  pub names_nobody_low : a < 1 → receiver_of n m a ≡ Nobody
  unfolding receiver_of If◌then◌else◌
  names_nobody_low h = rw (lt-leb 1 a h, lt-leb 17 a (omega arith))

  pub names_nobody_between : 8 < a → a < 17 → receiver_of n m a ≡ Nobody
  unfolding receiver_of If◌then◌else◌
  names_nobody_between h g = rw (le-leb 1 a (omega arith), lt-leb a 8 h, lt-leb 17 a g)

  pub names_nobody_high : 24 < a → receiver_of n m a ≡ Nobody
  unfolding receiver_of If◌then◌else◌
  names_nobody_high h = rw (le-leb 1 a (omega arith), lt-leb a 8 (omega arith), le-leb 17 a (omega arith), lt-leb a 24 h)

-- what `record_at` and `named` are proved by
pub ruleset next_laws = (next_short, next_cut, next_part, next_record)

pub ruleset names_laws = (names_board, names_no_board, names_shard, names_no_shard, names_nobody_low, names_nobody_between, names_nobody_high)

-- a record has an address byte and a length, and lies within the bytes
pub record-inside : (s : List ℕ) (address end : ℕ) → next_of s ≡ Record address end → (3 ≤ end) × (end ≤ length s)
unfolding next_of If◌then◌else◌
record-inside s address end e = by (ltb (length s) 3) refl (ltb 36 (two_at s 1)) (ltb (length s) (3 + two_at s 1)) refl e
  where
    by : (t : Bool) → ltb (length s) 3 ≡ t → (u : Bool) (v : Bool) → ltb (length s) (3 + two_at s 1) ≡ v
        → (If t then Need else If u then Cut else If v then Need else Record (byte_at s 0) (3 + two_at s 1)) ≡ Record address end → (3 ≤ end) × (end ≤ length s)
    by true a u v b p = let z : ◌≡◌ {A = ℕ} 0 1 = cc in absurd (omega arith)
    by false a true v b p = let z : ◌≡◌ {A = ℕ} 0 1 = cc in absurd (omega arith)
    by false a false true b p = let z : ◌≡◌ {A = ℕ} 0 1 = cc in absurd (omega arith)
    by false a false false b p =
        let z : 3 + two_at s 1 ≡ end = cc in
        let g : 3 + two_at s 1 ≤ length s = ltb-false (length s) (3 + two_at s 1) b in
        (omega arith, omega arith)
