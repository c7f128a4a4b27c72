-- Wrong answers that the promises of this crate rule out, beside those that the laws in Means do: each is shown of the definition that the
-- contract cites.
-- Assumes nothing.
use mathlib.Core.Path.{◌≡◌, refl}
use mathlib.Core.Bool.{false}
use mathlib.Core.List.{List}
use Prim.Native.Nat.{ℕ, ◌+◌, ◌%◌, ◌≤◌, ◌<◌}
use native.Mathlib.Omega.{arith}
use native.Mathlib.Nat.{mod-lt}
use lib.Dec.{leb, eqb, eqb→eq}
use lib.ListN.{get_or-replicate}
use borrow.Author.Tests.{le-leb, lt-leb}
use Rattle.std.proofs.Math.Bool.{and-false}
use Rattle.frames.specs.declared.Item.{Item}
use Rattle.rules.specs.Lists.{If◌then◌else◌}
use Rattle.rules.specs.Answers.{window_full, numbers_used_up}
use Rattle.rules.proofs.Lists.{by, and_l}
use Rattle.window.specs.declared.Slot.{Slot}
use Rattle.window.specs.declared.Window.{Window}
use Rattle.window.specs.Model.{free, fresh_window, waits, no_slot, slot_of, is_outstanding, smallest_of, kept_of, storing, answered_of, denied, invoked_of}

-- ---- new

-- a number outstanding in a fresh window
pub fresh_has_none : (number : ℕ) → is_outstanding fresh_window.slots number ≡ false
unfolding is_outstanding fresh_window
fresh_has_none number = rw (get_or-replicate 8 (number % 8) free no_slot (mod-lt number {m = 8} (omega arith))) (and-false (eqb 0 number))

-- ---- kept

-- the operations of another number that has the same slot
pub kept_own : (w : Window) (number : ℕ) → 1 ≤ (kept_of w number).count → (kept_of w number).number ≡ number
unfolding kept_of is_outstanding
kept_own w number =
    by (λ (s : Slot). 1 ≤ s.count → s.number ≡ number) (waits (slot_of w.slots number) number)
    (λ t h. eqb→eq (slot_of w.slots number).number number (and_l (eqb (slot_of w.slots number).number number) (leb 1 (slot_of w.slots number).count) t))
    (λ t h. absurd (omega arith))

-- ---- invoke

-- a ninth number: it is refused, and the window is as before
pub ninth_refused : (w : Window) (count : ℕ) (items : List Item) → w.next < 65535 → smallest_of w + 8 ≤ w.next → invoked_of w count items ≡ denied w window_full
unfolding invoked_of If◌then◌else◌
ninth_refused w count items h g = rw (lt-leb 65535 w.next h, le-leb (smallest_of w + 8) w.next g)

-- number 65,535
pub numbers_end : (w : Window) (count : ℕ) (items : List Item) → 65535 ≤ w.next → invoked_of w count items ≡ denied w numbers_used_up
unfolding invoked_of If◌then◌else◌
numbers_end w count items h = rw (le-leb 65535 w.next h)

-- ---- answered

-- the next number moved
pub answered_keeps_next : (w : Window) (number : ℕ) → (answered_of w number).next ≡ w.next
unfolding answered_of storing
answered_keeps_next w number = by (λ (v : Window). v.next ≡ w.next) (is_outstanding w.slots number) (λ t. refl) (λ t. refl)

-- a number that is not outstanding: the window is as before
pub answered_nothing : (w : Window) (number : ℕ) → is_outstanding w.slots number ≡ false → answered_of w number ≡ w
unfolding answered_of If◌then◌else◌
answered_nothing w number h = rw h
