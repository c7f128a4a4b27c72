-- A window as the rules have it, and what every window of a session keeps.
-- Assumes nothing.
use Rattle.std.specs.Prelude.{◌≡◌, ◌⊎◌, List, [], ◌∷◌, ℕ, zero, suc, ◌+◌, ◌%◌, ◌≤◌, ◌<◌, T, length}
use Rattle.frames.specs.View.{operations_of, operation_items, filled}
use Rattle.rules.specs.Lists.{If◌then◌else◌}
use Rattle.rules.specs.Transactions.{Operation}
use Rattle.rules.specs.Frames.{ok_operations}
use Rattle.rules.specs.Session as R
use Rattle.window.specs.declared.Slot.{Slot}
use Rattle.window.specs.declared.Window.{Window}
use Rattle.window.specs.Model.{free, slot_of, is_outstanding, oldest, span}

-- ---- The window

unfoldable pub outstanding_of : List Slot → ℕ → R.Outstanding
outstanding_of slots number = record { number = number; operations = operations_of (slot_of slots number).count (slot_of slots number).items }

-- the outstanding ones of so many numbers
abbrev pub outstanding_from : List Slot → ℕ → ℕ → List R.Outstanding
outstanding_from slots number zero = []
outstanding_from slots number (suc more) =
    If is_outstanding slots number then outstanding_of slots number ∷ outstanding_from slots (suc number) more else outstanding_from slots (suc number) more

unfoldable pub view_window : Window → R.Window
view_window w = record { next = w.next; outstanding = outstanding_from w.slots (oldest w.next) (span w.next) }

-- ---- What is kept

-- the one slot that a number with these operations can have
unfoldable pub slot_for : ℕ → List Operation → Slot
slot_for number os = record { number = number; count = length os; items = filled 4 (operation_items 0 os) }

pub record Waiting (next i : ℕ) (s : Slot) : Type 0 where
  pub operations : List Operation
  pub ok : T (ok_operations operations)
  pub is : s ≡ slot_for s.number operations
  pub place : s.number % 8 ≡ i
  pub old : next ≤ s.number + 8
  pub young : s.number < next

pub record Held (w : Window) : Type 0 where
  pub eight : length w.slots ≡ 8
  pub numbers : w.next ≤ 65535
  -- a slot is free, or has the number that belongs there, no older than 8 before the next one, with operations that obey the rules
  pub each : (number : ℕ) → (slot_of w.slots number ≡ free) ⊎ Waiting w.next (number % 8) (slot_of w.slots number)
