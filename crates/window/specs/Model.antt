-- What the methods of a window give, on the window as it lies.
-- Assumes nothing.
use Rattle.std.specs.Prelude.{Bool, ◌&&◌, List, [], ℕ, zero, suc, ◌+◌, ◌-◌, ◌%◌, get_or, set, replicate, Option, Some, None, Result, Ok, Err}
use Rattle.frames.specs.declared.Item.{Item}
use Rattle.frames.specs.declared.Items.{Items}
use Rattle.frames.specs.Frames.{no_item}
use Rattle.rules.specs.Lists.{If◌then◌else◌, ◌≤?◌, ◌=?◌}
use Rattle.rules.specs.Answers.{done, window_full, numbers_used_up}
use Rattle.rules.specs.Session.{window_size}
use Rattle.refusal.specs.declared.Refusal.{Refusal}
use Rattle.refusal.specs.Number.{number_of}
use Rattle.window.specs.declared.Slot.{Slot}
use Rattle.window.specs.declared.Window.{Window}

abbrev pub free : Slot
free = record { number = 0; count = 0; items = replicate 4 no_item }

unfoldable pub fresh_window : Window
fresh_window = record { next = 0; slots = replicate 8 free }

-- whether a slot has this number outstanding
abbrev pub waits : Slot → ℕ → Bool
waits s number = s.number =? number && 1 ≤? s.count

-- what an index past the end reads
abbrev pub no_slot : Slot
no_slot = record { number = 0; count = 0; items = [] }

-- the slot of a number; eight slots have one for each
abbrev pub slot_of : List Slot → ℕ → Slot
slot_of slots number = get_or slots (number % 8) no_slot

-- whether a number is outstanding
unfoldable pub is_outstanding : List Slot → ℕ → Bool
is_outstanding slots number = waits (slot_of slots number) number

-- the oldest number that can be outstanding
abbrev pub oldest : ℕ → ℕ
oldest next = next - window_size

-- how many numbers there are from there up to the next one
abbrev pub span : ℕ → ℕ
span next = next - oldest next

-- the first outstanding one of so many numbers, or the number behind them
abbrev pub first_from : List Slot → ℕ → ℕ → ℕ
first_from slots number zero = number
first_from slots number (suc more) = If is_outstanding slots number then number else first_from slots (suc number) more

unfoldable pub smallest_of : Window → ℕ
smallest_of w = first_from w.slots (oldest w.next) (span w.next)

unfoldable pub kept_of : Window → ℕ → Slot
kept_of w number = If is_outstanding w.slots number then slot_of w.slots number else free

-- the list that a slot has; a free one has none
unfoldable pub list_in : Slot → Option Items
list_in s = If 1 ≤? s.count then Some (record { count = s.count; items = s.items }) else None

-- a window with something else in the slot of a number
unfoldable pub storing : ℕ → Slot → ℕ → Window → Window
storing number s next w = record { next = next; slots = set w.slots (number % 8) s }

unfoldable pub answered_of : Window → ℕ → Window
answered_of w number = If is_outstanding w.slots number then storing number free w.next w else w

-- a window after an invocation, the answer, and the number that was taken; of a refusal the window as before, and 0
pub record Invoked : Type 0 where
  pub window : Window
  pub answer : ℕ
  pub number : ℕ

-- what the result of an invocation shows: "Answer 0 means the step was taken"; of a refusal the number is 0
abbrev pub invoked_shown : Window → Result ℕ Refusal → Invoked
invoked_shown w (Ok number) = record { window = w; answer = done; number = number }
invoked_shown w (Err refusal) = record { window = w; answer = number_of refusal; number = 0 }

abbrev pub denied : Window → ℕ → Invoked
denied w refusal = record { window = w; answer = refusal; number = 0 }

unfoldable pub invoked_of : Window → ℕ → List Item → Invoked
invoked_of w count items =
    If 65535 ≤? w.next then denied w numbers_used_up else
    If smallest_of w + window_size ≤? w.next then denied w window_full else
    record { window = storing w.next (record { number = w.next; count = count; items = items }) (w.next + 1) w; answer = done; number = w.next }
