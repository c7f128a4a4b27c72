-- Records delivered one after the other, and their lines.
-- Assumes nothing.
use Rattle.std.specs.Prelude.{Bool, ◌||◌, List, [], ◌++◌, ℕ, zero, suc, ◌+◌, ◌-◌, length, take, drop}
use Rattle.rules.specs.Lists.{If◌then◌else◌, ◌<?◌, ◌≤?◌}
use Rattle.lines.specs.Text.{d_line}
use Rattle.delivery.specs.declared.Register.{Register}
use Rattle.delivery.specs.declared.Delivered.{Delivered as Counts}
use Rattle.records.specs.declared.Next.{Next}
use Rattle.records.specs.declared.Next.TheVariants.{Record, Need, Cut}
use Rattle.records.specs.Records.{next_of}
use Rattle.delivery.specs.Register.{Turn, turn_of}

-- how far a run has come: the register, the next record's index, the bytes of the input that were taken, the lines
pub record Run : Type 0 where
  pub register : Register
  pub index : ℕ
  pub taken : ℕ
  pub text : List ℕ

-- a record's frame lies behind its address
abbrev pub frame_at : List ℕ → (taken end : ℕ) → List ℕ
frame_at input taken end = take (taken + end - (taken + 1)) (drop (taken + 1) input)

-- after a turn: "A d line: record index, answer, frames sent."
abbrev pub after : Run → (end : ℕ) → Turn → Run
after run end t =
    record { register = t.register; index = run.index + 1; taken = run.taken + end; text = run.text ++ d_line run.index t.answer t.frames }

-- the run after the record that stands next, if there is one
unfoldable pub onward : (input : List ℕ) → Run → Next → (Run → Run) → Run
onward input run (Record address end) more = more (after run end (turn_of run.register address (frame_at input run.taken end)))
onward input run Need more = run
onward input run Cut more = run

-- no room for one more line, or no index left
abbrev pub full : (room : ℕ) → Run → Bool
full room run = 18446744073709551615 ≤? run.index || room - length run.text <? 128

-- at most so many records
unfoldable pub runs : (most : ℕ) (input : List ℕ) (room : ℕ) → Run → Run
runs zero input room run = run
runs (suc most) input room run = If full room run then run else onward input run (next_of (drop run.taken input)) (runs most input room)

abbrev pub begun : Register → (first : ℕ) → Run
begun r first = record { register = r; index = first; taken = 0; text = [] }

-- a record has 3 bytes or more, so there are fewer of them than bytes
abbrev pub delivered : Register → (first : ℕ) (input : List ℕ) (room : ℕ) → Run
delivered r first input room = runs (length input) input room (begun r first)

-- the text from the first byte of an area on, the other bytes as they were
abbrev pub standing : (text area : List ℕ) → List ℕ
standing text area = text ++ drop (length text) area

-- what a run comes to: the register after it, and the numbers
pub record Delivered : Type 0 where
  pub register : Register
  pub index : ℕ
  pub taken : ℕ
  pub written : ℕ

abbrev pub delivered_of : Run → Delivered
delivered_of run = record { register = run.register; index = run.index; taken = run.taken; written = length run.text }

-- what a delivery's result shows, beside the register that it left
abbrev pub shown : Register → Counts → Delivered
shown r d = record { register = r; index = d.index; taken = d.taken; written = d.written }
