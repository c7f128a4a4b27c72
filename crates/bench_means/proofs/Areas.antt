-- What the program writes out of its text area, and what it keeps in its input area, are the texts and bytes of specs/Program: the first bytes of the
-- areas that the promises of `deliver`, `log_lines`, the lines and `to_front` describe.
-- Assumes nothing.
use mathlib.Core.List.{List}
use mathlib.Core.Path.{◌≡◌}
use Prim.Native.Nat.{ℕ, ◌-◌, ◌≤◌}
use native.Mathlib.Omega.{arith}
use lib.ListN.{length, take, drop, length-drop}
use lib.Seq.{take-append_seam, length-take-le, take_at}
use borrow.Author.Tests.{le-leb}
use Rattle.rules.specs.Lists.{If◌then◌else◌}
use Rattle.lines.specs.Area.{laid, taken}
use Rattle.records.specs.Front.{part_length, front_of}
use Rattle.frames.specs.View.{Bytes}
use Rattle.delivery.specs.declared.Register.{Register}
use Rattle.delivery.specs.Delivery.{Delivered, standing, delivered, delivered_of}
use Rattle.bench_means.specs.Transcript.{Park}
use Rattle.bench_means.specs.View.{Means, Done}
use Rattle.bench_means.proofs.Deliveries.{delivered_means}

-- a text that stands in an area, of `deliver` or `log_lines`
pub put_text : (text area : List ℕ) → take (length text) (standing text area) ≡ text
put_text text area = take-append_seam text (drop (length text) area)

-- a line that was laid in an area of 128 bytes or more: the header, `cut`, `setup 11`
pub put_line : (line area : List ℕ) → 128 ≤ length area → take (taken line area) (laid line area) ≡ line
put_line line area wide = rw (le-leb 128 (length area) wide) (take-append_seam line (drop (length line) area))

-- the bytes that are kept, moved to the front of the input area
pub kept_bytes : (from end : ℕ) (area : List ℕ) → from ≤ end → end ≤ length area
    → take (part_length from end (length area)) (front_of from end area) ≡ take (end - from) (drop from area)
unfolding part_length front_of If◌then◌else◌
kept_bytes from end area low high =
    rw (le-leb from end low, le-leb end (length area) high)
    (take_at (take (end - from) (drop from area)) (drop (end - from) area) (end - from)
    (length-take-le (end - from) (drop from area) (rw (length-drop from area) (omega arith))))

-- so every outcome that the promise of `deliver` admits means what the rules say of the records that it did
pub deliver_means : (r : Register) (p : Park) (first : ℕ) (input area : List ℕ) (d : Delivered) (out : List ℕ) → Means r p → Bytes input
    → d ≡ delivered_of (delivered r first input (length area)) → out ≡ standing (delivered r first input (length area)).text area
    → Done r p first input (record { register = d.register; index = d.index; taken = d.taken; text = take d.written out })
deliver_means r p first input area d out h bytes result left =
    rw (result, left, put_text (delivered r first input (length area)).text area) (delivered_means r p first input (length area) h bytes)
