-- What the program does with what it reads (crates/bench/src/main.rt), as a function from the pieces that it reads to the bytes that it writes. The
-- parts are the functions that the promises of `deliver`, `record_at`, `log_lines` and the lines cite; what of them stands in the areas is proofs/Areas.
-- No contract can say what is read or written, so that main.rt puts them together in this way is to be read there, line beside line.
-- Assumes nothing.
use Rattle.std.specs.Prelude.{List, [], ◌∷◌, ◌++◌, ℕ, zero, suc, ◌+◌, get_or, drop}
use Rattle.rules.specs.Lists.{If◌then◌else◌}
use Rattle.lines.specs.Text.{header_line, cut_line, setup_line}
use Rattle.records.specs.declared.Next.{Next}
use Rattle.records.specs.declared.Next.TheVariants.{Record, Need, Cut}
use Rattle.records.specs.Records.{usable_of, next_of}
use Rattle.delivery.specs.declared.Register.{Register}
use Rattle.delivery.specs.Register.{board_at_start, register_of}
use Rattle.delivery.specs.Delivery.{Run, delivered}
use Rattle.delivery.specs.Logs.{log_lines}

-- what one read gives: one byte at least; one that gives none is the end of the input
pub record Piece : Type 0 where
  pub first : ℕ
  pub others : List ℕ

abbrev pub bytes_of : List Piece → List ℕ
bytes_of [] = []
bytes_of (x ∷ xs) = x.first ∷ x.others ++ bytes_of xs

-- main: the text area
abbrev pub room : ℕ
room = 65536

-- put_logs: so many boards, from a place on
abbrev pub put_logs : Register → (place more : ℕ) → List ℕ
put_logs r place zero = []
put_logs r place (suc more) = log_lines (place + 1) (get_or r.boards place (board_at_start 0 0 0)) room ++ put_logs r (place + 1) more

-- run, at the end of the input: `cut`, unless no byte is kept
abbrev pub put_cut : (kept : List ℕ) → List ℕ
put_cut [] = []
put_cut (x ∷ kept) = cut_line

-- run, between two turns: the register, the next record's index, and the bytes read that are not delivered
pub record Between : Type 0 where
  pub register : Register
  pub index : ℕ
  pub bytes : List ℕ

-- run, the end of a turn, by what stands at the front of the bytes that are left; then the logs
unfoldable pub turn_end : Run → (left : List ℕ) → Next → (pieces : List Piece) → (Between → List Piece → List ℕ) → List ℕ
turn_end run left (Record address end) pieces more = more (record { register = run.register; index = run.index; bytes = left }) pieces
turn_end run left Need [] more = put_cut left ++ put_logs run.register 0 run.register.n
turn_end run left Need (x ∷ xs) more = more (record { register = run.register; index = run.index; bytes = left ++ x.first ∷ x.others }) xs
turn_end run left Cut pieces more = cut_line ++ put_logs run.register 0 run.register.n

-- run: at most so many turns
unfoldable pub turns_of : (most : ℕ) → Between → (pieces : List Piece) → List ℕ
turns_of zero b pieces = put_logs b.register 0 b.register.n
turns_of (suc most) b pieces =
    let run = delivered b.register b.index b.bytes room in
    let left = drop run.taken b.bytes in
    run.text ++ turn_end run left (next_of left) pieces (turns_of most)

-- main: the first two bytes that are there, then the pieces
unfoldable pub written : (head : List ℕ) (pieces : List Piece) → List ℕ
written [] pieces = setup_line
written (n ∷ []) pieces = setup_line
written (n ∷ m ∷ rest) pieces =
    If usable_of n m then header_line n m ++ turns_of 18446744073709551615 (record { register = register_of n m; index = 0; bytes = [] }) pieces else
    setup_line
