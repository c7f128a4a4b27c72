-- The lines of a board's log.
-- Assumes nothing.
use Rattle.std.specs.Prelude.{List, [], ◌∷◌, ◌++◌, ℕ, ◌+◌, take}
use Rattle.rules.specs.Lists.{If◌then◌else◌, ◌≤?◌}
use Rattle.lines.specs.Text.{l_line}
use Rattle.entry.specs.declared.Entry.{Entry}
use Rattle.board.specs.declared.Board.{Board}

-- "An L line: board, log number, client, number, and PRE or EXE, .., rising", from a log number on
abbrev pub log_text : (board log_number : ℕ) → List Entry → List ℕ
log_text board log_number [] = []
log_text board log_number (e ∷ es) = l_line board log_number e.client e.number e.exe ++ log_text board (log_number + 1) es

-- of a whole log; 256 lines of less than 128 bytes find room in every area of 32,768
unfoldable pub log_lines : (board : ℕ) → Board → (room : ℕ) → List ℕ
log_lines board b room = If 32768 ≤? room then log_text board 0 (take b.len b.log) else []
