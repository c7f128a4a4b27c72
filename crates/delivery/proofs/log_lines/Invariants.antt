-- Before each turn `log_lines` has laid the lines of the entries that it passed.
-- Assumes nothing.
use Rattle.delivery.proofs.Logs.{Logged}
use Rattle.delivery.proofs.log_lines.Given as goal

abbrev pub invariant-loop-i : goal.invariant-loop-i
invariant-loop-i l = Logged l.board l.entries l.initial.text l.i l.text l.written
