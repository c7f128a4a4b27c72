-- `board::Board::place_of` meets its contract: of a Submit whose number is held the place is where it is found. Assumes nothing.
use borrow.Author.Rules.{rules}
use borrow.Author.Tests.{lt-ltb}
use Rattle.rules.specs.Lists.{If◌then◌else◌}
use Rattle.board.specs.Model.{place_of}
use Rattle.board.proofs.Laws.{position_found}
use Rattle.board.proofs.Board.place_of.Goals as goal

pub returns-then-from-of_client : goal.returns-then-from-of_client
unfolding place_of If◌then◌else◌
returns-then-from-of_client c =
    simp (c.in-Submit.is, ← c.of_client.ensures, lt-ltb _ _ (rw c.from.ensures at c.if-from-of_client.true), c.unwrap_or.ensures, c.from-then-from-of_client.ensures, c.min.ensures, c.find.ensures) (position_found _ _ _ (search rules))
