-- `up_to` meets its contract: it is up to where the number is first found.
-- Assumes nothing.
use Rattle.std.proofs.Common.{sym, ◌∙◌, length-take-le, rules}
use Rattle.queue.specs.Model.{waiting}
use Rattle.queue.proofs.Loops.{up_to_found, up_to_none}
use Rattle.queue.proofs.Queue.up_to.Goals as goal

pub returns-in-Some-clause-value : goal.returns-in-Some-clause-value
returns-in-Some-clause-value c = up_to_found c.args.log_number (waiting c.args.self.now) _ (sym c.in-Some.ensures)

pub returns-in-None-clause-value : goal.returns-in-None-clause-value
returns-in-None-clause-value c = let q = c.args.self.now in sym (length-take-le q.len q.numbers (search rules)) ∙ up_to_none c.args.log_number (waiting q) (sym c.in-None.ensures)
