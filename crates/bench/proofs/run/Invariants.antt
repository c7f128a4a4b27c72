-- `run` keeps the bytes at hand within the input.
-- Assumes nothing.
use Rattle.std.proofs.Common.{◌≡◌, ◌≤◌, length}
use Rattle.bench.proofs.run.Given as goal

abbrev pub invariant-loop : goal.invariant-loop
invariant-loop g l = (l.from ≤ l.end) × (l.end ≤ length l.input) × (length l.input ≡ length l.initial.input)
