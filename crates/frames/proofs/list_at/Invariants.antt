use Rattle.std.proofs.Common.{◌≡◌, ◌+◌}
use Rattle.frames.specs.Frames.{slots}
use Rattle.frames.proofs.list_at.Given as goal

-- the slots below i are read
abbrev pub invariant-loop-i : goal.invariant-loop-i
invariant-loop-i l = l.items ≡ slots l.shape 0 4 l.i l.s (l.at + 1)
