use Rattle.std.proofs.Common.{◌∷◌, take}
use Rattle.frames.specs.Frames.{items_bytes, Writes}
use Rattle.frames.proofs.Writer.list.Given as goal

-- the count and the items so far are written
abbrev pub invariant-loop-x : goal.invariant-loop-x
invariant-loop-x l = Writes l.fn.self l.self (l.list.count ∷ items_bytes l.shape (take l.x-index l.list.items))
