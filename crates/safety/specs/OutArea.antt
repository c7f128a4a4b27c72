-- How a transport takes frames out of an out area: it cuts it by the length fields, as many times as the step counted frames, and reads each
-- piece to know whom it is for.
-- Assumes nothing.
use Rattle.std.specs.Prelude.{List, [], ◌∷◌, ℕ, zero, suc, ◌+◌, take, drop}
use Rattle.std.proofs.Math.Option.{Option, none, some}
use Rattle.rules.specs.Frames.{Frame, two_at, decode}

-- so many pieces, each as long as its length field says
unfoldable pub cut : ℕ → List ℕ → List (List ℕ)
cut zero out = []
cut (suc count) out = let width = 2 + two_at out 0 in take width out ∷ cut count (drop width out)

-- those of some pieces that are frames
abbrev pub or_not : Option Frame → List Frame → List Frame
or_not none fs = fs
or_not (some f) fs = f ∷ fs

abbrev pub read : List (List ℕ) → List Frame
read [] = []
read (s ∷ ss) = or_not (decode s) (read ss)

-- the frames that stand in an out area: where a step of the rules wrote them, all of them (frames_in_lem, in proofs/OutArea)
unfoldable pub frames_in : ℕ → List ℕ → List Frame
frames_in count out = read (cut count out)
