-- DEMAND 3 OF THE CODE. Start a fixed chain of the code's boards, its shard groups and a session for each client, and let them take any steps:
-- each start and step is the function that the promise of the code's own `start`, `step`, `invoke`, `retry` or `response` equates its result and its
-- out area with (specs/Code). Frames are read off the out areas, as many as the step counted; a frame has one spelling (`decode_spells` of crate
-- rules), so what travels is the bytes that were written. They arrive in any order, late, many times or never. Then at every moment what the
-- boards, groups and sessions mean is safe, word for word as crate safety claims it of the rules (specs/World: what a run is; specs/Claim: what
-- is safe); and so holds what is known further (specs/Further).
-- Assumes nothing.
use mathlib.Core.List.{List}
use Prim.Native.Nat.{ℕ}
use Rattle.safety.specs.World.{Choice, run}
use Rattle.safety.specs.Claim.{Safe}
use Rattle.safety.specs.Further.{Further}
use Rattle.safety.specs.Coded.{agents, meaning}
use Rattle.safety.proofs.Coded.{safe_code}
use Rattle.safety.proofs.Further as F
use Rattle.coded.specs.Code.{code, means}
use Rattle.coded.proofs.Keeps.{keeps}

-- DEMAND 3
pub safe : (n m : ℕ) (choices : List (Choice (agents code))) → Safe n m (means (run (agents code) n m choices))
unfolding meaning keeps
safe = safe_code code keeps

pub further : (n m : ℕ) (choices : List (Choice (agents code))) → Further n m (means (run (agents code) n m choices))
unfolding meaning keeps
further = F.further_code code keeps
