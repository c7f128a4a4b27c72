-- The story of 3 boards and 2 shard groups (Trace of crate safety) run by the code's own, computed from the functions that its promises cite: at the
-- three moments it is seen what the rules' run shows, the frames read off the out areas. So nothing claimed of the code's runs is empty.
-- Assumes nothing.
use mathlib.Core.Path.{◌≡◌, refl}
use mathlib.Core.List.{List, [], ◌∷◌}
use Prim.Native.Nat.{ℕ, ◌<◌}
use native.Mathlib.Omega.{arith}
use lib.ListN.{take}
use Rattle.session.specs.declared.Asked.{Asked}
use Rattle.session.specs.Model.{no_asked}
use Rattle.safety.specs.World.{Choice, run}
use Rattle.safety.specs.Coded.{agents}
use Rattle.safety.proofs.Trace.{story, seen_in, at_first, at_second, at_third}
use Rattle.coded.specs.Code.{Request, code, means}
use Rattle.coded.specs.Computing.{computing}

-- ---- What is handed over

abbrev asked : ℕ → ℕ → ℕ → Asked
asked code key value = record { code = code; key = key; value = value }

abbrev Small : Asked → Type 0
Small a = (a.key < 256) × (a.value < 4294967296)

-- the first count of two operations
asking : ℕ → (a b : Asked) → Small a → Small b → Request
asking count a b x y =
    let zero : Small no_asked = (omega arith, omega arith) in
    record {
      operations = record { count = count; items = a ∷ b ∷ no_asked ∷ no_asked ∷ [] };
      sized = record { four = refl; each = (x.0, x.1, (y.0, y.1, (zero.0, zero.1, (zero.0, zero.1, tt)))) };
    }

put_and_get : Request
put_and_get = asking 2 (asked 1 5 7) (asked 0 4 0) (omega arith, omega arith) (omega arith, omega arith)

-- behind the list's end lies what is not looked at
get_alone : Request
get_alone = asking 1 (asked 0 5 0) (asked 1 5 9) (omega arith, omega arith) (omega arith, omega arith)

-- a get with a value breaks a rule
wrong : Request
wrong = asking 1 (asked 0 5 1) no_asked (omega arith, omega arith) (omega arith, omega arith)

put_both : Request
put_both = asking 2 (asked 1 4 1) (asked 1 5 2) (omega arith, omega arith) (omega arith, omega arith)

-- ---- Run by the code

abbrev by_code : List (Choice (agents code))
by_code = story (agents code) put_and_get get_alone wrong put_both

-- all that computes
running : Unit {0}
unfolding seen_in computing asking put_and_get get_alone wrong put_both story
running = tt

moment1 : seen_in (means (run (agents code) 3 2 (take 12 by_code))) ≡ at_first
unfolding running
moment1 = refl

moment2 : seen_in (means (run (agents code) 3 2 (take 24 by_code))) ≡ at_second
unfolding running
moment2 = refl

moment3 : seen_in (means (run (agents code) 3 2 by_code)) ≡ at_third
unfolding running
moment3 = refl
