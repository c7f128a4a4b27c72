-- "A refused start hands back an empty state marked as not started", and is refused exactly where the setup is out of range.
-- Assumes nothing.
use mathlib.Core.Path.{◌≡◌}
use mathlib.Core.Bool.{◌&&◌, not, false}
use Prim.Native.Nat.{ℕ}
use lib.Dec.{T}
use Rattle.rules.specs.Lists.{within}
use Rattle.rules.specs.Answers.{not_usable}
use Rattle.rules.specs.Outcomes.{refuse}
use Rattle.rules.specs.Frames.{ok_client}
use Rattle.rules.specs.Board as B
use Rattle.rules.specs.Shard as S
use Rattle.rules.specs.Session as C
use Rattle.rules.proofs.Lists.{if_no}

pub refused_board : (n m own : ℕ) → T (not (within 2 8 n && within 1 8 m && within 1 n own)) → B.start n m own ≡ refuse not_usable (B.empty_board false 0 0 0)
unfolding B.start
refused_board n m own t = if_no (within 2 8 n && within 1 8 m && within 1 n own) _ _ t

pub refused_shard : (m own : ℕ) → T (not (within 1 8 m && within 1 m own)) → S.start m own ≡ refuse not_usable (S.empty_shard false 0 0)
unfolding S.start
refused_shard m own t = if_no (within 1 8 m && within 1 m own) _ _ t

pub refused_session : (client : ℕ) → T (not (ok_client client)) → C.start client ≡ refuse not_usable (record { started = false; client = 0; window = C.empty_window })
unfolding C.start
refused_session client t = if_no (ok_client client) _ _ t
