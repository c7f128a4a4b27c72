-- The register as it starts means the fresh park.
-- Assumes nothing.
use mathlib.Core.Path.{◌≡◌, refl, ap, ◌∙◌}
use mathlib.Core.List.{List, [], ◌∷◌}
use Prim.Native.Nat.{ℕ, zero, suc, ◌+◌, ◌<◌}
use native.Mathlib.Omega.{arith}
use lib.Dec.{T, leb→le}
use lib.ListN.{get_or}
use Rattle.rules.specs.Lists.{◌≤?◌, within}
use Rattle.rules.specs.Board as B
use Rattle.rules.specs.Shard as S
use Rattle.rules.proofs.Lists.{and_l, and_r}
use Rattle.board_means.proofs.Means as BP
use Rattle.shard.specs.Model as SM
use Rattle.shard.proofs.Promises as SP
use Rattle.records.specs.Records.{usable_of}
use Rattle.delivery.specs.Register.{board_at_start, shard_at_start, boards_of, shards_of, register_of}
use Rattle.bench_means.specs.Transcript.{fresh}
use Rattle.bench_means.specs.View.{BoardMeans, ShardMeans, Means}

board_starts_lem : (n m own : ℕ) → BoardMeans (board_at_start n m own) (B.start n m own).state
board_starts_lem n m own = let x = BP.start_means n m own in record { held = x.held; view = x.state }

shard_starts_lem : (m own : ℕ) → ShardMeans (shard_at_start m own) (S.start m own).state
shard_starts_lem m own = let x = SP.start_means m own (SM.start_of m own) refl in record { held = x.held; view = x.state }

-- what is numbered on from some number, in a row
abbrev row : {A : Type 0} → (ℕ → A) → (from count : ℕ) → List A
row f from zero = []
row f from (suc count) = f from ∷ row f (suc from) count

in_row : {A : Type 0} (f : ℕ → A) (blank : A) (count from place : ℕ) → place < count → get_or (row f from count) place blank ≡ f (place + from)
in_row f blank zero from place l = absurd (omega arith)
in_row f blank (suc count) from zero l = let e : from ≡ 0 + from = omega arith in ap f e
in_row f blank (suc count) from (suc place) l =
    let e : place + suc from ≡ suc place + from = omega arith in
    in_row f blank count (suc from) place (omega arith) ∙ ap f e

pub start_means : (n m : ℕ) → T (usable_of n m) → Means (register_of n m) (fresh n m)
unfolding fresh boards_of shards_of
start_means n m t =
    record {
      n = refl;
      m = refl;
      few = leb→le n 8 (and_r (2 ≤? n) (n ≤? 8) (and_l (within 2 8 n) (within 1 8 m) t));
      boards = record { eight = refl; each = λ place l. rw (in_row (board_at_start n m) (board_at_start 0 0 0) 8 1 place l) (board_starts_lem n m (place + 1)) };
      shards = record { eight = refl; each = λ place l. rw (in_row (shard_at_start m) (shard_at_start 0 0) 8 1 place l) (shard_starts_lem m (place + 1)) };
    }
