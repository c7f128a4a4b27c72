-- What is known at every moment of a run: of the logs, of each entry, of each shard group, of each frame in flight and of each reply. Facts about
-- results speak of the tail's log, which every other log begins with and which only grows.
-- Assumes nothing.
use mathlib.Core.Path.{◌≡◌}
use mathlib.Core.Bool.{Bool, not}
use mathlib.Core.List.{List, []}
use mathlib.Core.Option.{Option, none, some}
use Prim.Native.Nat.{ℕ, suc, ◌≤◌, ◌<◌}
use lib.Dec.{T}
use Rattle.rules.specs.Lists.{at, has}
use Rattle.rules.specs.Transactions.{Operation, Write, Placed, Read, store_after_log, shard_of, placed, keep, on_shard, touched, touches, gather}
use Rattle.rules.specs.Frames.{Frame, submit, forward, shard_append, exec_notif, executed, response}
use Rattle.rules.specs.Board.{Entry, PRE, is_exe, writes, touching}
use Rattle.rules.specs.Shard.{Shard}
use Rattle.rules.specs.Kept.{of_client}
use Rattle.safety.specs.World.{Address, board, shard, client, Packet, ReplyTaken}
use Rattle.safety.specs.Claim.{invocations, through, Touching, ReplyRight}
use Rattle.safety.specs.Machine.{All}
use Rattle.safety.proofs.Lists.{Under}
use Rattle.safety.proofs.Running.{AgreeOn, own, seen}
use Rattle.safety.proofs.Flight.{Flies}

-- the boards' logs, and the clients' histories
abbrev pub Logs : Type 0
Logs = ℕ → List Write

abbrev pub Past : Type 0
Past = ℕ → List (List Operation)

-- what running a log gives for each place of the write at ind
abbrev pub sees : List Write → ℕ → Write → ℕ → Option ℕ
sees G ind w = seen ind (store_after_log G ind) (placed 0 w.operations)

-- ---- Frames in flight

pub data RightTo (n m : ℕ) (L : Logs) (H : Past) : Address → Frame → Type 0 where
  -- a Submit is one of its client's invocations
  asked : (ack : ℕ) (w : Write) → at (H w.client) w.number ≡ some w.operations → RightTo n m L H (board 1) (submit w ack)
  -- a Forward is what the board before has there
  logged : (i ind ack : ℕ) (w : Write) → 1 ≤ i → suc i ≤ n → at (L i) ind ≡ some w → RightTo n m L H (board (suc i)) (forward ind w ack)
  -- a ShardAppend is the shard's part of the tail's entry, under its count
  job : (j ind sn : ℕ) (xs : List Placed) (w : Write) → at (L n) ind ≡ some w → T (touches m j w.operations) → sn ≡ suc (touching m j (L n) ind)
      → xs ≡ on_shard m j w.operations → RightTo n m L H (shard j) (shard_append j ind sn xs)
  -- an ExecNotif has what running the log gives on that shard
  heard : (i j ind : ℕ) (rs : List Read) (w : Write) → i ≡ n → at (L n) ind ≡ some w → T (touches m j w.operations)
      → rs ≡ gather (on_shard m j w.operations) (sees (L n) ind w) → RightTo n m L H (board i) (exec_notif j ind rs)
  -- an Executed and a Response have all that running the log gives
  ended : (i ind : ℕ) (rs : List Read) (w : Write) → 1 ≤ i → i < n → at (L n) ind ≡ some w
      → rs ≡ gather (placed 0 w.operations) (sees (L n) ind w) → RightTo n m L H (board i) (executed ind rs)
  told : (c k ind : ℕ) (rs : List Read) (w : Write) → at (L n) ind ≡ some w → w.client ≡ c → w.number ≡ k
      → rs ≡ gather (placed 0 w.operations) (sees (L n) ind w) → RightTo n m L H (client c) (response c k rs)

-- ---- Entries

-- the keys of the shards that remain no more
abbrev pub heard_of : ℕ → List ℕ → ℕ → Bool
heard_of m remaining key = not (has (shard_of m key) remaining)

-- an entry that the tail has too: its reads are what running the log gives on the shards heard from
pub record Busy (m : ℕ) (G : List Write) (ind : ℕ) (e : Entry) : Type 0 where
  pub stands : at G ind ≡ some e.write
  pub sub : (j : ℕ) → T (has j e.remaining) → T (touches m j e.write.operations)
  pub right : e.reads ≡ gather (keep (heard_of m e.remaining) (placed 0 e.write.operations)) (sees G ind e.write)
  pub done : T (is_exe e.status) → e.remaining ≡ []

-- new and not heard of since, or such an entry
pub data Sound (m : ℕ) (G : List Write) (ind : ℕ) (e : Entry) : Type 0 where
  idle : e.remaining ≡ touched m e.write.operations → e.status ≡ PRE → e.reads ≡ [] → Sound m G ind e
  busy : Busy m G ind e → Sound m G ind e

-- ---- Shard groups

pub record ShardRight (m : ℕ) (G : List Write) (j : ℕ) (s : Shard) : Type 0 where
  pub ran : (ind : ℕ) → s.last_run ≡ some ind → Touching m j G ind
  pub counted : s.ssn ≡ touching m j G (through s.last_run)
  pub own_keys : AgreeOn (own m j) s.store (store_after_log G (through s.last_run))
  pub other_keys : (k : ℕ) → T (not (own m j k)) → s.store k ≡ none

-- ---- All together

pub record Core (n m : ℕ) (L : Logs) (H : Past) (shards : ℕ → Shard) (replies : List ReplyTaken) (sent : List Packet) : Type 0 where
  pub chain : (i : ℕ) → 1 ≤ i → Under (L (suc i)) (L i)
  pub firsts : (c : ℕ) → Under (of_client c (L 1)) (invocations c 0 (H c))
  pub groups : (j : ℕ) → ShardRight m (L n) j (shards j)
  pub flight : All (Flies (RightTo n m L H)) sent
  pub answers : All (ReplyRight (L n)) replies

abbrev pub logs_of : (ℕ → List Entry) → Logs
logs_of E = λ i. writes (E i)

abbrev pub Marks : ℕ → ℕ → (ℕ → List Entry) → Type 0
Marks n m E = (i ind : ℕ) (e : Entry) → 1 ≤ i → at (E i) ind ≡ some e → Sound m (writes (E n)) ind e

pub record Good (n m : ℕ) (E : ℕ → List Entry) (H : Past) (shards : ℕ → Shard) (replies : List ReplyTaken) (sent : List Packet) : Type 0 where
  pub core : Core n m (logs_of E) H shards replies sent
  pub marks : Marks n m E
