-- Demand 3, stated. Beside this file a reviewer needs World, which says what a run is:
--   "Start a fixed chain, its shard groups and one session per client fresh": `start`, for any n and m. Boards 1..n, shard groups 1..m and the
--   sessions of clients 0..15 are started. The rules refuse any other start, and every one where n is not 2..8 or m not 1..8.
--   "and let them take 2's steps": `next`, over the agents `rules`, whose starts and steps are those of crate rules.
--   "Frames arrive unaltered, only where they were sent, in any order, late, many times or never, and none that wasn't sent in this run": the
--   choice `deliver`, which names any one of the frames sent so far, and takes none away.
--   "Then at every moment": the moments of a run are the ends of its beginnings, and these are runs.
-- Assumes nothing.
use Rattle.std.specs.Prelude.{◌≡◌, List, [], ◌∷◌, ◌++◌, ℕ, suc, ◌≤◌, ◌<◌, T}
use Rattle.std.proofs.Math.Option.{Option, none, some}
use Rattle.rules.specs.Lists.{If◌then◌else◌, ◌=?◌, at}
use Rattle.rules.specs.Transactions.{Operation, Write, Store, shard_of, touches, store_after_log, reads_in_log}
use Rattle.rules.specs.Board.{writes}
use Rattle.rules.specs.Kept.{of_client}
use Rattle.safety.specs.World.{World, rules, ReplyTaken, Choice, run}

-- ---- The words of the claim

-- the log of board i: "clients, numbers, operations"
abbrev pub log_of : World rules → ℕ → List Write
log_of w i = writes (w.boards i).log

-- the first list begins the second
pub record Prefix (s t : List Write) : Type 0 where
  pub rest : List Write
  pub whole : s ++ rest ≡ t

-- the entries of client c, in order, are `of_client c` (rules, Kept); its invocations as entries, numbered from k on:
abbrev pub invocations : ℕ → ℕ → List (List Operation) → List Write
invocations c k [] = []
invocations c k (os ∷ rest) = record { client = c; number = k; operations = os } ∷ invocations c (suc k) rest

-- how many entries there are through the last one that a shard ran
abbrev pub through : Option ℕ → ℕ
through none = 0
through (some ind) = suc ind

-- the keys of shard j in a store of all keys; no other key is present
abbrev pub keys_of : ℕ → ℕ → Store → Store
keys_of m j store = λ key. If shard_of m key =? j then store key else none

-- the entry at ind stands in the log and touches shard j
pub record Touching (m j : ℕ) (log : List Write) (ind : ℕ) : Type 0 where
  pub write : Write
  pub stands : at log ind ≡ some write
  pub touching : T (touches m j write.operations)

-- a reply has the reads that running the log one transaction at a time gives for that client's number
pub record ReplyRight (log : List Write) (r : ReplyTaken) : Type 0 where
  pub ind : ℕ
  pub write : Write
  pub stands : at log ind ≡ some write
  pub client : write.client ≡ r.client
  pub number : write.number ≡ r.number
  pub reads : r.reads ≡ reads_in_log log ind write

-- ---- The claim

pub record Safe (n m : ℕ) (w : World rules) : Type 0 where
  -- "each board's log (clients, numbers, operations) is a prefix of its predecessor's"
  pub prefixes : (i : ℕ) → 1 ≤ i → i < n → Prefix (log_of w (suc i)) (log_of w i)
  -- "each client's entries in the first log are its first invocations, in order, each once": numbered 0, 1, 2, ..
  pub numbered : (c : ℕ) → Prefix (of_client c (log_of w 1)) (invocations c 0 (w.invoked c))
  -- "the last entry it ran" stands in the first log, and touches the shard
  pub ran : (j ind : ℕ) → (w.shards j).last_run ≡ some ind → Touching m j (log_of w 1) ind
  -- "each shard's keys .. are what running the first log one transaction at a time gives, .. through the last entry it ran": the values, and the
  -- log numbers that put them; keys of other shards are absent
  pub keys : (j key : ℕ) → (w.shards j).store key ≡ keys_of m j (store_after_log (log_of w 1) (through (w.shards j).last_run)) key
  -- "and each reply a client takes, .. what running the first log one transaction at a time gives"
  pub replies : (which : ℕ) (r : ReplyTaken) → at w.replies which ≡ some r → ReplyRight (log_of w 1) r

-- DEMAND 3, of every moment of every run; proved in proofs/Safety
abbrev pub Demand3 : Type 0
Demand3 = (n m : ℕ) (choices : List (Choice rules)) → Safe n m (run rules n m choices)
