-- What holds at every moment: every start gives it and every step keeps it (proofs/: Kept, Numbers, Obeys, Shard, Session).
-- Assumes nothing.
use Rattle.std.specs.Prelude.{◌≡◌, not, List, [], ◌∷◌, map, ℕ, suc, pred, ◌+◌, ◌≤◌, ◌<◌, T, length}
use Rattle.std.proofs.Math.Option.{Option, some}
use Rattle.rules.specs.Lists.{If◌then◌else◌, ◌=?◌, at, is_empty, every, below, has}
use Rattle.rules.specs.Transactions.{Write, Read, shard_of, touches, placed, keep, get_places, value_of}
use Rattle.rules.specs.Frames.{ok_operations, ok_seen}
use Rattle.rules.specs.Queue.{Queue}
use Rattle.rules.specs.Board.{Entry, Board, is_exe, writes, next_number}
use Rattle.rules.specs.Shard.{Shard}
use Rattle.rules.specs.Session.{Outstanding, Window, Session, smallest}

-- "the log numbers touching" shard j, rising, the first entry's being q
abbrev pub numbers : ℕ → ℕ → ℕ → List Write → List ℕ
numbers m j q [] = []
numbers m j q (w ∷ ws) = If touches m j w.operations then q ∷ numbers m j (suc q) ws else numbers m j (suc q) ws

-- those "above the last taken one"
abbrev pub above : Option ℕ → List ℕ → List ℕ
above last [] = []
above last (x ∷ xs) = If below last x then x ∷ above last xs else above last xs

-- those that are not, which were taken; "So touching entries = taken + queued": touching_is, in proofs/Counts
abbrev pub up_to : Option ℕ → List ℕ → List ℕ
up_to last [] = []
up_to last (x ∷ xs) = If below last x then up_to last xs else x ∷ up_to last xs

-- "At every moment a shard's queue is exactly the log numbers touching it that are above the last taken one, rising".
-- Other than 004, Figure 1, item 2, which says: exactly the PRE entries. That is false when answers arrive out of order.
abbrev pub QueueRule : ℕ → ℕ → List Write → Queue → Type 0
QueueRule m j ws q = q.waiting ≡ above q.last_taken (numbers m j 0 ws)

-- of queues and remaining shards
pub record Kept (b : Board) : Type 0 where
  pub queues : (j : ℕ) → QueueRule b.m j (writes b.log) (b.queue j)
  -- the last taken number is in the log
  pub lasts : (j ind : ℕ) → (b.queue j).last_taken ≡ some ind → ind < length b.log
  -- an entry's remaining shards are among those that it touches
  pub remains : (ind : ℕ) (e : Entry) (j : ℕ) → at b.log ind ≡ some e → T (has j e.remaining) → T (touches b.m j e.write.operations)

-- numbers that rise, from low on
abbrev pub Ascending : ℕ → List ℕ → Type 0
Ascending low [] = Unit {0}
Ascending low (x ∷ xs) = (low ≤ x) × Ascending (suc x) xs

-- an entry obeys the rules of "Sizes", and has the reads of exactly the gets on shards that remain no more
pub record EntryKept (m : ℕ) (e : Entry) : Type 0 where
  pub client : e.write.client ≤ 15
  pub number : e.write.number ≤ 65534
  pub operations : T (ok_operations e.write.operations)
  pub places : map (λ (r : Read). r.place) e.reads ≡ get_places (keep (λ key. not (has (shard_of m key) e.remaining)) (placed 0 e.write.operations))
  pub values : T (every (λ r. ok_seen r.value) e.reads)
  -- "When none remains: EXE", and only then
  pub status : is_exe e.status ≡ is_empty e.remaining
  pub remaining : Ascending 0 e.remaining

-- of sizes: "a log holds at most 256 entries"
pub record SizesKept (b : Board) : Type 0 where
  pub setup : T b.started → (1 ≤ b.m) × (b.m ≤ 8)
  pub size : length b.log ≤ 256
  pub entries : (ind : ℕ) (e : Entry) → at b.log ind ≡ some e → EntryKept b.m e

-- a client's entries
abbrev pub of_client : ℕ → List Write → List Write
of_client c [] = []
of_client c (w ∷ ws) = If w.client =? c then w ∷ of_client c ws else of_client c ws

-- numbered one by one, from k on
abbrev pub Counted : ℕ → List Write → Type 0
Counted k [] = Unit {0}
Counted k (w ∷ ws) = (w.number ≡ k) × Counted (suc k) ws

-- of clients' numbers
pub record NumbersKept (b : Board) : Type 0 where
  -- the numbers of a client in the log are 0, 1, 2, .., high, in this order, each once
  pub counted : (c : ℕ) → Counted 0 (of_client c (writes b.log))
  -- the floor is at most high, or 0
  pub floors : (c : ℕ) → b.floor c ≤ pred (next_number c (writes b.log))

-- of a shard group; keys with values that obey the rules of "Sizes"
pub record ShardKept (s : Shard) : Type 0 where
  pub setup : T s.started → (1 ≤ s.own) × (s.own ≤ 8)
  pub values : (key : ℕ) → T (ok_seen (value_of (s.store key)))

-- numbers that rise, from low on and below next, each with operations that obey the rules
abbrev pub Rise : ℕ → List Outstanding → ℕ → Type 0
Rise low [] next = low ≤ next
Rise low (o ∷ os) next = (low ≤ o.number) × T (ok_operations o.operations) × Rise (suc o.number) os next

-- "A client's window: 8 numbers"; "A client's write numbers: 0..65,534"
pub record WindowKept (w : Window) : Type 0 where
  pub rise : Rise 0 w.outstanding w.next
  pub window : w.next ≤ smallest w + 8
  pub numbers : w.next ≤ 65535

pub record SessionKept (s : Session) : Type 0 where
  pub client : s.client ≤ 15
  pub window : WindowKept s.window
