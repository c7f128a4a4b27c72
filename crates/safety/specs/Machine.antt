-- The permissive machine: what demand 3 rests on in the steps of a board and of a shard group, without capacity, floors, acks, windows,
-- queues and the order of refusals; a frame may always simply not be taken. Each step of the rules is one of its steps (proofs/Local), and
-- all of its steps keep what demand 3 needs (proofs/Boards, proofs/Shards).
-- Assumes nothing.
use Rattle.std.specs.Prelude.{◌≡◌, List, [], ◌∷◌, ℕ, suc, ◌≤◌, ◌<◌, T, length, set}
use Rattle.std.proofs.Math.Option.{some}
use Rattle.rules.specs.Lists.{at, snoc, has, strike}
use Rattle.rules.specs.Transactions.{Write, Placed, Read, on_shard, reads_of}
use Rattle.rules.specs.Frames.{Frame, submit, forward, shard_append, exec_notif, executed, response}
use Rattle.rules.specs.Board.{Status, Entry, is_exe, writes, next_number, touching, new_entry, add_reads, finished}
use Rattle.rules.specs.Shard.{Shard, run}

-- a fact of every member of a list
abbrev pub All : {A : Type 0} → (A → Type 0) → List A → Type 0
All P [] = Unit {0}
All P (x ∷ xs) = P x × All P xs

-- ---- A board

-- a frame that board i of n sends, by its own log as it then stands: what it holds goes on to the next board, or from the tail to the
-- shards that remain; what is EXE goes back to the board before, or from the head to the client
pub data Sends (n m i : ℕ) (log : List Entry) : Frame → Type 0 where
  sends_forward : (ind ack : ℕ) (e : Entry) → i < n → at log ind ≡ some e → Sends n m i log (forward ind e.write ack)
  sends_append : (j ind sn : ℕ) (e : Entry) → n ≤ i → at log ind ≡ some e → T (has j e.remaining)
      → sn ≡ touching m j (writes log) (suc ind)
      → Sends n m i log (shard_append j ind sn (on_shard m j e.write.operations))
  sends_executed : (ind : ℕ) (e : Entry) → 2 ≤ i → at log ind ≡ some e → T (is_exe e.status) → Sends n m i log (executed ind e.reads)
  sends_response : (ind : ℕ) (e : Entry) → i ≡ 1 → at log ind ≡ some e → T (is_exe e.status)
      → Sends n m i log (response e.write.client e.write.number e.reads)

-- where a new write comes from: the head takes a client's next number, the others what the board before has next
pub data From (i : ℕ) (log : List Entry) (w : Write) : Frame → Type 0 where
  from_client : (ack : ℕ) → i ≡ 1
      → w.number ≡ next_number w.client (writes log)
      → From i log w (submit w ack)
  from_board : (ind ack : ℕ) → 2 ≤ i
      → ind ≡ length log
      → From i log w (forward ind w ack)

-- how the entry at ind changes: one more shard has answered, and it is EXE only if none remains; or all have
pub data Remark (old : Entry) (ind : ℕ) : Frame → Entry → Type 0 where
  by_notif : (j : ℕ) (rs : List Read) (status : Status) → T (has j old.remaining)
      → (T (is_exe status) → length (strike j old.remaining) ≡ 0)
      → Remark old ind (exec_notif j ind rs) (record { write = old.write; status = status; reads = add_reads rs old.reads; remaining = strike j old.remaining })
  by_executed : (rs : List Read) → Remark old ind (executed ind rs) (finished rs old)

-- board i's step: its log before, the frame that arrives, its log after, the frames sent
pub data Moved (n m i : ℕ) (log : List Entry) (f : Frame) : List Entry → List Frame → Type 0 where
  same : (fs : List Frame) → All (Sends n m i log) fs → Moved n m i log f log fs
  grown : (w : Write) (fs : List Frame) → From i log w f → All (Sends n m i (snoc log (new_entry m w))) fs
      → Moved n m i log f (snoc log (new_entry m w)) fs
  marked : (ind : ℕ) (e d : Entry) (fs : List Frame) → at log ind ≡ some e → Remark e ind f d → All (Sends n m i (set log ind d)) fs
      → Moved n m i log f (set log ind d) fs

-- ---- A shard group

-- shard group j's step: the next job, by its sn, is run and answered
pub data Ran (j : ℕ) (s : Shard) : Frame → Shard → List Frame → Type 0 where
  stayed : (f : Frame) → Ran j s f s []
  went : (ind sn : ℕ) (xs : List Placed)
      → sn ≡ suc s.ssn
      → Ran j s (shard_append j ind sn xs) (run ind sn xs s) (exec_notif j ind (reads_of ind s.store xs) ∷ [])
