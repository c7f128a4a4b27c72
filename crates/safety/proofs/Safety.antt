-- DEMAND 3: every moment of every run of the rules' own steps, over bytes, is safe. What is known holds at the start and lasts, and what is known is
-- safe: what holds of the tail's log holds of the first, which begins with it.
-- Assumes nothing.
use mathlib.Core.Path.{◌≡◌, refl, ap, ◌∙◌, fun_ext}
use mathlib.Core.Bool.{Bool, true, false, ◌&&◌}
use mathlib.Core.List.{List, []}
use mathlib.Core.Option.{Option}
use Prim.Native.Nat.{ℕ, zero, suc}
use native.Mathlib.Omega.{arith}
use lib.Dec.{leb, leb→le}
use Rattle.rules.specs.Lists.{within}
use Rattle.rules.specs.Transactions.{Cell, Store, store_after_log}
use Rattle.rules.specs.Outcomes.{Outcome, taken, refuse}
use Rattle.rules.specs.Board as B
use Rattle.rules.specs.Shard as S
use Rattle.rules.specs.Session as C
use Rattle.rules.specs.Kept.{of_client, Kept, SizesKept, ShardKept, SessionKept}
use Rattle.rules.proofs.Lists.{by, and_l, and_r, nothing}
use Rattle.rules.proofs.Obeys as O
use Rattle.rules.proofs.Kept as KP
use Rattle.rules.proofs.Shard as SP
use Rattle.rules.proofs.Session as CP
use Rattle.safety.specs.World.{World, rules, Choice, start, run}
use Rattle.safety.specs.Claim.{invocations, through, keys_of, ReplyRight, log_of, Safe, Demand3}
use Rattle.safety.proofs.Lists.{Under, under_prefix, all_at}
use Rattle.safety.proofs.Running.{own, store_stable}
use Rattle.safety.proofs.Invariant.{ShardRight, logs_of}
use Rattle.safety.proofs.Growth.{touching_grows, through_within, reply_grows, further_up}
use Rattle.safety.proofs.Happens.{always}
use Rattle.safety.proofs.Known.{Setup, BoardKnown, ShardKnown, SessionKnown, entries_of, Known}
use Rattle.safety.proofs.Lasts.{known_lasts}

-- ---- The start

board_starts_lem : (n m i : ℕ) → BoardKnown n m i (B.start n m i).state
unfolding B.start taken refuse B.empty_board
board_starts_lem n m i =
    by (λ (o : Outcome B.Board). Kept o.state → SizesKept o.state → BoardKnown n m i o.state) _
    (λ t q z. let u = and_r (within 2 8 n && within 1 8 m) (within 1 n i) t in
    let on : Setup n m i (B.empty_board true n m i) =
    record { n_is = refl; m_is = refl; own_is = refl; low = leb→le 1 i (and_l (leb 1 i) (leb i n) u); high = leb→le i n (and_r (leb 1 i) (leb i n) u) } in
    record { on = λ _. on; off = λ v. refl; queues = q; sizes = z })
    (λ t q z. record { on = λ v. absurd v; off = λ v. refl; queues = q; sizes = z }) (KP.start_kept n m i) (O.start_good n m i)

board_empty : (n m i : ℕ) → (B.start n m i).state.log ≡ []
unfolding B.start taken refuse B.empty_board
board_empty n m i = by (λ (o : Outcome B.Board). o.state.log ≡ []) _ (λ t. refl) (λ t. refl)

shard_starts_lem : (m j : ℕ) → ShardKnown m j (S.start m j).state
unfolding S.start taken refuse S.empty_shard
shard_starts_lem m j =
    by (λ (o : Outcome S.Shard). ShardKept o.state → ShardKnown m j o.state) _ (λ t z. record { own_is = λ v. refl; m_is = λ v. refl; sizes = z })
    (λ t z. record { own_is = λ v. absurd v; m_is = λ v. absurd v; sizes = z }) (SP.start_good m j)

shard_fresh : (m j : ℕ) → ShardRight m [] j (S.start m j).state
unfolding S.start taken refuse S.empty_shard store_after_log
shard_fresh m j =
    by (λ (o : Outcome S.Shard). ShardRight m [] j o.state) _ (λ t. record { ran = λ ind e. nothing e; counted = refl; own_keys = λ k h. refl; other_keys = λ k h. refl })
    (λ t. record { ran = λ ind e. nothing e; counted = refl; own_keys = λ k h. refl; other_keys = λ k h. refl })

session_starts_lem : (c : ℕ) → SessionKnown c [] (C.start c).state
unfolding C.start taken refuse
session_starts_lem c =
    by (λ (o : Outcome C.Session). SessionKept o.state → SessionKnown c [] o.state) _
    (λ t z. record { own_is = λ v. refl; next_is = refl; outstanding = tt; window = z }) (λ t z. record { own_is = λ v. absurd v; next_is = refl; outstanding = tt; window = z })
    (CP.start_good c)

pub known_starts : (n m : ℕ) → Known n m (start rules n m)
unfolding start
known_starts n m =
    let e : ◌≡◌ {A = ℕ → List B.Entry} (λ i. (B.start n m i).state.log) (λ i. []) = fun_ext (λ i. board_empty n m i) in
    record {
      good = rw e (record {
        core = record { chain = λ i h p x k. k; firsts = λ c k x h. nothing h; groups = shard_fresh m; flight = tt; answers = tt };
        marks = λ i ind x h a. nothing a;
      });
      boards = board_starts_lem n m;
      shards = shard_starts_lem m;
      sessions = session_starts_lem;
    }

pub known : (n m : ℕ) (choices : List (Choice rules)) → Known n m (run rules n m choices)
known n m = always n m (Known n m) (known_starts n m) (known_lasts n m)

-- ---- What is known is safe

-- the tail's log begins the first, in every register, also in one whose start was refused
pub tail_under : (n m : ℕ) (w : World rules) → Known n m w → Under (log_of w n) (log_of w 1)
tail_under zero m w k = go (w.boards 0).started refl
  where
    go : (b : Bool) → (w.boards 0).started ≡ b → Under (log_of w 0) (log_of w 1)
    go true e = let l = ((k.boards 0).on (rw e tt)).low in absurd (omega arith)
    go false e = rw ((k.boards 0).off (rw e tt)) (λ p x h. nothing h)
tail_under (suc n) m w k = further_up (logs_of (entries_of w.boards)) k.good.core.chain 1 (suc n) (omega arith) (omega arith)

keys_right : (n m : ℕ) (w : World rules) → Known n m w → (j key : ℕ) → (w.shards j).store key ≡ keys_of m j (store_after_log (log_of w 1) (through (w.shards j).last_run)) key
keys_right n m w k j key =
    let r = k.good.core.groups j in
    by (λ (c : Option Cell). (w.shards j).store key ≡ c) (own m j key)
    (λ t. r.own_keys key t ∙ ap (λ (s : Store). s key)
    (store_stable (log_of w n) (log_of w 1) (tail_under n m w k) (through (w.shards j).last_run) (through_within m j (log_of w n) (w.shards j).last_run r.ran)))
    (λ t. r.other_keys key t)

pub known_safe : (n m : ℕ) (w : World rules) → Known n m w → Safe n m w
known_safe n m w k =
    let c = k.good.core in
    let u = tail_under n m w k in
    record {
      prefixes = λ i h l. under_prefix (log_of w (suc i)) (log_of w i) (c.chain i h);
      numbered = λ client. under_prefix (of_client client (log_of w 1)) (invocations client 0 (w.invoked client)) (c.firsts client);
      ran = λ j ind e. touching_grows m j (log_of w n) (log_of w 1) u ind ((c.groups j).ran ind e);
      keys = keys_right n m w k;
      replies = λ which r e. reply_grows (log_of w n) (log_of w 1) u r (all_at (ReplyRight (log_of w n)) w.replies which r e c.answers);
    }

-- DEMAND 3
pub safe : Demand3
safe n m choices = known_safe n m (run rules n m choices) (known n m choices)
