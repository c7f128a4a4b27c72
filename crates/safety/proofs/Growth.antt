-- What is known of logs and histories stays known as they grow.
-- Assumes nothing.
use mathlib.Core.Path.{◌≡◌, refl, ap, ◌∙◌}
use mathlib.Core.Logic.{◌⊎◌, inl, inr}
use mathlib.Core.List.{List}
use mathlib.Core.Option.{Option, none, some}
use Prim.Native.Nat.{ℕ, zero, suc, ◌≤◌}
use native.Mathlib.Omega.{arith}
use lib.ListN.{length}
use Rattle.rules.specs.Lists.{at}
use Rattle.rules.specs.Transactions.{Write, Placed, Store, reads_of, reads_in_log, placed, keep, on_shard, gather}
use Rattle.rules.specs.Frames.{Frame}
use Rattle.rules.specs.Board.{Entry}
use Rattle.rules.specs.Shard.{Shard}
use Rattle.rules.proofs.Lists.{at_lt}
use Rattle.safety.specs.World.{Address, ReplyTaken}
use Rattle.safety.specs.Claim.{through, Touching, ReplyRight}
use Rattle.safety.proofs.Lists.{last_or, Under}
use Rattle.safety.proofs.Running.{seen, store_stable, count_stable}
use Rattle.safety.proofs.Invariant.{Logs, Past, sees, RightTo, asked, logged, job, heard, ended, told, heard_of, Sound, idle, busy, ShardRight}

-- the reads of an entry
reads_stable : (xs : List Placed) (G M : List Write) → Under G M → (ind : ℕ) (w : Write) → at G ind ≡ some w → gather xs (sees G ind w) ≡ gather xs (sees M ind w)
reads_stable xs G M u ind w a =
    let l = at_lt G ind w a in ap (λ (s : Store). gather xs (seen ind s (placed 0 w.operations))) (store_stable G M u ind (omega arith))

pub right_grows : {n m : ℕ} {L M : Logs} {H I : Past} → ((i : ℕ) → Under (L i) (M i)) → ((c : ℕ) → Under (H c) (I c)) → (to : Address) (f : Frame) → RightTo n m L H to f → RightTo n m M I to f
right_grows l h _ _ (asked a w r) = asked a w (h w.client w.number w.operations r)
right_grows l h _ _ (logged i ind a w x y r) = logged i ind a w x y (l i ind w r)
right_grows {n} {m} {L} {M} l h _ _ (job j ind sn xs w r t y x) =
    let k = at_lt (L n) ind w r in job j ind sn xs w (l n ind w r) t (y ∙ ap suc (count_stable m j (L n) (M n) (l n) ind (omega arith))) x
right_grows {n} {m} {L} {M} l h _ _ (heard i j ind rs w y r t x) =
    heard i j ind rs w y (l n ind w r) t (x ∙ reads_stable (on_shard m j w.operations) (L n) (M n) (l n) ind w r)
right_grows {n} {m} {L} {M} l h _ _ (ended i ind rs w y z r x) =
    ended i ind rs w y z (l n ind w r) (x ∙ reads_stable (placed 0 w.operations) (L n) (M n) (l n) ind w r)
right_grows {n} {m} {L} {M} l h _ _ (told c k ind rs w r y z x) =
    told c k ind rs w (l n ind w r) y z (x ∙ reads_stable (placed 0 w.operations) (L n) (M n) (l n) ind w r)

pub sound_grows : (m : ℕ) (G M : List Write) → Under G M → (ind : ℕ) (e : Entry) → Sound m G ind e → Sound m M ind e
sound_grows m G M u ind e (idle x y z) = idle x y z
sound_grows m G M u ind e (busy s) =
    busy (record {
      stands = u ind e.write s.stands;
      sub = s.sub;
      right = s.right ∙ reads_stable (keep (heard_of m e.remaining) (placed 0 e.write.operations)) G M u ind e.write s.stands;
      done = s.done;
    })

pub touching_grows : (m j : ℕ) (G M : List Write) → Under G M → (ind : ℕ) → Touching m j G ind → Touching m j M ind
touching_grows m j G M u ind t = record { write = t.write; stands = u ind t.write t.stands; touching = t.touching }

-- the last entry that a shard ran is in the log
pub through_within : (m j : ℕ) (G : List Write) (o : Option ℕ) → ((ind : ℕ) → o ≡ some ind → Touching m j G ind) → through o ≤ length G
through_within m j G none h = omega arith
through_within m j G (some ind) h = let t = h ind refl in at_lt G ind t.write t.stands

pub shard_grows : (m : ℕ) (G M : List Write) → Under G M → (j : ℕ) (s : Shard) → ShardRight m G j s → ShardRight m M j s
shard_grows m G M u j s r =
    let l = through_within m j G s.last_run r.ran in
    record {
      ran = λ ind e. touching_grows m j G M u ind (r.ran ind e);
      counted = r.counted ∙ count_stable m j G M u (through s.last_run) l;
      own_keys = λ k e. r.own_keys k e ∙ ap (λ (t : Store). t k) (store_stable G M u (through s.last_run) l);
      other_keys = r.other_keys;
    }

pub reply_grows : (G M : List Write) → Under G M → (r : ReplyTaken) → ReplyRight G r → ReplyRight M r
unfolding reads_in_log
reply_grows G M u r x =
    let l = at_lt G x.ind x.write x.stands in
    record {
      ind = x.ind;
      write = x.write;
      stands = u x.ind x.write x.stands;
      client = x.client;
      number = x.number;
      reads = x.reads ∙ ap (λ (s : Store). reads_of x.ind s (placed 0 x.write.operations)) (store_stable G M u x.ind (omega arith));
    }

-- a log further down begins one further up
pub further_up : (L : Logs) → ((i : ℕ) → 1 ≤ i → Under (L (suc i)) (L i)) → (i k : ℕ) → 1 ≤ i → i ≤ k → Under (L k) (L i)
further_up L c i zero h l p x e = absurd (omega arith)
further_up L c i (suc k) h l p x e = go (last_or i k l) (further_up L c i k h)
  where
    go : (i ≤ k) ⊎ (i ≡ suc k) → (i ≤ k → Under (L k) (L i)) → at (L i) p ≡ some x
    go (inl a) up = up a p x (c k (omega arith) p x e)
    go (inr a) up = rw a e
