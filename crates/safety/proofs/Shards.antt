-- A shard group of the permissive machine runs its next job: by its sn that is the next entry of the tail's log that touches it, so its keys and
-- its answer are what running the log gives.
-- Assumes nothing.
use mathlib.Core.Path.{◌≡◌, refl, sym, ◌∙◌}
use mathlib.Core.List.{List, [], ◌∷◌, ◌++◌}
use mathlib.Core.Option.{some}
use Prim.Native.Nat.{ℕ, suc, ◌≤◌}
use native.Mathlib.Omega.{arith}
use native.Mathlib.Decide.{dec_le}
use lib.Dec.{T}
use Rattle.rules.specs.Lists.{at, every, changed}
use Rattle.rules.specs.Transactions.{Write, reads_of, store_after_log, placed, on_shard, touches, gather}
use Rattle.rules.specs.Frames.{Frame, exec_notif, obeys}
use Rattle.rules.specs.Board.{touching}
use Rattle.rules.specs.Shard.{Shard}
use Rattle.rules.specs.Shard as S
use Rattle.rules.proofs.Counts.{touching_one}
use Rattle.safety.specs.World.{shard, Packet, posted, ReplyTaken}
use Rattle.safety.specs.Claim.{through}
use Rattle.safety.specs.Machine.{Ran, stayed, went}
use Rattle.safety.proofs.Lists.{changed_own, changed_all_lem}
use Rattle.safety.proofs.Running.{AgreeOn, own, project, project_other, part_reads, count_rises, gap}
use Rattle.safety.proofs.Flight.{posted_fly}
use Rattle.safety.proofs.Invariant.{Logs, Past, sees, RightTo, job, heard, ShardRight, Core}
use Rattle.safety.proofs.Boards.{add_sent}

module _ (m : ℕ) (G : List Write) (j : ℕ) (s : Shard) (old : ShardRight m G j s) (ind : ℕ) (w : Write) (a : at G ind ≡ some w) (t : T (touches m j w.operations))
    (n : s.ssn ≡ touching m j G ind) where
  pub not_past : through s.last_run ≤ ind
  not_past = go (dec_le (through s.last_run) ind)
    where
      go : Dec (through s.last_run ≤ ind) → through s.last_run ≤ ind
      go (yes h) = h
      go (no h) =
          let x = count_rises m j G (suc ind) (through s.last_run) (omega arith) in
          let y = touching_one m j G ind w a t in
          let z = old.counted in absurd (omega arith)

  before : AgreeOn (own m j) s.store (store_after_log G ind)
  before k h = old.own_keys k h ∙ gap m j G (through s.last_run) ind not_past (sym old.counted ∙ n) k h

  after : ShardRight m G j (S.run ind (suc (touching m j G ind)) (on_shard m j w.operations) s)
  unfolding store_after_log S.run
  after =
      record {
        ran = λ p e. let d : ind ≡ p = cc in record { write = w; stands = rw (← d) a; touching = t };
        counted = sym (touching_one m j G ind w a t);
        own_keys = rw a (project (own m j) ind (placed 0 w.operations) s.store (store_after_log G ind) before);
        other_keys = λ k h. project_other (own m j) ind (placed 0 w.operations) s.store k h ∙ old.other_keys k h;
      }

  noted : reads_of ind s.store (on_shard m j w.operations) ≡ gather (on_shard m j w.operations) (sees G ind w)
  noted = part_reads (own m j) ind 0 w.operations s.store (store_after_log G ind) before

module _ {n m : ℕ} {L : Logs} {H : Past} {shards : ℕ → Shard} {replies : List ReplyTaken} {sent : List Packet} where
  put_shard : (j : ℕ) (s : Shard) → Core n m L H shards replies sent → ShardRight m (L n) j s → Core n m L H (changed shards j s) replies sent
  put_shard j s c r =
      record {
        chain = c.chain;
        firsts = c.firsts;
        groups = changed_all_lem (λ i x. ShardRight m (L n) i x) shards j s r c.groups;
        flight = c.flight;
        answers = c.answers;
      }

  -- the address apart from the shard group that ran: the frame says that they are one
  ran_good : (i j : ℕ) (f : Frame) (s : Shard) (fs : List Frame) → Core n m L H shards replies sent → RightTo n m L H (shard i) f → Ran j (shards j) f s fs
      → T (every obeys fs) → Core n m L H (changed shards j s) replies (sent ++ posted n j fs)
  ran_good _ j _ _ _ c r (stayed f) t = rw (changed_own shards j) (add_sent L [] c tt)
  ran_good _ j _ _ _ c (job _ _ _ _ w a u y z) (went ind sn xs h) t =
      let d : (shards j).ssn ≡ touching m j (L n) ind = omega arith in
      let k = c.groups j in
      let e : S.run ind sn xs (shards j) ≡ S.run ind (suc (touching m j (L n) ind)) (on_shard m j w.operations) (shards j) = cc in
      let x : reads_of ind (shards j).store xs ≡ gather (on_shard m j w.operations) (sees (L n) ind w) = rw z (noted m (L n) j (shards j) k ind w a u d) in
      add_sent L (posted n j (exec_notif j ind (reads_of ind (shards j).store xs) ∷ []))
      (put_shard j (S.run ind sn xs (shards j)) c (rw e (after m (L n) j (shards j) k ind w a u d)))
      (posted_fly (RightTo n m L H) n j (exec_notif j ind (reads_of ind (shards j).store xs) ∷ []) (heard n j ind _ w refl a u x, tt) t)

  pub shard_good : (j : ℕ) (f : Frame) (s : Shard) (fs : List Frame) → Core n m L H shards replies sent → RightTo n m L H (shard j) f → Ran j (shards j) f s fs
      → T (every obeys fs) → Core n m L H (changed shards j s) replies (sent ++ posted n j fs)
  shard_good j = ran_good j j
