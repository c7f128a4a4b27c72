-- Every step of a board of the permissive machine keeps what is known.
-- Assumes nothing.
use mathlib.Core.Path.{◌≡◌, refl, ap}
use mathlib.Core.Logic.{◌⊎◌, inl, inr}
use mathlib.Core.List.{List, ◌++◌}
use mathlib.Core.Option.{some}
use Prim.Native.Nat.{ℕ, ◌≤◌}
use lib.Dec.{T}
use lib.ListN.{length, set}
use Rattle.rules.specs.Lists.{at, snoc, every, changed}
use Rattle.rules.specs.Frames.{Frame, obeys}
use Rattle.rules.specs.Board.{Entry, writes, new_entry}
use Rattle.rules.specs.Shard.{Shard}
use Rattle.rules.proofs.Lists.{at_snoc_cases, at_set_cases}
use Rattle.rules.proofs.Kept.{at_writes}
use Rattle.safety.specs.World.{board, Packet, posted, ReplyTaken}
use Rattle.safety.specs.Machine.{All, Sends, Moved, same, grown, marked}
use Rattle.safety.proofs.Lists.{Changed, there, elsewhere, changed_same, changed_cases, changed_own, Under, all_map, all_append}
use Rattle.safety.proofs.Flight.{Flies, posted_fly}
use Rattle.safety.proofs.Invariant.{Logs, Past, RightTo, Sound, idle, Core, logs_of, Marks, Good}
use Rattle.safety.proofs.Growth.{sound_grows, further_up}
use Rattle.safety.proofs.Sends.{sends_right}
use Rattle.safety.proofs.Grown.{source, more_grows, grow_core, grown_logs}
use Rattle.safety.proofs.Marked.{remark_sound, marked_logs}

pub add_sent : {n m : ℕ} {H : Past} {shards : ℕ → Shard} {replies : List ReplyTaken} {sent : List Packet} (L : Logs) (ps : List Packet)
    → Core n m L H shards replies sent → All (Flies (RightTo n m L H)) ps → Core n m L H shards replies (sent ++ ps)
add_sent {n} {m} {H} {shards} {replies} {sent} L ps c a =
    record { chain = c.chain; firsts = c.firsts; groups = c.groups; flight = all_append (Flies (RightTo n m L H)) sent ps c.flight a; answers = c.answers }

-- entries: of the board whose log changes, and of the others
set_marks : (n m : ℕ) (E : ℕ → List Entry) (i : ℕ) (log : List Entry) → Under (writes (E n)) (writes (changed E i log n)) → Marks n m E
    → ((ind : ℕ) (e : Entry) → at log ind ≡ some e → Sound m (writes (changed E i log n)) ind e) → Marks n m (changed E i log)
set_marks n m E i log u old new j ind e h a = go (changed_cases E i log j)
  where
    go : Changed E i log j (changed E i log j) → Sound m (writes (changed E i log n)) ind e
    go (there x y) = new ind e (rw y at a)
    go (elsewhere x y) = sound_grows m (writes (E n)) (writes (changed E i log n)) u ind e (old j ind e h (rw y at a))

module _ {n m : ℕ} {H : Past} {shards : ℕ → Shard} {replies : List ReplyTaken} {sent : List Packet} where
  -- the frames of a board whose log has been changed
  finish : (E : ℕ → List Entry) (i : ℕ) (fs : List Frame) → 1 ≤ i → i ≤ n → Core n m (logs_of E) H shards replies sent → Marks n m E
      → All (Sends n m i (E i)) fs → T (every obeys fs) → Good n m E H shards replies (sent ++ posted n i fs)
  finish E i fs lo hi c k s t =
      record {
        core = add_sent (logs_of E) (posted n i fs) c
            (posted_fly (RightTo n m (logs_of E) H) n i fs (all_map (sends_right n m (logs_of E) H i (E i) lo hi refl (λ ind e a. k i ind e lo a)) fs s) t);
        marks = k;
      }

  pub board_good : (E : ℕ → List Entry) (i : ℕ) (f : Frame) (log : List Entry) (fs : List Frame) → 1 ≤ i → i ≤ n → Good n m E H shards replies sent
      → RightTo n m (logs_of E) H (board i) f → Moved n m i (E i) f log fs → T (every obeys fs) → Good n m (changed E i log) H shards replies (sent ++ posted n i fs)
  board_good E i f _ _ lo hi g r (same fs s) t = rw (changed_own E i) (finish E i fs lo hi g.core g.marks s t)
  board_good E i f _ _ lo hi g r (grown w fs from s) t =
      finish (changed E i log) i fs lo hi core (set_marks n m E i log under g.marks (λ ind e a. new ind e (at_snoc_cases (E i) (new_entry m w) ind e a)))
      (rw (changed_same E i log) s) t
    where
      log : List Entry
      log = snoc (E i) (new_entry m w)

      core : Core n m (logs_of (changed E i log)) H shards replies sent
      core = rw (grown_logs E i m w) (grow_core (logs_of E) i w g.core (source n m E H i w f r from))

      under : Under (writes (E n)) (writes (changed E i log n))
      under = rw (ap (λ (l : Logs). l n) (grown_logs E i m w)) (more_grows (logs_of E) i w n)

      new : (ind : ℕ) (e : Entry) → (at (E i) ind ≡ some e) ⊎ ((ind ≡ length (E i)) × (e ≡ new_entry m w)) → Sound m (writes (changed E i log n)) ind e
      new ind e (inl a) = sound_grows m (writes (E n)) (writes (changed E i log n)) under ind e (g.marks i ind e lo a)
      new ind e (inr a) = rw a.1 (unfold new_entry in (idle refl refl refl))
  board_good E i f _ _ lo hi g r (marked q e d fs a how s) t =
      finish (changed E i log) i fs lo hi core (set_marks n m E i log under g.marks (λ ind x b. new ind x (at_set_cases (E i) q d ind x b)))
      (rw (changed_same E i log) s) t
    where
      log : List Entry
      log = set (E i) q d

      logs : logs_of (changed E i log) ≡ logs_of E
      logs = marked_logs E i q e d f a how

      core : Core n m (logs_of (changed E i log)) H shards replies sent
      core = rw logs g.core

      under : Under (writes (E n)) (writes (changed E i log n))
      under = rw (ap (λ (l : Logs). l n) logs) (λ p x h. h)

      sound : Sound m (writes (E n)) q d
      sound = remark_sound n m (logs_of E) H i q e d f (further_up (logs_of E) g.core.chain i n lo hi) (at_writes (E i) q e a) (g.marks i q e lo a) r how

      new : (ind : ℕ) (x : Entry) → (at (E i) ind ≡ some x) ⊎ ((ind ≡ q) × (x ≡ d)) → Sound m (writes (changed E i log n)) ind x
      new ind x (inl b) = sound_grows m (writes (E n)) (writes (changed E i log n)) under ind x (g.marks i ind x lo b)
      new ind x (inr b) = rw (b.0, b.1) (sound_grows m (writes (E n)) (writes (changed E i log n)) under q d sound)
