-- An entry changes: heard from one more shard, or ended. It stays the same write, and its reads stay what running the log gives.
-- Assumes nothing.
use mathlib.Core.Path.{◌≡◌, refl, sym, ap, ◌∙◌, fun_ext}
use mathlib.Core.Bool.{Bool, not, ◌||◌}
use mathlib.Core.List.{List, [], ◌∷◌}
use mathlib.Core.Option.{some}
use Prim.Native.Nat.{ℕ}
use lib.Dec.{T, eqb, eqb→eq, T_not}
use native.Mathlib.Omega.{arith}
use lib.ListN.{length, set}
use Rattle.rules.specs.Lists.{at, changed, has, strike}
use Rattle.rules.specs.Transactions.{Write, Placed, Read, shard_of, placed, keep, on_shard, touched, gather}
use Rattle.rules.specs.Frames.{Frame}
use Rattle.rules.specs.Board.{Status, Entry, is_exe, writes, add_reads, finished}
use Rattle.rules.proofs.Lists.{strike_sub, de_morgan}
use Rattle.rules.proofs.Sets.{strike_has, touched_every}
use Rattle.rules.proofs.Gather.{gather_both}
use Rattle.rules.proofs.Obeys.{none_left, all_left}
use Rattle.rules.proofs.Kept.{writes_set}
use Rattle.safety.specs.World.{board}
use Rattle.safety.specs.Machine.{Remark, by_notif, by_executed}
use Rattle.safety.proofs.Lists.{changed_own, changed_map, Under}
use Rattle.safety.proofs.Invariant.{Logs, Past, sees, RightTo, heard, ended, heard_of, Sound, idle, busy, logs_of}
use Rattle.safety.proofs.Sends.{remains_touched}

nil_of : (l : List ℕ) → length l ≡ 0 → l ≡ []
nil_of [] h = refl
nil_of (x ∷ l) h = absurd (omega arith)

-- the shards heard from, with one more
one_more_lem : (m j : ℕ) (remaining : List ℕ) → (λ (key : ℕ). eqb (shard_of m key) j || heard_of m remaining key) ≡ heard_of m (strike j remaining)
one_more_lem m j remaining = fun_ext λ key. de_morgan (eqb (shard_of m key) j) (has (shard_of m key) remaining) ∙ ap not (sym (strike_has (shard_of m key) j remaining))

heard_sound : (m : ℕ) (G : List Write) (ind : ℕ) (e : Entry) (j : ℕ) (status : Status) (rs : List Read) → at G ind ≡ some e.write → T (has j e.remaining)
    → (T (is_exe status) → length (strike j e.remaining) ≡ 0) → rs ≡ gather (on_shard m j e.write.operations) (sees G ind e.write) → Sound m G ind e
    → Sound m G ind (record { write = e.write; status = status; reads = add_reads rs e.reads; remaining = strike j e.remaining })
heard_sound m G ind e j status rs here inside last from s =
    busy (record {
      stands = here;
      sub = λ k h. remains_touched m G ind e s k (strike_sub k j e.remaining h);
      right = both;
      done = λ t. nil_of (strike j e.remaining) (last t);
    })
  where
    old : Sound m G ind e → e.reads ≡ gather (keep (heard_of m e.remaining) (placed 0 e.write.operations)) (sees G ind e.write)
    old (idle x y z) =
        let none : keep (heard_of m e.remaining) (placed 0 e.write.operations) ≡ [] =
        rw x (none_left m (touched m e.write.operations) 0 e.write.operations (touched_every m e.write.operations)) in
        z ∙ sym (ap (λ (xs : List Placed). gather xs (sees G ind e.write)) none)
    old (busy x) = x.right

    apart : (key : ℕ) → T (eqb (shard_of m key) j) → T (heard_of m e.remaining key) → ⊥
    apart key a b = let d : shard_of m key ≡ j = eqb→eq (shard_of m key) j a in T_not (has (shard_of m key) e.remaining) b (rw d inside)

    both : add_reads rs e.reads
        ≡ gather (keep (heard_of m (strike j e.remaining)) (placed 0 e.write.operations)) (sees G ind e.write)
    both =
        (λ i. add_reads (from i) (old s i))
        ∙ (gather_both (λ key. eqb (shard_of m key) j) (heard_of m e.remaining) apart (sees G ind e.write) 0 e.write.operations
        ∙ ap (λ (t : ℕ → Bool). gather (keep t (placed 0 e.write.operations)) (sees G ind e.write)) (one_more_lem m j e.remaining))

finished_sound : (m : ℕ) (G : List Write) (ind : ℕ) (e : Entry) → at G ind ≡ some e.write → Sound m G ind (finished (gather (placed 0 e.write.operations) (sees G ind e.write)) e)
unfolding finished
finished_sound m G ind e here =
    busy (record {
      stands = here;
      sub = λ k h. absurd h;
      right = ap (λ (xs : List Placed). gather xs (sees G ind e.write)) (sym (all_left 0 e.write.operations));
      done = λ h. refl;
    })

pub remark_sound : (n m : ℕ) (L : Logs) (H : Past) (i ind : ℕ) (e d : Entry) (f : Frame) → Under (L n) (L i) → at (L i) ind ≡ some e.write → Sound m (L n) ind e
    → RightTo n m L H (board i) f → Remark e ind f d → Sound m (L n) ind d
remark_sound n m L H i ind e d f u a s right how = go u a how right
  where
    -- how the entry changes is looked at first: the changed entry is made of it
    go : {k : ℕ} {g : Frame} {after : Entry} → Under (L n) (L k) → at (L k) ind ≡ some e.write → Remark e ind g after → RightTo n m L H (board k) g → Sound m (L n) ind after
    go u a (by_notif j rs status h last) (heard k _ _ _ x w r t y) =
        let v : at (L k) ind ≡ some x = u ind x r in
        let d : x ≡ e.write = cc in
        heard_sound m (L n) ind e j status rs (rw d at r) h (λ z. let k = last z in omega arith) (rw d at y) s
    go u a (by_executed rs) (ended k _ _ x w b r y) =
        let v : at (L k) ind ≡ some x = u ind x r in
        let d : x ≡ e.write = cc in
        let z : rs ≡ gather (placed 0 e.write.operations) (sees (L n) ind e.write) = rw d at y in
        rw z (finished_sound m (L n) ind e (rw d at r))

remark_write : (e d : Entry) (ind : ℕ) (f : Frame) → Remark e ind f d → d.write ≡ e.write
unfolding finished
remark_write e _ ind _ (by_notif j rs status t last) = refl
remark_write e _ ind _ (by_executed rs) = refl

-- so no log changes
pub marked_logs : (E : ℕ → List Entry) (i ind : ℕ) (e d : Entry) (f : Frame) → at (E i) ind ≡ some e → Remark e ind f d → logs_of (changed E i (set (E i) ind d)) ≡ logs_of E
marked_logs E i ind e d f a how =
    changed_map writes E i (set (E i) ind d)
    ∙ (ap (λ (l : List Write). changed (logs_of E) i l) (writes_set (E i) ind e d a (remark_write e d ind f how)) ∙ changed_own (logs_of E) i)
