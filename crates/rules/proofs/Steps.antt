-- Whatever arrives, a board's step refuses, or serves a held entry, or appends a new one, or hears from a shard, or finishes an entry.
-- Each law of all steps is then a law of these five deeds, and only here are the tests of the step split.
-- Assumes nothing.
use mathlib.Core.Path.{◌≡◌, refl, ap}
use mathlib.Core.Bool.{Bool, true, false, not, ◌&&◌, ◌||◌}
use mathlib.Core.List.{List, [], ◌∷◌}
use mathlib.Core.Option.{Option, none, some}
use Prim.Native.Nat.{ℕ, ◌≤◌, ◌<◌}
use native.Mathlib.Omega.{arith}
use lib.Dec.{T, ltb, eqb, leb→le, nleb→lt, nltb→le, eqb→eq}
use lib.ListN.{length}
use Rattle.rules.specs.Lists.{If◌then◌else◌, within, at, has}
use Rattle.rules.specs.Transactions.{Operation, get, put, Write, Read, touched, placed, on_shard, same_operation, same_operations, same_write}
use Rattle.rules.specs.Frames.{Frame, submit, forward, shard_append, exec_notif, executed, response, ok_ind, ok_reads, ok_write, obeys, decode}
use Rattle.rules.specs.Outcomes.{Outcome, taken, refuse}
use Rattle.rules.specs.Board.{Entry, Board, is_exe, writes, next_number, find, raise_floor, settle, backward, onward, serve_new, serve_held, serve_found, submit_step, forward_step, fits, heard_from, exec_notif_step, finished, executed_step, frame_step, read_step, step}
use Rattle.rules.proofs.Lists.{by, yes_of, and_l, and_r}
use Rattle.rules.proofs.Frames.{WriteRules, write_rules, decode_spells}

-- ---- The same client, number and operations

pub same_operation_lem : (o p : Operation) → T (same_operation o p) → o ≡ p
same_operation_lem (get k) (get l) t = ap get (eqb→eq k l t)
same_operation_lem (get k) (put l v) t = absurd t
same_operation_lem (put k u) (get l) t = absurd t
same_operation_lem (put k u) (put l v) t = λ i. put (eqb→eq k l (and_l (eqb k l) (eqb u v) t) i) (eqb→eq u v (and_r (eqb k l) (eqb u v) t) i)

same_operations_lem : (os ps : List Operation) → T (same_operations os ps) → os ≡ ps
same_operations_lem [] [] t = refl
same_operations_lem [] (p ∷ ps) t = absurd t
same_operations_lem (o ∷ os) [] t = absurd t
same_operations_lem (o ∷ os) (p ∷ ps) t =
    λ i. same_operation_lem o p (and_l (same_operation o p) (same_operations os ps) t) i ∷ same_operations_lem os ps (and_r (same_operation o p) (same_operations os ps) t) i

pub same_write_lem : (v w : Write) → T (same_write v w) → v ≡ w
unfolding same_write
same_write_lem v w t =
    let c : Bool = eqb v.client w.client in
    let n : Bool = eqb v.number w.number in
    let o : Bool = same_operations v.operations w.operations in
    let cn = and_l (c && n) o t in
    λ i.
    record {
      client = eqb→eq v.client w.client (and_l c n cn) i;
      number = eqb→eq v.number w.number (and_r c n cn) i;
      operations = same_operations_lem v.operations w.operations (and_r (c && n) o t) i;
    }

-- ---- The deeds

pub data Deed (b : Board) : Outcome Board → Type 0 where
  refused : (number : ℕ) → Deed b (refuse number b)
  -- the held entry e is served once more
  held : (ind ack : ℕ) (e : Entry) → T b.started → at b.log ind ≡ some e → WriteRules e.write ack
      → Deed b (taken (raise_floor e.write.client ack b) (onward (raise_floor e.write.client ack b) ind e))
  -- a new write is appended
  new : (w : Write) (ack : ℕ) → T b.started → WriteRules w ack → w.number ≡ next_number w.client (writes b.log) → length b.log < 256
      → Deed b (serve_new b w ack)
  -- shard j has run its part
  heard : (j ind : ℕ) (rs : List Read) (e : Entry) → T b.started → at b.log ind ≡ some e → T (has j e.remaining) → T (ok_reads rs)
      → T (fits rs (on_shard b.m j e.write.operations))
      → Deed b
      (taken (settle ind (heard_from j rs e) (j ∷ []) b) (If is_exe (heard_from j rs e).status then backward b ind (heard_from j rs e) ∷ [] else []))
  -- the boards behind have it EXE
  done : (ind : ℕ) (rs : List Read) (e : Entry) → T b.started → at b.log ind ≡ some e → T (ok_reads rs) → T (fits rs (placed 0 e.write.operations))
      → Deed b (taken (settle ind (finished rs e) (touched b.m e.write.operations) b) (backward b ind (finished rs e) ∷ []))

module _ (b : Board) (s : T b.started) where
  held_deed : (ind : ℕ) (w : Write) (ack : ℕ) (o : Option Entry) → at b.log ind ≡ o → WriteRules w ack → Deed b (serve_held b ind w ack o)
  unfolding serve_held
  held_deed ind w ack none a r = refused 8
  held_deed ind w ack (some e) a r =
      by (Deed b) _ (λ t. refused 8) λ t.
      let d : e.write ≡ w = same_write_lem e.write w (yes_of (same_write e.write w) t) in
      rw (← d) (held ind ack e s a (rw d r))

  found_deed : (w : Write) (ack : ℕ) (o : Option ℕ) → WriteRules w ack → Deed b (serve_found b w ack o)
  unfolding serve_found
  found_deed w ack none r = refused 8
  found_deed w ack (some ind) r = held_deed ind w ack (at b.log ind) refl r

  submit_deed : (w : Write) (ack : ℕ) → WriteRules w ack → Deed b (submit_step b w ack)
  unfolding submit_step
  submit_deed w ack r =
      by (Deed b) _ (λ t. refused 3) λ t.
      by (Deed b) _ (λ t. refused 4) λ early.
      by (Deed b) _ (λ t. found_deed w ack (find w.client w.number (writes b.log)) r) λ late.
      by (Deed b) _ (λ t. refused 5) λ few.
      let low = nltb→le (next_number w.client (writes b.log)) w.number early in
      let high = nltb→le w.number (next_number w.client (writes b.log)) late in
      new w ack s r (omega arith) (nleb→lt 256 (length b.log) few)

  forward_deed : (ind : ℕ) (w : Write) (ack : ℕ) → ind ≤ 255 → WriteRules w ack → Deed b (forward_step b ind w ack)
  unfolding forward_step
  forward_deed ind w ack l r =
      by (Deed b) _ (λ t. refused 4) λ t.
      by (Deed b) _ (λ t. held_deed ind w ack (at b.log ind) refl r) λ u.
      by (Deed b) _ (λ t. refused 8) λ v.
      let x = nltb→le ind (length b.log) u in
      let next = eqb→eq w.number (next_number w.client (writes b.log)) (yes_of (eqb w.number (next_number w.client (writes b.log))) v) in
      new w ack s r next (omega arith)

  notif_deed : (j ind : ℕ) (rs : List Read) (o : Option Entry) → at b.log ind ≡ o → T (ok_reads rs) → Deed b (exec_notif_step b j ind rs o)
  unfolding exec_notif_step
  notif_deed j ind rs none a r = refused 6
  notif_deed j ind rs (some e) a r =
      by (Deed b) _ (λ t. refused 7) λ t.
      by (Deed b) _ (λ u. refused 8) λ u.
      heard j ind rs e s a (yes_of (has j e.remaining) t) r (yes_of (fits rs (on_shard b.m j e.write.operations)) u)

  executed_deed : (ind : ℕ) (rs : List Read) (o : Option Entry) → at b.log ind ≡ o → T (ok_reads rs) → Deed b (executed_step b ind rs o)
  unfolding executed_step
  executed_deed ind rs none a r = refused 6
  executed_deed ind rs (some e) a r =
      by (Deed b) _ (λ t. refused 7) λ t.
      by (Deed b) _ (λ u. refused 8) λ u.
      done ind rs e s a r (yes_of (fits rs (placed 0 e.write.operations)) u)

  frame_deed : (f : Frame) → T (obeys f) → Deed b (frame_step b f)
  unfolding frame_step obeys
  frame_deed (submit w ack) t = by (Deed b) _ (λ u. submit_deed w ack (write_rules w ack t)) (λ u. refused 2)
  frame_deed (forward ind w ack) t =
      by (Deed b) _ (λ u. forward_deed ind w ack (leb→le ind 255 (and_l (ok_ind ind) (ok_write w ack) t)) (write_rules w ack (and_r (ok_ind ind) (ok_write w ack) t))) (λ u. refused 2)
  frame_deed (shard_append j ind sn xs) t = refused 2
  frame_deed (exec_notif j ind rs) t = by (Deed b) _ (λ u. notif_deed j ind rs (at b.log ind) refl (and_r (within 1 8 j && ok_ind ind) (ok_reads rs) t)) (λ u. refused 2)
  frame_deed (executed ind rs) t = by (Deed b) _ (λ u. executed_deed ind rs (at b.log ind) refl (and_r (ok_ind ind) (ok_reads rs) t)) (λ u. refused 2)
  frame_deed (response client number rs) t = refused 2

  read_deed : (o : Option Frame) → ((f : Frame) → o ≡ some f → T (obeys f)) → Deed b (read_step b o)
  unfolding read_step
  read_deed none t = refused 1
  read_deed (some f) t = frame_deed f (t f refl)

-- a usable state was started
pub ready : (started short : Bool) → T (not (not started || short)) → T started
ready true short t = tt
ready false short t = absurd t

pub step_deed : (b : Board) (bytes : List ℕ) (out : ℕ) → Deed b (step b bytes out)
unfolding step
step_deed b bytes out =
    by (Deed b) _ (λ t. refused 11) (λ t. read_deed b (ready b.started (ltb out 68) t) (decode bytes) (λ f e. (decode_spells bytes f e).rules))
