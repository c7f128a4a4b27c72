-- Each deed of a board is a step of the permissive machine.
-- Assumes nothing.
use mathlib.Core.Path.{◌≡◌, refl}
use mathlib.Core.List.{List, [], ◌∷◌, map}
use mathlib.Core.Option.{some}
use Prim.Native.Nat.{ℕ, suc, ◌≤◌}
use native.Mathlib.Omega.{arith}
use lib.Dec.{T, eqb, ltb→lt, nltb→le, eqb→eq, eqb_refl}
use lib.ListN.{length, set}
use mir.Facts.{eqb_no}
use Rattle.rules.specs.Lists.{at, has, strike, is_empty, If◌then◌else◌}
use Rattle.rules.specs.Transactions.{Read}
use Rattle.rules.specs.Frames.{Frame, exec_notif}
use Rattle.rules.specs.Outcomes.{Outcome, taken, refuse}
use Rattle.rules.specs.Board.{Entry, Board, PRE, EXE, is_exe, writes, touching, holding, raise_floor, new_entry, append, settle, forward_of, shard_append_of, backward, onward, serve_new, heard_from, finished}
use Rattle.rules.proofs.Lists.{by, or_left, or_right, at_snoc_new}
use Rattle.safety.specs.Machine.{All, Sends, sends_forward, sends_append, sends_executed, sends_response, Remark, by_notif, by_executed, Moved, same, grown, marked}
use Rattle.safety.proofs.Lists.{at_set_there}
use Rattle.safety.proofs.Deeds.{Deed, refused, held, new, heard, ended}

-- ---- What is sent

back_sends : (b : Board) (log : List Entry) (ind : ℕ) (e : Entry) → 1 ≤ b.own → at log ind ≡ some e → T (is_exe e.status)
    → Sends b.n b.m b.own log (backward b ind e)
unfolding backward
back_sends b log ind e lo a t =
    by (Sends b.n b.m b.own log) _ (λ u. sends_response ind e (eqb→eq b.own 1 u) a t)
    (λ u. let d = eqb_no {a = b.own} u in sends_executed ind e (omega arith) a t)

shards_sends : (b : Board) (ind : ℕ) (e : Entry) (js : List ℕ) → b.n ≤ b.own → at b.log ind ≡ some e → ((j : ℕ) → T (has j js) → T (has j e.remaining))
    → All (Sends b.n b.m b.own b.log) (map (shard_append_of b ind e.write) js)
unfolding shard_append_of
shards_sends b ind e [] h a sub = tt
shards_sends b ind e (j ∷ js) h a sub =
    (sends_append j ind (touching b.m j (writes b.log) (suc ind)) e h a (sub j (or_left (eqb j j) (has j js) (eqb_refl j))) (omega arith), shards_sends b ind e js h a (λ k t. sub k (or_right (eqb k j) (has k js) t)))

onward_sends : (b : Board) (ind : ℕ) (e : Entry) → 1 ≤ b.own → at b.log ind ≡ some e → All (Sends b.n b.m b.own b.log) (onward b ind e)
unfolding onward forward_of
onward_sends b ind e lo a =
    by (All (Sends b.n b.m b.own b.log)) _ (λ t. (back_sends b b.log ind e lo a t, tt)) λ t.
    by (All (Sends b.n b.m b.own b.log)) _ (λ u. (sends_forward ind _ e (ltb→lt b.own b.n u) a, tt))
    (λ u. shards_sends b ind e e.remaining (nltb→le b.own b.n u) a (λ j h. h))

-- ---- What is done

pub record BoardLaw (b : Board) (f : Frame) (o : Outcome Board) : Type 0 where
  pub moved : Moved b.n b.m b.own b.log f o.state.log o.frames
  pub started : o.state.started ≡ b.started
  pub n : o.state.n ≡ b.n
  pub m : o.state.m ≡ b.m
  pub own : o.state.own ≡ b.own

-- "When none remains: EXE"
last_shard : (l : List ℕ) → T (is_exe (If is_empty l then EXE else PRE)) → length l ≡ 0
unfolding If◌then◌else◌
last_shard [] t = refl
last_shard (j ∷ l) t = absurd t

heard_remark : (j ind : ℕ) (rs : List Read) (e : Entry) → T (has j e.remaining) → Remark e ind (exec_notif j ind rs) (heard_from j rs e)
unfolding heard_from
heard_remark j ind rs e t =
    by_notif j rs (If is_empty (strike j e.remaining) then EXE else PRE) t (λ u. let k = last_shard (strike j e.remaining) u in omega arith)

pub deed_law : (b : Board) (f : Frame) (o : Outcome Board) → 1 ≤ b.own → Deed b f o → BoardLaw b f o
unfolding refuse taken serve_new append raise_floor settle holding
deed_law b _ _ lo (refused r f) = record { moved = same [] tt; started = refl; n = refl; m = refl; own = refl }
deed_law b _ _ lo (held f w ind ack e c a) =
    record { moved = same _ (onward_sends (raise_floor w.client ack b) ind e lo a); started = refl; n = refl; m = refl; own = refl }
deed_law b _ _ lo (new f w ack c from) =
    record {
      moved = grown w _ from
          (onward_sends (append w (raise_floor w.client ack b)) (length b.log) (new_entry b.m w) lo (at_snoc_new b.log (new_entry b.m w)));
      started = refl;
      n = refl;
      m = refl;
      own = refl;
    }
deed_law b _ _ lo (heard j ind rs e a t) =
    let d : Entry = heard_from j rs e in
    let log : List Entry = set b.log ind d in
    let fs : All (Sends b.n b.m b.own log) (If is_exe d.status then backward b ind d ∷ [] else []) =
    by (All (Sends b.n b.m b.own log)) _ (λ u. (back_sends b log ind d lo (at_set_there b.log ind e d a) u, tt)) (λ u. tt) in
    record { moved = marked ind e d _ a (heard_remark j ind rs e t) fs; started = refl; n = refl; m = refl; own = refl }
deed_law b _ _ lo (ended ind rs e a) =
    let d : Entry = finished rs e in
    record {
      moved = marked ind e d (backward b ind d ∷ []) a (by_executed rs) (back_sends b (set b.log ind d) ind d lo (at_set_there b.log ind e d a) (unfold finished in tt), tt);
      started = refl;
      n = refl;
      m = refl;
      own = refl;
    }
