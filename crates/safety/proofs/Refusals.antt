-- No frame of a run is answered 1, 2, 6 or 8 where it was sent: it is a frame, for its receiver, of an entry that the receiver has, and fits it.
-- Assumes nothing.
use mathlib.Core.Path.{◌≡◌, refl, sym, ap, ◌∙◌}
use mathlib.Core.Bool.{Bool, true, false, not, ◌&&◌}
use mathlib.Core.List.{List, [], ◌∷◌, ◌++◌, append_assoc}
use mathlib.Core.Option.{Option, none, some}
use Prim.Native.Nat.{ℕ, zero, suc, ◌+◌, ◌≤◌, ◌<◌}
use native.Mathlib.Omega.{arith}
use lib.Dec.{T, leb, ltb, eqb, eqb→eq, eqb_refl, nleb→lt, nltb→le, ltb→lt}
use lib.ListN.{length, length-map}
use native.Mathlib.Nat.{mod-lt}
use mir.Facts.{T_not, yes_eqb, yes_leb, yes_ltb, eqb_no}
use Rattle.rules.specs.Lists.{If◌then◌else◌, at, snoc, every, below}
use Rattle.rules.specs.Answers.{done, not_usable, below_floor, too_early, log_full, too_late}
use Rattle.rules.specs.Transactions.{Operation, get, put, Write, Placed, Read, key_of, shard_of, touched, touches, placed, keep, on_shard, get_places, same_operation, same_operations, same_write, gather}
use Rattle.rules.specs.Frames.{Frame, decode}
use Rattle.rules.specs.Outcomes.{Outcome, taken, refuse}
use Rattle.rules.specs.Board as B
use Rattle.rules.specs.Shard as S
use Rattle.rules.specs.Session as C
use Rattle.rules.specs.Kept.{of_client, Counted}
use Rattle.rules.proofs.Lists.{by, yes_of, and, and_l, and_r, if_yes, nothing, same_refl, at_some}
use Rattle.rules.proofs.Frames.{decode_encode}
use Rattle.rules.proofs.Steps.{ready}
use Rattle.rules.proofs.Sets.{insert_cases}
use Rattle.rules.proofs.Numbers.{next_counts, found, find_stands}
use Rattle.rules.proofs.Places.{gather_places}
use Rattle.safety.specs.World.{Address, board, shard, client, Packet, World, rules}
use Rattle.safety.specs.Claim.{invocations, through}
use Rattle.safety.specs.Further.{answer_to, Expected}
use Rattle.safety.proofs.Lists.{Under, under_prefix, under_snoc, all_at}
use Rattle.safety.proofs.Numbered.{client_yes, invoked_at, firsts_counted}
use Rattle.safety.proofs.Flight.{Flies}
use Rattle.safety.proofs.Invariant.{Logs, sees, RightTo, asked, logged, job, heard, ended, told, logs_of}
use Rattle.safety.proofs.Growth.{further_up}
use Rattle.safety.proofs.Shards.{not_past}
use Rattle.safety.proofs.Known.{entries_of, Known}
use Rattle.safety.proofs.Sessions.{kept_operations}
use Rattle.safety.proofs.Safety.{tail_under}

-- ---- Answers

fair : (r : ℕ) → T (not (eqb r 1) && not (eqb r 2) && not (eqb r 6) && not (eqb r 8)) → Expected r
fair r t =
    let a = and_l (not (eqb r 1) && not (eqb r 2) && not (eqb r 6)) (not (eqb r 8)) t in
    let b = and_l (not (eqb r 1) && not (eqb r 2)) (not (eqb r 6)) a in
    record {
      not_1 = eqb_no {a = r} (and_l (not (eqb r 1)) (not (eqb r 2)) b);
      not_2 = eqb_no {a = r} (and_r (not (eqb r 1)) (not (eqb r 2)) b);
      not_6 = eqb_no {a = r} (and_r (not (eqb r 1) && not (eqb r 2)) (not (eqb r 6)) a);
      not_8 = eqb_no {a = r} (and_r (not (eqb r 1) && not (eqb r 2) && not (eqb r 6)) (not (eqb r 8)) t);
    }

-- ---- What is the same

same_operation_lem : (o : Operation) → T (same_operation o o)
same_operation_lem (get k) = eqb_refl k
same_operation_lem (put k v) = and (eqb k k) (eqb v v) (eqb_refl k) (eqb_refl v)

same_operations_lem : (os : List Operation) → T (same_operations os os)
same_operations_lem [] = tt
same_operations_lem (o ∷ os) = and (same_operation o o) (same_operations os os) (same_operation_lem o) (same_operations_lem os)

same_writes : (v w : Write) → v ≡ w → T (same_write v w)
unfolding same_write
same_writes v w e =
    rw e (and (eqb w.client w.client && eqb w.number w.number) (same_operations w.operations w.operations)
    (and (eqb w.client w.client) (eqb w.number w.number) (eqb_refl w.client) (eqb_refl w.number)) (same_operations_lem w.operations))

-- ---- Reads fit

gather_fits : (rs : List Read) (xs : List Placed) (see : ℕ → Option ℕ) → rs ≡ gather xs see → T (B.fits rs xs)
gather_fits rs xs see e = rw (e, gather_places xs see) (same_refl (get_places xs))

-- ---- A shard's part is the shard's own, and a touched shard is one of m

keep_every : (ok : ℕ → Bool) (xs : List Placed) → T (every (λ x. ok (key_of x.operation)) (keep ok xs))
keep_every ok [] = tt
keep_every ok (x ∷ xs) =
    by (λ (l : List Placed). T (every (λ y. ok (key_of y.operation)) l)) (ok (key_of x.operation)) (λ t. and (ok (key_of x.operation)) _ t (keep_every ok xs)) (λ t. keep_every ok xs)

touched_low : (m j : ℕ) (os : List Operation) → 1 ≤ m → T (touches m j os) → j ≤ m
unfolding shard_of
touched_low m j [] h t = absurd t
touched_low m j (o ∷ os) h t = insert_cases j (shard_of m (key_of o)) (touched m os) t (λ e. let d = eqb→eq j (shard_of m (key_of o)) e in let x = mod-lt (key_of o) h in omega arith) (touched_low m j os h)

-- ---- An entry of the first log was invoked so

of_client_lem : (ws : List Write) (ind : ℕ) (w : Write) → at ws ind ≡ some w → (p : ℕ) × (at (of_client w.client ws) p ≡ some w)
of_client_lem [] ind w a = nothing a
of_client_lem (v ∷ ws) zero w a =
    let d : v ≡ w = cc in
    (0, rw (if_yes (eqb v.client w.client) (v ∷ of_client w.client ws) (of_client w.client ws) (rw d (eqb_refl w.client))) a)
of_client_lem (v ∷ ws) (suc ind) w a =
    let r = of_client_lem ws ind w a in
    by (λ (l : List Write). (p : ℕ) × (at l p ≡ some w)) (eqb v.client w.client) (λ t. (suc r.0, r.1)) (λ t. r)

entry_invoked : (past : List (List Operation)) (ws : List Write) (ind : ℕ) (w : Write) → Under (of_client w.client ws) (invocations w.client 0 past) → at ws ind ≡ some w
    → at past w.number ≡ some w.operations
entry_invoked past ws ind w u a =
    let c = of_client_lem ws ind w a in
    let i = invoked_at w.client 0 past c.0 w (u c.0 w c.1) in
    let e : w.number ≡ c.0 = i.number ∙ omega arith in
    rw e i.operations

-- ---- The next entry of a log that begins the first has its client's next number

client_append : (c : ℕ) (s t : List Write) → of_client c (s ++ t) ≡ of_client c s ++ of_client c t
client_append c [] t = refl
client_append c (w ∷ s) t = rw (client_append c s t) (go (eqb w.client c))
  where
    go : (b : Bool) → (If b then w ∷ (of_client c s ++ of_client c t) else of_client c s ++ of_client c t) ≡ (If b then w ∷ of_client c s else of_client c s) ++ of_client c t
    go true = unfold If◌then◌else◌ in refl
    go false = unfold If◌then◌else◌ in refl

counted_next : (k : ℕ) (s : List Write) (w : Write) (t : List Write) → Counted k (s ++ (w ∷ t)) → w.number ≡ k + length s
counted_next k [] w t h = h.0 ∙ omega arith
counted_next k (v ∷ s) w t h = counted_next (suc k) s w t h.1 ∙ omega arith

counted_first : (k : ℕ) (s t : List Write) → Counted k (s ++ t) → Counted k s
counted_first k [] t h = tt
counted_first k (v ∷ s) t h = (h.0, counted_first (suc k) s t h.1)

next_number_lem : (ws G : List Write) (w : Write) → Counted 0 (of_client w.client G) → Under ws G → at G (length ws) ≡ some w → w.number ≡ B.next_number w.client ws
next_number_lem ws G w h u a =
    let one = under_prefix (snoc ws w) G (under_snoc ws G w u a) in
    let c = w.client in
    let split : of_client c G ≡ of_client c ws ++ (w ∷ of_client c one.rest) =
    ap (of_client c) (sym one.whole) ∙ (client_append c (snoc ws w) one.rest ∙ (ap (λ (l : List Write). l ++ of_client c one.rest) (client_yes c w ws (eqb_refl c))
    ∙ append_assoc (of_client c ws) (w ∷ []) (of_client c one.rest))) in
    let k = rw split at h in
    let a = counted_next 0 (of_client c ws) w (of_client c one.rest) k in
    let b = next_counts c ws (counted_first 0 (of_client c ws) (w ∷ of_client c one.rest) k) in
    omega arith

-- ---- Boards

abbrev Fine : {State : Type 0} → Outcome State → Type 0
Fine o = Expected o.answer

fine_refused : {State : Type 0} (r : ℕ) (s : State) → Expected r → Fine (refuse r s)
unfolding refuse
fine_refused r s x = x

fine_taken : {State : Type 0} (s : State) (fs : List Frame) → Fine (taken s fs)
unfolding taken
fine_taken s fs = fair done tt

-- an entry that stands among the writes
entry_at_lem : (log : List B.Entry) (ind : ℕ) (w : Write) → at (B.writes log) ind ≡ some w → (e : B.Entry) × (at log ind ≡ some e) × (e.write ≡ w)
entry_at_lem [] ind w a = nothing a
entry_at_lem (e ∷ log) zero w a = (e, refl, cc)
entry_at_lem (e ∷ log) (suc ind) w a = entry_at_lem log ind w a

module _ (b : B.Board) where
  held_fine : (ind : ℕ) (w : Write) (ack : ℕ) → at (B.writes b.log) ind ≡ some w → Fine (B.serve_held b ind w ack (at b.log ind))
  unfolding B.serve_held
  held_fine ind w ack a =
      let e = entry_at_lem b.log ind w a in
      rw e.1 (by Fine _ (λ t. absurd (T_not (same_write e.0.write w) (same_writes e.0.write w e.2) t)) (λ t. fine_taken _ _))

  submit_fine : (past : List (List Operation)) (w : Write) (ack : ℕ) → Under (of_client w.client (B.writes b.log)) (invocations w.client 0 past)
      → at past w.number ≡ some w.operations → Fine (B.submit_step b w ack)
  unfolding B.submit_step B.serve_found B.serve_new
  submit_fine past w ack u r =
      by Fine _ (λ t. fine_refused below_floor b (fair 3 tt)) λ t.
      by Fine _ (λ t. fine_refused too_early b (fair 4 tt)) λ t.
      by Fine _ (λ t. known (ltb→lt w.number _ t)) λ t.
      by Fine _ (λ t. fine_refused log_full b (fair 5 tt)) (λ t. fine_taken _ _)
    where
      ws : List Write
      ws = B.writes b.log

      known : w.number < B.next_number w.client ws → Fine (B.serve_found b w ack (B.find w.client w.number ws))
      known l =
          let h = firsts_counted w.client past ws u in
          let s = found w.client w.number ws h l in
          let v = s.write in
          let i : at past v.number ≡ some v.operations = entry_invoked past ws s.ind v (rw s.client u) s.there in
          let o : some v.operations ≡ some w.operations = sym i ∙ (ap (at past) s.number ∙ r) in
          let p : v.operations ≡ w.operations = cc in
          let c = s.client in
          let k = s.number in
          let e : v ≡ w = λ t. record { client = c t; number = k t; operations = p t } in
          rw (find_stands w.client w.number ws h l) (held_fine s.ind w ack (s.there ∙ ap some e))

  forward_fine : (G : List Write) (ind : ℕ) (w : Write) (ack : ℕ) → Counted 0 (of_client w.client G) → Under (B.writes b.log) G → at G ind ≡ some w → Fine (B.forward_step b ind w ack)
  unfolding B.forward_step B.serve_new
  forward_fine G ind w ack h u a =
      by Fine _ (λ t. fine_refused too_early b (fair 4 tt)) λ early.
      by Fine _ (λ t. known (ltb→lt ind (length b.log) t)) λ late.
      by Fine _ (λ t. absurd (T_not (eqb w.number next) (yes_eqb (fresh (nltb→le _ _ early) (nltb→le _ _ late))) t)) (λ t. fine_taken _ _)
    where
      next : ℕ
      next = B.next_number w.client (B.writes b.log)

      same_length : length (B.writes b.log) ≡ length b.log
      same_length = length-map b.log (λ (e : B.Entry). e.write)

      known : ind < length b.log → Fine (B.serve_held b ind w ack (at b.log ind))
      known l =
          let x = at_some (B.writes b.log) ind (rw same_length l) in
          let y : at G ind ≡ some x.0 = u ind x.0 x.1 in
          let z : x.0 ≡ w = cc in
          held_fine ind w ack (x.1 ∙ ap some z)

      fresh : ind ≤ length b.log → length b.log ≤ ind → w.number ≡ next
      fresh x y = let k : ind ≡ length (B.writes b.log) = omega (arith, same_length) in next_number_lem (B.writes b.log) G w h u (rw k at a)

  notif_fine : (j ind : ℕ) (rs : List Read) (w : Write) (see : ℕ → Option ℕ) → at (B.writes b.log) ind ≡ some w → rs ≡ gather (on_shard b.m j w.operations) see
      → Fine (B.exec_notif_step b j ind rs (at b.log ind))
  unfolding B.exec_notif_step
  notif_fine j ind rs w see a g =
      let e = entry_at_lem b.log ind w a in
      let f : T (B.fits rs (on_shard b.m j e.0.write.operations)) = rw e.2 (gather_fits rs (on_shard b.m j w.operations) see g) in
      rw e.1 (by Fine _ (λ t. fine_refused too_late b (fair 7 tt)) λ t.
      by Fine _ (λ t. absurd (T_not (B.fits rs (on_shard b.m j e.0.write.operations)) f t)) (λ t. fine_taken _ _))

  executed_fine : (ind : ℕ) (rs : List Read) (w : Write) (see : ℕ → Option ℕ) → at (B.writes b.log) ind ≡ some w → rs ≡ gather (placed 0 w.operations) see
      → Fine (B.executed_step b ind rs (at b.log ind))
  unfolding B.executed_step
  executed_fine ind rs w see a g =
      let e = entry_at_lem b.log ind w a in
      let f : T (B.fits rs (placed 0 e.0.write.operations)) = rw e.2 (gather_fits rs (placed 0 w.operations) see g) in
      rw e.1 (by Fine _ (λ t. fine_refused too_late b (fair 7 tt)) λ t.
      by Fine _ (λ t. absurd (T_not (B.fits rs (placed 0 e.0.write.operations)) f t)) (λ t. fine_taken _ _))

-- ---- The receiver is the right one

through_below : (last : Option ℕ) (ind : ℕ) → through last ≤ ind → T (below last ind)
through_below none ind h = tt
through_below (some p) ind h = yes_ltb h

module _ (n m : ℕ) (w : World rules) (k : Known n m w) where
  abbrev L : Logs
  L = logs_of (entries_of w.boards)

  up : (i j : ℕ) → 1 ≤ i → i ≤ j → Under (L j) (L i)
  up = further_up L k.good.core.chain

  board_fine : (i : ℕ) (f : Frame) → T (w.boards i).started → RightTo n m L w.invoked (board i) f → Fine (B.frame_step (w.boards i) f)
  unfolding B.frame_step
  board_fine _ _ t (asked ack v r) =
      let e = (k.boards 1).on t in
      by Fine _ (λ u. submit_fine (w.boards 1) (w.invoked v.client) v ack (k.good.core.firsts v.client) r)
      (λ u. absurd (T_not (eqb (w.boards 1).own 1) (yes_eqb e.own_is) u))
  board_fine _ _ t (logged i ind ack v lo hi r) =
      let e = (k.boards (suc i)).on t in
      let later : 2 ≤ (w.boards (suc i)).own = rw e.own_is (omega arith) in
      let h = firsts_counted v.client (w.invoked v.client) (L 1) (k.good.core.firsts v.client) in
      by Fine _ (λ u. forward_fine (w.boards (suc i)) (L 1) ind v ack h (up 1 (suc i) (omega arith) (omega arith)) (up 1 i (omega arith) lo ind v r))
      (λ u. absurd (T_not (leb 2 (w.boards (suc i)).own) (yes_leb later) u))
  board_fine _ _ t (heard i j ind rs v at_tail r x g) =
      let e = (k.boards i).on t in
      let tail : (w.boards i).own ≡ (w.boards i).n = e.own_is ∙ (at_tail ∙ sym e.n_is) in
      let few : j ≤ (w.boards i).m = touched_low (w.boards i).m j v.operations ((k.boards i).sizes.setup t).0 (rw e.m_is x) in
      by Fine _ (λ u. notif_fine (w.boards i) j ind rs v (sees (L n) ind v) (rw at_tail r) (rw e.m_is g))
      (λ u. absurd (T_not (eqb (w.boards i).own (w.boards i).n && leb j (w.boards i).m) (and (eqb (w.boards i).own (w.boards i).n) (leb j (w.boards i).m) (yes_eqb tail) (yes_leb few)) u))
  board_fine _ _ t (ended i ind rs v lo hi r g) =
      let e = (k.boards i).on t in
      let before : (w.boards i).own < (w.boards i).n = rw (e.own_is, e.n_is) hi in
      by Fine _ (λ u. executed_fine (w.boards i) ind rs v (sees (L n) ind v) (up i n lo (omega arith) ind v r) g)
      (λ u. absurd (T_not (ltb (w.boards i).own (w.boards i).n) (yes_ltb before) u))

  shard_fine : (j : ℕ) (f : Frame) → T (w.shards j).started → RightTo n m L w.invoked (shard j) f → Fine (S.frame_step (w.shards j) f)
  unfolding S.frame_step S.append_step
  shard_fine _ _ t (job j ind sn xs v r x y z) =
      by Fine _ (λ u. go) (λ u. absurd (T_not (eqb j (w.shards j).own) (yes_eqb (sym ((k.shards j).own_is t))) u))
    where
      s : S.Shard
      s = w.shards j

      mine : T (S.all_mine s xs)
      mine = rw (z, (k.shards j).own_is t, (k.shards j).m_is t) (keep_every (λ key. eqb (shard_of m key) j) (placed 0 v.operations))

      later : sn ≡ suc s.ssn → T (below s.last_run ind)
      later e = through_below s.last_run ind (not_past m (L n) j s (k.good.core.groups j) ind v r x (omega arith))

      go : Fine (S.append_step s ind sn xs)
      go =
          by Fine _ (λ u. fine_refused too_late s (fair 7 tt)) λ late.
          by Fine _ (λ u. fine_refused too_early s (fair 4 tt)) λ early.
          by Fine _ (λ u. absurd (T_not (S.all_mine s xs) mine u)) λ u.
          by Fine _ (λ u. absurd (T_not (below s.last_run ind) (later (omega (arith, nltb→le, nleb→lt))) u)) (λ u. fine_taken _ _)

  session_fine : (c : ℕ) (f : Frame) → T (w.sessions c).started → RightTo n m L w.invoked (client c) f → Expected (C.frame_step (w.sessions c) f).answer
  unfolding C.frame_step C.hand_over C.decline
  session_fine _ _ t (told c number ind rs v r x y g) =
      by P _ (λ u. go (C.operations_of number s.window.outstanding) refl) (λ u. absurd (T_not (eqb c (w.sessions c).client) (yes_eqb (sym ((k.sessions c).own_is t))) u))
    where
      s : C.Session
      s = w.sessions c

      P : C.Reply → Type 0
      P o = Expected o.answer

      go : (o : Option (List Operation)) → C.operations_of number s.window.outstanding ≡ o → P (C.hand_over s number rs o)
      go none e = fair 7 tt
      go (some os) e = by P _ (λ u. absurd (T_not (B.fits rs (placed 0 os)) (rw (same_list) (gather_fits rs (placed 0 v.operations) (sees (L n) ind v) g)) u)) (λ u. fair 0 tt)
        where
          same_list : os ≡ v.operations
          same_list =
              let a = kept_operations (w.invoked c) number os s.window.outstanding (k.sessions c).outstanding e in
              let b = entry_invoked (w.invoked v.client) (L 1) ind v (k.good.core.firsts v.client) (tail_under n m w k ind v r) in
              let d : some os ≡ some v.operations = sym a ∙ rw (x, y) at b in cc

  arrive_fine : (to : Address) (bytes out : List ℕ) (f : Frame) → decode bytes ≡ some f → RightTo n m L w.invoked to f → Expected (answer_to w to bytes out)
  unfolding B.step B.read_step S.step S.read_step C.step C.read_step C.decline
  arrive_fine (board i) bytes out f d r =
      by Fine _ (λ t. fine_refused not_usable (w.boards i) (fair 11 tt)) (λ t. rw d (board_fine i f (ready (w.boards i).started _ t) r))
  arrive_fine (shard j) bytes out f d r =
      by Fine _ (λ t. fine_refused not_usable (w.shards j) (fair 11 tt)) (λ t. rw d (shard_fine j f (ready (w.shards j).started _ t) r))
  arrive_fine (client c) bytes out f d r =
      by (λ (o : C.Reply). Expected o.answer) _ (λ t. fair 11 tt) (λ t. rw d (session_fine c f (yes_of (w.sessions c).started t) r))

  pub answers_expected : (which : ℕ) (p : Packet) (out : List ℕ) → at w.sent which ≡ some p → Expected (answer_to w p.to p.bytes out)
  answers_expected which p out a =
      let x = all_at (Flies (RightTo n m L w.invoked)) w.sent which p a k.good.core.flight in
      arrive_fine p.to p.bytes out x.frame (ap decode x.bytes ∙ decode_encode x.frame x.rules) x.right
