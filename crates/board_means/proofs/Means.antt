-- A start is held and means the rules' start; a step of a board that is held, on any bytes and any out area, is held again and means the rules'
-- step: answer, board, counts, and every byte of the out area. And the promise admits one outcome only.
-- Assumes nothing.
use mathlib.Core.Path.{◌≡◌, refl, sym, ap, ◌∙◌, fun_ext}
use mathlib.Core.Bool.{Bool, true, false, not, ◌&&◌, ◌||◌}
use mathlib.Core.List.{List, [], ◌++◌}
use Prim.Native.Nat.{ℕ, zero, suc, ◌-◌, ◌≤◌, ◌<◌}
use native.Mathlib.Omega.{arith}
use lib.Dec.{T, leb, ltb, eqb, leb→le, nltb→le}
use lib.ListN.{length, get_or, take, drop, replicate, length-replicate}
use Rattle.rules.specs.Lists.{If◌then◌else◌, within}
use Rattle.rules.specs.Frames.{submit, forward, exec_notif, executed, ok_ind, ok_reads, ok_write, obeys, decode}
use Rattle.rules.specs.Outcomes as O
use Rattle.rules.specs.Outcomes.{taken, refuse, unusable}
use Rattle.rules.specs.Queue as Q
use Rattle.rules.specs.Queue.{empty_queue}
use Rattle.rules.specs.Board as B
use Rattle.rules.proofs.Lists.{by, if_yes, if_no, and_l, and_r, nothing}
use Rattle.rules.proofs.Frames.{WriteRules, write_rules}
use Rattle.rules.proofs.Steps.{ready}
use Rattle.rules.proofs.Kept.{step_kept, start_kept}
use Rattle.rules.proofs.Numbers.{step_numbers, start_numbers}
use Rattle.rules.proofs.Obeys.{step_good, start_good}
use Rattle.frames.specs.declared.Item.{Item}
use Rattle.frames.specs.declared.Frame.{Frame}
use Rattle.frames.specs.declared.Head.{Head}
use Rattle.frames.specs.declared.Head.TheVariants.{Bad, Submit, Forward, ShardAppend, ExecNotif, Executed, Response}
use Rattle.frames.specs.Frames.{valid, bad_frame, read_frame}
use Rattle.frames.specs.View.{reads_of, CanonFrame, meant, meaning, Bytes}
use Rattle.frames.proofs.Round.{items_of_lem, reads}
use Rattle.frames.proofs.Meaning.{valid_obeys, reads_mean}
use Rattle.entry.specs.Model.{no_entry}
use Rattle.entry.proofs.Entries.{the_write}
use Rattle.queue.specs.Model.{no_queue}
use Rattle.queue.specs.View.{view_queue, view_queues, blank_queue}
use Rattle.queue.proofs.Determined.{none_tidy}
use Rattle.send.specs.Model.{laid}
use Rattle.verdict.specs.Model.{next_of, refuse_of, judge_of}
use Rattle.board.specs.declared.Board.{Board}
use Rattle.board.specs.Model as M
use Rattle.board.specs.Model.{Started, Stepped, empty_board, in_range, start_of, name_of, position_of, place_of, board_after, taken_step, judged_step, verdict_of, frame_step, outcome, step_of, out_of}
use Rattle.board_means.specs.View.{view_board, Columns, Held, StartMeans, StepMeans}
use Rattle.board_means.proofs.Judged.{nothing_sent, Lifts, Judged, refusing, either, submit_means, forward_means, exec_notif_means, executed_means}

-- the same test on both sides
both_ways : {A : Type 0} {B : Type 0} (R : A → B → Type 0) {x y : A} {p q : B} (t u : Bool) → t ≡ u → (T t → R x p) → (T (not t) → R y q)
    → R (If t then x else y) (If u then p else q)
both_ways R true u e f g = rw (← e) (unfold If◌then◌else◌ in (f tt))
both_ways R false u e f g = rw (← e) (unfold If◌then◌else◌ in (g tt))

-- ---- A step on a frame

module _ (b : Board) (held : Held b) (started : T b.started) (lo : 1 ≤ b.m) (hi : b.m ≤ 8) (room : ℕ) (wide : 68 ≤ room) where
  abbrev place : Head → ℕ
  place h = place_of h b.next b.names b.len

  abbrev Means : Head → ℕ → List Item → Type 0
  Means h n xs = Lifts (frame_step b (record { head = h; list = record { count = n; items = xs } }) (place h) room) (B.read_step (view_board b) (meant h n xs))

  not_for_me_lem : (h : Head) → Judged b held started lo hi room wide (place h) (refuse_of 2) (refuse 2 (view_board b))
  not_for_me_lem h = refusing b held started lo hi room wide (place h) 2 tt

  write_of_lem : (client number ack n : ℕ) (xs : List Item) → T (ok_write (the_write client number n xs) ack) → WriteRules (the_write client number n xs) ack
  write_of_lem client number ack n xs t = write_rules (the_write client number n xs) ack t

  means : (h : Head) (n : ℕ) (xs : List Item) → T (valid (record { head = h; list = record { count = n; items = xs } })) → CanonFrame (record { head = h; list = record { count = n; items = xs } }) → Means h n xs
  unfolding frame_step verdict_of judge_of B.read_step B.frame_step place_of meaning
  means Bad n xs v cn = (refusing b held started lo hi room wide b.len 1 tt).means
  means (Submit client number ack) n xs v cn =
      let g : T (ok_write (the_write client number n xs) ack) = unfold obeys in (valid_obeys (record { head = Submit client number ack; list = record { count = n; items = xs } }) (submit (the_write client number n xs) ack) v cn refl) in
      let w = write_of_lem client number ack n xs g in
      (either b held started lo hi room wide (place (Submit client number ack)) (eqb b.own 1) (eqb (view_board b).own 1) (unfold view_board in refl)
      (λ t.
      submit_means b held started lo hi room wide (place (Submit client number ack)) client number ack n xs (let k = w.client in omega arith) (let k = w.number in omega arith) cn.0
      (items_of_lem (record { head = Submit client number ack; list = record { count = n; items = xs } }) v) cn.1 w
      (λ late. if_yes (ltb number (next_of b.next client)) (position_of (name_of client number) (take b.len b.names)) b.len late)
      (λ late. if_no (ltb number (next_of b.next client)) (position_of (name_of client number) (take b.len b.names)) b.len late))
      (λ t. not_for_me_lem (Submit client number ack))).means
  means (Forward ind client number ack) n xs v cn =
      let g : T (ok_ind ind && ok_write (the_write client number n xs) ack)
      = unfold obeys in (valid_obeys (record { head = Forward ind client number ack; list = record { count = n; items = xs } }) (forward ind (the_write client number n xs) ack) v cn refl) in
      let w = write_of_lem client number ack n xs (and_r (ok_ind ind) (ok_write (the_write client number n xs) ack) g) in
      (either b held started lo hi room wide ind (leb 2 b.own) (leb 2 (view_board b).own) (unfold view_board in refl)
      (λ t.
      forward_means b held started lo hi room wide ind client number ack n xs (leb→le ind 255 (and_l (ok_ind ind) (ok_write (the_write client number n xs) ack) g)) (let k = w.client in omega arith) cn.0
      (items_of_lem (record { head = Forward ind client number ack; list = record { count = n; items = xs } }) v) cn.1 w)
      (λ t. not_for_me_lem (Forward ind client number ack))).means
  means (ShardAppend j ind sn) n xs v cn = (not_for_me_lem (ShardAppend j ind sn)).means
  means (ExecNotif j ind) n xs v cn =
      let g : T (within 1 8 j && ok_ind ind && ok_reads (reads_of n xs)) = unfold obeys in (valid_obeys (record { head = ExecNotif j ind; list = record { count = n; items = xs } }) (exec_notif j ind (reads_of n xs)) v cn refl) in
      let w = and_l (within 1 8 j) (ok_ind ind) (and_l (within 1 8 j && ok_ind ind) (ok_reads (reads_of n xs)) g) in
      (either b held started lo hi room wide ind (eqb b.own b.n && leb j b.m) (eqb (view_board b).own (view_board b).n && leb j (view_board b).m) (unfold view_board in refl)
      (λ t.
      exec_notif_means b held started lo hi room wide j ind n xs (leb→le 1 j (and_l (leb 1 j) (leb j 8) w)) (leb→le j 8 (and_r (leb 1 j) (leb j 8) w))
      (record { slots = cn.0; items = items_of_lem (record { head = ExecNotif j ind; list = record { count = n; items = xs } }) v; canon = cn.1; obeys = and_r (within 1 8 j && ok_ind ind) (ok_reads (reads_of n xs)) g }))
      (λ t. not_for_me_lem (ExecNotif j ind))).means
  means (Executed ind) n xs v cn =
      let g : T (ok_ind ind && ok_reads (reads_of n xs)) = unfold obeys in (valid_obeys (record { head = Executed ind; list = record { count = n; items = xs } }) (executed ind (reads_of n xs)) v cn refl) in
      (either b held started lo hi room wide ind (ltb b.own b.n) (ltb (view_board b).own (view_board b).n) (unfold view_board in refl)
      (λ t.
      executed_means b held started lo hi room wide ind n xs
      (record { slots = cn.0; items = items_of_lem (record { head = Executed ind; list = record { count = n; items = xs } }) v; canon = cn.1; obeys = and_r (ok_ind ind) (ok_reads (reads_of n xs)) g }))
      (λ t. not_for_me_lem (Executed ind))).means
  means (Response client number) n xs v cn = (not_for_me_lem (Response client number)).means

  -- whatever the bytes are
  bytes_mean : (s : List ℕ) → Bytes s → Lifts (frame_step b (read_frame s) (place (read_frame s).head) room) (B.read_step (view_board b) (decode s))
  bytes_mean s bytes =
      rw (← (reads_mean s bytes))
      (reads s bytes (λ (f : Frame). Lifts (frame_step b f (place f.head) room) (B.read_step (view_board b) (meaning f))) bad (λ f g. good f g.right g.canon))
    where
      good : (f : Frame) → T (valid f) → CanonFrame f → Lifts (frame_step b f (place f.head) room) (B.read_step (view_board b) (meaning f))
      good f v cn = unfold meaning in (means f.head f.list.count f.list.items v cn)

      bad : Lifts (frame_step b bad_frame (place bad_frame.head) room) (B.read_step (view_board b) (meaning bad_frame))
      bad = unfold bad_frame frame_step verdict_of judge_of B.read_step meaning place_of in (refusing b held started lo hi room wide b.len 1 tt).means

-- ---- What stays of a board

-- n, m, the own number, and whether it was started
record SameSetup (b after : Board) : Type 0 where
  n : after.n ≡ b.n
  m : after.m ≡ b.m
  own : after.own ≡ b.own
  started : after.started ≡ b.started

as_it_was : (b : Board) → SameSetup b b
as_it_was b = record { n = refl; m = refl; own = refl; started = refl }

same_setup : (b : Board) (s : List ℕ) (room : ℕ) → SameSetup b (outcome b s room).board
unfolding outcome frame_step judged_step
same_setup b s room =
    by (λ (o : M.Outcome). SameSetup b o.board) _ (λ t. as_it_was b)
    (λ t. by (λ (o : M.Outcome). SameSetup b o.board) _ (λ u. unfold taken_step board_after in (record { n = refl; m = refl; own = refl; started = refl })) (λ u. as_it_was b))

-- ---- The step

module _ (b : Board) (held : Held b) (s : List ℕ) (bytes : Bytes s) where
  outcome_means : (room : ℕ) → Lifts (outcome b s room) (B.step (view_board b) s room)
  unfolding outcome B.step
  outcome_means room =
      both_ways Lifts (unusable b.started room) (unusable (view_board b).started room) (unfold view_board in refl) (λ t. unfold refuse in (record { columns = held.columns; answer = refl; state = refl; frames = nothing_sent }))
      (λ usable.
      let on = ready b.started (ltb room 68) usable in
      let w = held.setup on in
      let m = and_r (within 2 8 b.n) (within 1 8 b.m) (and_l (within 2 8 b.n && within 1 8 b.m) (within 1 b.n b.own) w) in
      bytes_mean b held on (leb→le 1 b.m (and_l (leb 1 b.m) (leb b.m 8) m)) (leb→le b.m 8 (and_r (leb 1 b.m) (leb b.m 8) m)) room (wide_enough b.started usable) s bytes)
    where
      wide_enough : (t : Bool) → T (not (not t || ltb room 68)) → 68 ≤ room
      wide_enough true x = nltb→le room 68 x
      wide_enough false x = absurd x

  outcome_held : (room : ℕ) → Held (outcome b s room).board
  outcome_held room =
      let l = outcome_means room in
      let same = same_setup b s room in
      record {
        columns = l.columns;
        setup = λ t. rw (same.n, same.m, same.own) (held.setup (rw same.started at t));
        kept = rw l.state (step_kept (view_board b) s room held.kept);
        sizes = rw l.state (step_good (view_board b) held.sizes held.kept s room).state;
        numbers = rw l.state (step_numbers (view_board b) s room held.numbers);
      }

  pub step_means : (out : List ℕ) → StepMeans b s out (step_of b s (length out)) (out_of b s out)
  unfolding step_of out_of laid
  step_means out =
      let l = outcome_means (length out) in
      record {
        held = outcome_held (length out);
        answer = l.answer;
        state = l.state;
        frames = l.frames.count;
        bytes = ap length l.frames.bytes;
        written = ap (λ (x : List ℕ). x ++ drop (length x) out) l.frames.bytes;
      }

-- ---- The start

same_each : {A : Type 0} (n i : ℕ) (x d : A) → i < n → get_or (replicate n x) i d ≡ x
same_each zero i x d h = absurd (omega arith)
same_each (suc n) zero x d h = refl
same_each (suc n) (suc i) x d h = same_each n i x d (omega arith)

zeros : (n i : ℕ) → ◌≡◌ {A = ℕ} (get_or (replicate n 0) i 0) 0
zeros zero i = refl
zeros (suc n) zero = refl
zeros (suc n) (suc i) = zeros n i

empty_queue_lem : (i : ℕ) → view_queue (get_or (replicate 8 no_queue) i blank_queue) ≡ empty_queue
empty_queue_lem i = go 8 i
  where
    go : (n i : ℕ) → view_queue (get_or (replicate n no_queue) i blank_queue) ≡ empty_queue
    go zero i = unfold view_queue in refl
    go (suc n) zero = unfold view_queue in refl
    go (suc n) (suc i) = go n i

empty_view : (n m own : ℕ) (started : Bool) → view_board (empty_board n m own started) ≡ B.empty_board started n m own
unfolding view_board empty_board B.empty_board
empty_view n m own started =
    λ i.
    record {
      started = started;
      n = n;
      m = m;
      own = own;
      log = [];
      floor = fun_ext (λ (c : ℕ). zeros 16 c) i;
      queue = fun_ext none i;
    }
  where
    none : (j : ℕ) → view_queues (replicate 8 no_queue) j ≡ empty_queue
    none j = unfold view_queues in (by (λ (q : Q.Queue). q ≡ empty_queue) (within 1 8 j) (λ t. empty_queue_lem (j - 1)) (λ t. refl))

empty_columns : (n m own : ℕ) (started : Bool) → Columns (empty_board n m own started)
unfolding empty_board
empty_columns n m own started =
    record {
      slots = length-replicate 256 no_entry;
      few = omega arith;
      entries = λ ind e a. nothing a;
      log_rest = refl;
      name_slots = length-replicate {A = ℕ} 256 0;
      names = refl;
      name_rest = refl;
      mask_slots = length-replicate {A = ℕ} 256 0;
      masks = refl;
      mask_rest = refl;
      clients = length-replicate {A = ℕ} 16 0;
      next = λ c. zeros 16 c;
      floors = length-replicate {A = ℕ} 16 0;
      queues = record { eight = length-replicate 8 no_queue; each = λ i l. rw (same_each 8 i no_queue blank_queue l) (record { slots = length-replicate {A = ℕ} 256 0; few = omega arith }) };
      tidy = none_tidy 8;
    }

record Begins (r : Started) (o : O.Outcome B.Board) : Type 0 where
  columns : Columns r.board
  setup : T r.board.started → T (within 2 8 r.board.n && within 1 8 r.board.m && within 1 r.board.n r.board.own)
  answer : r.answer ≡ o.answer
  state : view_board r.board ≡ o.state

begins : (n m own : ℕ) → Begins (start_of n m own) (B.start n m own)
unfolding start_of in_range B.start
begins n m own =
    both_ways Begins (within 2 8 n && within 1 8 m && within 1 n own) (within 2 8 n && within 1 8 m && within 1 n own) refl
    (λ t. record { columns = empty_columns n m own true; setup = unfold empty_board in (λ s. t); answer = unfold taken in refl; state = unfold taken in (empty_view n m own true) })
    (λ t. record { columns = empty_columns 0 0 0 false; setup = unfold empty_board in (λ s. absurd s); answer = unfold refuse in refl; state = unfold refuse in (empty_view 0 0 0 false) })

pub start_means : (n m own : ℕ) → StartMeans n m own (start_of n m own)
start_means n m own =
    let k = begins n m own in
    record {
      held = record {
        columns = k.columns;
        setup = k.setup;
        kept = rw k.state (start_kept n m own);
        sizes = rw k.state (start_good n m own);
        numbers = rw k.state (start_numbers n m own);
      };
      answer = k.answer;
      state = k.state;
    }

-- ---- What the promises come to

pub start_promised : (n m own : ℕ) (r : Started) → r ≡ start_of n m own → StartMeans n m own r
start_promised n m own r p = rw p (start_means n m own)

pub step_promised : (b : Board) (s before : List ℕ) → Bytes s → (r : Stepped) (out : List ℕ) → (r ≡ step_of b s (length before)) × (out ≡ out_of b s before) → Held b → StepMeans b s before r out
step_promised b s before bytes r out p held = rw (p.0, p.1) (step_means b held s bytes before)

-- ---- One outcome

-- any two outcomes that the promise of a step admits are one
pub only_one : (b : Board) (s before : List ℕ) (r r' : Stepped) (out out' : List ℕ) → (r ≡ step_of b s (length before)) × (out ≡ out_of b s before)
    → (r' ≡ step_of b s (length before)) × (out' ≡ out_of b s before) → (r ≡ r') × (out ≡ out')
only_one b s before r r' out out' p q = (p.0 ∙ sym q.0, p.1 ∙ sym q.1)
