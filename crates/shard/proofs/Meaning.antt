-- What is answered and run is what the rules' step on the group's meaning answers and runs: the same tests in the same order.
-- Assumes nothing.
use mathlib.Core.Path.{◌≡◌, refl, sym, ap}
use mathlib.Core.Bool.{Bool, true, false, not, ◌&&◌}
use mathlib.Core.List.{List, [], ◌∷◌, map}
use mathlib.Core.Option.{some}
use Prim.Native.Nat.{ℕ, zero, suc, ◌+◌, ◌≤◌}
use native.Mathlib.Numerals.{add-one}
use native.Mathlib.Omega.{arith}
use lib.Dec.{T, leb, eqb, leb→le}
use lib.ListN.{length, take, length-map}
use borrow.Author.Tests.{ltb-true, ltb-false, lt-ltb, le-ltb, ne_eqb}
use Rattle.rules.specs.Lists.{If◌then◌else◌, ◌<?◌, ◌≤?◌, ◌=?◌, within, every, below}
use Rattle.rules.specs.Transactions.{Operation, get, put, Placed, key_of, shard_of, reads_of}
use Rattle.rules.specs.Frames as F
use Rattle.rules.specs.Frames.{ok_ind, ok_value, ok_operation, ok_placed, rising, obeys}
use Rattle.rules.specs.Answers.{breaks_rule, not_for_me, too_early, too_late, does_not_fit}
use Rattle.rules.specs.Outcomes.{taken, refuse}
use Rattle.rules.specs.Outcomes as O
use Rattle.rules.specs.Shard as S
use Rattle.rules.proofs.Lists.{and_l, and_r}
use Rattle.frames.specs.declared.Item.{Item}
use Rattle.frames.specs.declared.Head.{Head}
use Rattle.frames.specs.declared.Head.TheVariants.{Bad, Submit, Forward, ShardAppend, ExecNotif, Executed, Response}
use Rattle.frames.specs.View.{view_last, as_operation, as_placed, meant, record_of}
use Rattle.frames.proofs.Slots.{key_of_lem}
use Rattle.shard.specs.declared.Shard.{Shard}
use Rattle.shard.specs.Model.{Verdict, mine, all_mine, refused, judge_append, judge_head, no_reads, exec_notif, Outcome, after, settled}
use Rattle.shard.specs.View.{view_store, view_shard, reads_record, Held}
use Rattle.shard.proofs.Runs.{Keys, ran_means}

-- ---- The tests

-- with at least one group, the rules' test of a list is the code's
mine_same : (m own : ℕ) (xs : List Item) → 1 ≤ m → every (λ x. shard_of m (key_of x.operation) =? own) (map as_placed xs) ≡ all_mine m own xs
unfolding shard_of mine
mine_same m own [] h = refl
mine_same m own (x ∷ xs) h =
    let n : eqb m 0 ≡ false = ne_eqb m 0 (λ e. omega arith) in
    let e : key_of (as_operation x) ≡ x.key = key_of_lem x in
    rw (n, e, mine_same m own xs h)

-- "log number not above the last one run"
last_same : (last ind : ℕ) → not (below (view_last last) ind) ≡ (ind <? last)
last_same zero ind = sym (le-ltb ind 0 (omega arith))
last_same (suc q) ind = at (q <? ind) refl
  where
    at : (t : Bool) → t ≡ (q <? ind) → not (q <? ind) ≡ (ind <? suc q)
    at true e = let h = ltb-true q ind (sym e) in rw (← e) (sym (le-ltb ind (suc q) h))
    at false e = let h = ltb-false q ind (sym e) in rw (← e) (sym (lt-ltb ind (suc q) (omega arith)))

-- ---- The outcome

-- the answer, the group as it then stands, and the frames sent
pub record Meant (o : Outcome) (r : O.Outcome S.Shard) : Type 0 where
  pub answer : o.answer ≡ r.answer
  pub state : view_shard o.shard ≡ r.state
  pub frames : o.frames ≡ map record_of r.frames

-- two choices by one test
pub both : {A B : Type 0} (P : A → B → Type 0) (t : Bool) {x y : A} {u w : B} → (T t → P x u) → (T (not t) → P y w) → P (If t then x else y) (If t then u else w)
unfolding If◌then◌else◌
both P true f g = f tt
both P false f g = g tt

-- the keys of operations that obey the rules
keys : (xs : List Item) → T (every (λ x. ok_operation x.operation) (map as_placed xs)) → Keys xs
keys [] t = tt
keys (x ∷ xs) t = (one, keys xs (and_r (ok_operation (as_operation x)) (every (λ y. ok_operation y.operation) (map as_placed xs)) t))
  where
    small : (o : Operation) → T (ok_operation o) → key_of o ≤ 255
    small (get key) u = leb→le key 255 u
    small (put key value) u = leb→le key 255 (and_l (leb key 255) (ok_value value) u)

    one : x.key ≤ 255
    one = rw (key_of_lem x) at (small (as_operation x) (and_l (ok_operation (as_operation x)) (every (λ y. ok_operation y.operation) (map as_placed xs)) t))

module _ (s : Shard) where
  abbrev pub Says : List Item → Verdict → O.Outcome S.Shard → Type 0
  Says xs v r = Meant (settled s xs v) r

  pub refused_means : (xs : List Item) (answer : ℕ) → (answer =? 0) ≡ false → Says xs (refused answer) (refuse answer (view_shard s))
  unfolding settled If◌then◌else◌ refuse
  refused_means xs answer e = rw e (record { answer = refl; state = refl; frames = refl })

module _ (s : Shard) (h : Held s) (groups : 1 ≤ s.m) where
  ran_says : (xs : List Item) (ind sn : ℕ) → Keys xs → length xs ≤ 4
      → Says s xs (record { answer = 0; log_number = ind; sn = sn })
      (taken (S.run ind sn (map as_placed xs) (view_shard s)) (F.exec_notif s.own ind (reads_of ind (view_store s.cells) (map as_placed xs)) ∷ []))
  unfolding settled If◌then◌else◌ taken after S.run view_shard exec_notif reads_record
  ran_says xs ind sn k few =
      let r = ran_means ind xs (record { cells = s.cells; reads = no_reads }) (view_store s.cells) [] k (omega arith) (record { size = h.size; store = refl; reads = refl }) in
      record {
        answer = refl;
        state = λ i. record { started = s.started; m = s.m; own = s.own; store = r.store i; ssn = sn; last_run = ap view_last (add-one ind) i };
        frames = λ i. exec_notif s.own ind (r.reads i) ∷ [];
      }

  append_means : (xs : List Item) (ind sn : ℕ) → T (ok_placed (map as_placed xs))
      → Says s xs (judge_append s.m s.own s.ssn s.last_run xs ind sn) (S.append_step (view_shard s) ind sn (map as_placed xs))
  unfolding judge_append S.append_step view_shard ok_placed
  append_means xs ind sn ok =
      let front = and_l (within 1 4 (length (map as_placed xs)) && rising 0 (map (λ (x : Placed). x.place) (map as_placed xs))) (every (λ x. ok_operation x.operation) (map as_placed xs)) ok in
      let each = and_r (within 1 4 (length (map as_placed xs)) && rising 0 (map (λ (x : Placed). x.place) (map as_placed xs))) (every (λ x. ok_operation x.operation) (map as_placed xs)) ok in
      let size = and_l (within 1 4 (length (map as_placed xs))) (rising 0 (map (λ (x : Placed). x.place) (map as_placed xs))) front in
      let few = leb→le (length (map as_placed xs)) 4 (and_r (leb 1 (length (map as_placed xs))) (leb (length (map as_placed xs)) 4) size) in
      let n = length-map xs as_placed in
      rw (mine_same s.m s.own xs groups, last_same s.last_run ind)
      (both (Says s xs) (sn ≤? s.ssn) (λ t. refused_means s xs too_late refl) λ t.
      both (Says s xs) (s.ssn + 1 <? sn) (λ t. refused_means s xs too_early refl) λ t.
      both (Says s xs) (not (all_mine s.m s.own xs)) (λ t. refused_means s xs does_not_fit refl) λ t.
      both (Says s xs) (ind <? s.last_run) (λ t. refused_means s xs does_not_fit refl) λ t.
      ran_says xs ind sn (keys xs each) (omega arith))

  -- a frame that was read, and what it means
  pub head_means : (f : Head) (n : ℕ) (xs : List Item) → ((g : F.Frame) → meant f n xs ≡ some g → T (obeys g))
      → Says s (take n xs) (judge_head s.m s.own s.ssn s.last_run (take n xs) f) (S.read_step (view_shard s) (meant f n xs))
  unfolding judge_head S.read_step S.frame_step view_shard obeys
  head_means Bad n xs ok = refused_means s (take n xs) breaks_rule refl
  head_means (Submit client number ack) n xs ok = refused_means s (take n xs) not_for_me refl
  head_means (Forward ind client number ack) n xs ok = refused_means s (take n xs) not_for_me refl
  head_means (ShardAppend j ind sn) n xs ok =
      both (Says s (take n xs)) (j =? s.own)
      (λ t.
      append_means (take n xs) ind sn
      (and_r (within 1 8 j && ok_ind ind && within 1 256 sn) (ok_placed (map as_placed (take n xs))) (ok (F.shard_append j ind sn (map as_placed (take n xs))) refl)))
      (λ t. refused_means s (take n xs) not_for_me refl)
  head_means (ExecNotif j ind) n xs ok = refused_means s (take n xs) not_for_me refl
  head_means (Executed ind) n xs ok = refused_means s (take n xs) not_for_me refl
  head_means (Response client number) n xs ok = refused_means s (take n xs) not_for_me refl
