-- What a board or a shard group does with a frame, and what a session does with a call or a frame. Nothing here knows a world. Demand 3 needs the
-- tests of the rules split here alone; which answers are given is Refusals' matter.
-- Assumes nothing.
use mathlib.Core.Path.{◌≡◌, refl}
use mathlib.Core.List.{List, [], ◌∷◌}
use mathlib.Core.Option.{Option, none, some}
use Prim.Native.Nat.{ℕ, ◌≤◌}
use native.Mathlib.Omega.{arith}
use lib.Dec.{T, leb→le, nleb→lt, nltb→le, eqb→eq}
use Rattle.rules.specs.Lists.{If◌then◌else◌, at, has}
use Rattle.rules.specs.Answers.{done, breaks_rule, not_for_me, too_late, does_not_fit, window_full, numbers_used_up, not_usable}
use Rattle.rules.specs.Transactions.{Operation, Write, Placed, Read, touched}
use Rattle.rules.specs.Frames.{Frame, submit, forward, shard_append, exec_notif, executed, response}
use Rattle.rules.specs.Outcomes.{Outcome, taken, refuse}
use Rattle.rules.specs.Board.{Entry, Board, is_exe, writes, find, raise_floor, settle, backward, onward, serve_new, serve_held, serve_found, submit_step, forward_step, heard_from, exec_notif_step, finished, executed_step, frame_step}
use Rattle.rules.specs.Shard as S
use Rattle.rules.specs.Session as C
use Rattle.rules.proofs.Lists.{by, yes_of}
use Rattle.rules.proofs.Steps.{ready}
use Rattle.safety.specs.Machine.{From, from_client, from_board, Ran, stayed, went}

-- ---- Boards

-- Submit and Forward carry a write and an ack
pub data Carries : Frame → Write → ℕ → Type 0 where
  by_submit : (w : Write) (ack : ℕ) → Carries (submit w ack) w ack
  by_forward : (ind : ℕ) (w : Write) (ack : ℕ) → Carries (forward ind w ack) w ack

pub data Deed (b : Board) : Frame → Outcome Board → Type 0 where
  refused : (r : ℕ) (f : Frame) → Deed b f (refuse r b)
  -- a held entry is served once more
  held : (f : Frame) (w : Write) (ind ack : ℕ) (e : Entry) → Carries f w ack → at b.log ind ≡ some e
      → Deed b f (taken (raise_floor w.client ack b) (onward (raise_floor w.client ack b) ind e))
  -- a new write is appended
  new : (f : Frame) (w : Write) (ack : ℕ) → Carries f w ack → From b.own b.log w f → Deed b f (serve_new b w ack)
  -- one more shard has answered
  heard : (j ind : ℕ) (rs : List Read) (e : Entry) → at b.log ind ≡ some e → T (has j e.remaining)
      → Deed b (exec_notif j ind rs)
      (taken (settle ind (heard_from j rs e) (j ∷ []) b) (If is_exe (heard_from j rs e).status then backward b ind (heard_from j rs e) ∷ [] else []))
  -- all have, says the board behind
  ended : (ind : ℕ) (rs : List Read) (e : Entry) → at b.log ind ≡ some e
      → Deed b (executed ind rs) (taken (settle ind (finished rs e) (touched b.m e.write.operations) b) (backward b ind (finished rs e) ∷ []))

module _ (b : Board) where
  held_deed : (f : Frame) (ind : ℕ) (w : Write) (ack : ℕ) (o : Option Entry) → Carries f w ack → at b.log ind ≡ o → Deed b f (serve_held b ind w ack o)
  unfolding serve_held
  held_deed f ind w ack none c a = refused _ f
  held_deed f ind w ack (some e) c a = by (Deed b f) _ (λ t. refused _ f) (λ t. held f w ind ack e c a)

  found_deed : (f : Frame) (w : Write) (ack : ℕ) (o : Option ℕ) → Carries f w ack → Deed b f (serve_found b w ack o)
  unfolding serve_found
  found_deed f w ack none c = refused _ f
  found_deed f w ack (some ind) c = held_deed f ind w ack (at b.log ind) c refl

  submit_deed : (w : Write) (ack : ℕ) → b.own ≡ 1 → Deed b (submit w ack) (submit_step b w ack)
  unfolding submit_step
  submit_deed w ack h =
      by (Deed b (submit w ack)) _ (λ t. refused _ _) λ t.
      by (Deed b (submit w ack)) _ (λ t. refused _ _) λ early.
      by (Deed b (submit w ack)) _ (λ t. found_deed (submit w ack) w ack (find w.client w.number (writes b.log)) (by_submit w ack)) λ late.
      by (Deed b (submit w ack)) _ (λ t. refused _ _) λ t.
      new (submit w ack) w ack (by_submit w ack) (from_client ack h (omega (arith, nltb→le)))

  forward_deed : (ind : ℕ) (w : Write) (ack : ℕ) → 2 ≤ b.own → Deed b (forward ind w ack) (forward_step b ind w ack)
  unfolding forward_step
  forward_deed ind w ack h =
      by (Deed b (forward ind w ack)) _ (λ t. refused _ _) λ early.
      by (Deed b (forward ind w ack)) _ (λ t. held_deed (forward ind w ack) ind w ack (at b.log ind) (by_forward ind w ack) refl) λ late.
      by (Deed b (forward ind w ack)) _ (λ t. refused _ _) λ t.
      new (forward ind w ack) w ack (by_forward ind w ack) (from_board ind ack h (omega (arith, nltb→le)))

  notif_deed : (j ind : ℕ) (rs : List Read) (o : Option Entry) → at b.log ind ≡ o → Deed b (exec_notif j ind rs) (exec_notif_step b j ind rs o)
  unfolding exec_notif_step
  notif_deed j ind rs none a = refused _ _
  notif_deed j ind rs (some e) a =
      by (Deed b (exec_notif j ind rs)) _ (λ t. refused _ _) λ t.
      by (Deed b (exec_notif j ind rs)) _ (λ u. refused _ _) (λ u. heard j ind rs e a (yes_of (has j e.remaining) t))

  executed_deed : (ind : ℕ) (rs : List Read) (o : Option Entry) → at b.log ind ≡ o → Deed b (executed ind rs) (executed_step b ind rs o)
  unfolding executed_step
  executed_deed ind rs none a = refused _ _
  executed_deed ind rs (some e) a =
      by (Deed b (executed ind rs)) _ (λ t. refused _ _) λ t.
      by (Deed b (executed ind rs)) _ (λ u. refused _ _) (λ u. ended ind rs e a)

  pub frame_deed : (f : Frame) → Deed b f (frame_step b f)
  unfolding frame_step
  frame_deed (submit w ack) = by (Deed b (submit w ack)) _ (λ t. submit_deed w ack (eqb→eq b.own 1 t)) (λ t. refused _ _)
  frame_deed (forward ind w ack) = by (Deed b (forward ind w ack)) _ (λ t. forward_deed ind w ack (leb→le 2 b.own t)) (λ t. refused _ _)
  frame_deed (shard_append j ind sn xs) = refused _ _
  frame_deed (exec_notif j ind rs) = by (Deed b (exec_notif j ind rs)) _ (λ t. notif_deed j ind rs (at b.log ind) refl) (λ t. refused _ _)
  frame_deed (executed ind rs) = by (Deed b (executed ind rs)) _ (λ t. executed_deed ind rs (at b.log ind) refl) (λ t. refused _ _)
  frame_deed (response c k rs) = refused _ _

-- ---- Shard groups

-- the next job is run, or nothing is done
pub record ShardLaw (s : S.Shard) (f : Frame) (o : Outcome S.Shard) : Type 0 where
  pub ran : Ran s.own s f o.state o.frames
  pub m : o.state.m ≡ s.m
  pub own : o.state.own ≡ s.own

still : (number : ℕ) (s : S.Shard) (f : Frame) → ShardLaw s f (refuse number s)
unfolding refuse
still number s f = record { ran = stayed f; m = refl; own = refl }

append_law : (s : S.Shard) (ind sn : ℕ) (xs : List Placed) → ShardLaw s (shard_append s.own ind sn xs) (S.append_step s ind sn xs)
unfolding S.append_step taken S.run
append_law s ind sn xs =
    by (ShardLaw s (shard_append s.own ind sn xs)) _ (λ t. still _ s (shard_append s.own ind sn xs)) λ late.
    by (ShardLaw s (shard_append s.own ind sn xs)) _ (λ t. still _ s (shard_append s.own ind sn xs)) λ early.
    by (ShardLaw s (shard_append s.own ind sn xs)) _ (λ t. still _ s (shard_append s.own ind sn xs)) λ t.
    by (ShardLaw s (shard_append s.own ind sn xs)) _ (λ t. still _ s (shard_append s.own ind sn xs)) λ t.
    record { ran = went ind sn xs (omega (arith, nltb→le, nleb→lt)); m = refl; own = refl }

pub shard_law : (s : S.Shard) (f : Frame) → ShardLaw s f (S.frame_step s f)
unfolding S.frame_step
shard_law s (submit w ack) = still _ s (submit w ack)
shard_law s (forward ind w ack) = still _ s (forward ind w ack)
shard_law s (shard_append j ind sn xs) =
    by (ShardLaw s (shard_append j ind sn xs)) _ (λ t. let e : j ≡ s.own = eqb→eq j s.own t in rw e (append_law s ind sn xs)) (λ t. still _ s (shard_append j ind sn xs))
shard_law s (exec_notif j ind rs) = still _ s (exec_notif j ind rs)
shard_law s (executed ind rs) = still _ s (executed ind rs)
shard_law s (response c k rs) = still _ s (response c k rs)

-- ---- Sessions

abbrev pub after_invoke : List Operation → C.Session → C.Session
after_invoke os s = C.with_window (C.invoked os s.window) s

-- an invocation is refused, or the operations that are meant go out under the next number
pub data Invokes (s : C.Session) (list : List C.Asked) : Outcome C.Session → Type 0 where
  not_invoked : (r : ℕ) → 1 ≤ r → Invokes s list (refuse r s)
  invokes : (os : List Operation) → C.all_meant list ≡ some os → T s.started
      → Invokes s list (taken (after_invoke os s) (C.submit_of (after_invoke os s) s.window.next os ∷ []))

pub invoke_law : (s : C.Session) (list : List C.Asked) (out : ℕ) → Invokes s list (C.invoke s list out)
unfolding C.invoke C.invoke_step
invoke_law s list out =
    by (Invokes s list) _ (λ t. not_invoked not_usable (omega arith)) (λ t. go (ready s.started _ t) (C.all_meant list) refl)
  where
    go : T s.started → (o : Option (List Operation)) → C.all_meant list ≡ o → Invokes s list (C.invoke_step s o)
    go u none e = not_invoked breaks_rule (omega arith)
    go u (some os) e =
        by (Invokes s list) _ (λ t. not_invoked breaks_rule (omega arith)) λ t.
        by (Invokes s list) _ (λ t. not_invoked numbers_used_up (omega arith)) λ t.
        by (Invokes s list) _ (λ t. not_invoked window_full (omega arith)) λ t.
        invokes os e u

-- a retry is refused, or the kept operations of an outstanding number go out again
pub data Retries (s : C.Session) (number : ℕ) : Outcome C.Session → Type 0 where
  not_retried : (r : ℕ) → 1 ≤ r → Retries s number (refuse r s)
  retries : (os : List Operation) → T s.started → C.operations_of number s.window.outstanding ≡ some os
      → Retries s number (taken s (C.submit_of s number os ∷ []))

pub retry_law : (s : C.Session) (number out : ℕ) → Retries s number (C.retry s number out)
unfolding C.retry C.send_again
retry_law s number out =
    by (Retries s number) _ (λ t. not_retried not_usable (omega arith)) (λ t. go (ready s.started _ t) (C.operations_of number s.window.outstanding) refl)
  where
    go : T s.started → (o : Option (List Operation)) → C.operations_of number s.window.outstanding ≡ o → Retries s number (C.send_again s number o)
    go t none e = not_retried too_late (omega arith)
    go t (some os) e = retries os t e

-- a frame at a session is declined, or it is a Response to an outstanding number and its reads are handed over
pub data Hears (s : C.Session) : Frame → C.Reply → Type 0 where
  not_heard : (f : Frame) (r : ℕ) → 1 ≤ r → Hears s f (C.decline r s)
  hears : (k : ℕ) (rs : List Read) → Hears s (response s.client k rs) (record { answer = done; session = C.with_window (C.answered k s.window) s; number = k; reads = rs })

hand_law : (s : C.Session) (k : ℕ) (rs : List Read) (o : Option (List Operation)) → Hears s (response s.client k rs) (C.hand_over s k rs o)
unfolding C.hand_over
hand_law s k rs none = not_heard _ too_late (omega arith)
hand_law s k rs (some os) = by (Hears s (response s.client k rs)) _ (λ t. not_heard _ does_not_fit (omega arith)) (λ t. hears k rs)

pub response_law : (s : C.Session) (f : Frame) → Hears s f (C.frame_step s f)
unfolding C.frame_step
response_law s (submit w ack) = not_heard _ not_for_me (omega arith)
response_law s (forward ind w ack) = not_heard _ not_for_me (omega arith)
response_law s (shard_append j ind sn xs) = not_heard _ not_for_me (omega arith)
response_law s (exec_notif j ind rs) = not_heard _ not_for_me (omega arith)
response_law s (executed ind rs) = not_heard _ not_for_me (omega arith)
response_law s (response c k rs) =
    by (Hears s (response c k rs)) _ (λ t. let e : c ≡ s.client = eqb→eq c s.client t in rw e (hand_law s k rs (C.operations_of k s.window.outstanding)))
    (λ t. not_heard _ not_for_me (omega arith))
