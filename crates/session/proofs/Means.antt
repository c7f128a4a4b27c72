-- Under Held each call means the rules' call on the session that is meant, and leaves a session that is held.
-- Assumes nothing.
use mathlib.Core.Path.{◌≡◌, refl, sym, ap, ◌∙◌}
use mathlib.Core.Bool.{Bool, true, false, not}
use mathlib.Core.Logic.{⊎_elim}
use mathlib.Core.List.{List, [], ◌∷◌, ◌++◌, append-nil}
use mathlib.Core.Option.{Option, none, some}
use Prim.Native.Nat.{ℕ, ◌+◌, ◌≤◌, ◌<◌}
use native.Mathlib.Omega.{arith}
use borrow.Author.Tests.{lt-ltb, le-ltb}
use lib.Dec.{T, leb, ltb, eqb, leb→le, nleb→lt, nltb→le}
use lib.ListN.{length, drop}
use Rattle.rules.specs.Lists.{If◌then◌else◌, every}
use Rattle.rules.specs.Answers.{done, breaks_rule, too_late, not_usable}
use Rattle.rules.specs.Transactions.{Operation}
use Rattle.rules.specs.Frames as F
use Rattle.rules.specs.Frames.{ok_operations, obeys, encode}
use Rattle.rules.specs.Outcomes.{Outcome, taken, refuse, unusable, sent_bytes}
use Rattle.rules.specs.Session as R
use Rattle.rules.specs.Kept.{SessionKept}
use Rattle.rules.proofs.Lists.{if_yes, if_no, and_l, T_true, T_false, either}
use Rattle.rules.proofs.Session.{invoke_good, retry_good}
use Rattle.frames.specs.declared.Head.TheVariants.{Submit}
use Rattle.frames.specs.declared.Frame.{Frame}
use Rattle.frames.specs.Frames.{frame_bytes, written_of, laid_of}
use Rattle.frames.specs.View.{operation_items, filled, meaning, record_of}
use Rattle.frames.proofs.Meaning.{recorded, record-bytes}
use Rattle.frames.proofs.Puts.{writes, lays}
use Rattle.window.specs.declared.Slot.{Slot}
use Rattle.window.specs.Model as W
use Rattle.window.specs.View.{slot_for, view_window}
use Rattle.window.proofs.Items.{some_operations}
use Rattle.window.proofs.Means.{smallest_means, kept_means, invoked_means, invoked_held, fresh_means, fresh_held, held_kept}
use Rattle.session.specs.declared.Operations.{Operations}
use Rattle.session.specs.declared.Session.{Session}
use Rattle.session.specs.Model.{started_of, ok_asked, items_of, submit_frame, Call, refusal, sending, given_of, laid_with, given, laid, with_window, taking, invoking, invoked_of, invoke_out, retrying, retried_of, retry_out}
use Rattle.session.specs.View.{view_session, Held, asked_of, Sized, view_meaning, view_call, StartMeans, SubmitMeans, InvokeMeans, RetryMeans}
use Rattle.session.proofs.Lists.{Asks, asks, not_asked}

held_session : (s : Session) → Held s → SessionKept (view_session s)
unfolding view_session
held_session s h = record { client = h.client; window = held_kept s.window h.window }

-- ---- Start

start_as : (client own : ℕ) (started : Bool) (answer : ℕ) → own ≤ 15 →
    started_of client ≡ record { session = record { window = W.fresh_window; client = own; started = started }; answer = answer } →
    R.start client ≡ record { answer = answer; state = record { started = started; client = own; window = R.empty_window }; frames = [] } → StartMeans client (started_of client)
unfolding view_session
start_as client own started answer few code rule =
    rw code
    (record {
      held = record { client = few; window = fresh_held };
      answer = sym (ap (λ (o : Outcome R.Session). o.answer) rule);
      state = (λ i. record { started = started; client = own; window = fresh_means i }) ∙ sym (ap (λ (o : Outcome R.Session). o.state) rule);
    })

pub start_means : (client : ℕ) → StartMeans client (started_of client)
unfolding started_of R.start taken refuse If◌then◌else◌
start_means client =
    either (leb client 15)
    (λ t.
    let few : client ≤ 15 = leb→le client 15 t in
    start_as client client true 0 few (rw (le-ltb 15 client few)) (rw (T_true (leb client 15) t)))
    (λ t. start_as client 0 false 11 (omega arith) (rw (lt-ltb 15 client (nleb→lt client 15 t))) (rw (T_false (leb client 15) t)))

-- ---- A frame that is sent

-- the record of a frame that obeys the rules
pub record SendsOne (out : ℕ) (f : Frame) : Type 0 where
  pub frame : F.Frame
  pub is : f ≡ record_of frame
  pub rules : T (obeys frame)
  pub few : f.list.count ≤ 4
  pub room : 68 ≤ out

abbrev pub Sends : ℕ → Option Frame → Type 0
Sends out none = Unit {0}
Sends out (some f) = SendsOne out f

module _ (s : Session) (number : ℕ) (os : List Operation) where
  -- Submit as it lies is the record of the rules' Submit
  submit_record : submit_frame s number (length os) (filled 4 (operation_items 0 os)) ≡ record_of (R.submit_of (view_session s) number os)
  unfolding submit_frame R.submit_of view_session
  submit_record = λ i. record { head = Submit s.client number (sym (smallest_means s.window) i); list = record { count = length os; items = filled 4 (operation_items 0 os) } }

  sending_means : T (obeys (R.submit_of (view_session s) number os)) →
      view_call (sending s number (length os) (filled 4 (operation_items 0 os))) ≡ taken (view_session s) (R.submit_of (view_session s) number os ∷ [])
  unfolding view_call sending taken
  sending_means t =
      λ i. record { answer = done; state = view_session s; frames = view_meaning ((ap meaning submit_record ∙ (recorded (R.submit_of (view_session s) number os) t).means) i) }

refusal_means : (s : Session) (answer : ℕ) → view_call (refusal s answer) ≡ refuse answer (view_session s)
unfolding view_call refusal refuse
refusal_means s answer = refl

-- a call of the code means an outcome of the rules, frames and all: what is sent is the record of the frame that the rules send
pub record CallMeans (out n : ℕ) (c : Call) (o : Outcome R.Session) : Type 0 where
  pub means : view_call c ≡ o
  pub number : c.number ≡ (If eqb o.answer done then n else 0)
  pub held : Held c.session
  pub sends : Sends out c.frame

refused_means : (s : Session) → Held s → (out n answer : ℕ) → T (not (eqb answer done)) → (c : Call) (o : Outcome R.Session) → c ≡ refusal s answer →
    o ≡ refuse answer (view_session s) → CallMeans out n c o
unfolding refusal refuse
refused_means s h out n answer not_done c o e d =
    rw (e, d) (record { means = refusal_means s answer; number = sym (if_no (eqb answer done) n 0 not_done); held = h; sends = tt })

sent_means : (s : Session) → Held s → (out number : ℕ) (os : List Operation) → T (ok_operations os) → (c : Call) (o : Outcome R.Session) →
    c ≡ sending s number (length os) (filled 4 (operation_items 0 os)) → o ≡ taken (view_session s) (R.submit_of (view_session s) number os ∷ []) → T (every obeys o.frames) → 68 ≤ out → CallMeans out number c o
unfolding sending taken submit_frame
sent_means s h out number os ok c o e d good room =
    let g : F.Frame = R.submit_of (view_session s) number os in
    let t : T (obeys g) = and_l (obeys g) true (rw d at good) in
    rw (e, d) (record { means = sending_means s number os t; number = sym (if_yes (eqb done done) number 0 tt); held = h; sends = record { frame = g; is = submit_record s number os; rules = t; few = (some_operations os ok).1; room = room } })

-- ---- Invoke

-- the session that an invocation leaves
abbrev after : Session → List Operation → Session
after s os = with_window (W.storing s.window.next (slot_for s.window.next os) (s.window.next + 1) s.window) s

after_means : (s : Session) (os : List Operation) → Held s → T (ok_operations os) → s.window.next < W.smallest_of s.window + 8 →
    view_session (after s os) ≡ R.with_window (R.invoked os (view_session s).window) (view_session s)
unfolding view_session R.with_window
after_means s os h t room = λ i. record { started = s.started; client = s.client; window = invoked_means s.window os h.window t room i }

module _ (s : Session) (os : List Operation) where
  -- what the window's invoke makes of the operations
  call : Call
  call = taking s (length os) (filled 4 (operation_items 0 os)) (W.invoked_of s.window (length os) (filled 4 (operation_items 0 os)))

  call_used_up : T (leb 65535 s.window.next) → call ≡ refusal s 10
  unfolding call taking W.invoked_of If◌then◌else◌
  call_used_up t = rw (T_true (leb 65535 s.window.next) t)

  module _ (few : T (not (leb 65535 s.window.next))) where
    call_full : T (leb (W.smallest_of s.window + 8) s.window.next) → call ≡ refusal s 9
    unfolding call taking W.invoked_of If◌then◌else◌
    call_full t = rw (T_false (leb 65535 s.window.next) few, T_true (leb (W.smallest_of s.window + 8) s.window.next) t)

    call_goes : T (not (leb (W.smallest_of s.window + 8) s.window.next)) → call ≡ sending (after s os) s.window.next (length os) (filled 4 (operation_items 0 os))
    unfolding call taking W.invoked_of slot_for If◌then◌else◌
    call_goes t = rw (T_false (leb 65535 s.window.next) few, T_false (leb (W.smallest_of s.window + 8) s.window.next) t)

-- the rules' invocation, by the same tests
module _ (s : Session) (os : List Operation) (h : Held s) (ok : T (ok_operations os)) where
  step_used_up : T (leb 65535 s.window.next) → R.invoke_step (view_session s) (some os) ≡ refuse 10 (view_session s)
  unfolding R.invoke_step view_session view_window If◌then◌else◌
  step_used_up t = rw (T_true (ok_operations os) ok, T_true (leb 65535 s.window.next) t)

  module _ (few : T (not (leb 65535 s.window.next))) where
    step_full : T (leb (W.smallest_of s.window + 8) s.window.next) → R.invoke_step (view_session s) (some os) ≡ refuse 9 (view_session s)
    unfolding R.invoke_step view_session view_window If◌then◌else◌
    step_full t =
        rw (T_true (ok_operations os) ok, T_false (leb 65535 s.window.next) few, smallest_means s.window, T_true (leb (W.smallest_of s.window + 8) s.window.next) t)

    step_went : T (not (leb (W.smallest_of s.window + 8) s.window.next)) →
        R.invoke_step (view_session s) (some os)
        ≡ taken (R.with_window (R.invoked os (view_session s).window) (view_session s))
        (R.submit_of (R.with_window (R.invoked os (view_session s).window) (view_session s)) s.window.next os ∷ [])
    unfolding R.invoke_step view_session view_window If◌then◌else◌
    step_went t =
        rw (T_true (ok_operations os) ok, T_false (leb 65535 s.window.next) few, smallest_means s.window, T_false (leb (W.smallest_of s.window + 8) s.window.next) t)

    step_goes : T (not (leb (W.smallest_of s.window + 8) s.window.next)) →
        R.invoke_step (view_session s) (some os) ≡ taken (view_session (after s os)) (R.submit_of (view_session (after s os)) s.window.next os ∷ [])
    step_goes t =
        let room : s.window.next < W.smallest_of s.window + 8 = nleb→lt (W.smallest_of s.window + 8) s.window.next t in
        step_went t ∙ ap (λ (x : R.Session). taken x (R.submit_of x s.window.next os ∷ [])) (sym (after_means s os h ok room))

  -- both, and the session is held again
  call_means : (out : ℕ) → 68 ≤ out → T (every obeys (R.invoke_step (view_session s) (some os)).frames) → CallMeans out s.window.next (call s os) (R.invoke_step (view_session s) (some os))
  call_means out enough good =
      either (leb 65535 s.window.next)
      (λ t. refused_means s h out s.window.next 10 tt _ _ (call_used_up s os t) (step_used_up t))
      (λ few.
      either (leb (W.smallest_of s.window + 8) s.window.next)
      (λ t. refused_means s h out s.window.next 9 tt _ _ (call_full s os few t) (step_full few t))
      (λ t.
      let room : s.window.next < W.smallest_of s.window + 8 = nleb→lt (W.smallest_of s.window + 8) s.window.next t in
      let next : s.window.next < 65535 = nleb→lt 65535 s.window.next few in
      sent_means (after s os) (record { client = h.client; window = invoked_held s.window os h.window ok next room }) out s.window.next os ok _ _
      (call_goes s os few t) (step_goes few t) good enough))

-- a list that is refused by the code's test is refused by the rules
wrong_list : (s : R.Session) (o : Option (List Operation)) → ((os : List Operation) → o ≡ some os → T (not (ok_operations os))) → R.invoke_step s o ≡ refuse 1 s
unfolding R.invoke_step
wrong_list s none w = refl
wrong_list s (some os) w = if_yes (not (ok_operations os)) _ _ (w os refl)

room_of : (started : Bool) (out : ℕ) → T (not (unusable started out)) → 68 ≤ out
room_of true out t = nltb→le out 68 t
room_of false out t = absurd t

-- the list as it was kept
kept_call : (s : Session) (ops : Operations) (a : Asks ops) →
    taking s ops.count (items_of ops) (W.invoked_of s.window ops.count (items_of ops)) ≡ call s a.operations
unfolding call
kept_call s ops a = λ i. taking s (a.count i) (a.items i) (W.invoked_of s.window (a.count i) (a.items i))

same_means : (out n : ℕ) (c d : Call) (o p : Outcome R.Session) → c ≡ d → o ≡ p → CallMeans out n d p → CallMeans out n c o
same_means out n c d o p e q m = rw (e, q) m

module _ (s : Session) (ops : Operations) (out : ℕ) (h : Held s) (z : Sized ops) where
  pub invoking_means : CallMeans out s.window.next (invoking s ops out) (R.invoke (view_session s) (asked_of ops) out)
  unfolding invoking R.invoke view_session
  invoking_means =
      let good = (invoke_good (view_session s) (asked_of ops) out (held_session s h)).frames.rules in
      let window = W.invoked_of s.window ops.count (items_of ops) in
      either (unusable s.started out)
      (λ t. refused_means s h out s.window.next 11 tt _ _ (if_yes (unusable s.started out) _ _ t) (if_yes (unusable s.started out) _ _ t))
      (λ u.
      let code = if_no (unusable s.started out) (refusal s not_usable) (If not (ok_asked ops) then refusal s breaks_rule else taking s ops.count (items_of ops) window) u in
      let rule = if_no (unusable s.started out) (refuse not_usable (view_session s)) (R.invoke_step (view_session s) (R.all_meant (asked_of ops))) u in
      either (ok_asked ops)
      (λ t.
      let a = asks ops z t in
      let os : List Operation = a.operations in
      let passed : T (not (not (ok_asked ops))) = rw (T_true (ok_asked ops) t) tt in
      let rule' = rule ∙ ap (R.invoke_step (view_session s)) a.are in
      same_means out s.window.next _ (call s os) _ (R.invoke_step (view_session s) (some os))
      (code ∙ if_no (not (ok_asked ops)) (refusal s breaks_rule) _ passed ∙ kept_call s ops a) rule'
      (call_means s os h a.ok out (room_of s.started out u) (rw rule' at good)))
      (λ t.
      refused_means s h out s.window.next 1 tt _ _ (code ∙ if_yes (not (ok_asked ops)) (refusal s breaks_rule) _ t)
      (rule ∙ wrong_list (view_session s) (R.all_meant (asked_of ops)) (not_asked ops z t))))

-- ---- Retry

-- what is sent again of a slot
abbrev again : Session → ℕ → Slot → Call
again s number slot = If ltb slot.count 1 then refusal s too_late else sending s number slot.count slot.items

-- a slot with operations is not empty
pub slot_count : (number : ℕ) (os : List Operation) → T (ok_operations os) → ltb (slot_for number os).count 1 ≡ false
unfolding slot_for
slot_count number os ok = le-ltb (length os) 1 (some_operations os ok).0

again_sends : (s : Session) (number : ℕ) (os : List Operation) → T (ok_operations os) →
    again s number (slot_for number os) ≡ sending s number (length os) (filled 4 (operation_items 0 os))
unfolding slot_for If◌then◌else◌
again_sends s number os ok = rw (slot_count number os ok)

again_none : (s : Session) (number : ℕ) → again s number W.free ≡ refusal s 7
unfolding If◌then◌else◌
again_none s number = refl

rule_sends : (s : R.Session) (number : ℕ) (os : List Operation) → R.send_again s number (some os) ≡ taken s (R.submit_of s number os ∷ [])
unfolding R.send_again
rule_sends s number os = refl

rule_none : (s : R.Session) (number : ℕ) → R.send_again s number none ≡ refuse 7 s
unfolding R.send_again
rule_none s number = refl

module _ (s : Session) (number out : ℕ) (h : Held s) where
  pub retrying_means : CallMeans out number (retrying s number out) (R.retry (view_session s) number out)
  unfolding retrying R.retry view_session
  retrying_means =
      let good = (retry_good (view_session s) number out (held_session s h)).frames.rules in
      either (unusable s.started out)
      (λ t. refused_means s h out number 11 tt _ _ (if_yes (unusable s.started out) _ _ t) (if_yes (unusable s.started out) _ _ t))
      (λ u.
      let code = if_no (unusable s.started out) (refusal s not_usable) (again s number (W.kept_of s.window number)) u in
      let rule = if_no (unusable s.started out) (refuse not_usable (view_session s)) (R.send_again (view_session s) number (R.operations_of number (view_window s.window).outstanding)) u in
      ⊎_elim
      (λ k.
      let os : List Operation = k.operations in
      sent_means s h out number os k.ok _ _ (code ∙ ap (again s number) k.slot ∙ again_sends s number os k.ok)
      (rule ∙ ap (R.send_again (view_session s) number) k.are ∙ rule_sends (view_session s) number os) good (room_of s.started out u))
      (λ k.
      refused_means s h out number 7 tt _ _ (code ∙ ap (again s number) k.slot ∙ again_none s number)
      (rule ∙ ap (R.send_again (view_session s) number) k.are ∙ rule_none (view_session s) number)) (kept_means s.window number h.window))

-- ---- What is given of a call

-- a frame that obeys the rules is written as its bytes, where there is room for them
module _ (out : List ℕ) (f : Frame) (x : SendsOne (length out) f) (few : length (encode x.frame) ≤ 68) where
  sent_bytes_lem : frame_bytes f ≡ encode x.frame
  sent_bytes_lem = ap frame_bytes x.is ∙ record-bytes x.frame x.rules

  sent_fits : length (frame_bytes f) ≤ length out
  sent_fits = let e = ap length sent_bytes_lem in omega (arith, few, x.room)

  sent_count : written_of f (length out) ≡ length (encode x.frame)
  sent_count = writes f (length out) x.few sent_fits ∙ ap length sent_bytes_lem

  sent_laid : laid_of f out ≡ encode x.frame ++ drop (length (encode x.frame)) out
  sent_laid = lays f out x.few sent_fits ∙ ap (λ (l : List ℕ). l ++ drop (length l) out) sent_bytes_lem

alone : (g : F.Frame) → sent_bytes (g ∷ []) ≡ encode g
alone g = append-nil (encode g)

given_none : (s : Session) (answer number n : ℕ) (out : List ℕ) (o : Outcome R.Session) → view_call (record { answer = answer; session = s; number = number; frame = none }) ≡ o →
    number ≡ (If eqb o.answer done then n else 0) → Held s →
    SubmitMeans o n out (record { session = s; sent = record { answer = answer; number = number; frames = 0; bytes = 0 } }) out
unfolding view_call
given_none s answer number n out o e k h =
    let q : o ≡ record { answer = answer; state = view_session s; frames = [] } = sym e in
    let named : number ≡ (If eqb answer done then n else 0) = rw q at k in
    rw q (record { held = h; answer = refl; state = refl; number = named; frames = refl; bytes = refl; written = refl })

given_some : (s : Session) (answer number n : ℕ) (f : Frame) (out : List ℕ) (o : Outcome R.Session) →
    view_call (record { answer = answer; session = s; number = number; frame = some f }) ≡ o → number ≡ (If eqb o.answer done then n else 0) →
    Held s → SendsOne (length out) f → length (sent_bytes o.frames) ≤ 68 →
    SubmitMeans o n out (record { session = s; sent = record { answer = answer; number = number; frames = 1; bytes = written_of f (length out) } }) (laid_of f out)
unfolding view_call
given_some s answer number n f out o e k h x few =
    let g : F.Frame = x.frame in
    let is : meaning f ≡ some g = ap meaning x.is ∙ (recorded g x.rules).means in
    let q : o ≡ record { answer = answer; state = view_session s; frames = g ∷ [] } = sym e ∙ (λ i. record { answer = answer; state = view_session s; frames = view_meaning (is i) }) in
    let small : length (encode g) ≤ 68 = rw (← alone g) (rw q at few) in
    let named : number ≡ (If eqb answer done then n else 0) = rw q at k in
    rw q
    (record {
      held = h;
      answer = refl;
      state = refl;
      number = named;
      frames = refl;
      bytes = sent_count out f x small ∙ ap length (sym (alone g));
      written = sent_laid out f x small ∙ ap (λ (l : List ℕ). l ++ drop (length l) out) (sym (alone g));
    })

given_means : (c : Call) (n : ℕ) (out : List ℕ) (o : Outcome R.Session) → CallMeans (length out) n c o → length (sent_bytes o.frames) ≤ 68 → SubmitMeans o n out (given c out) (laid c out)
unfolding given laid
given_means c n out o m few = go c.frame m.sends m.means
  where
    go : (f : Option Frame) → Sends (length out) f → view_call (record { answer = c.answer; session = c.session; number = c.number; frame = f }) ≡ o →
        SubmitMeans o n out (given_of c (length out) f) (laid_with f out)
    go none x e = given_none c.session c.answer c.number n out o e m.number m.held
    go (some f) x e = given_some c.session c.answer c.number n f out o e m.number m.held x few

-- ---- The calls

pub invoke_means : (s : Session) (ops : Operations) (out : List ℕ) → Held s → Sized ops → InvokeMeans s ops out (invoked_of s ops out) (invoke_out s ops out)
unfolding invoked_of invoke_out
invoke_means s ops out h z =
    given_means (invoking s ops (length out)) s.window.next out (R.invoke (view_session s) (asked_of ops) (length out)) (invoking_means s ops (length out) h z)
    (invoke_good (view_session s) (asked_of ops) (length out) (held_session s h)).frames.room

pub retry_means : (s : Session) (number : ℕ) (out : List ℕ) → Held s → RetryMeans s number out (retried_of s number out) (retry_out s number out)
unfolding retried_of retry_out
retry_means s number out h =
    given_means (retrying s number (length out)) number out (R.retry (view_session s) number (length out)) (retrying_means s number (length out) h)
    (retry_good (view_session s) number (length out) (held_session s h)).frames.room
