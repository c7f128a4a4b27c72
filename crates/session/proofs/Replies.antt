-- Under Held the step on a Response means the rules' step on the session that is meant, and leaves a session that is held.
-- Assumes nothing.
use mathlib.Core.Path.{◌≡◌, refl, sym, ap, ◌∙◌}
use mathlib.Core.Bool.{not}
use mathlib.Core.Logic.{⊎_elim}
use mathlib.Core.List.{List}
use mathlib.Core.Option.{Option, none, some}
use Prim.Native.Nat.{ℕ, ◌≤◌}
use native.Mathlib.Omega.{arith}
use lib.Dec.{T, eqb, ltb}
use lib.ListN.{length}
use Rattle.rules.specs.Lists.{If◌then◌else◌}
use Rattle.rules.specs.Answers.{done, too_late, does_not_fit}
use Rattle.rules.specs.Transactions.{Operation, placed}
use Rattle.rules.specs.Frames as F
use Rattle.rules.specs.Frames.{ok_operations}
use Rattle.rules.specs.Board.{fits}
use Rattle.rules.specs.Session as R
use Rattle.rules.proofs.Lists.{if_yes, if_no, T_true, T_false, either}
use Rattle.frames.specs.declared.Item.{Item}
use Rattle.frames.specs.declared.Head.{Head}
use Rattle.frames.specs.declared.Head.TheVariants.{Bad, Submit, Forward, ShardAppend, ExecNotif, Executed, Response}
use Rattle.frames.specs.Frames.{bad_frame, read_frame}
use Rattle.frames.specs.View.{reads_of, meant, meaning, Bytes}
use Rattle.frames.proofs.Round.{enough, items_of_lem, reads}
use Rattle.frames.proofs.Meaning.{reads_mean}
use Rattle.entry.specs.Model.{fits_of}
use Rattle.window.specs.declared.Slot.{Slot}
use Rattle.window.specs.Model as W
use Rattle.window.specs.View.{view_window, slot_for}
use Rattle.window.proofs.Items.{some_operations}
use Rattle.window.proofs.Means.{kept_means, answered_means, answered_held}
use Rattle.session.specs.declared.Session.{Session}
use Rattle.session.specs.Model.{Responded, with_window, declined_of, heard_of, by_head, responded_of}
use Rattle.session.specs.View.{view_session, Held, view_reply, ReplyMeans, ResponseMeans}
use Rattle.session.proofs.Fits.{fits_means}
use Rattle.session.proofs.Means.{slot_count}

-- the code's reply beside the rules'
abbrev Hears : Responded → R.Reply → Type 0
Hears r p = ReplyMeans p r

declined_means : (s : Session) → Held s → (answer : ℕ) (r : Responded) (p : R.Reply) → r ≡ declined_of s answer → p ≡ R.decline answer (view_session s) → Hears r p
unfolding view_reply R.decline
declined_means s h answer r p e d = rw (e, d) (record { reply = refl; held = h })

module _ (s : Session) (number count : ℕ) (reads : List Item) where
  -- what is made of the slot of a number, and of the operations that the rules keep
  abbrev of_slot : Slot → Responded
  of_slot slot =
      If ltb slot.count 1 then declined_of s too_late else
      If not (fits_of slot.count slot.items count reads) then declined_of s does_not_fit else
      record { session = with_window (W.answered_of s.window number) s; reply = record { answer = done; number = number; count = count; reads = reads } }

  abbrev of_rules : Option (List Operation) → R.Reply
  of_rules o = R.hand_over (view_session s) number (reads_of count reads) o

  none_slot : of_slot W.free ≡ declined_of s 7
  unfolding If◌then◌else◌
  none_slot = refl

  none_rules : of_rules none ≡ R.decline 7 (view_session s)
  unfolding R.hand_over
  none_rules = refl

  module _ (h : Held s) (os : List Operation) (ok : T (ok_operations os)) (few : count ≤ length reads) where
    test : fits_of (slot_for number os).count (slot_for number os).items count reads ≡ fits (reads_of count reads) (placed 0 os)
    unfolding slot_for
    test = fits_means os count reads (some_operations os ok).1 few

    gone : view_session (with_window (W.answered_of s.window number) s) ≡ R.with_window (R.answered number (view_session s).window) (view_session s)
    unfolding view_session R.with_window
    gone = λ i. record { started = s.started; client = s.client; window = answered_means s.window number h.window i }

    handed : Hears
        (record { session = with_window (W.answered_of s.window number) s; reply = record { answer = done; number = number; count = count; reads = reads } })
        (record { answer = done; session = R.with_window (R.answered number (view_session s).window) (view_session s); number = number; reads = reads_of count reads })
    unfolding view_reply
    handed =
        record {
          reply = λ i. record { answer = done; session = gone i; number = number; reads = reads_of count reads };
          held = record { client = h.client; window = answered_held s.window number h.window };
        }

    over_means : Hears (of_slot (slot_for number os)) (of_rules (some os))
    unfolding R.hand_over If◌then◌else◌
    over_means =
        rw (slot_count number os ok, test)
        (either (fits (reads_of count reads) (placed 0 os)) (λ t. rw (T_true (fits (reads_of count reads) (placed 0 os)) t) handed)
        (λ t. rw (T_false (fits (reads_of count reads) (placed 0 os)) t) (declined_means s h 8 _ _ refl refl)))

  slot_means : Held s → count ≤ length reads → Hears (of_slot (W.kept_of s.window number)) (of_rules (R.operations_of number (view_window s.window).outstanding))
  slot_means h few =
      ⊎_elim (λ k. rw (k.slot, k.are) (over_means h k.operations k.ok few))
      (λ k. declined_means s h 7 _ _ (ap of_slot k.slot ∙ none_slot) (ap of_rules k.are ∙ none_rules)) (kept_means s.window number h.window)

-- "client isn't its own (kind 6)"
heard_means : (s : Session) → Held s → (client number count : ℕ) (reads : List Item) → count ≤ length reads →
    Hears (heard_of s client number count reads) (R.frame_step (view_session s) (F.response client number (reads_of count reads)))
unfolding heard_of R.frame_step view_session If◌then◌else◌
heard_means s h client number count reads few =
    either (eqb client s.client)
    (λ t. rw (T_true (eqb client s.client) t) (slot_means s number count reads h few))
    (λ t. rw (T_false (eqb client s.client) t) (declined_means s h 2 _ _ refl refl))

head_means : (s : Session) → Held s → (head : Head) (count : ℕ) (items : List Item) → count ≤ length items →
    Hears (by_head s head count items) (R.read_step (view_session s) (meant head count items))
unfolding R.read_step R.frame_step
head_means s h Bad count items few = declined_means s h 1 _ _ refl refl
head_means s h (Submit client number ack) count items few = declined_means s h 2 _ _ refl refl
head_means s h (Forward log-number client number ack) count items few = declined_means s h 2 _ _ refl refl
head_means s h (ShardAppend shard log-number sn) count items few = declined_means s h 2 _ _ refl refl
head_means s h (ExecNotif shard log-number) count items few = declined_means s h 2 _ _ refl refl
head_means s h (Executed log-number) count items few = declined_means s h 2 _ _ refl refl
head_means s h (Response client number) count items few = heard_means s h client number count items few

frame_means : (s : Session) → Held s → (bytes : List ℕ) → Bytes bytes →
    Hears (by_head s (read_frame bytes).head (read_frame bytes).list.count (read_frame bytes).list.items) (R.read_step (view_session s) (meaning (read_frame bytes)))
unfolding meaning bad_frame
frame_means s h bytes b =
    reads bytes b (λ f. Hears (by_head s f.head f.list.count f.list.items) (R.read_step (view_session s) (meant f.head f.list.count f.list.items)))
    (head_means s h Bad 0 bad_frame.list.items (omega arith)) (λ f g. head_means s h f.head f.list.count f.list.items (enough 0 f.list.count f.list.items (items_of_lem f g.right)))

same_hears : (r t : Responded) (p q : R.Reply) → r ≡ t → p ≡ q → Hears t q → Hears r p
same_hears r t p q e d m = rw (e, d) m

pub response_means : (s : Session) (bytes : List ℕ) → Held s → Bytes bytes → ResponseMeans s bytes (responded_of s bytes)
unfolding responded_of R.step view_session
response_means s bytes h b =
    either (not s.started) (λ t. declined_means s h 11 _ _ (if_yes (not s.started) _ _ t) (if_yes (not s.started) _ _ t))
    (λ t.
    same_hears _ _ _ _ (if_no (not s.started) _ _ t) (if_no (not s.started) _ _ t ∙ ap (R.read_step (view_session s)) (sym (reads_mean bytes b)))
    (frame_means s h bytes b))
