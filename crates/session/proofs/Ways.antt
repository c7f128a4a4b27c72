-- One law for each way out of a call, from what its callees ensure. Assumes nothing.
use mathlib.Core.Path.{◌≡◌, refl, sym, ap, ◌∙◌}
use mathlib.Core.Bool.{true, false, not, ◌&&◌}
use mathlib.Core.List.{List, [], ◌∷◌}
use mathlib.Core.Logic.{⊎_elim}
use Prim.Native.Nat.{ℕ, ◌≤◌, ◌<◌}
use borrow.Author.Tests.{le-leb, lt-leb, ne_eqb}
use native.Mathlib.Omega.{arith}
use types.Run.{OneOf}
use denote.Enum.Declared.{tag_of}
use lib.Dec.{leb}
use lib.ListN.{length}
use Rattle.std.proofs.Common.{Some, None, Ok, Err}
use Rattle.rules.specs.Lists.{If◌then◌else◌}
use Rattle.rules.specs.Answers.{breaks_rule}
use Rattle.rules.specs.Outcomes.{unusable}
use Rattle.refusal.specs.declared.Refusal.{Refusal}
use Rattle.refusal.specs.Number.{number_of}
use Rattle.refusal.proofs.Tells.{number_not_done}
use Rattle.frames.specs.declared.Item.{Item}
use Rattle.frames.specs.declared.Items.{Items}
use Rattle.frames.specs.declared.Head.{Head}
use Rattle.frames.specs.declared.Head.TheVariants.{Bad, Submit, Forward, ShardAppend, ExecNotif, Executed, Response}
use Rattle.frames.specs.contracts.Head as H
use Rattle.frames.specs.declared.Frame.{Frame}
use Rattle.frames.specs.Frames.{ok_items, read_frame, laid_of}
use Rattle.window.specs.declared.Window.{Window}
use Rattle.window.specs.Model.{smallest_of}
use Rattle.window.specs.Model as W
use Rattle.window.proofs.Kept.{list_none, list_some}
use Rattle.session.specs.declared.Session.{Session}
use Rattle.session.specs.declared.Operations.{Operations}
use Rattle.session.specs.declared.Submission.{Submission}
use Rattle.session.specs.Model.{list_of, ok_asked, Call, refusal, sending, given, laid, sent_shown, submitted_shown, with_window, taking, invoking, retrying, submit_frame, sent_of, declined_of, by_head, responded_of}

-- ---- What is given of a call

module _ (s : Session) (out : List ℕ) (c : Call) where
  pub call_refused : (r : Refusal) → c ≡ refusal s (number_of r) → (submitted_shown s (Err r) ≡ given c out) × (out ≡ laid c out)
  unfolding given laid refusal
  call_refused r h = (ap (λ (d : Call). given d out) (sym h), ap (λ (d : Call). laid d out) (sym h))

  pub call_sent : (number count : ℕ) (items : List Item) (x : Submission) (after : List ℕ) → c ≡ sending s number count items →
      (sent_shown (Ok x) ≡ sent_of (submit_frame s number count items) number (length out)) × (after ≡ laid_of (submit_frame s number count items) out) →
      (submitted_shown s (Ok x) ≡ given c out) × (after ≡ laid c out)
  unfolding given laid sending sent_of
  call_sent number count items x after h e =
      ((λ i. record { session = s; sent = e.0 i }) ∙ ap (λ (d : Call). given d out) (sym h), e.1 ∙ ap (λ (d : Call). laid d out) (sym h))

-- ---- Invoke

module _ (s : Session) (ops : Operations) (out : ℕ) where
  pub invoke_unusable : unusable s.started out ≡ true → invoking s ops out ≡ refusal s 11
  unfolding invoking If◌then◌else◌
  invoke_unusable u = rw u

  -- what is made of a list
  abbrev of_list : Items → Call
  of_list list =
      If not (leb 1 list.count && ok_items list.count list.items) then refusal s breaks_rule else
      taking s list.count list.items (W.invoked_of s.window list.count list.items)

  module _ (u : unusable s.started out ≡ false) (list : Items) (e : list ≡ list_of ops) where
    listed : invoking s ops out ≡ of_list list
    unfolding invoking ok_asked list_of If◌then◌else◌
    listed = rw u (ap of_list (sym e))

    pub invoke_none : list.count < 1 → invoking s ops out ≡ refusal s 1
    unfolding If◌then◌else◌
    invoke_none l = listed ∙ rw (lt-leb 1 list.count l)

    pub invoke_wrong : 1 ≤ list.count → ok_items list.count list.items ≡ false → invoking s ops out ≡ refusal s 1
    unfolding If◌then◌else◌
    invoke_wrong l w = listed ∙ rw (le-leb 1 list.count l, w)

    module _ (l : 1 ≤ list.count) (w : ok_items list.count list.items ≡ true) (after : Window) where
      went : invoking s ops out ≡ taking s list.count list.items (W.invoked_of s.window list.count list.items)
      unfolding If◌then◌else◌
      went = listed ∙ rw (le-leb 1 list.count l, w)

      pub invoke_full : (r : Refusal) → W.invoked_shown after (Err r) ≡ W.invoked_of s.window list.count list.items → invoking s ops out ≡ refusal s (number_of r)
      unfolding taking If◌then◌else◌
      invoke_full r i = went ∙ rw (← i, ne_eqb (number_of r) 0 (number_not_done r))

      pub invoke_goes : (number : ℕ) → W.invoked_shown after (Ok number) ≡ W.invoked_of s.window list.count list.items →
          invoking s ops out ≡ sending (with_window after s) number list.count list.items
      unfolding taking If◌then◌else◌
      invoke_goes number i = went ∙ rw (← i)

-- ---- Retry

module _ (s : Session) (number out : ℕ) where
  pub retry_unusable : unusable s.started out ≡ true → retrying s number out ≡ refusal s 11
  unfolding retrying If◌then◌else◌
  retry_unusable u = rw u

  module _ (u : unusable s.started out ≡ false) where
    pub retry_late : None ≡ W.list_in (W.kept_of s.window number) → retrying s number out ≡ refusal s 7
    unfolding retrying If◌then◌else◌
    retry_late e = rw (u, list_none (W.kept_of s.window number) e)

    pub retry_goes : (list : Items) → Some list ≡ W.list_in (W.kept_of s.window number) → retrying s number out ≡ sending s number list.count list.items
    unfolding retrying If◌then◌else◌
    retry_goes list e =
        let x = list_some (W.kept_of s.window number) list e in
        rw (u, x.0, ← x.1, ← x.2)

-- ---- Response

-- a frame was read, and its kind decides
pub by_kind : (s : Session) (bytes : List ℕ) (f : Frame) (head : Head) → s.started ≡ true → f ≡ read_frame bytes → f.head ≡ head →
    responded_of s bytes ≡ by_head s head f.list.count f.list.items
unfolding responded_of If◌then◌else◌
by_kind s bytes f head n e h = simp (n, ← e, h)

one_of : (t : ℕ) → OneOf (1 ∷ 2 ∷ 3 ∷ 4 ∷ 5 ∷ []) t → (1 ≤ t) × (t ≤ 5)
one_of t = ⊎_elim (λ e. omega arith) (⊎_elim (λ e. omega arith) (⊎_elim (λ e. omega arith) (⊎_elim (λ e. omega arith) (λ e. omega arith))))

-- "the kind isn't for this receiver"
other_head : (s : Session) (head : Head) (count : ℕ) (items : List Item) → OneOf (1 ∷ 2 ∷ 3 ∷ 4 ∷ 5 ∷ []) (tag_of H.the_type head) →
    by_head s head count items ≡ declined_of s 2
other_head s Bad count items t = absurd (omega (arith, one_of 0 t))
other_head s (Submit client number ack) count items t = refl
other_head s (Forward log-number client number ack) count items t = refl
other_head s (ShardAppend shard log-number sn) count items t = refl
other_head s (ExecNotif shard log-number) count items t = refl
other_head s (Executed log-number) count items t = refl
other_head s (Response client number) count items t = absurd (omega (arith, one_of 6 t))

pub other_kind : (s : Session) (bytes : List ℕ) (f : Frame) → s.started ≡ true → f ≡ read_frame bytes → OneOf (1 ∷ 2 ∷ 3 ∷ 4 ∷ 5 ∷ []) (tag_of H.the_type f.head) →
    responded_of s bytes ≡ declined_of s 2
other_kind s bytes f n e t = by_kind s bytes f f.head n e refl ∙ other_head s f.head f.list.count f.list.items t
