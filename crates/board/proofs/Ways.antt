-- The three ways out of a step: not usable, refused by the verdict, taken. Each leaves and hands back what step_of and out_of say.
-- Assumes nothing.
use mathlib.Core.Path.{◌≡◌, refl, sym, ◌∙◌, ap}
use mathlib.Core.Bool.{true, false}
use mathlib.Core.List.{List}
use Prim.Native.Nat.{ℕ}
use lib.ListN.{length, get_or, set}
use borrow.Author.Tests.{eq-eqb, ne_eqb}
use Rattle.rules.specs.Lists.{If◌then◌else◌, ◌<?◌}
use Rattle.rules.specs.Outcomes.{unusable}
use Rattle.frames.specs.declared.Frame.{Frame}
use Rattle.frames.specs.Frames.{read_frame}
use Rattle.refusal.specs.declared.Refusal.{Refusal}
use Rattle.refusal.specs.Number.{number_of}
use Rattle.refusal.proofs.Tells.{number_not_done}
use Rattle.std.proofs.Common.{Ok, Err}
use Rattle.entry.specs.declared.Entry.{Entry}
use Rattle.entry.specs.Model.{touched_of}
use Rattle.queue.specs.declared.Queue.{Queue}
use Rattle.send.specs.declared.Sent.{Sent}
use Rattle.send.specs.Model.{bytes_of, laid, Sends}
use Rattle.verdict.specs.declared.Change.{Change}
use Rattle.verdict.specs.Model.{Verdict, refuse_of, shown_verdict, judge_of}
use Rattle.board.specs.declared.Board.{Board}
use Rattle.board.specs.Model.{shown, Stepped, slot_of, blank, entry_at, name_of, place_of, verdict_of, raised_of, followed_of, queues_after, frames_of, board_after, Outcome, refused, taken_step, judged_step, frame_step, outcome, stepped_of, step_of, out_of}

-- what is promised of a step
abbrev pub Promised : Board → List ℕ → List ℕ → Stepped → List ℕ → Type 0
Promised b s out r now = (r ≡ step_of b s (length out)) × (now ≡ out_of b s out)

module _ (b : Board) (s out : List ℕ) where
  promised : (o : Outcome) → outcome b s (length out) ≡ o → Promised b s out (stepped_of o) (laid o.frames out)
  unfolding step_of out_of
  promised o e = (sym (ap stepped_of e), sym (ap (λ (x : Outcome). laid x.frames out) e))

  pub not_usable_lem : unusable b.started (length out) ≡ true → Promised b s out (record { board = b; answer = 11; frames = 0; bytes = 0 }) out
  unfolding outcome If◌then◌else◌ laid bytes_of
  not_usable_lem h = promised (refused b 11) (rw h)

  module _ (h : unusable b.started (length out) ≡ false)
      (f : Frame) (read : f ≡ read_frame s)
      (ind : ℕ) (place : ind ≡ place_of f.head b.next b.names b.len)
      (slot : ℕ) (lies : slot ≡ slot_of ind)
      (v : Verdict) (judged : v ≡ judge_of f.head f.list.count f.list.items b.n b.m b.own b.floor b.next b.len (ind <? b.len) (get_or b.log slot blank)) where
    verdict : v ≡ verdict_of b f ind
    unfolding verdict_of entry_at
    verdict =
        judged
        ∙ ap (λ (k : ℕ). judge_of f.head f.list.count f.list.items b.n b.m b.own b.floor b.next b.len (ind <? b.len) (get_or b.log k blank)) lies

    usable : outcome b s (length out) ≡ frame_step b (read_frame s) (place_of (read_frame s).head b.next b.names b.len) (length out)
    unfolding outcome If◌then◌else◌
    usable = rw h

    comes_to : outcome b s (length out) ≡ judged_step b ind v (length out)
    unfolding frame_step
    comes_to =
        usable
        ∙ ap (λ (g : Frame). frame_step b g (place_of g.head b.next b.names b.len) (length out)) (sym read)
        ∙ ap (λ (i : ℕ). frame_step b f i (length out)) (sym place)
        ∙ ap (λ (x : Verdict). judged_step b ind x (length out)) (sym verdict)

    refused_at : (v.answer ≡ 0 → ⊥) → Promised b s out (record { board = b; answer = v.answer; frames = 0; bytes = 0 }) out
    unfolding judged_step If◌then◌else◌ laid bytes_of
    refused_at n = promised (refused b v.answer) (comes_to ∙ rw (ne_eqb _ _ n))

    is_taken : v.answer ≡ 0 → outcome b s (length out) ≡ taken_step b ind v (length out)
    unfolding judged_step If◌then◌else◌
    is_taken n = comes_to ∙ rw (eq-eqb _ _ n)

    module _ (zero : v.answer ≡ 0)
        (log : List Entry) (stored : log ≡ set b.log slot v.entry)
        (name : ℕ) (named : name ≡ name_of v.entry.client v.entry.number)
        (mask : ℕ) (touches : mask ≡ touched_of b.m v.entry.count v.entry.items)
        (next : List ℕ) (follows : next ≡ followed_of b.next v.fresh v.entry.client v.entry.number)
        (floor : List ℕ) (raises : floor ≡ raised_of b.floor v.entry.client v.ack)
        (queues : List Queue) (queued : queues ≡ queues_after b.queues v.fresh v.shards ind) where
      abbrev pub after : Board
      after =
          record {
            log = log;
            len = v.len;
            names = set b.names slot name;
            touched = set b.touched slot mask;
            next = next;
            floor = floor;
            queues = queues;
            n = b.n;
            m = b.m;
            own = b.own;
            started = b.started;
          }

      laid_log : log ≡ set b.log (slot_of ind) v.entry
      laid_log = stored ∙ ap (λ (k : ℕ). set b.log k v.entry) lies

      is_after : after ≡ board_after b ind v
      unfolding board_after
      is_after = λ i. record {
        log = laid_log i;
        len = v.len;
        names = set b.names (lies i) (named i);
        touched = set b.touched (lies i) (touches i);
        next = follows i;
        floor = raises i;
        queues = queued i;
        n = b.n;
        m = b.m;
        own = b.own;
        started = b.started;
      }

      abbrev pub sending : List Frame
      sending = frames_of v.sends v.entry b.n b.m b.own floor ind (set b.touched slot mask) (length out)

      is_sending : sending ≡ (taken_step b ind v (length out)).frames
      unfolding taken_step board_after
      is_sending = λ i. frames_of v.sends v.entry b.n b.m b.own (raises i) ind (set b.touched (lies i) (touches i)) (length out)

      taken_at : (r : Sent) (now : List ℕ) → Sends sending out now r → Promised b s out (record { board = after; answer = 0; frames = r.frames; bytes = r.bytes }) now
      unfolding taken_step
      taken_at r now g =
          let o = promised (taken_step b ind v (length out)) (is_taken zero) in
          let frames = g.frames ∙ ap length is_sending in
          let bytes = g.bytes ∙ ap (λ (fs : List Frame). length (bytes_of fs)) is_sending in (
            (λ i. record { board = is_after i; answer = 0; frames = frames i; bytes = bytes i }) ∙ o.0,
            g.out ∙ ap (λ (fs : List Frame). laid fs out) is_sending ∙ o.1,
          )

  -- ---- By the verdict's result

  module _ (h : unusable b.started (length out) ≡ false)
      (f : Frame) (read : f ≡ read_frame s)
      (ind : ℕ) (place : ind ≡ place_of f.head b.next b.names b.len)
      (slot : ℕ) (lies : slot ≡ slot_of ind) where
    abbrev Judged : Verdict → Type 0
    Judged v = v ≡ judge_of f.head f.list.count f.list.items b.n b.m b.own b.floor b.next b.len (ind <? b.len) (get_or b.log slot blank)

    pub refused_by : (r : Refusal) → Judged (refuse_of (number_of r)) → Promised b s out (shown b (Err r)) out
    unfolding refuse_of
    refused_by r judged = refused_at h f read ind place slot lies (refuse_of (number_of r)) judged (number_not_done r)

    module _ (change : Change) (judged : Judged (shown_verdict (Ok change)))
        (log : List Entry) (stored : log ≡ set b.log slot change.entry)
        (name : ℕ) (named : name ≡ name_of change.entry.client change.entry.number)
        (mask : ℕ) (touches : mask ≡ touched_of b.m change.entry.count change.entry.items)
        (next : List ℕ) (follows : next ≡ followed_of b.next change.fresh change.entry.client change.entry.number)
        (floor : List ℕ) (raises : floor ≡ raised_of b.floor change.entry.client change.ack)
        (queues : List Queue) (queued : queues ≡ queues_after b.queues change.fresh change.shards ind) where
      pub taken_by : (r : Sent) (now : List ℕ)
          → Sends (frames_of change.sends change.entry b.n b.m b.own floor ind (set b.touched slot mask) (length out)) out now r
          → Promised b s out (shown (after h f read ind place slot lies (shown_verdict (Ok change)) judged refl log stored name named mask touches next follows floor raises queues queued) (Ok r)) now
      taken_by = taken_at h f read ind place slot lies (shown_verdict (Ok change)) judged refl log stored name named mask touches next follows floor raises queues queued
