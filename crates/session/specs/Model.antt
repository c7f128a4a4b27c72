-- What the calls of a session give, on the records as they lie.
-- Assumes nothing.
use Rattle.std.specs.Prelude.{Bool, true, false, not, ◌&&◌, List, [], ◌∷◌, ℕ, length, get_or, replicate, Result, Ok, Err}
use Rattle.std.proofs.Math.Option.{Option, none, some}
use Rattle.rules.specs.Lists.{If◌then◌else◌, ◌<?◌, ◌≤?◌, ◌=?◌}
use Rattle.rules.specs.Answers.{done, breaks_rule, not_for_me, too_late, does_not_fit, not_usable}
use Rattle.rules.specs.Outcomes.{unusable}
use Rattle.refusal.specs.declared.Refusal.{Refusal}
use Rattle.refusal.specs.Number.{number_of, answer_of}
use Rattle.frames.specs.declared.Item.{Item}
use Rattle.frames.specs.declared.Items.{Items}
use Rattle.frames.specs.declared.Head.{Head}
use Rattle.frames.specs.declared.Head.TheVariants.{Bad, Submit, Forward, ShardAppend, ExecNotif, Executed, Response}
use Rattle.frames.specs.declared.Frame.{Frame}
use Rattle.frames.specs.Frames.{no_item, ok_items, read_frame, written_of, laid_of}
use Rattle.entry.specs.Model.{fits_of}
use Rattle.window.specs.declared.Window.{Window}
use Rattle.window.specs.Model as W
use Rattle.session.specs.declared.Asked.{Asked}
use Rattle.session.specs.declared.Operations.{Operations}
use Rattle.session.specs.declared.Session.{Session}
use Rattle.session.specs.declared.Submission.{Submission}
use Rattle.session.specs.declared.Answer.{Answer}
use Rattle.session.specs.declared.Sent.{Sent}
use Rattle.session.specs.declared.Reply.{Reply}

-- ---- Start

-- a start: the session that it leaves, and the answer
pub record Started : Type 0 where
  pub session : Session
  pub answer : ℕ

-- what a start shows: "Answer 0 means the step was taken"
abbrev pub started_shown : {A : Type 0} → Session → Result A Refusal → Started
started_shown s r = record { session = s; answer = answer_of r }

unfoldable pub unstarted : Session
unstarted = record { window = W.fresh_window; client = 0; started = false }

unfoldable pub started_of : ℕ → Started
started_of client =
    If 15 <? client then record { session = record { window = W.fresh_window; client = 0; started = false }; answer = not_usable } else
    record { session = record { window = W.fresh_window; client = client; started = true }; answer = done }

-- ---- The list that is asked for

abbrev pub no_asked : Asked
no_asked = record { code = 0; key = 0; value = 0 }

-- the operation at a place, as it is kept and sent; nothing behind the list's end
unfoldable pub kept_item : Asked → ℕ → ℕ → Item
kept_item a place count = If place <? count then record { place = place; code = a.code; key = a.key; value = a.value } else no_item

unfoldable pub item_at : Operations → ℕ → Item
item_at ops place = kept_item (get_or ops.items place no_asked) place ops.count

unfoldable pub items_of : Operations → List Item
items_of ops = item_at ops 0 ∷ item_at ops 1 ∷ item_at ops 2 ∷ item_at ops 3 ∷ []

-- the list with its count
unfoldable pub list_of : Operations → Items
list_of ops = record { count = ops.count; items = items_of ops }

-- the rules of an invoked list
unfoldable pub ok_asked : Operations → Bool
ok_asked ops = 1 ≤? ops.count && ok_items ops.count (items_of ops)

-- ---- What a call sends

-- Submit with "the present ack"
unfoldable pub submit_frame : Session → ℕ → ℕ → List Item → Frame
submit_frame s number count items = record { head = Submit s.client number (W.smallest_of s.window); list = record { count = count; items = items } }

unfoldable pub sent_of : Frame → ℕ → ℕ → Sent
sent_of f number room = record { answer = done; number = number; frames = 1; bytes = written_of f room }

-- a call of invoke or retry: the answer, the session as it then stands, the number, and the frame that goes out, if one does
pub record Call : Type 0 where
  pub answer : ℕ
  pub session : Session
  pub number : ℕ
  pub frame : Option Frame

unfoldable pub refusal : Session → ℕ → Call
refusal s answer = record { answer = answer; session = s; number = 0; frame = none }

unfoldable pub sending : Session → ℕ → ℕ → List Item → Call
sending s number count items = record { answer = done; session = s; number = number; frame = some (submit_frame s number count items) }

-- invoke or retry: the session that it leaves, and what the caller is given
pub record Submitted : Type 0 where
  pub session : Session
  pub sent : Sent

-- what the result of invoke and retry shows; of a refusal all but the answer is 0
abbrev pub sent_shown : Result Submission Refusal → Sent
sent_shown (Ok x) = record { answer = done; number = x.number; frames = 1; bytes = x.bytes }
sent_shown (Err refusal) = record { answer = number_of refusal; number = 0; frames = 0; bytes = 0 }

abbrev pub submitted_shown : Session → Result Submission Refusal → Submitted
submitted_shown s r = record { session = s; sent = sent_shown r }

-- what the caller is given, and the out area as it then is
abbrev pub given_of : Call → ℕ → Option Frame → Submitted
given_of c room none = record { session = c.session; sent = record { answer = c.answer; number = c.number; frames = 0; bytes = 0 } }
given_of c room (some f) = record { session = c.session; sent = record { answer = c.answer; number = c.number; frames = 1; bytes = written_of f room } }

unfoldable pub given : Call → List ℕ → Submitted
given c out = given_of c (length out) c.frame

abbrev pub laid_with : Option Frame → List ℕ → List ℕ
laid_with none out = out
laid_with (some f) out = laid_of f out

unfoldable pub laid : Call → List ℕ → List ℕ
laid c out = laid_with c.frame out

-- ---- Invoke

abbrev pub with_window : Window → Session → Session
with_window w s = record { window = w; client = s.client; started = s.started }

unfoldable pub taking : Session → ℕ → List Item → W.Invoked → Call
taking s count items v =
    If not (v.answer =? done) then refusal s v.answer else
    sending (with_window v.window s) v.number count items

unfoldable pub invoking : Session → Operations → ℕ → Call
invoking s ops out =
    If unusable s.started out then refusal s not_usable else
    If not (ok_asked ops) then refusal s breaks_rule else
    taking s ops.count (items_of ops) (W.invoked_of s.window ops.count (items_of ops))

unfoldable pub invoked_of : Session → Operations → List ℕ → Submitted
invoked_of s ops out = given (invoking s ops (length out)) out

unfoldable pub invoke_out : Session → Operations → List ℕ → List ℕ
invoke_out s ops out = laid (invoking s ops (length out)) out

-- ---- Retry

unfoldable pub retrying : Session → ℕ → ℕ → Call
retrying s number out =
    let slot = W.kept_of s.window number in
    If unusable s.started out then refusal s not_usable else
    If slot.count <? 1 then refusal s too_late else
    sending s number slot.count slot.items

unfoldable pub retried_of : Session → ℕ → List ℕ → Submitted
retried_of s number out = given (retrying s number (length out)) out

unfoldable pub retry_out : Session → ℕ → List ℕ → List ℕ
retry_out s number out = laid (retrying s number (length out)) out

-- ---- Response

-- a step on a Response: the session that it leaves, and what the caller is given
pub record Responded : Type 0 where
  pub session : Session
  pub reply : Reply

-- what the result of the step shows; of a refusal all but the answer is 0
abbrev pub reply_shown : Result Answer Refusal → Reply
reply_shown (Ok x) = record { answer = done; number = x.number; count = x.reads.count; reads = x.reads.items }
reply_shown (Err refusal) = record { answer = number_of refusal; number = 0; count = 0; reads = replicate 4 no_item }

abbrev pub responded_shown : Session → Result Answer Refusal → Responded
responded_shown s r = record { session = s; reply = reply_shown r }

abbrev pub declined_of : Session → ℕ → Responded
declined_of s answer = record { session = s; reply = record { answer = answer; number = 0; count = 0; reads = replicate 4 no_item } }

unfoldable pub heard_of : Session → ℕ → ℕ → ℕ → List Item → Responded
heard_of s client number count reads =
    let slot = W.kept_of s.window number in
    If not (client =? s.client) then declined_of s not_for_me else
    If slot.count <? 1 then declined_of s too_late else
    If not (fits_of slot.count slot.items count reads) then declined_of s does_not_fit else
    record { session = with_window (W.answered_of s.window number) s; reply = record { answer = done; number = number; count = count; reads = reads } }

-- by kind: "the kind isn't for this receiver"
abbrev pub by_head : Session → Head → ℕ → List Item → Responded
by_head s Bad count items = declined_of s breaks_rule
by_head s (Submit client number ack) count items = declined_of s not_for_me
by_head s (Forward log-number client number ack) count items = declined_of s not_for_me
by_head s (ShardAppend shard log-number sn) count items = declined_of s not_for_me
by_head s (ExecNotif shard log-number) count items = declined_of s not_for_me
by_head s (Executed log-number) count items = declined_of s not_for_me
by_head s (Response client number) count items = heard_of s client number count items

unfoldable pub responded_of : Session → List ℕ → Responded
responded_of s bytes =
    If not s.started then declined_of s not_usable else
    by_head s (read_frame bytes).head (read_frame bytes).list.count (read_frame bytes).list.items
