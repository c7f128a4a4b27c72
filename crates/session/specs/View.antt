-- A session and its calls as the rules have them, and what every session keeps.
-- Assumes nothing.
use Rattle.std.specs.Prelude.{◌≡◌, List, [], ◌∷◌, ℕ, zero, suc, ◌≤◌, ◌<◌, length}
use Rattle.std.proofs.Math.Option.{Option, none, some}
use Rattle.rules.specs.Lists.{If◌then◌else◌, ◌=?◌}
use Rattle.rules.specs.Answers.{done}
use Rattle.rules.specs.Frames as F
use Rattle.rules.specs.Outcomes.{Outcome, frame_count, byte_count, out_after}
use Rattle.rules.specs.Session as R
use Rattle.frames.specs.declared.Frame.{Frame}
use Rattle.frames.specs.View.{reads_of, meaning}
use Rattle.window.specs.View as W
use Rattle.session.specs.declared.Asked.{Asked}
use Rattle.session.specs.declared.Operations.{Operations}
use Rattle.session.specs.declared.Session.{Session}
use Rattle.session.specs.Model.{no_asked, Call, Started, Submitted, Responded}

unfoldable pub view_session : Session → R.Session
view_session s = record { started = s.started; client = s.client; window = W.view_window s.window }

-- what every start gives and every call keeps
pub record Held (s : Session) : Type 0 where
  pub client : s.client ≤ 15
  pub window : W.Held s.window

-- ---- The list that is asked for

abbrev pub view_asked : Asked → R.Asked
view_asked a = record { code = a.code; key = a.key; value = a.value }

-- so many of them; those past the end count as zero
abbrev pub firsts : ℕ → List Asked → List R.Asked
firsts zero rest = []
firsts (suc count) [] = view_asked no_asked ∷ firsts count []
firsts (suc count) (a ∷ rest) = view_asked a ∷ firsts count rest

-- "its first count operations"
unfoldable pub asked_of : Operations → List R.Asked
asked_of ops = firsts ops.count ops.items

-- what the types of the record say: four of them, a key in a byte, a value in four
abbrev pub EachSized : List Asked → Type 0
EachSized [] = Unit {0}
EachSized (a ∷ rest) = (a.key < 256) × (a.value < 4294967296) × EachSized rest

pub record Sized (ops : Operations) : Type 0 where
  pub four : length ops.items ≡ 4
  pub each : EachSized ops.items

-- ---- What a call gives

abbrev pub view_meaning : Option F.Frame → List F.Frame
view_meaning none = []
view_meaning (some g) = g ∷ []

abbrev pub view_frame : Option Frame → List F.Frame
view_frame none = []
view_frame (some f) = view_meaning (meaning f)

unfoldable pub view_call : Call → Outcome R.Session
view_call c = record { answer = c.answer; state = view_session c.session; frames = view_frame c.frame }

-- What a start means: it is held, and it is the rules' start.
pub record StartMeans (client : ℕ) (r : Started) : Type 0 where
  pub held : Held r.session
  pub answer : r.answer ≡ (R.start client).answer
  pub state : view_session r.session ≡ (R.start client).state

-- What an invocation or a retry of a session that is held means: it is held again, and it is the rules' outcome: its answer, the session as it
-- then stands, the number that Submit carries, the counts of frames and bytes, and every byte left in the out area.
pub record SubmitMeans (o : Outcome R.Session) (n : ℕ) (out : List ℕ) (r : Submitted) (left : List ℕ) : Type 0 where
  pub held : Held r.session
  pub answer : r.sent.answer ≡ o.answer
  pub state : view_session r.session ≡ o.state
  pub number : r.sent.number ≡ (If o.answer =? done then n else 0)
  pub frames : r.sent.frames ≡ frame_count o
  pub bytes : r.sent.bytes ≡ byte_count o
  pub written : left ≡ out_after o.frames out

abbrev pub InvokeMeans : Session → Operations → List ℕ → Submitted → List ℕ → Type 0
InvokeMeans s ops out r left = SubmitMeans (R.invoke (view_session s) (asked_of ops) (length out)) s.window.next out r left

abbrev pub RetryMeans : Session → ℕ → List ℕ → Submitted → List ℕ → Type 0
RetryMeans s number out r left = SubmitMeans (R.retry (view_session s) number (length out)) number out r left

-- What a step on a frame's bytes means: the rules' reply, with its answer, session, number and reads; and the session is held again.
unfoldable pub view_reply : Responded → R.Reply
view_reply r =
    record {
      answer = r.reply.answer;
      session = view_session r.session;
      number = r.reply.number;
      reads = reads_of r.reply.count r.reply.reads;
    }

pub record ReplyMeans (p : R.Reply) (r : Responded) : Type 0 where
  pub held : Held r.session
  pub reply : view_reply r ≡ p

abbrev pub ResponseMeans : Session → List ℕ → Responded → Type 0
ResponseMeans s bytes r = ReplyMeans (R.step (view_session s) bytes) r
