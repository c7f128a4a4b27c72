-- What the promises of the calls come to: what is given is determined, so it means what is determined; a promise admits one outcome; and a refusal
-- changes nothing, whatever the session's bits.
-- Assumes nothing.
use mathlib.Core.Path.{◌≡◌, refl, sym, ◌∙◌}
use mathlib.Core.List.{List}
use mathlib.Core.Option.{Option, none, some}
use Prim.Native.Nat.{ℕ}
use lib.ListN.{length}
use Rattle.std.proofs.Common.{Result}
use Rattle.refusal.specs.declared.Refusal.{Refusal}
use Rattle.frames.specs.declared.Frame.{Frame}
use Rattle.frames.specs.declared.Item.{Item}
use Rattle.frames.specs.declared.Head.{Head}
use Rattle.frames.specs.declared.Head.TheVariants.{Bad, Submit, Forward, ShardAppend, ExecNotif, Executed, Response}
use Rattle.frames.specs.Frames.{read_frame}
use Rattle.frames.specs.View.{Bytes}
use Rattle.rules.proofs.Lists.{by}
use Rattle.session.specs.declared.Operations.{Operations}
use Rattle.session.specs.declared.Session.{Session}
use Rattle.session.specs.declared.Submission.{Submission}
use Rattle.session.specs.declared.Answer.{Answer}
use Rattle.session.specs.Model.{Started, started_shown, Submitted, submitted_shown, Responded, responded_shown, started_of, Call, refusal, sending, given_of, given, laid, taking, invoking, retrying, declined_of, heard_of, by_head, invoked_of, invoke_out, retried_of, retry_out, responded_of}
use Rattle.session.specs.View.{Held, Sized, StartMeans, InvokeMeans, RetryMeans, ResponseMeans}
use Rattle.session.proofs.Means.{start_means, invoke_means, retry_means}
use Rattle.session.proofs.Replies.{response_means}
use Rattle.session.proofs.Tells.{started_told, submitted_told, responded_told}

-- ---- What is promised

pub start_promised : (client : ℕ) (r : Started) → r ≡ started_of client → (r ≡ started_of client) × StartMeans client r
start_promised client r p = (p, rw p (start_means client))

-- of a start's result alone
pub start_meant : (client : ℕ) (r : Started) → r ≡ started_of client → StartMeans client r
start_meant client r p = (start_promised client r p).1

pub invoke_promised : (s : Session) (ops : Operations) (out : List ℕ) → Sized ops → (r : Submitted) (left : List ℕ) →
    (r ≡ invoked_of s ops out) × (left ≡ invoke_out s ops out) →
    ((r ≡ invoked_of s ops out) × (left ≡ invoke_out s ops out)) × (Held s → InvokeMeans s ops out r left)
invoke_promised s ops out z r left p = (p, λ h. rw (p.0, p.1) (invoke_means s ops out h z))

pub retry_promised : (s : Session) (number : ℕ) (out : List ℕ) (r : Submitted) (left : List ℕ) →
    (r ≡ retried_of s number out) × (left ≡ retry_out s number out) →
    ((r ≡ retried_of s number out) × (left ≡ retry_out s number out)) × (Held s → RetryMeans s number out r left)
retry_promised s number out r left p = (p, λ h. rw (p.0, p.1) (retry_means s number out h))

pub response_promised : (s : Session) (bytes : List ℕ) → Bytes bytes → (r : Responded) → r ≡ responded_of s bytes →
    (r ≡ responded_of s bytes) × (Held s → ResponseMeans s bytes r)
response_promised s bytes b r p = (p, λ h. rw p (response_means s bytes h b))

-- ---- A promise admits one outcome

pub one_start : (client : ℕ) (r t : Started) → r ≡ started_of client → t ≡ started_of client → r ≡ t
one_start client r t p q = p ∙ sym q

pub one_invoke : (s : Session) (ops : Operations) (out : List ℕ) (r t : Submitted) (left rest : List ℕ) → (r ≡ invoked_of s ops out) × (left ≡ invoke_out s ops out) →
    (t ≡ invoked_of s ops out) × (rest ≡ invoke_out s ops out) → (r ≡ t) × (left ≡ rest)
one_invoke s ops out r t left rest p q = (p.0 ∙ sym q.0, p.1 ∙ sym q.1)

pub one_retry : (s : Session) (number : ℕ) (out : List ℕ) (r t : Submitted) (left rest : List ℕ) → (r ≡ retried_of s number out) × (left ≡ retry_out s number out) →
    (t ≡ retried_of s number out) × (rest ≡ retry_out s number out) → (r ≡ t) × (left ≡ rest)
one_retry s number out r t left rest p q = (p.0 ∙ sym q.0, p.1 ∙ sym q.1)

pub one_response : (s : Session) (bytes : List ℕ) (r t : Responded) → r ≡ responded_of s bytes → t ≡ responded_of s bytes → r ≡ t
one_response s bytes r t p q = p ∙ sym q

-- The same of what the calls give: a result and the session that it leaves.

pub start_once : (client : ℕ) (a b : Session) (q r : Result (Unit {0}) Refusal) → started_shown a q ≡ started_of client → started_shown b r ≡ started_of client → (a ≡ b) × (q ≡ r)
start_once client a b q r e d = started_told a b q r (e ∙ sym d)

pub invoke_once : (s : Session) (ops : Operations) (out : List ℕ) (a b : Session) (q r : Result Submission Refusal) (left rest : List ℕ) →
    (submitted_shown a q ≡ invoked_of s ops out) × (left ≡ invoke_out s ops out) → (submitted_shown b r ≡ invoked_of s ops out) × (rest ≡ invoke_out s ops out) →
    (a ≡ b) × (q ≡ r) × (left ≡ rest)
invoke_once s ops out a b q r left rest e d = let told = submitted_told a b q r (e.0 ∙ sym d.0) in (told.0, told.1, e.1 ∙ sym d.1)

pub retry_once : (s : Session) (number : ℕ) (out : List ℕ) (q r : Result Submission Refusal) (left rest : List ℕ) →
    (submitted_shown s q ≡ retried_of s number out) × (left ≡ retry_out s number out) → (submitted_shown s r ≡ retried_of s number out) × (rest ≡ retry_out s number out) →
    (q ≡ r) × (left ≡ rest)
retry_once s number out q r left rest e d = ((submitted_told s s q r (e.0 ∙ sym d.0)).1, e.1 ∙ sym d.1)

pub response_once : (s : Session) (bytes : List ℕ) (a b : Session) (q r : Result Answer Refusal) → responded_shown a q ≡ responded_of s bytes → responded_shown b r ≡ responded_of s bytes → (a ≡ b) × (q ≡ r)
response_once s bytes a b q r e d = responded_told a b q r (e ∙ sym d)

-- ---- A refusal changes nothing, whatever the session's bits

pub record Still (s : Session) (out : List ℕ) (r : Submitted) (left : List ℕ) : Type 0 where
  pub session : r.session ≡ s
  pub number : r.sent.number ≡ 0
  pub frames : r.sent.frames ≡ 0
  pub bytes : r.sent.bytes ≡ 0
  pub written : left ≡ out

-- a call that is refused is the refusal
abbrev Refused : Session → Call → Type 0
Refused s c = (c.answer ≡ 0 → ⊥) → c ≡ refusal s c.answer

call_still : (s : Session) (out : List ℕ) (c : Call) → Refused s c → ((given c out).sent.answer ≡ 0 → ⊥) → Still s out (given c out) (laid c out)
unfolding given laid refusal
call_still s out c f d =
    let e = f (λ q. d (answer_of_lem c.frame q)) in
    rw e (record { session = refl; number = refl; frames = refl; bytes = refl; written = refl })
  where
    answer_of_lem : (x : Option Frame) → c.answer ≡ 0 → (given_of c (length out) x).sent.answer ≡ 0
    answer_of_lem none q = q
    answer_of_lem (some x) q = q

refusal_refused : (s : Session) (answer : ℕ) → Refused s (refusal s answer)
unfolding refusal
refusal_refused s answer d = refl

sending_refused : (s before : Session) (number count : ℕ) (items : List Item) → Refused before (sending s number count items)
unfolding sending
sending_refused s before number count items d = absurd (d refl)

invoking_refused : (s : Session) (ops : Operations) (out : ℕ) → Refused s (invoking s ops out)
unfolding invoking taking
invoking_refused s ops out =
    by (Refused s) _ (λ t. refusal_refused s 11) λ t.
    by (Refused s) _ (λ t. refusal_refused s 1) λ t.
    by (Refused s) _ (λ t. refusal_refused s _) λ t.
    sending_refused _ s _ _ _

pub invoke_still : (s : Session) (ops : Operations) (out : List ℕ) → ((invoked_of s ops out).sent.answer ≡ 0 → ⊥) → Still s out (invoked_of s ops out) (invoke_out s ops out)
unfolding invoked_of invoke_out
invoke_still s ops out = call_still s out (invoking s ops (length out)) (invoking_refused s ops (length out))

retrying_refused : (s : Session) (number out : ℕ) → Refused s (retrying s number out)
unfolding retrying
retrying_refused s number out =
    by (Refused s) _ (λ t. refusal_refused s 11) λ t. by (Refused s) _ (λ t. refusal_refused s 7) λ t. sending_refused s s number _ _

pub retry_still : (s : Session) (number : ℕ) (out : List ℕ) → ((retried_of s number out).sent.answer ≡ 0 → ⊥) → Still s out (retried_of s number out) (retry_out s number out)
unfolding retried_of retry_out
retry_still s number out = call_still s out (retrying s number (length out)) (retrying_refused s number (length out))

-- a Response that is refused hands over nothing
abbrev Declined : Session → Responded → Type 0
Declined s r = (r.reply.answer ≡ 0 → ⊥) → r ≡ declined_of s r.reply.answer

declined_declined : (s : Session) (answer : ℕ) → Declined s (declined_of s answer)
declined_declined s answer d = refl

heard_declined : (s : Session) (client number count : ℕ) (reads : List Item) → Declined s (heard_of s client number count reads)
unfolding heard_of
heard_declined s client number count reads =
    by (Declined s) _ (λ t. declined_declined s 2) λ t.
    by (Declined s) _ (λ t. declined_declined s 7) λ t.
    by (Declined s) _ (λ t. declined_declined s 8) λ t d. absurd (d refl)

head_declined : (s : Session) (head : Head) (count : ℕ) (items : List Item) → Declined s (by_head s head count items)
head_declined s Bad count items = declined_declined s 1
head_declined s (Submit client number ack) count items = declined_declined s 2
head_declined s (Forward log-number client number ack) count items = declined_declined s 2
head_declined s (ShardAppend shard log-number sn) count items = declined_declined s 2
head_declined s (ExecNotif shard log-number) count items = declined_declined s 2
head_declined s (Executed log-number) count items = declined_declined s 2
head_declined s (Response client number) count items = heard_declined s client number count items

pub response_still : (s : Session) (bytes : List ℕ) → ((responded_of s bytes).reply.answer ≡ 0 → ⊥) → responded_of s bytes ≡ declined_of s (responded_of s bytes).reply.answer
unfolding responded_of
response_still s bytes =
    by (Declined s) _ (λ t. declined_declined s 11) (λ t. head_declined s (read_frame bytes).head (read_frame bytes).list.count (read_frame bytes).list.items)
