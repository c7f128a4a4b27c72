-- What a call's result shows tells it, and the session beside it: a refusal has a number of its own, and none has that of a call that is taken.
-- Assumes nothing.
use mathlib.Core.Path.{◌≡◌, sym, ap}
use Rattle.std.proofs.Common.{Result, Ok, Err}
use Rattle.refusal.specs.declared.Refusal.{Refusal}
use Rattle.refusal.proofs.Tells.{number_tells, number_not_done}
use Rattle.session.specs.declared.Session.{Session}
use Rattle.session.specs.declared.Submission.{Submission}
use Rattle.session.specs.declared.Answer.{Answer}
use Rattle.session.specs.declared.Sent.{Sent}
use Rattle.session.specs.declared.Reply.{Reply}
use Rattle.session.specs.Model.{Started, started_shown, Submitted, sent_shown, submitted_shown, Responded, reply_shown, responded_shown}

pub started_told : (s t : Session) (q r : Result (Unit {0}) Refusal) → started_shown s q ≡ started_shown t r → (s ≡ t) × (q ≡ r)
started_told s t q r e = (ap (λ (x : Started). x.session) e, same q r (ap (λ (x : Started). x.answer) e))
  where
    same : (q r : Result (Unit {0}) Refusal) → (started_shown s q).answer ≡ (started_shown t r).answer → q ≡ r
    same (Ok x) (Ok y) e = λ i. Ok tt
    same (Ok x) (Err r) e = absurd (number_not_done r (sym e))
    same (Err q) (Ok y) e = absurd (number_not_done q e)
    same (Err q) (Err r) e = ap (λ (k : Refusal). Err k) (number_tells q r e)

pub sent_told : (q r : Result Submission Refusal) → sent_shown q ≡ sent_shown r → q ≡ r
sent_told (Ok x) (Ok y) e = λ i. Ok (record { number = (e i).number; bytes = (e i).bytes })
sent_told (Ok x) (Err r) e = absurd (number_not_done r (sym (ap (λ (z : Sent). z.answer) e)))
sent_told (Err q) (Ok y) e = absurd (number_not_done q (ap (λ (z : Sent). z.answer) e))
sent_told (Err q) (Err r) e = ap (λ (k : Refusal). Err k) (number_tells q r (ap (λ (z : Sent). z.answer) e))

pub submitted_told : (s t : Session) (q r : Result Submission Refusal) → submitted_shown s q ≡ submitted_shown t r → (s ≡ t) × (q ≡ r)
submitted_told s t q r e = (ap (λ (x : Submitted). x.session) e, sent_told q r (ap (λ (x : Submitted). x.sent) e))

pub reply_told : (q r : Result Answer Refusal) → reply_shown q ≡ reply_shown r → q ≡ r
reply_told (Ok x) (Ok y) e = λ i. Ok (record { number = (e i).number; reads = record { count = (e i).count; items = (e i).reads } })
reply_told (Ok x) (Err r) e = absurd (number_not_done r (sym (ap (λ (z : Reply). z.answer) e)))
reply_told (Err q) (Ok y) e = absurd (number_not_done q (ap (λ (z : Reply). z.answer) e))
reply_told (Err q) (Err r) e = ap (λ (k : Refusal). Err k) (number_tells q r (ap (λ (z : Reply). z.answer) e))

pub responded_told : (s t : Session) (q r : Result Answer Refusal) → responded_shown s q ≡ responded_shown t r → (s ≡ t) × (q ≡ r)
responded_told s t q r e = (ap (λ (x : Responded). x.session) e, reply_told q r (ap (λ (x : Responded). x.reply) e))
