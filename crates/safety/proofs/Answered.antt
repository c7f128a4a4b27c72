-- A number below next that is outstanding no more was answered: an invocation makes the next number outstanding, and only an answer takes one away.
-- Assumes nothing.
use mathlib.Core.Path.{◌≡◌, refl, sym, ◌∙◌}
use mathlib.Core.Logic.{◌≢◌}
use mathlib.Core.List.{List, [], ◌∷◌}
use mathlib.Core.Option.{Option, none}
use Prim.Native.Nat.{ℕ, ◌<◌}
use lib.Dec.{eqb, eqb→eq}
use mir.Facts.{eqb_no}
use lib.ListN.{length}
use native.Mathlib.Omega.{arith}
use native.Mathlib.Decide.{ℕ_discrete}
use Rattle.rules.specs.Lists.{snoc, changed}
use Rattle.rules.specs.Transactions.{Operation, Read}
use Rattle.rules.specs.Outcomes.{Outcome, taken, refuse}
use Rattle.rules.specs.Session.{Outstanding, without, operations_of}
use Rattle.rules.specs.Session as C
use Rattle.rules.proofs.Lists.{by, nothing, at_snoc_new}
use Rattle.safety.specs.World.{ReplyTaken, World, rules, start, after_board, after_shard}
use Rattle.safety.specs.Machine.{All}
use Rattle.safety.specs.Further.{Answered}
use Rattle.safety.proofs.Lists.{changed_all_lem, at_snoc_old}
use Rattle.safety.proofs.Deeds.{after_invoke}
use Rattle.safety.proofs.Happens.{Happened, nothing_happened, board_stepped_lem, shard_stepped_lem, client_invoked, client_retried, client_answered, after_answer}

-- a number is not among those outstanding
abbrev pub Without : ℕ → List Outstanding → Type 0
Without number l = All (λ (o : Outstanding). o.number ≢ number) l

pub not_outstanding : (number : ℕ) (l : List Outstanding) → operations_of number l ≡ none → Without number l
not_outstanding number [] = λ e. tt
not_outstanding number (o ∷ l) =
    by (λ (x : Option (List Operation)). x ≡ none → Without number (o ∷ l)) (eqb o.number number) (λ t e. nothing (sym e))
    (λ t e. (eqb_no {a = o.number} t, not_outstanding number l e))

pub before_invoking : (number : ℕ) (l : List Outstanding) (o : Outstanding) → Without number (snoc l o) → Without number l × (o.number ≢ number)
before_invoking number [] o a = (tt, a.0)
before_invoking number (p ∷ l) o a = let r = before_invoking number l o a.1 in ((a.0, r.0), r.1)

pub before_answering : (number k : ℕ) → number ≢ k → (l : List Outstanding) → Without number (without k l) → Without number l
before_answering number k h [] = λ a. tt
before_answering number k h (o ∷ l) =
    by (λ (x : List Outstanding). Without number x → Without number (o ∷ l)) (eqb o.number k)
    (λ t a. (λ e. h (sym e ∙ eqb→eq o.number k t), before_answering number k h l a)) (λ t a. (a.0, before_answering number k h l a.1))

-- ---- In a register

abbrev pub AllAnswered : (ℕ → C.Session) → List ReplyTaken → Type 0
AllAnswered sessions replies = (c number : ℕ) → number < (sessions c).window.next → Without number (sessions c).window.outstanding → Answered replies c number

still_answered : (replies : List ReplyTaken) (r : ReplyTaken) (c number : ℕ) → Answered replies c number → Answered (snoc replies r) c number
still_answered replies r c number x =
    record { which = x.which; reply = x.reply; taken = at_snoc_old replies r x.which x.reply x.taken; client = x.client; number_is = x.number_is }

invoke_answered : (sessions : ℕ → C.Session) (replies : List ReplyTaken) (c : ℕ) (os : List Operation) → AllAnswered sessions replies
    → AllAnswered (changed sessions c (after_invoke os (sessions c))) replies
unfolding C.with_window C.invoked
invoke_answered sessions replies c os a =
    changed_all_lem (λ d s. (number : ℕ) → number < s.window.next → Without number s.window.outstanding → Answered replies d number) sessions c (after_invoke os (sessions c))
    (λ number l h. let r = before_invoking number (sessions c).window.outstanding _ h in let d = r.1 in a c number (omega arith) r.0) a

reply_answered : (sessions : ℕ → C.Session) (replies : List ReplyTaken) (c k : ℕ) (rs : List Read) → AllAnswered sessions replies
    → AllAnswered (changed sessions c (after_answer k (sessions c))) (snoc replies (record { client = c; number = k; reads = rs }))
unfolding C.with_window C.answered
reply_answered sessions replies c k rs a =
    changed_all_lem (λ d s. (number : ℕ) → number < s.window.next → Without number s.window.outstanding → Answered (snoc replies r) d number) sessions c (after_answer k (sessions c))
    (λ number l h. go number l h (ℕ_discrete number k)) (λ d number l h. still_answered replies r d number (a d number l h))
  where
    r : ReplyTaken
    r = record { client = c; number = k; reads = rs }

    go : (number : ℕ) → number < (sessions c).window.next → Without number (without k (sessions c).window.outstanding) → Dec (number ≡ k) → Answered (snoc replies r) c number
    go number l h (yes e) = record { which = length replies; reply = r; taken = at_snoc_new replies r; client = refl; number_is = sym e }
    go number l h (no e) = still_answered replies r c number (a c number l (before_answering number k e (sessions c).window.outstanding h))

pub answered_lasts : (n : ℕ) (w v : World rules) → Happened n w v → AllAnswered w.sessions w.replies → AllAnswered v.sessions v.replies
answered_lasts n w _ nothing_happened a = a
answered_lasts n w _ (board_stepped_lem i f x t) a = unfold after_board in a
answered_lasts n w _ (shard_stepped_lem j f x t) a = unfold after_shard in a
answered_lasts n w _ (client_invoked c os t g) a = invoke_answered w.sessions w.replies c os a
answered_lasts n w _ (client_retried c k os t e g) a = a
answered_lasts n w _ (client_answered c k rs x g) a = reply_answered w.sessions w.replies c k rs a

pub answered_start : (n m : ℕ) → AllAnswered (start rules n m).sessions (start rules n m).replies
unfolding start C.start taken refuse
answered_start n m c =
    by (λ (o : Outcome C.Session). (number : ℕ) → number < o.state.window.next → Without number o.state.window.outstanding → Answered [] c number) _
    (λ t number l h. absurd (omega arith)) (λ t number l h. absurd (omega arith))
