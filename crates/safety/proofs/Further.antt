-- The further laws hold at every moment of every run, of the rules and of the code.
-- Assumes nothing.
use mathlib.Core.Path.{◌≡◌, ap, ◌∙◌}
use mathlib.Core.List.{List, map}
use mathlib.Core.Option.{some}
use Prim.Native.Nat.{ℕ, suc, ◌≤◌, ◌<◌}
use native.Mathlib.Omega.{arith}
use lib.Dec.{T}
use Rattle.rules.specs.Lists.{at}
use Rattle.rules.specs.Board as B
use Rattle.safety.specs.World.{World, rules, Choice, start, run}
use Rattle.safety.specs.Coded.{Code, agents, Promises, meaning}
use Rattle.safety.specs.Further.{least, Further, FurtherLaws}
use Rattle.safety.proofs.Lists.{all_at}
use Rattle.safety.proofs.Flight.{arrives}
use Rattle.safety.proofs.Happens.{Happened, flown, always}
use Rattle.safety.proofs.Known.{entries_of, Known}
use Rattle.safety.proofs.Lasts.{known_lasts}
use Rattle.safety.proofs.Safety.{known_starts, known}
use Rattle.safety.proofs.Coded.{meant_choice, run_follows}
use Rattle.safety.proofs.Ended.{one_entry, ToldRight, EndsKnown, ends_lasts, ends_start}
use Rattle.safety.proofs.Answered.{AllAnswered, not_outstanding, answered_lasts, answered_start}
use Rattle.safety.proofs.Acks.{LowTo, AcksKnown, acks_lasts, acks_start}
use Rattle.safety.proofs.Refusals.{answers_expected}

-- what holds at the start and is kept, where all that is known may be used, holds at every moment
always_known : (n m : ℕ) (X : World rules → Type 0) → X (start rules n m) → ((w v : World rules) → Happened n w v → Known n m w → Known n m v → X w → X v)
    → (choices : List (Choice rules)) → X (run rules n m choices)
always_known n m X s h choices =
    (always n m (λ w. Known n m w × X w) (known_starts n m, s) (λ w v x k. let u = known_lasts n m w v x k.0 in (u, h w v x k.0 u k.1)) choices).1

-- EXE at board i is the same entry at board i + 1
ended_right : (n m : ℕ) (w : World rules) → Known n m w → EndsKnown n w → (i ind : ℕ) (e : B.Entry) → 1 ≤ i → i < n → at (w.boards i).log ind ≡ some e → T (B.is_exe e.status)
    → at (w.boards (suc i)).log ind ≡ some e
ended_right n m w k a i ind e lo hi x t =
    let y = a.entries i ind lo (record { entry = e; stands = x; exe = t }) (suc i) (omega arith) hi in
    let marks = k.good.marks in
    y.stands ∙ ap some (one_entry m (B.writes (w.boards n).log) ind y.entry e (marks (suc i) ind y.entry (omega arith) y.stands) (marks i ind e lo x) y.exe t)

pub further : FurtherLaws
further n m choices =
    let w = run rules n m choices in
    let k = known n m choices in
    let ends = always_known n m (EndsKnown n) (ends_start n m) (ends_lasts n m) choices in
    let low = always_known n m AcksKnown (acks_start n m) (λ w v x k u. acks_lasts n m w v x k) choices in
    let all = always_known n m (λ w. AllAnswered w.sessions w.replies) (answered_start n m) (λ w v x k u. answered_lasts n w v x) choices in
    record {
      ended = ended_right n m w k ends;
      told = λ which r a. all_at (ToldRight n (entries_of w.boards)) w.replies which r a ends.told;
      answered = λ c number l e. all c number l (not_outstanding number (w.sessions c).window.outstanding e);
      floors = low.floors;
      acks = λ which p f a d. arrives (LowTo (least w.sessions)) w.sent p.to f low.flight (flown w.sent which p f a d);
      answers = answers_expected n m w k;
    }

-- and of the code that keeps its promises
pub further_code : (code : Code) (p : Promises code) (n m : ℕ) (choices : List (Choice (agents code))) → Further n m (meaning code p (run (agents code) n m choices))
further_code code p n m choices = rw (run_follows code p n m choices).means (further n m (map (meant_choice code p) choices))
