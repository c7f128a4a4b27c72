-- What a judgement's result shows tells it.
-- Assumes nothing.
use mathlib.Core.Path.{◌≡◌, sym, ap}
use Rattle.std.proofs.Common.{Result, Ok, Err}
use Rattle.refusal.specs.declared.Refusal.{Refusal}
use Rattle.refusal.proofs.Tells.{number_tells, number_not_done}
use Rattle.verdict.specs.declared.Change.{Change}
use Rattle.verdict.specs.Model.{Verdict, shown_verdict, refuse_of}

-- the change that a verdict has
abbrev change_in : Verdict → Change
change_in v = record { entry = v.entry; fresh = v.fresh; len = v.len; shards = v.shards; ack = v.ack; sends = v.sends }

pub verdict_tells : (q r : Result Change Refusal) → shown_verdict q ≡ shown_verdict r → q ≡ r
unfolding refuse_of
verdict_tells (Ok c) (Ok d) e = ap (λ (v : Verdict). Ok (change_in v)) e
verdict_tells (Ok c) (Err r) e = absurd (number_not_done r (sym (ap (λ (v : Verdict). v.answer) e)))
verdict_tells (Err q) (Ok d) e = absurd (number_not_done q (ap (λ (v : Verdict). v.answer) e))
verdict_tells (Err q) (Err r) e = ap (λ (k : Refusal). Err k) (number_tells q r (ap (λ (v : Verdict). v.answer) e))
