-- What the answer of a board's step, or of a shard group's, shows tells what came of the step: a refusal has a number of its own, and none has that of a
-- step that is taken.
-- Assumes nothing.
use mathlib.Core.Path.{◌≡◌, sym, ap}
use Rattle.std.proofs.Common.{Result, Ok, Err}
use Rattle.refusal.specs.declared.Refusal.{Refusal}
use Rattle.refusal.proofs.Tells.{number_tells, number_not_done}
use Rattle.send.specs.declared.Sent.{Sent as BoardSent}
use Rattle.register.specs.declared.Stepped.{Stepped}
use Rattle.register.specs.Given.{shown}

pub stepped_told : (q r : Result BoardSent Refusal) → shown q ≡ shown r → q ≡ r
stepped_told (Ok x) (Ok y) e = λ i. Ok (record { frames = (e i).frames; bytes = (e i).bytes })
stepped_told (Ok x) (Err r) e = absurd (number_not_done r (sym (ap (λ (z : Stepped). z.answer) e)))
stepped_told (Err q) (Ok y) e = absurd (number_not_done q (ap (λ (z : Stepped). z.answer) e))
stepped_told (Err q) (Err r) e = ap (λ (k : Refusal). Err k) (number_tells q r (ap (λ (z : Stepped). z.answer) e))
