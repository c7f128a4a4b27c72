-- The number of a refusal tells it from any other: what a result shows is the number alone, and yet no two refusals show the same.
-- Assumes nothing.
use Rattle.std.proofs.Common.{◌≡◌, ℕ, nat_eq, if◌then◌else◌, refl, sym, ap, ◌∙◌, arith}
use Rattle.refusal.specs.declared.Refusal.{Refusal}
use Rattle.refusal.specs.declared.Refusal.TheVariants.{BreaksRule, NotForMe, BelowFloor, TooEarly, LogFull, NotInLog, TooLate, DoesNotFit, WindowFull, NumbersUsedUp, NotUsable}
use Rattle.refusal.specs.Number.{number_of}

-- the refusal of a number; the last one for a number that is none's
refusal_of : ℕ → Refusal
refusal_of n =
    if nat_eq n 1 then BreaksRule else
    if nat_eq n 2 then NotForMe else
    if nat_eq n 3 then BelowFloor else
    if nat_eq n 4 then TooEarly else
    if nat_eq n 5 then LogFull else
    if nat_eq n 6 then NotInLog else
    if nat_eq n 7 then TooLate else
    if nat_eq n 8 then DoesNotFit else
    if nat_eq n 9 then WindowFull else
    if nat_eq n 10 then NumbersUsedUp else
    NotUsable

refusal_back : (r : Refusal) → refusal_of (number_of r) ≡ r
unfolding refusal_of
refusal_back BreaksRule = refl
refusal_back NotForMe = refl
refusal_back BelowFloor = refl
refusal_back TooEarly = refl
refusal_back LogFull = refl
refusal_back NotInLog = refl
refusal_back TooLate = refl
refusal_back DoesNotFit = refl
refusal_back WindowFull = refl
refusal_back NumbersUsedUp = refl
refusal_back NotUsable = refl

pub number_tells : (r s : Refusal) → number_of r ≡ number_of s → r ≡ s
number_tells r s e = sym (refusal_back r) ∙ ap refusal_of e ∙ refusal_back s

-- no refusal's number is 0, the answer of a step that is taken
pub number_not_done : (r : Refusal) → number_of r ≡ 0 → ⊥
number_not_done BreaksRule e = omega (arith, e)
number_not_done NotForMe e = omega (arith, e)
number_not_done BelowFloor e = omega (arith, e)
number_not_done TooEarly e = omega (arith, e)
number_not_done LogFull e = omega (arith, e)
number_not_done NotInLog e = omega (arith, e)
number_not_done TooLate e = omega (arith, e)
number_not_done DoesNotFit e = omega (arith, e)
number_not_done WindowFull e = omega (arith, e)
number_not_done NumbersUsedUp e = omega (arith, e)
number_not_done NotUsable e = omega (arith, e)
