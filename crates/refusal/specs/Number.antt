-- The number that 01's table, "Refusal numbers", has for each cause, and the answer that a call's result shows.
-- Assumes nothing.
use Rattle.std.specs.Prelude.{ℕ, Result, Ok, Err}
use Rattle.rules.specs.Answers.{done, breaks_rule, not_for_me, below_floor, too_early, log_full, not_in_log, too_late, does_not_fit, window_full, numbers_used_up, not_usable}
use Rattle.refusal.specs.declared.Refusal.{Refusal}
use Rattle.refusal.specs.declared.Refusal.TheVariants.{BreaksRule, NotForMe, BelowFloor, TooEarly, LogFull, NotInLog, TooLate, DoesNotFit, WindowFull, NumbersUsedUp, NotUsable}

abbrev pub number_of : Refusal → ℕ
number_of BreaksRule = breaks_rule
number_of NotForMe = not_for_me
number_of BelowFloor = below_floor
number_of TooEarly = too_early
number_of LogFull = log_full
number_of NotInLog = not_in_log
number_of TooLate = too_late
number_of DoesNotFit = does_not_fit
number_of WindowFull = window_full
number_of NumbersUsedUp = numbers_used_up
number_of NotUsable = not_usable

-- "Answer 0 means the step was taken"
abbrev pub answer_of : {A : Type 0} → Result A Refusal → ℕ
answer_of (Ok x) = done
answer_of (Err refusal) = number_of refusal
