-- A name for each answer of 01, "Refusal numbers".
-- Assumes nothing.
use Rattle.std.specs.Prelude.{ℕ}

-- "Answer 0 means the step was taken"
abbrev pub done : ℕ
done = 0

-- the frame, or an invoked operation list, breaks a rule of "Sizes" or "Frames"
abbrev pub breaks_rule : ℕ
breaks_rule = 1

-- the kind isn't for this receiver; or shard isn't its own (kind 3), exceeds m (kind 4), or client isn't its own (kind 6)
abbrev pub not_for_me : ℕ
not_for_me = 2

-- kind 1: number below the client's floor
abbrev pub below_floor : ℕ
below_floor = 3

-- kind 1: number above high + 1; kind 2: log number above the log's length; kind 3: sn above ssn + 1
abbrev pub too_early : ℕ
too_early = 4

-- kind 1, new number: the log has 256 entries
abbrev pub log_full : ℕ
log_full = 5

-- kinds 4, 5: log number not in the log
abbrev pub not_in_log : ℕ
not_in_log = 6

-- kind 3: sn ≤ ssn; kind 4: shard not remaining in the entry; kind 5: entry already EXE; kind 6 and retry: number not outstanding
abbrev pub too_late : ℕ
too_late = 7

-- "Doesn't fit (8)": the paragraph below the table
abbrev pub does_not_fit : ℕ
does_not_fit = 8

-- invoke: next number minus the smallest outstanding one is 8 or more
abbrev pub window_full : ℕ
window_full = 9

-- invoke: next number would be 65,535
abbrev pub numbers_used_up : ℕ
numbers_used_up = 10

-- n, m or an own number out of range at start; another call on a state whose start was refused; out area under 68 bytes
abbrev pub not_usable : ℕ
not_usable = 11
