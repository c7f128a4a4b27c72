-- What each function of the crate gives, on the records as they lie: every field and every element is determined, for
-- every input. What it means in the rules' words is in View.
-- Assumes nothing.
use Rattle.std.specs.Prelude.{Bool, ◌&&◌, List, [], ◌∷◌, ◌++◌, ℕ, suc, ◌+◌, ◌-◌, length, get_or, set, take, drop, replicate}
use Rattle.rules.specs.Lists.{If◌then◌else◌, ◌<?◌, ◌≤?◌, ◌=?◌}
use Rattle.entry.specs.Model.{in_mask}
use Rattle.queue.specs.declared.Queue.{Queue}

-- some numbers, at most 256, in the first slots; the others are zero
abbrev pub slots_of : List ℕ → List ℕ
slots_of xs = xs ++ replicate (256 - length xs) 0

abbrev pub no_queue : Queue
no_queue = record { numbers = replicate 256 0; len = 0; taken = 0 }

-- the numbers that wait
abbrev pub waiting : Queue → List ℕ
waiting q = take q.len q.numbers

-- a full queue stays as it is
unfoldable pub pushed_of : Queue → ℕ → Queue
pushed_of q ind =
    If q.len <? 256 then record { numbers = set q.numbers q.len ind; len = q.len + 1; taken = q.taken } else q

-- how many stand at the front up to a number and with it; all where it is not there
unfoldable pub up_to : ℕ → List ℕ → ℕ
up_to ind [] = 0
up_to ind (x ∷ xs) = If x =? ind then 1 else suc (up_to ind xs)

unfoldable pub last_of : Queue → ℕ → ℕ
last_of q count = If count =? 0 then q.taken else get_or q.numbers (count - 1) 0 + 1

unfoldable pub left_of : Queue → ℕ → List ℕ
left_of q count = slots_of (drop count (waiting q))

-- the queue without its first count
unfoldable pub without : Queue → ℕ → Queue
without q count = record { numbers = left_of q count; len = q.len - count; taken = last_of q count }

-- "if the last taken is none or below p": taken is one more than the last. A queue of more than 256 is none, and stays as it is.
unfoldable pub taken_of : Queue → ℕ → Queue
taken_of q ind = If q.len ≤? 256 && q.taken ≤? ind then without q (up_to ind (waiting q)) else q

-- a fresh entry's number is pushed, that of an entry held before is taken up to
abbrev pub changed_of : Bool → ℕ → Queue → Queue
changed_of fresh ind q = If fresh then pushed_of q ind else taken_of q ind

-- ---- The queues of the shards, the first that of shard 1

-- those of a set of shards changed
abbrev pub change_from : (Queue → Queue) → ℕ → ℕ → List Queue → List Queue
change_from change mask shard [] = []
change_from change mask shard (q ∷ qs) = (If in_mask mask shard then change q else q) ∷ change_from change mask (suc shard) qs

unfoldable pub changed_all : List Queue → Bool → ℕ → ℕ → List Queue
changed_all qs fresh mask ind = change_from (changed_of fresh ind) mask 1 qs
