-- What a queue's record means in the rules' words, and what holds of every queue that a board keeps.
-- Assumes nothing.
use Rattle.std.specs.Prelude.{◌≡◌, List, [], ◌∷◌, ℕ, ◌-◌, ◌≤◌, ◌<◌, length, get_or}
use Rattle.rules.specs.Lists.{If◌then◌else◌, within}
use Rattle.rules.specs.Queue as Q
use Rattle.rules.specs.Queue.{empty_queue}
use Rattle.frames.specs.View.{view_last}
use Rattle.queue.specs.declared.Queue.{Queue}
use Rattle.queue.specs.Model.{slots_of, waiting}

unfoldable pub view_queue : Queue → Q.Queue
view_queue q = record { waiting = waiting q; last_taken = view_last q.taken }

-- what an index past the end of a list of queues reads as; no code reads there
abbrev pub blank_queue : Queue
blank_queue = record { numbers = []; len = 0; taken = 0 }

-- the queue of each shard; there is no shard 0, nor one above 8
unfoldable pub view_queues : List Queue → ℕ → Q.Queue
view_queues qs j = If within 1 8 j then view_queue (get_or qs (j - 1) blank_queue) else empty_queue

-- so many numbers at most
pub record QueueHeld (most : ℕ) (q : Queue) : Type 0 where
  pub slots : length q.numbers ≡ 256
  pub few : q.len ≤ most

pub record QueuesHeld (most : ℕ) (qs : List Queue) : Type 0 where
  pub eight : length qs ≡ 8
  pub each : (i : ℕ) → i < 8 → QueueHeld most (get_or qs i blank_queue)

-- the slots behind those that wait are zero
pub record Tidy (q : Queue) : Type 0 where
  pub few : q.len ≤ 256
  pub zeros : q.numbers ≡ slots_of (waiting q)

abbrev pub AllTidy : List Queue → Type 0
AllTidy [] = Unit {0}
AllTidy (q ∷ qs) = Tidy q × AllTidy qs
