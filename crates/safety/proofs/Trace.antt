-- A story of 3 boards and 2 shard groups, told once for any agents and run here by the rules, computed at three moments, so that nothing claimed of
-- runs is empty: the logs grow on all boards, the shard groups run, replies are taken, though frames are lost, doubled and out of order.
-- Assumes nothing.
use mathlib.Core.Path.{◌≡◌, refl}
use mathlib.Core.List.{List, [], ◌∷◌}
use mathlib.Core.Option.{Option, none, some}
use Prim.Native.Nat.{ℕ}
use lib.ListN.{length, replicate, take}
use Rattle.rules.specs.Transactions.{get, put, Write, Cell}
use Rattle.rules.specs.Outcomes.{Outcome, least_out}
use Rattle.rules.specs.Session.{Asked}
use Rattle.rules.specs.Computing.{computing}
use Rattle.safety.specs.World.{Agents, World, rules, ReplyTaken, Choice, invoke, retry, deliver, remembered, start, after_board, after_shard, after_call, after_reply, arrive, arrive_sent, next, after, run}
use Rattle.safety.specs.Claim.{log_of}

-- ---- The story

-- the least out area
abbrev area : List ℕ
area = replicate least_out 0

-- the operation lists, as a program hands them over: put key 5 value 7 and get key 4; get key 5; one with a rule broken; put key 4 value 1 and
-- put key 5 value 2. Key 4 is shard 1's, key 5 shard 2's; frames are numbered as they are sent
unfoldable pub story : (a : Agents Outcome) (put_and_get get_alone wrong put_both : a.Request) → List (Choice a)
story a put_and_get get_alone wrong put_both =
    -- client 3 invokes number 0 (frame 0 is its Submit), and number 1 (frame 1), which comes first and is too early
    invoke 3 put_and_get area
    ∷ invoke 3 get_alone area
    ∷ deliver 1 area
    -- number 0 comes twice: Forwards 2 and 3, of which 2 is lost; then number 1: Forward 4
    ∷ deliver 0 area
    ∷ deliver 0 area
    ∷ deliver 1 area
    -- client 9 invokes a list with a rule broken, then a good one: Submit 5, Forward 6
    ∷ invoke 9 wrong area
    ∷ invoke 9 put_both area
    ∷ deliver 5 area
    -- board 2 gets Forward 4 too early, then 3 (Forward 7) and 4 again (Forward 8)
    ∷ deliver 4 area
    ∷ deliver 3 area
    ∷ deliver 4 area
    -- HERE the first moment. The tail gets 8 too early, then 7 (ShardAppends 9 and 10) and 8 (ShardAppend 11)
    ∷ deliver 8 area
    ∷ deliver 7 area
    ∷ deliver 8 area
    -- shard 2 gets its second job too early, its first (ExecNotif 12) twice, its second (ExecNotif 13)
    ∷ deliver 11 area
    ∷ deliver 10 area
    ∷ deliver 10 area
    ∷ deliver 11 area
    -- the second job's answer comes first: Executed 14 and 15, Response 16, which client 3 takes once
    ∷ deliver 13 area
    ∷ deliver 14 area
    ∷ deliver 15 area
    ∷ deliver 16 area
    ∷ deliver 16 area
    -- HERE the second moment. Client 9's write goes down: Forward 17, ShardAppends 18 and 19; 19 is lost
    ∷ deliver 6 area
    ∷ deliver 17 area
    -- shard 1 runs its first job (ExecNotif 20); shard 2's answer 12 comes late; with both, Executed 21
    ∷ deliver 9 area
    ∷ deliver 12 area
    ∷ deliver 20 area
    -- shard 1 runs its second job (ExecNotif 22); board 2 sends Executed 23, which is lost
    ∷ deliver 18 area
    ∷ deliver 21 area
    -- client 3 retries number 0: Submit 24, Forward 25, and board 2 sends Executed 26: Response 27
    ∷ retry 3 0 area
    ∷ deliver 24 area
    ∷ deliver 25 area
    ∷ deliver 26 area
    ∷ deliver 27 area
    -- HERE the third moment
    ∷ []

-- ---- What is seen

pub record Seen : Type 0 where
  pub logs : List (List Write)
  pub ran : List (Option ℕ)
  pub keys : List (Option Cell)
  pub replies : List ReplyTaken
  pub sent : ℕ

-- the three logs, what each shard group ran last and has for its key, the replies taken, and how many frames were sent
unfoldable pub seen_in : World rules → Seen
seen_in w =
    record {
      logs = log_of w 1 ∷ log_of w 2 ∷ log_of w 3 ∷ [];
      ran = (w.shards 1).last_run ∷ (w.shards 2).last_run ∷ [];
      keys = (w.shards 1).store 4 ∷ (w.shards 2).store 5 ∷ [];
      replies = w.replies;
      sent = length w.sent;
    }

abbrev first : Write
first = record { client = 3; number = 0; operations = put 5 7 ∷ get 4 ∷ [] }

abbrev second : Write
second = record { client = 3; number = 1; operations = get 5 ∷ [] }

abbrev third : Write
third = record { client = 9; number = 0; operations = put 4 1 ∷ put 5 2 ∷ [] }

-- what client 3 is told of its number 1: the get at place 0 saw 7; and of number 0: the get at place 1 saw nothing
abbrev told_second : ReplyTaken
told_second = record { client = 3; number = 1; reads = record { place = 0; value = some 7 } ∷ [] }

abbrev told_first : ReplyTaken
told_first = record { client = 3; number = 0; reads = record { place = 1; value = none } ∷ [] }

-- what is seen at the three moments
abbrev pub at_first : Seen
at_first = record { logs = (first ∷ second ∷ third ∷ []) ∷ (first ∷ second ∷ []) ∷ [] ∷ []; ran = none ∷ none ∷ []; keys = none ∷ none ∷ []; replies = []; sent = 9 }

abbrev pub at_second : Seen
at_second =
    record {
      logs = (first ∷ second ∷ third ∷ []) ∷ (first ∷ second ∷ []) ∷ (first ∷ second ∷ []) ∷ [];
      ran = none ∷ some 1 ∷ [];
      keys = none ∷ some (record { value = 7; ind = 0 }) ∷ [];
      replies = told_second ∷ [];
      sent = 17;
    }

abbrev pub at_third : Seen
at_third =
    record {
      logs = (first ∷ second ∷ third ∷ []) ∷ (first ∷ second ∷ third ∷ []) ∷ (first ∷ second ∷ third ∷ []) ∷ [];
      ran = some 2 ∷ some 1 ∷ [];
      keys = some (record { value = 1; ind = 2 }) ∷ some (record { value = 7; ind = 0 }) ∷ [];
      replies = told_second ∷ told_first ∷ [];
      sent = 28;
    }

-- ---- Run by the rules

abbrev asks_get : ℕ → Asked
asks_get key = record { code = 0; key = key; value = 0 }

abbrev asks_put : ℕ → ℕ → Asked
asks_put key value = record { code = 1; key = key; value = value }

abbrev by_rules : List (Choice rules)
by_rules = story rules (asks_put 5 7 ∷ asks_get 4 ∷ []) (asks_get 5 ∷ []) (record { code = 2; key = 4; value = 1 } ∷ []) (asks_put 4 1 ∷ asks_put 5 2 ∷ [])

-- all that computes
running : Unit {0}
unfolding seen_in computing story start after_board after_shard remembered after_call after_reply arrive arrive_sent next after run
running = tt

moment1 : seen_in (run rules 3 2 (take 12 by_rules)) ≡ at_first
unfolding running
moment1 = refl

moment2 : seen_in (run rules 3 2 (take 24 by_rules)) ≡ at_second
unfolding running
moment2 = refl

moment3 : seen_in (run rules 3 2 by_rules) ≡ at_third
unfolding running
moment3 = refl
