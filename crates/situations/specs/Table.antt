-- The situations of 01 that are marked P: what is done, and what must come out.
-- Assumes nothing.
use Rattle.std.specs.Prelude.{List, [], ◌∷◌, ◌++◌, map, ℕ}
use Rattle.std.proofs.Math.Option.{Option, none, some}
use Prim.Native.String.{String}
use Rattle.rules.specs.Transactions.{get, put, Write}
use Rattle.rules.specs.Frames.{Frame, submit, forward, shard_append, exec_notif, executed, response, encode}
use Rattle.rules.specs.Outcomes.{Outcome}
use Rattle.rules.specs.Queue.{Queue}
use Rattle.rules.specs.Board as B
use Rattle.rules.specs.Board.{Status, PRE, EXE}
use Rattle.rules.specs.Shard as S
use Rattle.rules.specs.Session as C

-- ---- The forms of the table

-- what the lift controller's program asks of a session: an invocation, or that a Response's bytes be taken
pub data Call : Type 0 where
  invoke : List C.Asked → Call
  hear : List ℕ → Call

-- what is given to a step, beside the answer and the frames that must come out
pub record Step (Given : Type 0) : Type 0 where
  pub given : Given
  pub answer : ℕ
  pub sent : List Frame

infix 4 ◌gives◌and◌
abbrev pub ◌gives◌and◌ : {Given : Type 0} → Given → ℕ → List Frame → Step Given
x gives a and fs = record { given = x; answer = a; sent = fs }

-- a frame's bytes; or the steps of a fresh board, shard group or session. Of a board also its log's states and shard 1's queue at the end.
pub data Situation : Type 0 where
  spells : (name : String) → Frame → List ℕ → Situation
  at_board : (name : String) (n m own : ℕ) → List (Step (List ℕ)) → (log : List Status) (queue : Queue) → Situation
  at_shard : (name : String) (m own : ℕ) → List (Step (List ℕ)) → Situation
  at_session : (name : String) (client : ℕ) → List (Step Call) → Situation

-- ---- The same situation, with what the rules give; every out area has 68 bytes, the least

module _ {State Given : Type 0} (act : State → Given → Outcome State) where
  abbrev pub played : State → List (Step Given) → List (Step Given)
  played s [] = []
  played s (x ∷ xs) = (x.given gives (act s x.given).answer and (act s x.given).frames) ∷ played (act s x.given).state xs

  abbrev pub after : State → List (Step Given) → State
  after s [] = s
  after s (x ∷ xs) = after (act s x.given).state xs

abbrev pub board_step : B.Board → List ℕ → Outcome B.Board
board_step b s = B.step b s 68

abbrev pub shard_step : S.Shard → List ℕ → Outcome S.Shard
shard_step b s = S.step b s 68

abbrev pub call : C.Session → Call → Outcome C.Session
call s (invoke asked) = C.invoke s asked 68
call s (hear given) = record { answer = (C.step s given).answer; state = (C.step s given).session; frames = [] }

abbrev pub statuses : B.Board → List Status
statuses b = map (λ (e : B.Entry). e.status) b.log

abbrev pub by_the_rules : Situation → Situation
by_the_rules (spells name f s) = spells name f (encode f)
by_the_rules (at_board name n m own xs log q) =
    let b = (B.start n m own).state in
    at_board name n m own (played board_step b xs) (statuses (after board_step b xs)) ((after board_step b xs).queue 1)
by_the_rules (at_shard name m own xs) = at_shard name m own (played shard_step (S.start m own).state xs)
by_the_rules (at_session name client xs) = at_session name client (played call (C.start client).state xs)

-- ---- The table

-- client 3's number k, put key 5 value 1000
abbrev pub write : ℕ → Write
write k = record { client = 3; number = k; operations = put 5 1000 ∷ [] }

abbrev pub bytes_a : List ℕ
bytes_a = 0x0E ∷ 0x00 ∷ 0x01 ∷ 0x00 ∷ 0x03 ∷ 0x00 ∷ 0x00 ∷ 0x00 ∷ 0x00 ∷ 0x01 ∷ 0x01 ∷ 0x05 ∷ 0xE8 ∷ 0x03 ∷ 0x00 ∷ 0x00 ∷ []

-- A with its count byte 2
abbrev pub bytes_b : List ℕ
bytes_b = 0x0E ∷ 0x00 ∷ 0x01 ∷ 0x00 ∷ 0x03 ∷ 0x00 ∷ 0x00 ∷ 0x00 ∷ 0x00 ∷ 0x02 ∷ 0x01 ∷ 0x05 ∷ 0xE8 ∷ 0x03 ∷ 0x00 ∷ 0x00 ∷ []

-- its ShardAppend, to the one shard group
abbrev pub sub : ℕ → ℕ → Frame
sub ind sn = shard_append 1 ind sn (record { place = 0; operation = put 5 1000 } ∷ [])

abbrev pub asks : Call
asks = invoke (record { code = 1; key = 5; value = 1000 } ∷ [])

abbrev pub reply : ℕ → Call
reply k = hear (encode (response 3 k []))

-- a frame alone
abbrev pub one : Frame → List Frame
one f = f ∷ []

-- entries 0, 1, 2 at a tail
abbrev pub three_entries : List (Step (List ℕ))
three_entries =
    (encode (forward 0 (write 0) 0) gives 0 and one (sub 0 1))
    ∷ (encode (forward 1 (write 1) 0) gives 0 and one (sub 1 2))
    ∷ (encode (forward 2 (write 2) 0) gives 0 and one (sub 2 3)) ∷ []

abbrev pub queue : List ℕ → Option ℕ → Queue
queue waiting last = record { waiting = waiting; last_taken = last }

abbrev pub table : List Situation
table =
    spells "A" (submit (write 0) 0) bytes_a
    -- A with its count byte 2: 1
    ∷ at_board "B" 2 1 1 ((bytes_b gives 1 and []) ∷ []) [] (queue [] none)
    -- fresh head, number 1 with ack 0: 4
    ∷ at_board "C" 2 1 1 ((encode (submit (write 1) 0) gives 4 and []) ∷ []) [] (queue [] none)
    -- A at a fresh head twice: 0 and Forward both times, log length 1
    ∷ at_board "D" 2 1 1
    ((bytes_a gives 0 and one (forward 0 (write 0) 0))
    ∷ (bytes_a gives 0 and one (forward 0 (write 0) 0)) ∷ [])
    (PRE ∷ []) (queue (0 ∷ []) none)
    -- sn 2 at a fresh shard: 4. sn 1 twice: 0, then 7
    ∷ at_shard "E" 1 1
    ((encode (sub 0 2) gives 4 and [])
    ∷ (encode (sub 0 1) gives 0 and one (exec_notif 1 0 []))
    ∷ (encode (sub 0 1) gives 7 and []) ∷ [])
    -- ExecNotif 2 first: queue empty, entry 2 EXE, 0 and 1 PRE. Then ExecNotif 0: taken, last taken stays 2
    ∷ at_board "F" 2 1 2 (three_entries ++ ((encode (exec_notif 1 2 []) gives 0 and one (executed 2 [])) ∷ []))
    (PRE ∷ PRE ∷ EXE ∷ []) (queue [] (some 2))
    ∷ at_board "F, then" 2 1 2
    (three_entries ++ ((encode (exec_notif 1 2 []) gives 0 and one (executed 2 [])) ∷ (encode (exec_notif 1 0 []) gives 0 and one (executed 0 [])) ∷ []))
    (EXE ∷ PRE ∷ EXE ∷ []) (queue [] (some 2))
    -- put key 5 value 7, get key 5: one read, place 1, present, 7
    ∷ at_shard "G" 1 1
    ((encode (shard_append 1 0 1 (record { place = 0; operation = put 5 7 } ∷ record { place = 1; operation = get 5 } ∷ []))
    gives 0 and one (exec_notif 1 0 (record { place = 1; value = some 7 } ∷ []))) ∷ [])
    -- numbers 0..7 invoked, 1..7 answered: invoke gives 9. Then 0 answered: number 8 goes out with ack 8
    ∷ at_session "H" 3
    ((asks gives 0 and one (submit (write 0) 0)) ∷ (asks gives 0 and one (submit (write 1) 0)) ∷ (asks gives 0 and one (submit (write 2) 0))
    ∷ (asks gives 0 and one (submit (write 3) 0)) ∷ (asks gives 0 and one (submit (write 4) 0)) ∷ (asks gives 0 and one (submit (write 5) 0))
    ∷ (asks gives 0 and one (submit (write 6) 0)) ∷ (asks gives 0 and one (submit (write 7) 0))
    ∷ (reply 1 gives 0 and []) ∷ (reply 2 gives 0 and []) ∷ (reply 3 gives 0 and []) ∷ (reply 4 gives 0 and [])
    ∷ (reply 5 gives 0 and []) ∷ (reply 6 gives 0 and []) ∷ (reply 7 gives 0 and [])
    ∷ (asks gives 9 and []) ∷ (reply 0 gives 0 and []) ∷ (asks gives 0 and one (submit (write 8) 8)) ∷ [])
    -- Executed twice for one entry: 0, then 7
    ∷ at_board "I" 2 1 1
    ((bytes_a gives 0 and one (forward 0 (write 0) 0))
    ∷ (encode (executed 0 []) gives 0 and one (response 3 0 []))
    ∷ (encode (executed 0 []) gives 7 and []) ∷ [])
    (EXE ∷ []) (queue [] (some 0))
    ∷ []
