-- "Order: 11, 1, 2, then ..": frames and calls for which two refusals have cause at once. Each row has the answer that is given then, and the
-- answer where only the later one has cause. Two that follow each other in an order have a row, unless their causes exclude each other, as those of 4
-- and 5 do; then the next that can have cause too.
-- Assumes nothing.
use Rattle.std.specs.Prelude.{List, [], ◌∷◌, ℕ}
use Rattle.std.proofs.Math.Option.{some}
use Prim.Native.String.{String}
use Rattle.rules.specs.Transactions.{get, put, Write, Placed, Read}
use Rattle.rules.specs.Frames.{Frame, submit, forward, shard_append, exec_notif, executed, response, encode}
use Rattle.rules.specs.Board as B
use Rattle.rules.specs.Shard as S
use Rattle.rules.specs.Session as C

pub record Row : Type 0 where
  pub first : ℕ
  pub second : ℕ
  pub name : String
  pub both : ℕ
  pub alone : ℕ

infix 4 ◌before◌of◌both◌alone◌
abbrev pub ◌before◌of◌both◌alone◌ : ℕ → ℕ → String → ℕ → ℕ → Row
x before y of what both a alone b = record { first = x; second = y; name = what; both = a; alone = b }

-- the row as 01's order has it: where both have cause the first is given, where the second has cause alone, the second
abbrev pub by_the_order : Row → Row
by_the_order r = r.first before r.second of r.name both r.first alone r.second

-- ---- Boards 1 and 2 of a chain of 2, shard group 1 of 2, client 3: fresh, and after some frames

abbrev pub board_after : B.Board → List Frame → B.Board
board_after b [] = b
board_after b (f ∷ fs) = board_after (B.step b (encode f) 68).state fs

abbrev pub shard_after : S.Shard → List Frame → S.Shard
shard_after s [] = s
shard_after s (f ∷ fs) = shard_after (S.step s (encode f) 68).state fs

abbrev pub head : List Frame → B.Board
head fs = board_after (B.start 2 2 1).state fs

abbrev pub tail : List Frame → B.Board
tail fs = board_after (B.start 2 2 2).state fs

abbrev pub group : List Frame → S.Shard
group fs = shard_after (S.start 2 1).state fs

-- a list for shard 1, with key 0, which is its own, or 1, which is not
abbrev pub on_key : ℕ → List Placed
on_key key = record { place = 0; operation = put key 7 } ∷ []

-- a group that ran its first list, log number 0
abbrev pub ran : S.Shard
ran = group (shard_append 1 0 1 (on_key 0) ∷ [])

abbrev pub session : C.Session
session = (C.start 3).state

-- the answer to a frame, with an out area of 68 bytes
abbrev pub at_board : B.Board → Frame → ℕ
at_board b f = (B.step b (encode f) 68).answer

abbrev pub at_shard : S.Shard → Frame → ℕ
at_shard s f = (S.step s (encode f) 68).answer

abbrev pub at_session : C.Session → Frame → ℕ
at_session s f = (C.step s (encode f)).answer

-- client 3's number k: a put on shard 1 and a get on shard 2; or other operations
abbrev pub write : ℕ → Write
write k = record { client = 3; number = k; operations = put 0 7 ∷ get 1 ∷ [] }

abbrev pub other : ℕ → Write
other k = record { client = 3; number = k; operations = put 0 8 ∷ [] }

-- what the get saw, and what a get at another place would have
abbrev pub saw : ℕ → List Read
saw place = record { place = place; value = some 7 } ∷ []

abbrev pub asked : List C.Asked
asked = record { code = 1; key = 5; value = 1000 } ∷ []

-- a session as it stands before its next number, with one number outstanding: far on in a run that is too long to play
abbrev pub waiting : (next number : ℕ) → C.Session
waiting next number =
    C.with_window (record { next = next; outstanding = record { number = number; operations = put 5 1000 ∷ [] } ∷ [] }) session

-- ---- The rows

abbrev pub rows : List Row
rows =
    -- every receiver: 11, 1, 2
    (11 before 1 of "board, small out area" both (B.step (head []) [] 67).answer alone (B.step (head []) [] 68).answer)
    ∷ (11 before 1 of "board, not started" both (B.step (B.start 9 2 1).state [] 68).answer alone (B.step (head []) [] 68).answer)
    ∷ (11 before 1 of "shard group, small out area" both (S.step (group []) [] 67).answer alone (S.step (group []) [] 68).answer)
    ∷ (11 before 1 of "session, not started" both (C.step (C.start 16).state []).answer alone (C.step session []).answer)
    ∷ (1 before 2 of "board, sn 0" both at_board (head []) (shard_append 1 0 0 (on_key 0)) alone at_board (head []) (shard_append 1 0 1 (on_key 0)))
    ∷ (1 before 2 of "shard group, log number 256" both at_shard (group []) (executed 256 []) alone at_shard (group []) (executed 255 []))
    ∷ (1 before 2 of "session, client 16" both at_session session (response 16 0 []) alone at_session session (response 4 0 []))
    -- kinds 1 and 2: 1, 2, then 3, 4, 8 and 4, 8
    ∷ (1 before 4 of "Submit, ack rule" both at_board (head []) (submit (write 8) 0) alone at_board (head []) (submit (write 8) 1))
    ∷ (2 before 4 of "Submit at the tail" both at_board (tail []) (submit (write 1) 0) alone at_board (head []) (submit (write 1) 0))
    ∷ (2 before 3 of "Submit at the tail"
    both at_board (tail (forward 0 (write 0) 0 ∷ forward 1 (write 1) 1 ∷ [])) (submit (write 0) 0)
    alone at_board (head (submit (write 0) 0 ∷ submit (write 1) 1 ∷ [])) (submit (write 0) 0))
    ∷ (3 before 8 of "Submit, other operations"
    both at_board (head (submit (write 0) 0 ∷ submit (write 1) 1 ∷ [])) (submit (other 0) 0)
    alone at_board (head (submit (write 0) 0 ∷ submit (write 1) 0 ∷ [])) (submit (other 0) 0))
    ∷ (2 before 4 of "Forward at the head" both at_board (head []) (forward 1 (write 0) 0) alone at_board (tail []) (forward 1 (write 0) 0))
    ∷ (4 before 8 of "Forward, number 1 first" both at_board (tail []) (forward 1 (write 1) 0) alone at_board (tail []) (forward 0 (write 1) 0))
    -- kind 3: 2, then 7, 4, 8
    ∷ (2 before 7 of "ShardAppend, another shard" both at_shard ran (shard_append 2 1 1 (on_key 0)) alone at_shard ran (shard_append 1 1 1 (on_key 0)))
    ∷ (7 before 8 of "ShardAppend, foreign key" both at_shard ran (shard_append 1 1 1 (on_key 1)) alone at_shard ran (shard_append 1 1 2 (on_key 1)))
    ∷ (7 before 8 of "ShardAppend, last run" both at_shard ran (shard_append 1 0 1 (on_key 0)) alone at_shard ran (shard_append 1 0 2 (on_key 0)))
    ∷ (4 before 8 of "ShardAppend, foreign key" both at_shard ran (shard_append 1 1 3 (on_key 1)) alone at_shard ran (shard_append 1 1 2 (on_key 1)))
    -- kinds 4 and 5: 2, then 6, 7, 8
    ∷ (2 before 6 of "ExecNotif, shard above m" both at_board (tail []) (exec_notif 3 0 []) alone at_board (tail []) (exec_notif 2 0 []))
    ∷ (7 before 8 of "ExecNotif, struck shard"
    both at_board (tail (forward 0 (write 0) 0 ∷ exec_notif 1 0 [] ∷ [])) (exec_notif 1 0 (saw 1))
    alone at_board (tail (forward 0 (write 0) 0 ∷ [])) (exec_notif 1 0 (saw 1)))
    ∷ (2 before 6 of "Executed at the tail" both at_board (tail []) (executed 0 []) alone at_board (head []) (executed 0 []))
    ∷ (7 before 8 of "Executed, already EXE"
    both at_board (head (submit (write 0) 0 ∷ executed 0 (saw 1) ∷ [])) (executed 0 [])
    alone at_board (head (submit (write 0) 0 ∷ [])) (executed 0 []))
    -- kind 6: 2, then 7, 8
    ∷ (2 before 7 of "Response, another client" both at_session session (response 4 0 []) alone at_session session (response 3 0 []))
    ∷ (2 before 8 of "Response, another client" both at_session (waiting 1 0) (response 4 0 (saw 0)) alone at_session (waiting 1 0) (response 3 0 (saw 0)))
    -- invoke: 11, 1, 10, 9; retry: 11, 7
    ∷ (11 before 1 of "invoke, no operation" both (C.invoke session [] 67).answer alone (C.invoke session [] 68).answer)
    ∷ (1 before 10 of "invoke, no operation" both (C.invoke (waiting 65535 65534) [] 68).answer alone (C.invoke (waiting 65535 65534) asked 68).answer)
    ∷ (1 before 9 of "invoke, no operation" both (C.invoke (waiting 8 0) [] 68).answer alone (C.invoke (waiting 8 0) asked 68).answer)
    ∷ (10 before 9 of "invoke" both (C.invoke (waiting 65535 65527) asked 68).answer alone (C.invoke (waiting 65534 65526) asked 68).answer)
    ∷ (11 before 7 of "retry" both (C.retry session 0 67).answer alone (C.retry session 0 68).answer)
    ∷ []
