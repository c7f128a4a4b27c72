-- The rules of "Sizes" and "Frames" at their edges: for each a frame, a start or an invoked list that obeys it by the last number or byte, and one
-- that breaks it by the next.
-- Assumes nothing.
use Rattle.std.specs.Prelude.{Bool, true, false, not, List, [], ◌∷◌, ◌++◌, ℕ}
use Rattle.std.proofs.Math.Option.{Option, none, some}
use Prim.Native.String.{String}
use Rattle.rules.specs.Lists.{◌=?◌}
use Rattle.rules.specs.Answers.{breaks_rule, not_usable}
use Rattle.rules.specs.Transactions.{Operation, get, put, Placed, Read}
use Rattle.rules.specs.Frames.{Frame, submit, forward, shard_append, exec_notif, executed, response, two, with_length, encode, decode}
use Rattle.rules.specs.Board as B
use Rattle.rules.specs.Shard as S
use Rattle.rules.specs.Session as C
use Rattle.situations.specs.Table.{bytes_a}

pub record Edge : Type 0 where
  pub rule : String
  pub within : Bool
  pub beyond : Bool

infix 4 ◌within◌beyond◌
abbrev pub ◌within◌beyond◌ : String → Bool → Bool → Edge
rule within a beyond b = record { rule = rule; within = a; beyond = b }

-- what must come out: the one obeys, the other does not
abbrev pub at_the_edge : Edge → Edge
at_the_edge e = e.rule within true beyond false

-- ---- Who obeys

-- some bytes are a frame's
abbrev pub is_frame : Option Frame → Bool
is_frame none = false
is_frame (some f) = true

abbrev pub reads : List ℕ → Bool
reads s = is_frame (decode s)

abbrev pub read : Frame → Bool
read f = reads (encode f)

-- a start, or an invocation by a fresh session, is not refused by 11, or by 1
abbrev pub boards : (n m own : ℕ) → Bool
boards n m own = not ((B.start n m own).answer =? not_usable)

abbrev pub groups : (m own : ℕ) → Bool
groups m own = not ((S.start m own).answer =? not_usable)

abbrev pub clients : ℕ → Bool
clients c = not ((C.start c).answer =? not_usable)

abbrev pub invokes : List C.Asked → Bool
invokes list = not ((C.invoke (C.start 3).state list 68).answer =? breaks_rule)

-- ---- Frames, each field as given and the rest right

abbrev pub one : List Operation
one = put 5 1000 ∷ []

abbrev pub four : List Operation
four = get 0 ∷ get 255 ∷ put 0 0 ∷ put 255 4294967295 ∷ []

abbrev pub submits : (client number ack : ℕ) → List Operation → Frame
submits c k ack os = submit (record { client = c; number = k; operations = os }) ack

abbrev pub forwards : (ind client number ack : ℕ) → List Operation → Frame
forwards ind c k ack os = forward ind (record { client = c; number = k; operations = os }) ack

-- one placed put, or one read, at each of these places
abbrev pub puts : List ℕ → List Placed
puts [] = []
puts (p ∷ ps) = record { place = p; operation = put 5 1000 } ∷ puts ps

abbrev pub saw : List ℕ → List Read
saw [] = []
saw (p ∷ ps) = record { place = p; value = none } ∷ saw ps

-- a Submit and an Executed whose list is given by its bytes, with the count before it
abbrev pub submit_of : List ℕ → List ℕ
submit_of list = with_length (two 1 ++ (3 ∷ two 0 ++ two 0 ++ list))

abbrev pub executed_of : List ℕ → List ℕ
executed_of list = with_length (two 5 ++ two 0 ++ list)

-- an operation as it is handed to invoke
abbrev pub asks : (code value : ℕ) → C.Asked
asks code value = record { code = code; key = 5; value = value }

-- ---- The rows

abbrev pub edges : List Edge
edges =
    -- Sizes
    ("n 2.." within boards 2 1 1 beyond boards 1 1 1)
    ∷ ("n ..8" within boards 8 1 1 beyond boards 9 1 1)
    ∷ ("m 1.." within boards 2 1 1 beyond boards 2 0 1)
    ∷ ("m ..8" within boards 2 8 1 beyond boards 2 9 1)
    ∷ ("board 1.." within boards 2 1 1 beyond boards 2 1 0)
    ∷ ("board ..n" within boards 2 1 2 beyond boards 2 1 3)
    ∷ ("shard group, m 1.." within groups 1 1 beyond groups 0 1)
    ∷ ("shard group, m ..8" within groups 8 8 beyond groups 9 8)
    ∷ ("shard group 1.." within groups 2 1 beyond groups 2 0)
    ∷ ("shard group ..m" within groups 2 2 beyond groups 2 3)
    ∷ ("client ..15" within clients 15 beyond clients 16)
    ∷ ("invoked operations 1.." within invokes (asks 1 0 ∷ []) beyond invokes [])
    ∷ ("invoked operations ..4" within invokes (asks 1 0 ∷ asks 0 0 ∷ asks 0 0 ∷ asks 0 0 ∷ []) beyond invokes (asks 1 0 ∷ asks 0 0 ∷ asks 0 0 ∷ asks 0 0 ∷ asks 0 0 ∷ []))
    ∷ ("invoked, get or put" within invokes (asks 1 0 ∷ []) beyond invokes (asks 2 0 ∷ []))
    ∷ ("invoked, 0 for get" within invokes (asks 0 0 ∷ []) beyond invokes (asks 0 1 ∷ []))
    ∷ ("invoked, value ..4,294,967,295" within invokes (asks 1 4294967295 ∷ []) beyond invokes (asks 1 4294967296 ∷ []))
    -- Submit and Forward
    ∷ ("Submit, client ..15" within read (submits 15 0 0 one) beyond read (submits 16 0 0 one))
    ∷ ("Submit, number ..65,534" within read (submits 3 65534 65534 one) beyond read (submits 3 65535 65535 one))
    ∷ ("Submit, ack ≤ number" within read (submits 3 8 8 one) beyond read (submits 3 8 9 one))
    ∷ ("Submit, number − ack ≤ 7" within read (submits 3 8 1 one) beyond read (submits 3 8 0 one))
    ∷ ("Submit, c 1.." within read (submits 3 0 0 one) beyond read (submits 3 0 0 []))
    ∷ ("Submit, c ..4" within read (submits 3 0 0 four) beyond read (submits 3 0 0 (get 0 ∷ four)))
    ∷ ("Forward, log number ..255" within read (forwards 255 3 0 0 one) beyond read (forwards 256 3 0 0 one))
    ∷ ("Forward, client ..15" within read (forwards 0 15 0 0 one) beyond read (forwards 0 16 0 0 one))
    ∷ ("Forward, number ..65,534" within read (forwards 0 3 65534 65534 one) beyond read (forwards 0 3 65535 65535 one))
    ∷ ("Forward, ack ≤ number" within read (forwards 0 3 8 8 one) beyond read (forwards 0 3 8 9 one))
    ∷ ("Forward, number − ack ≤ 7" within read (forwards 0 3 8 1 one) beyond read (forwards 0 3 8 0 one))
    ∷ ("Forward, c ..4" within read (forwards 0 3 0 0 four) beyond read (forwards 0 3 0 0 (get 0 ∷ four)))
    -- ShardAppend
    ∷ ("ShardAppend, shard 1.." within read (shard_append 1 0 1 (puts (0 ∷ []))) beyond read (shard_append 0 0 1 (puts (0 ∷ []))))
    ∷ ("ShardAppend, shard ..8" within read (shard_append 8 0 1 (puts (0 ∷ []))) beyond read (shard_append 9 0 1 (puts (0 ∷ []))))
    ∷ ("ShardAppend, log number ..255" within read (shard_append 1 255 1 (puts (0 ∷ []))) beyond read (shard_append 1 256 1 (puts (0 ∷ []))))
    ∷ ("ShardAppend, sn 1.." within read (shard_append 1 0 1 (puts (0 ∷ []))) beyond read (shard_append 1 0 0 (puts (0 ∷ []))))
    ∷ ("ShardAppend, sn ..256" within read (shard_append 1 0 256 (puts (0 ∷ []))) beyond read (shard_append 1 0 257 (puts (0 ∷ []))))
    ∷ ("ShardAppend, c 1.." within read (shard_append 1 0 1 (puts (0 ∷ []))) beyond read (shard_append 1 0 1 []))
    ∷ ("ShardAppend, place ..3" within read (shard_append 1 0 1 (puts (3 ∷ []))) beyond read (shard_append 1 0 1 (puts (4 ∷ []))))
    ∷ ("ShardAppend, places rise" within read (shard_append 1 0 1 (puts (0 ∷ 1 ∷ 2 ∷ 3 ∷ []))) beyond read (shard_append 1 0 1 (puts (0 ∷ 1 ∷ 1 ∷ 3 ∷ []))))
    -- ExecNotif, Executed, Response
    ∷ ("ExecNotif, shard 1.." within read (exec_notif 1 0 []) beyond read (exec_notif 0 0 []))
    ∷ ("ExecNotif, shard ..8" within read (exec_notif 8 0 []) beyond read (exec_notif 9 0 []))
    ∷ ("ExecNotif, log number ..255" within read (exec_notif 1 255 []) beyond read (exec_notif 1 256 []))
    ∷ ("ExecNotif, place ..3" within read (exec_notif 1 0 (saw (3 ∷ []))) beyond read (exec_notif 1 0 (saw (4 ∷ []))))
    ∷ ("Executed, log number ..255" within read (executed 255 []) beyond read (executed 256 []))
    ∷ ("Executed, places rise" within read (executed 0 (saw (0 ∷ 1 ∷ 2 ∷ 3 ∷ []))) beyond read (executed 0 (saw (0 ∷ 2 ∷ 1 ∷ 3 ∷ []))))
    ∷ ("Response, client ..15" within read (response 15 0 []) beyond read (response 16 0 []))
    ∷ ("Response, number ..65,534" within read (response 3 65534 []) beyond read (response 3 65535 []))
    -- bytes that no frame has
    ∷ ("0 get or 1 put" within reads (submit_of (1 ∷ 1 ∷ 5 ∷ 7 ∷ 0 ∷ 0 ∷ 0 ∷ [])) beyond reads (submit_of (1 ∷ 2 ∷ 5 ∷ 7 ∷ 0 ∷ 0 ∷ 0 ∷ [])))
    ∷ ("0 for get" within reads (submit_of (1 ∷ 0 ∷ 5 ∷ 0 ∷ 0 ∷ 0 ∷ 0 ∷ [])) beyond reads (submit_of (1 ∷ 0 ∷ 5 ∷ 0 ∷ 0 ∷ 0 ∷ 1 ∷ [])))
    ∷ ("present 0 or 1" within reads (executed_of (1 ∷ 0 ∷ 1 ∷ 7 ∷ 0 ∷ 0 ∷ 0 ∷ [])) beyond reads (executed_of (1 ∷ 0 ∷ 2 ∷ 7 ∷ 0 ∷ 0 ∷ 0 ∷ [])))
    ∷ ("0 if absent" within reads (executed_of (1 ∷ 0 ∷ 0 ∷ 0 ∷ 0 ∷ 0 ∷ 0 ∷ [])) beyond reads (executed_of (1 ∷ 0 ∷ 0 ∷ 0 ∷ 0 ∷ 0 ∷ 1 ∷ [])))
    ∷ ("the count is the list's" within reads (executed_of (0 ∷ [])) beyond reads (executed_of (1 ∷ [])))
    ∷ ("nothing within the length behind the list" within reads (executed_of (0 ∷ [])) beyond reads (executed_of (0 ∷ 0 ∷ [])))
    ∷ ("nothing behind the frame" within reads bytes_a beyond reads (bytes_a ++ (0 ∷ [])))
    ∷ ("kinds ..6" within reads (with_length (two 6 ++ (3 ∷ 0 ∷ 0 ∷ 0 ∷ []))) beyond reads (with_length (two 7 ++ (3 ∷ 0 ∷ 0 ∷ 0 ∷ []))))
    ∷ ("the kind has two bytes" within reads (with_length (two 6 ++ (3 ∷ 0 ∷ 0 ∷ 0 ∷ []))) beyond reads (with_length (two 262 ++ (3 ∷ 0 ∷ 0 ∷ 0 ∷ []))))
    ∷ ("the length has two bytes" within reads (6 ∷ 0 ∷ 6 ∷ 0 ∷ 3 ∷ 0 ∷ 0 ∷ 0 ∷ []) beyond reads (6 ∷ 1 ∷ 6 ∷ 0 ∷ 3 ∷ 0 ∷ 0 ∷ 0 ∷ []))
    ∷ []
