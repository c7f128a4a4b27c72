-- What the situations must give.
-- Assumes nothing.
use Rattle.std.specs.Prelude.{true, false, List, [], ◌∷◌, ℕ, ◌/◌, ◌%◌}
use Rattle.board_situations.specs.declared.SeenD.{SeenD}
use Rattle.board_situations.specs.declared.SeenF.{SeenF}
use Rattle.board_situations.specs.declared.SeenI.{SeenI}

-- B: "A with its count byte 2: 1". C: "fresh head, number 1 with ack 0: 4". D: "A at a fresh head twice: 0 .. both times, log length 1"
abbrev pub seen_d : SeenD
seen_d = record { b = 1; c = 4; first = 0; second = 0; entries = 1 }

-- "and Forward both times": log number 0, client 3, number 0, ack 0, put key 5 value 1000
abbrev pub forward_a : List ℕ
forward_a = 16 ∷ 0 ∷ 2 ∷ 0 ∷ 0 ∷ 0 ∷ 3 ∷ 0 ∷ 0 ∷ 0 ∷ 0 ∷ 1 ∷ 1 ∷ 5 ∷ 232 ∷ 3 ∷ 0 ∷ 0 ∷ []

-- "ExecNotif 2 first: queue empty, entry 2 EXE, 0 and 1 PRE. Then ExecNotif 0: taken, last taken stays 2"
abbrev pub seen_f : SeenF
seen_f = record { first = 0; waiting = 0; exe0 = false; exe1 = false; exe2 = true; second = 0; taken = 3 }

-- "Executed twice for one entry: 0, then 7"
abbrev pub seen_i : SeenI
seen_i = record { first = 0; second = 7 }

-- a Submit of client 3: put key 5 value 1000
abbrev pub submit_of : ℕ → ℕ → ℕ → List ℕ
submit_of count number ack =
    14 ∷ 0 ∷ 1 ∷ 0 ∷ 3 ∷ (number % 256) ∷ (number / 256 % 256) ∷ (ack % 256) ∷ (ack / 256 % 256) ∷ count ∷ 1 ∷ 5 ∷ 232 ∷ 3 ∷ 0 ∷ 0 ∷ []

-- A with this count byte and this number
abbrev pub submit_a : ℕ → ℕ → List ℕ
submit_a count number = 14 ∷ 0 ∷ 1 ∷ 0 ∷ 3 ∷ number ∷ 0 ∷ 0 ∷ 0 ∷ count ∷ 1 ∷ 5 ∷ 232 ∷ 3 ∷ 0 ∷ 0 ∷ []

-- Forward of client 3's number, under the same log number
abbrev pub forward_at : ℕ → List ℕ
forward_at number = 16 ∷ 0 ∷ 2 ∷ 0 ∷ number ∷ 0 ∷ 3 ∷ number ∷ 0 ∷ 0 ∷ 0 ∷ 1 ∷ 1 ∷ 5 ∷ 232 ∷ 3 ∷ 0 ∷ 0 ∷ []

-- ExecNotif from shard 1 without reads
abbrev pub notif_at : ℕ → List ℕ
notif_at number = 6 ∷ 0 ∷ 4 ∷ 0 ∷ 1 ∷ number ∷ 0 ∷ 0 ∷ []

-- Executed for log number 0 without reads
abbrev pub executed_a : List ℕ
executed_a = 5 ∷ 0 ∷ 5 ∷ 0 ∷ 0 ∷ 0 ∷ 0 ∷ []
