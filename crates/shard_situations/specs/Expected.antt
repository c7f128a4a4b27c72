-- What situations E and G must give.
-- Assumes nothing.
use Rattle.std.specs.Prelude.{List, [], ◌∷◌, ℕ}

-- "sn 2 at a fresh shard: 4. sn 1 twice: 0, then 7"
abbrev pub answers_e : List ℕ
answers_e = 4 ∷ 0 ∷ 7 ∷ []

-- ExecNotif from shard 1 for log number 0: "one read, place 1, present, 7"
abbrev pub sent_g : List ℕ
sent_g = 12 ∷ 0 ∷ 4 ∷ 0 ∷ 1 ∷ 0 ∷ 0 ∷ 1 ∷ 1 ∷ 1 ∷ 7 ∷ 0 ∷ 0 ∷ 0 ∷ []

-- ShardAppend to shard 1 with log number 0 and this sn: put key 5 value 1000, at place 0
abbrev pub put_at : ℕ → List ℕ
put_at sn = 15 ∷ 0 ∷ 3 ∷ 0 ∷ 1 ∷ 0 ∷ 0 ∷ sn ∷ 0 ∷ 1 ∷ 0 ∷ 1 ∷ 5 ∷ 232 ∷ 3 ∷ 0 ∷ 0 ∷ []

-- the same with sn 1: put key 5 value 7 at place 0, get key 5 at place 1
abbrev pub put_and_get : List ℕ
put_and_get = 22 ∷ 0 ∷ 3 ∷ 0 ∷ 1 ∷ 0 ∷ 0 ∷ 1 ∷ 0 ∷ 2 ∷ 0 ∷ 1 ∷ 5 ∷ 7 ∷ 0 ∷ 0 ∷ 0 ∷ 1 ∷ 0 ∷ 5 ∷ 0 ∷ 0 ∷ 0 ∷ 0 ∷ []
