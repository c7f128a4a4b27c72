-- Operations, what they touch, and what running them does to a store.
-- Assumes nothing.
use Rattle.std.specs.Prelude.{Bool, true, false, ◌&&◌, List, [], ◌∷◌, ℕ, zero, suc, ◌+◌, ◌%◌}
use Rattle.std.proofs.Math.Option.{Option, none, some}
use Rattle.rules.specs.Lists.{If◌then◌else◌, ◌=?◌, at, changed, has, insert}

-- "operations, get or put"; that a list has 1 to 4 of them is a rule of frames and of invoked lists: ok_operations
pub data Operation : Type 0 where
  get : (key : ℕ) → Operation
  put : (key value : ℕ) → Operation

-- a transaction T with 004's cwsn_T: the client, and the client's number for it
pub record Write : Type 0 where
  pub client : ℕ
  pub number : ℕ
  pub operations : List Operation

-- an operation with its place in the transaction's whole list, counted from 0
pub record Placed : Type 0 where
  pub place : ℕ
  pub operation : Operation

-- what the get at a place saw; none: the key was absent
pub record Read : Type 0 where
  pub place : ℕ
  pub value : Option ℕ

-- ---- Keys and shards

abbrev pub key_of : Operation → ℕ
key_of (get key) = key
key_of (put key value) = key

-- "Key k belongs to shard (k mod m) + 1"; the paper's sh(·)
unfoldable pub shard_of : ℕ → ℕ → ℕ
shard_of m key = key % m + 1

-- the shards that the keys touch, rising; keys of gets too
abbrev pub touched : ℕ → List Operation → List ℕ
touched m [] = []
touched m (o ∷ os) = insert (shard_of m (key_of o)) (touched m os)

abbrev pub touches : ℕ → ℕ → List Operation → Bool
touches m j os = has j (touched m os)

-- operations with their places, the first at p
abbrev pub placed : ℕ → List Operation → List Placed
placed p [] = []
placed p (o ∷ os) = record { place = p; operation = o } ∷ placed (suc p) os

-- those whose key passes a test
abbrev pub keep : (ℕ → Bool) → List Placed → List Placed
keep ok [] = []
keep ok (x ∷ xs) = If ok (key_of x.operation) then x ∷ keep ok xs else keep ok xs

-- 004's sub-transaction T|j: the operations on shard j, their places those in T
abbrev pub on_shard : ℕ → ℕ → List Operation → List Placed
on_shard m j os = keep (λ key. shard_of m key =? j) (placed 0 os)

-- "the places of the .. gets"
abbrev pub get_place : Placed → Operation → List ℕ → List ℕ
get_place x (get key) ps = x.place ∷ ps
get_place x (put key value) ps = ps

abbrev pub get_places : List Placed → List ℕ
get_places [] = []
get_places (x ∷ xs) = get_place x x.operation (get_places xs)

-- what the gets of some placed operations read, if the get at place p sees see p
abbrev pub gather_one : Placed → Operation → (ℕ → Option ℕ) → List Read → List Read
gather_one x (get key) see rs = record { place = x.place; value = see x.place } ∷ rs
gather_one x (put key value) see rs = rs

abbrev pub gather : List Placed → (ℕ → Option ℕ) → List Read
gather [] see = []
gather (x ∷ xs) see = gather_one x x.operation see (gather xs see)

-- ---- Running: ShardExecAppend, lines 8 to 13

-- what a store has for a key: the value last put, and the log number that put it
pub record Cell : Type 0 where
  pub value : ℕ
  pub ind : ℕ

-- "A key never put is absent": none
abbrev pub Store : Type 0
Store = ℕ → Option Cell

-- "Each put stores the value and the log number"; line 10: put(key, value, ind)
abbrev pub effect : ℕ → Store → Operation → Store
effect ind store (get key) = store
effect ind store (put key value) = changed store key (some (record { value = value; ind = ind }))

-- "operations run in list order"
abbrev pub store_after : ℕ → Store → List Placed → Store
store_after ind store [] = store
store_after ind store (x ∷ xs) = store_after ind (effect ind store x.operation) xs

abbrev pub value_of : Option Cell → Option ℕ
value_of none = none
value_of (some cell) = some cell.value

-- line 11: a get adds what it sees to respData
abbrev pub note : Placed → Operation → Store → List Read → List Read
note x (get key) store rs = record { place = x.place; value = value_of (store key) } ∷ rs
note x (put key value) store rs = rs

-- "a get sees earlier puts of the same list"
abbrev pub reads_of : ℕ → Store → List Placed → List Read
reads_of ind store [] = []
reads_of ind store (x ∷ xs) = note x x.operation store (reads_of ind (effect ind store x.operation) xs)

-- ---- A log run one transaction at a time: no step does, demand 3 says that all steps together look so

abbrev pub run_entry : ℕ → Store → Option Write → Store
run_entry ind store none = store
run_entry ind store (some w) = store_after ind store (placed 0 w.operations)

-- the store after the first q entries
unfoldable pub store_after_log : List Write → ℕ → Store
store_after_log ws zero = λ key. none
store_after_log ws (suc q) = run_entry q (store_after_log ws q) (at ws q)

-- what the gets of a write that stands at ind see
unfoldable pub reads_in_log : List Write → ℕ → Write → List Read
reads_in_log ws ind w = reads_of ind (store_after_log ws ind) (placed 0 w.operations)

-- ---- "held with another client, number or operations": what is compared

abbrev pub same_operation : Operation → Operation → Bool
same_operation (get k) (get l) = k =? l
same_operation (get k) (put l v) = false
same_operation (put k u) (get l) = false
same_operation (put k u) (put l v) = k =? l && u =? v

abbrev pub same_operations : List Operation → List Operation → Bool
same_operations [] [] = true
same_operations [] (y ∷ ys) = false
same_operations (x ∷ xs) [] = false
same_operations (x ∷ xs) (y ∷ ys) = same_operation x y && same_operations xs ys

unfoldable pub same_write : Write → Write → Bool
same_write v w = v.client =? w.client && v.number =? w.number && same_operations v.operations w.operations
