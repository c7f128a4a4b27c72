-- A frame that obeys the rules is spelled in bytes: each number of it is at most 255.
-- Assumes nothing.
use mathlib.Core.Bool.{Bool, ◌&&◌}
use mathlib.Core.List.{List, [], ◌∷◌, ◌++◌, map}
use mathlib.Core.Option.{Option, none, some}
use Prim.Native.Nat.{ℕ, zero, suc, ◌%◌, ◌/◌, ◌≤◌}
use native.Mathlib.Omega.{arith}
use lib.Dec.{T, leb→le, le→leb}
use lib.ListN.{length}
use Rattle.rules.specs.Lists.{◌≤?◌, within, every}
use Rattle.rules.specs.Transactions.{Operation, get, put, Write, Placed, Read}
use Rattle.rules.specs.Frames.{Frame, submit, forward, shard_append, exec_notif, executed, response, ok_client, ok_number, ok_ind, ok_operation, ok_operations, ok_write, ok_placed, ok_seen, ok_reads, rising, obeys, two, four, operation_bytes, placed_bytes, seen_bytes, read_bytes, back_to_back, list_bytes, write_bytes, kind_of, header_of, body_of, encode}
use Rattle.rules.proofs.Lists.{and_l, and_r, and}
use Rattle.rules.proofs.Frames.{write_rules}
use Rattle.safety.specs.Coded.{Bytes}

-- a record, so that a list is read off its statement
record Small (s : List ℕ) : Type 0 where
  all : T (every (λ x. x ≤? 255) s)

both : {s t : List ℕ} → Small s → Small t → Small (s ++ t)
both {s} {t} a b = record { all = go s a.all }
  where
    go : (s : List ℕ) → T (every (λ x. x ≤? 255) s) → T (every (λ x. x ≤? 255) (s ++ t))
    go [] a = b.all
    go (x ∷ s) a = and (x ≤? 255) _ (and_l (x ≤? 255) _ a) (go s (and_r (x ≤? 255) _ a))

one : {s : List ℕ} (x : ℕ) → x ≤ 255 → Small s → Small (x ∷ s)
one x h b = record { all = and (x ≤? 255) _ (le→leb x 255 h) b.all }

end : Small []
end = record { all = tt }

two_bytes : (x : ℕ) → Small (two x)
two_bytes x = one (x % 256) (omega arith) (one (x / 256 % 256) (omega arith) end)

four_bytes : (x : ℕ) → Small (four x)
four_bytes x = both (two_bytes x) (two_bytes (x / 65536))

operation_bytes_lem : (o : Operation) → T (ok_operation o) → Small (operation_bytes o)
operation_bytes_lem (get key) t = one 0 (omega arith) (one key (leb→le key 255 t) (four_bytes 0))
operation_bytes_lem (put key value) t = one 1 (omega arith) (one key (leb→le key 255 (and_l (key ≤? 255) _ t)) (four_bytes value))

seen_bytes_lem : (o : Option ℕ) → Small (seen_bytes o)
seen_bytes_lem none = one 0 (omega arith) (four_bytes 0)
seen_bytes_lem (some v) = one 1 (omega arith) (four_bytes v)

-- lists: of operations, and of items with rising places
items_bytes_lem : {A : Type 0} (bytes : A → List ℕ) (ok : A → Bool) → ((x : A) → T (ok x) → Small (bytes x)) → (xs : List A) → T (every ok xs) → Small (back_to_back bytes xs)
items_bytes_lem bytes ok h [] t = end
items_bytes_lem bytes ok h (x ∷ xs) t = both (h x (and_l (ok x) (every ok xs) t)) (items_bytes_lem bytes ok h xs (and_r (ok x) (every ok xs) t))

placed_bytes_lem : {A : Type 0} (place : A → ℕ) (bytes : A → List ℕ) (ok : A → Bool) → ((x : A) → T (ok x) → Small (bytes x)) → (p : ℕ) (xs : List A)
    → T (rising p (map place xs)) → T (every ok xs) → Small (back_to_back (λ x. place x ∷ bytes x) xs)
placed_bytes_lem place bytes ok h p [] r t = end
placed_bytes_lem place bytes ok h p (x ∷ xs) r t =
    let small = leb→le (place x) 3 (and_r (p ≤? place x) (place x ≤? 3) (and_l (within p 3 (place x)) (rising (suc (place x)) (map place xs)) r)) in
    both (one (place x) (omega arith) (h x (and_l (ok x) (every ok xs) t)))
    (placed_bytes_lem place bytes ok h (suc (place x)) xs (and_r (within p 3 (place x)) (rising (suc (place x)) (map place xs)) r) (and_r (ok x) (every ok xs) t))

few : (low n : ℕ) → T (within low 4 n) → n ≤ 255
few low n t = let h = leb→le n 4 (and_r (low ≤? n) (n ≤? 4) t) in omega arith

operations_bytes : (os : List Operation) → T (ok_operations os) → Small (list_bytes operation_bytes os)
unfolding ok_operations
operations_bytes os t =
    one (length os) (few 1 (length os) (and_l (within 1 4 (length os)) (every ok_operation os) t))
    (items_bytes_lem operation_bytes ok_operation operation_bytes_lem os (and_r (within 1 4 (length os)) (every ok_operation os) t))

write_bytes_lem : (w : Write) (ack : ℕ) → T (ok_write w ack) → Small (write_bytes w ack)
write_bytes_lem w ack t =
    let r = write_rules w ack t in
    let c = r.client in
    one w.client (omega arith)
    (both (two_bytes w.number) (both (two_bytes ack) (operations_bytes w.operations r.operations)))

jobs_bytes : (xs : List Placed) → T (ok_placed xs) → Small (list_bytes placed_bytes xs)
unfolding ok_placed
jobs_bytes xs t =
    let places : Bool = rising 0 (map (λ (x : Placed). x.place) xs) in
    let front = and_l (within 1 4 (length xs) && places) (every (λ x. ok_operation x.operation) xs) t in
    one (length xs) (few 1 (length xs) (and_l (within 1 4 (length xs)) places front))
    (placed_bytes_lem (λ (x : Placed). x.place) (λ x. operation_bytes x.operation) (λ x. ok_operation x.operation) (λ x. operation_bytes_lem x.operation) 0 xs
    (and_r (within 1 4 (length xs)) places front) (and_r (within 1 4 (length xs) && places) (every (λ x. ok_operation x.operation) xs) t))

reads_bytes : (rs : List Read) → T (ok_reads rs) → Small (list_bytes read_bytes rs)
unfolding ok_reads
reads_bytes rs t =
    let places : Bool = rising 0 (map (λ (r : Read). r.place) rs) in
    let front = and_l (length rs ≤? 4 && places) (every (λ r. ok_seen r.value) rs) t in
    let small = leb→le (length rs) 4 (and_l (length rs ≤? 4) places front) in
    one (length rs) (omega arith)
    (placed_bytes_lem (λ (r : Read). r.place) (λ r. seen_bytes r.value) (λ r. ok_seen r.value) (λ r u. seen_bytes_lem r.value) 0 rs
    (and_r (length rs ≤? 4) places front) (and_r (length rs ≤? 4 && places) (every (λ r. ok_seen r.value) rs) t))

shard_byte : (j : ℕ) → T (within 1 8 j) → j ≤ 255
shard_byte j t = let h = leb→le j 8 (and_r (1 ≤? j) (j ≤? 8) t) in omega arith

body_bytes : (f : Frame) → T (obeys f) → Small (body_of f)
unfolding obeys
body_bytes (submit w ack) t = write_bytes_lem w ack t
body_bytes (forward ind w ack) t = both (two_bytes ind) (write_bytes_lem w ack (and_r (ok_ind ind) (ok_write w ack) t))
body_bytes (shard_append j ind sn xs) t =
    let front = and_l (within 1 8 j && ok_ind ind && within 1 256 sn) (ok_placed xs) t in
    let own = and_l (within 1 8 j) (ok_ind ind) (and_l (within 1 8 j && ok_ind ind) (within 1 256 sn) front) in
    one j (shard_byte j own)
    (both (two_bytes ind) (both (two_bytes sn) (jobs_bytes xs (and_r (within 1 8 j && ok_ind ind && within 1 256 sn) (ok_placed xs) t))))
body_bytes (exec_notif j ind rs) t =
    let own = and_l (within 1 8 j) (ok_ind ind) (and_l (within 1 8 j && ok_ind ind) (ok_reads rs) t) in
    one j (shard_byte j own) (both (two_bytes ind) (reads_bytes rs (and_r (within 1 8 j && ok_ind ind) (ok_reads rs) t)))
body_bytes (executed ind rs) t = both (two_bytes ind) (reads_bytes rs (and_r (ok_ind ind) (ok_reads rs) t))
body_bytes (response c k rs) t =
    let own = leb→le c 15 (and_l (ok_client c) (ok_number k) (and_l (ok_client c && ok_number k) (ok_reads rs) t)) in
    one c (omega arith) (both (two_bytes k) (reads_bytes rs (and_r (ok_client c && ok_number k) (ok_reads rs) t)))

small_bytes : (s : List ℕ) → T (every (λ x. x ≤? 255) s) → Bytes s
small_bytes [] t i = omega arith
small_bytes (x ∷ s) t zero = let h = leb→le x 255 (and_l (x ≤? 255) _ t) in omega arith
small_bytes (x ∷ s) t (suc i) = small_bytes s (and_r (x ≤? 255) _ t) i

pub encode_bytes : (f : Frame) → T (obeys f) → Bytes (encode f)
unfolding encode
encode_bytes f t =
    small_bytes (encode f) (both (two_bytes (length (header_of f ++ body_of f))) (both (two_bytes (kind_of f)) (body_bytes f t))).all
