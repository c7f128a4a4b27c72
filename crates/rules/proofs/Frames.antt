-- Reading and writing a frame undo one another.
-- Assumes nothing.
use mathlib.Core.Path.{◌≡◌, refl, sym, ap, ◌∙◌}
use mathlib.Core.Logic.{◌↔◌}
use mathlib.Core.Bool.{Bool, ◌&&◌}
use mathlib.Core.List.{List, [], ◌∷◌, ◌++◌, map}
use mathlib.Core.Option.{Option, none, some}
use Prim.Native.Nat.{ℕ, suc, ◌+◌, ◌*◌, ◌/◌, ◌%◌, ◌≤◌, ◌<◌}
use native.Mathlib.Nat.{div-div-eq-div-mul, mul-suc, mul-zero}
use native.Mathlib.Omega.{arith}
use lib.Dec.{T, leb, leb→le}
use lib.ListN.{length, drop, length-append}
use Rattle.rules.specs.Lists.{If◌then◌else◌, within, every, same}
use Rattle.rules.specs.Transactions.{Operation, get, put, Write, Placed, Read}
use Rattle.rules.specs.Frames.{Frame, submit, forward, shard_append, exec_notif, executed, response, ok_value, ok_operation, ok_operations, rising, ok_placed, ok_seen, ok_reads, ok_client, ok_number, ok_ind, ok_write, obeys, operation_bytes, placed_bytes, seen_bytes, read_bytes, back_to_back, body_of, encode, length_of, header_of, header_width, two_at, first_operation, first_placed, first_read, items, candidate, spelled, decode}
use Rattle.rules.proofs.Lists.{by, if_yes, and, and_l, and_r, nothing, same_eq, same_refl}

-- ---- Bytes that are read as a frame are that frame's bytes, and the frame obeys the rules

pub record Spells (s : List ℕ) (f : Frame) : Type 0 where
  pub bytes : encode f ≡ s
  pub rules : T (obeys f)

pub decode_spells : (s : List ℕ) (f : Frame) → decode s ≡ some f → Spells s f
unfolding decode spelled
decode_spells s f = go (candidate (two_at s 2) (drop (2 + header_width) s))
  where
    go : (o : Option Frame) → spelled s o ≡ some f → Spells s f
    go none = λ e. nothing e
    go (some g) =
        by (λ (o : Option Frame). o ≡ some f → Spells s f) (obeys g && same (encode g) s)
        (λ t e.
        let h : g ≡ f = cc in
        rw (← h) (record { bytes = same_eq (encode g) s (and_r (obeys g) (same (encode g) s) t); rules = and_l (obeys g) (same (encode g) s) t }))
        (λ t e. nothing e)

-- ---- Numbers

pub two_back : (x : ℕ) → x < 65536 → x % 256 + 256 * (x / 256 % 256) ≡ x
two_back x h = omega arith

pub four_back : (x : ℕ) → x < 4294967296 → x % 256 + 256 * (x / 256 % 256) + 65536 * (x / 65536 % 256 + 256 * (x / 65536 / 256 % 256)) ≡ x
four_back x h =
    let e : x / 65536 ≡ x / 256 / 256 = sym (div-div-eq-div-mul x 256 256) in
    let g : x / 65536 < 65536 = omega arith in
    let k = two_back (x / 65536) g in
    omega arith

-- ---- Lists, once over the item's bytes and width

module _ {A : Type 0} (ok : A → Bool) (bytes : A → List ℕ) (first : List ℕ → A) (width : ℕ) (back : (x : A) (t : List ℕ) → T (ok x) → first (bytes x ++ t) ≡ x)
    (rest : (x : A) (t : List ℕ) → drop width (bytes x ++ t) ≡ t) where
  items_back : (xs : List A) → T (every ok xs) → items first width (length xs) (back_to_back bytes xs) ≡ xs
  items_back [] h = refl
  items_back (x ∷ xs) h =
      λ i.
      back x (back_to_back bytes xs) (and_l (ok x) (every ok xs) h) i
      ∷ (ap (λ (l : List ℕ). items first width (length xs) l) (rest x (back_to_back bytes xs)) ∙ items_back xs (and_r (ok x) (every ok xs) h)) i

pub value_lt : (value : ℕ) → T (ok_value value) → value < 4294967296
value_lt value t = let h = leb→le value 4294967295 t in omega arith

operation_back : (x : Operation) (t : List ℕ) → T (ok_operation x) → first_operation (operation_bytes x ++ t) ≡ x
unfolding If◌then◌else◌
operation_back (get key) t h = refl
operation_back (put key value) t h = λ i. put key (four_back value (value_lt value (and_r (leb key 255) (ok_value value) h)) i)

operation_rest : (x : Operation) (t : List ℕ) → drop 6 (operation_bytes x ++ t) ≡ t
operation_rest (get key) t = refl
operation_rest (put key value) t = refl

placed_back : (x : Placed) (t : List ℕ) → T (ok_operation x.operation) → first_placed (placed_bytes x ++ t) ≡ x
placed_back x t h = λ i. record { place = x.place; operation = operation_back x.operation t h i }

placed_rest : (x : Placed) (t : List ℕ) → drop 7 (placed_bytes x ++ t) ≡ t
placed_rest x t = operation_rest x.operation t

read_back : (r : Read) (t : List ℕ) → T (ok_seen r.value) → first_read (read_bytes r ++ t) ≡ r
unfolding If◌then◌else◌
read_back r t h = go r.value h
  where
    go : (v : Option ℕ) → T (ok_seen v) → first_read (read_bytes (record { place = r.place; value = v }) ++ t) ≡ record { place = r.place; value = v }
    go none h = refl
    go (some value) h = λ i. record { place = r.place; value = some (four_back value (value_lt value h) i) }

read_rest : (r : Read) (t : List ℕ) → drop 6 (read_bytes r ++ t) ≡ t
read_rest r t = go r.value
  where
    go : (v : Option ℕ) → drop 6 (read_bytes (record { place = r.place; value = v }) ++ t) ≡ t
    go none = refl
    go (some value) = refl

operations_back : (os : List Operation) → T (ok_operations os) → items first_operation 6 (length os) (back_to_back operation_bytes os) ≡ os
unfolding ok_operations
operations_back os h = items_back ok_operation operation_bytes first_operation 6 operation_back operation_rest os (and_r (within 1 4 (length os)) (every ok_operation os) h)

placeds_back : (xs : List Placed) → T (ok_placed xs) → items first_placed 7 (length xs) (back_to_back placed_bytes xs) ≡ xs
unfolding ok_placed
placeds_back xs h =
    items_back (λ x. ok_operation x.operation) placed_bytes first_placed 7 placed_back placed_rest xs
    (and_r (within 1 4 (length xs) && rising 0 (map (λ (x : Placed). x.place) xs)) (every (λ x. ok_operation x.operation) xs) h)

reads_back : (rs : List Read) → T (ok_reads rs) → items first_read 6 (length rs) (back_to_back read_bytes rs) ≡ rs
unfolding ok_reads
reads_back rs h =
    items_back (λ r. ok_seen r.value) read_bytes first_read 6 read_back read_rest rs
    (and_r (leb (length rs) 4 && rising 0 (map (λ (r : Read). r.place) rs)) (every (λ r. ok_seen r.value) rs) h)

-- ---- A frame that obeys the rules is read back from its bytes

number_lt : (number : ℕ) → T (ok_number number) → number < 65536
number_lt number h = let k = leb→le number 65534 h in omega arith

ind_lt : (ind : ℕ) → T (ok_ind ind) → ind < 65536
ind_lt ind h = let k = leb→le ind 255 h in omega arith

-- what the rules say of a write and its ack
pub record WriteRules (w : Write) (ack : ℕ) : Type 0 where
  pub client : w.client ≤ 15
  pub number : w.number ≤ 65534
  pub ack_low : ack ≤ w.number
  pub ack_high : w.number ≤ ack + 7
  pub operations : T (ok_operations w.operations)

pub write_rules : (w : Write) (ack : ℕ) → T (ok_write w ack) → WriteRules w ack
unfolding ok_write
write_rules w ack h =
    let a : Bool = ok_client w.client in
    let b : Bool = ok_number w.number in
    let c : Bool = leb ack w.number in
    let d : Bool = leb w.number (ack + 7) in
    let e : Bool = ok_operations w.operations in
    let hd = and_l (a && b && c && d) e h in
    let hc = and_l (a && b && c) d hd in
    let hb = and_l (a && b) c hc in
    record {
      client = leb→le w.client 15 (and_l a b hb);
      number = leb→le w.number 65534 (and_r a b hb);
      ack_low = leb→le ack w.number (and_r (a && b) c hc);
      ack_high = leb→le w.number (ack + 7) (and_r (a && b && c) d hd);
      operations = and_r (a && b && c && d) e h;
    }

-- the candidate made of a frame's bytes is the frame
pub candidate_back : (f : Frame) → T (obeys f) → candidate (two_at (encode f) 2) (drop (2 + header_width) (encode f)) ≡ some f
unfolding obeys encode candidate If◌then◌else◌
candidate_back (submit w ack) h =
    let r = write_rules w ack h in
    λ i.
    some (submit (record { client = w.client; number = two_back w.number (omega arith) i; operations = operations_back w.operations r.operations i })
    (two_back ack (omega arith) i))
candidate_back (forward ind w ack) h =
    let r = write_rules w ack (and_r (ok_ind ind) (ok_write w ack) h) in
    let k = ind_lt ind (and_l (ok_ind ind) (ok_write w ack) h) in
    λ i.
    some (forward (two_back ind k i)
    (record { client = w.client; number = two_back w.number (omega arith) i; operations = operations_back w.operations r.operations i })
    (two_back ack (omega arith) i))
candidate_back (shard_append j ind sn xs) h =
    let g = and_l (within 1 8 j && ok_ind ind && within 1 256 sn) (ok_placed xs) h in
    let s : sn < 65536 = let l = leb→le sn 256 (and_r (leb 1 sn) (leb sn 256) (and_r (within 1 8 j && ok_ind ind) (within 1 256 sn) g)) in omega arith in
    let k = ind_lt ind (and_r (within 1 8 j) (ok_ind ind) (and_l (within 1 8 j && ok_ind ind) (within 1 256 sn) g)) in
    λ i.
    some (shard_append j (two_back ind k i) (two_back sn s i) (placeds_back xs (and_r (within 1 8 j && ok_ind ind && within 1 256 sn) (ok_placed xs) h) i))
candidate_back (exec_notif j ind rs) h =
    let k = ind_lt ind (and_r (within 1 8 j) (ok_ind ind) (and_l (within 1 8 j && ok_ind ind) (ok_reads rs) h)) in
    λ i. some (exec_notif j (two_back ind k i) (reads_back rs (and_r (within 1 8 j && ok_ind ind) (ok_reads rs) h) i))
candidate_back (executed ind rs) h =
    λ i. some (executed (two_back ind (ind_lt ind (and_l (ok_ind ind) (ok_reads rs) h)) i) (reads_back rs (and_r (ok_ind ind) (ok_reads rs) h) i))
candidate_back (response client number rs) h =
    let k = number_lt number (and_r (ok_client client) (ok_number number) (and_l (ok_client client && ok_number number) (ok_reads rs) h)) in
    λ i. some (response client (two_back number k i) (reads_back rs (and_r (ok_client client && ok_number number) (ok_reads rs) h) i))

pub decode_encode : (f : Frame) → T (obeys f) → decode (encode f) ≡ some f
unfolding decode spelled
decode_encode f h =
    ap (spelled (encode f)) (candidate_back f h)
    ∙ if_yes (obeys f && same (encode f) (encode f)) (some f) none (and (obeys f) (same (encode f) (encode f)) h (same_refl (encode f)))

-- so bytes are read as a frame exactly if it obeys the rules and they are its bytes
pub decode_exactly : (s : List ℕ) (f : Frame) → (decode s ≡ some f) ↔ Spells s f
decode_exactly s f = (decode_spells s f, λ x. rw (← x.bytes) (decode_encode f x.rules))

-- ---- The column "length"

list_length : {A : Type 0} (bytes : A → List ℕ) (width : ℕ) → ((x : A) → length (bytes x) ≡ width) → (xs : List A) → length (back_to_back bytes xs) ≡ width * length xs
list_length bytes width h [] = sym (mul-zero width)
list_length bytes width h (x ∷ xs) =
    let e = list_length bytes width h xs in
    let l = h x in
    rw (length-append, mul-suc) (omega arith)

operation_length : (x : Operation) → length (operation_bytes x) ≡ 6
operation_length (get key) = refl
operation_length (put key value) = refl

seen_length : (v : Option ℕ) → length (seen_bytes v) ≡ 5
seen_length none = refl
seen_length (some value) = refl

pub length_column : (f : Frame) → length (header_of f ++ body_of f) ≡ length_of f
length_column (submit w ack) = let e = list_length operation_bytes 6 operation_length w.operations in omega arith
length_column (forward ind w ack) = let e = list_length operation_bytes 6 operation_length w.operations in omega arith
length_column (shard_append j ind sn xs) = let e = list_length placed_bytes 7 (λ x. ap suc (operation_length x.operation)) xs in omega arith
length_column (exec_notif j ind rs) = let e = list_length read_bytes 6 (λ r. ap suc (seen_length r.value)) rs in omega arith
length_column (executed ind rs) = let e = list_length read_bytes 6 (λ r. ap suc (seen_length r.value)) rs in omega arith
length_column (response client number rs) = let e = list_length read_bytes 6 (λ r. ap suc (seen_length r.value)) rs in omega arith
