-- The reader means the rules' reading and the writer writes the rules' bytes: the records that are right and lie as they should
-- are, one for one, the frames that obey the rules. Assumes nothing.
use mathlib.Core.Path.{◌≡◌, refl, sym, ap, ◌∙◌}
use mathlib.Core.Bool.{Bool, true, false, ◌&&◌}
use mathlib.Core.List.{List, [], ◌∷◌, ◌++◌, map}
use mathlib.Core.Option.{Option, none, some}
use Rattle.std.specs.Prelude as Std
use Rattle.std.specs.Prelude.{Some, None, MatchOption}
use Prim.Native.Nat.{ℕ, zero, suc, ◌+◌, ◌≤◌}
use native.Mathlib.Omega.{arith}
use lib.ListN.{length, take, drop}
use Rattle.std.proofs.lemmas.List.{take-append-drop}
use lib.Dec.{T, leb, leb→le, le→leb}
use Rattle.rules.specs.Lists.{within, every}
use Rattle.rules.specs.Transactions as R
use Rattle.rules.specs.Frames as F
use Rattle.rules.specs.Frames.{submit, forward, shard_append, exec_notif, executed, response, two, operation_bytes, placed_bytes, read_bytes, back_to_back, ok_client, ok_number, ok_ind, ok_operation, ok_operations, ok_write, ok_placed, ok_reads, ok_seen, rising, obeys, encode, decode, with_length}
use Rattle.rules.proofs.Lists.{and, and_l, and_r, nothing}
use Rattle.rules.proofs.Frames.{decode_spells, decode_encode, WriteRules, write_rules}
use Rattle.frames.specs.declared.Item.{Item}
use Rattle.frames.specs.declared.Shape.{Shape}
use Rattle.frames.specs.declared.Shape.TheVariants.{Operation, Placed, Read}
use Rattle.frames.specs.declared.Head.{Head}
use Rattle.frames.specs.declared.Head.TheVariants.{Bad, Submit, Forward, ShardAppend, ExecNotif, Executed, Response}
use Rattle.frames.specs.declared.Frame.{Frame}
use Rattle.frames.specs.declared.Front.{Front}
use Rattle.frames.specs.Frames.{kind_of, field_bytes, shape_of, is_bad, item_bytes, header_bytes, list_bytes, frame_bytes, len_of, ok_item, ok_from, ok_items, ok_window, ok_head, valid, bad_frame, read_front, read_frame, frames_bytes}
use Rattle.frames.specs.View.{view_last, as_operation, as_placed, as_read, operations_of, placed_of, reads_of, answer_of, answer_to, meant, meaning, encoded, Bytes, Canon, CanonFrom, CanonFrame, operation_items, placed_item, read_item, filled, record_of}
use Rattle.frames.proofs.Puts.{bad_bytes, frame_bytes_lem, length_framed}
use Rattle.frames.proofs.Round.{enough, head_of_lem, items_of_lem, fronts, Spells, reads, front_back, frame_back}
use Rattle.frames.proofs.Slots as I

-- ---- The bytes

list_bytes_lem : {A : Type 0} (view : Item → A) (shape : Shape) (bytes : A → List ℕ) → ((x : Item) → T (ok_item x) → bytes (view x) ≡ item_bytes shape x)
    → (n : ℕ) (xs : List Item) → T (ok_items n xs) → list_bytes shape n xs ≡ F.list_bytes bytes (map view (take n xs))
list_bytes_lem view shape bytes one n xs t = λ i. sym (I.view_length view 0 n xs t) i ∷ sym (I.view_bytes view shape bytes one 0 n xs t) i

operations_bytes : (n : ℕ) (xs : List Item) → T (ok_items n xs) → list_bytes Operation n xs ≡ F.list_bytes operation_bytes (operations_of n xs)
operations_bytes = list_bytes_lem as_operation Operation operation_bytes I.operation_bytes_lem

placed_bytes_lem : (n : ℕ) (xs : List Item) → T (ok_items n xs) → list_bytes Placed n xs ≡ F.list_bytes placed_bytes (placed_of n xs)
placed_bytes_lem = list_bytes_lem as_placed Placed placed_bytes I.placed_bytes_lem

reads_bytes : (n : ℕ) (xs : List Item) → T (ok_items n xs) → list_bytes Read n xs ≡ F.list_bytes read_bytes (reads_of n xs)
reads_bytes = list_bytes_lem as_read Read read_bytes I.read_bytes_lem

-- what follows the length is what the rules put there
rest : Head → ℕ → List Item → List ℕ
rest h n xs = header_bytes (kind_of h) ++ (field_bytes h ++ list_bytes (shape_of h) n xs)

after_length : Option F.Frame → List ℕ
after_length none = []
after_length (some g) = F.header_of g ++ F.body_of g

rest_bytes : (h : Head) (n : ℕ) (xs : List Item) → is_bad h ≡ false → T (ok_items n xs) → rest h n xs ≡ after_length (meant h n xs)
unfolding rest after_length
rest_bytes Bad n xs b t = let z : ◌≡◌ {A = ℕ} 0 1 = cc in absurd (omega arith)
rest_bytes (Submit client number ack) n xs b t = λ i. two 1 ++ (client ∷ two number ++ two ack ++ operations_bytes n xs t i)
rest_bytes (Forward log client number ack) n xs b t = λ i. two 2 ++ (two log ++ (client ∷ two number ++ two ack ++ operations_bytes n xs t i))
rest_bytes (ShardAppend shard log sn) n xs b t = λ i. two 3 ++ (shard ∷ two log ++ two sn ++ placed_bytes_lem n xs t i)
rest_bytes (ExecNotif shard log) n xs b t = λ i. two 4 ++ (shard ∷ two log ++ reads_bytes n xs t i)
rest_bytes (Executed log) n xs b t = λ i. two 5 ++ (two log ++ reads_bytes n xs t i)
rest_bytes (Response client number) n xs b t = λ i. two 6 ++ (client ∷ two number ++ reads_bytes n xs t i)

encoded_rest : (h : Head) (n : ℕ) (xs : List Item) → is_bad h ≡ false → with_length (after_length (meant h n xs)) ≡ encoded (meant h n xs)
unfolding after_length encode
encoded_rest Bad n xs b = let z : ◌≡◌ {A = ℕ} 0 1 = cc in absurd (omega arith)
encoded_rest (Submit client number ack) n xs b = refl
encoded_rest (Forward log client number ack) n xs b = refl
encoded_rest (ShardAppend shard log sn) n xs b = refl
encoded_rest (ExecNotif shard log) n xs b = refl
encoded_rest (Executed log) n xs b = refl
encoded_rest (Response client number) n xs b = refl

bad_means : (h : Head) (n : ℕ) (xs : List Item) → is_bad h ≡ true → meant h n xs ≡ none
bad_means Bad n xs b = refl
bad_means (Submit client number ack) n xs b = let z : ◌≡◌ {A = ℕ} 0 1 = cc in absurd (omega arith)
bad_means (Forward log client number ack) n xs b = let z : ◌≡◌ {A = ℕ} 0 1 = cc in absurd (omega arith)
bad_means (ShardAppend shard log sn) n xs b = let z : ◌≡◌ {A = ℕ} 0 1 = cc in absurd (omega arith)
bad_means (ExecNotif shard log) n xs b = let z : ◌≡◌ {A = ℕ} 0 1 = cc in absurd (omega arith)
bad_means (Executed log) n xs b = let z : ◌≡◌ {A = ℕ} 0 1 = cc in absurd (omega arith)
bad_means (Response client number) n xs b = let z : ◌≡◌ {A = ℕ} 0 1 = cc in absurd (omega arith)

-- the writer's bytes are the rules' bytes of what the record means, if its items are right
pub writes_mean : (f : Frame) → T (ok_items f.list.count f.list.items) → frame_bytes f ≡ encoded (meaning f)
unfolding meaning rest
writes_mean f t = go (is_bad f.head) refl
  where
    go : (b : Bool) → is_bad f.head ≡ b → frame_bytes f ≡ encoded (meant f.head f.list.count f.list.items)
    go true e = bad_bytes f e ∙ ap encoded (sym (bad_means f.head f.list.count f.list.items e))
    go false e =
        let h = f.head in
        let n = f.list.count in
        let xs = f.list.items in
        let r : List ℕ = rest h n xs in
        let l : len_of h n ≡ length r = omega (arith, length_framed (len_of h n) h n xs (enough 0 n xs t)) in
        frame_bytes_lem f e ∙ (λ i. two (l i) ++ r) ∙ ap with_length (rest_bytes h n xs e t) ∙ encoded_rest h n xs e

-- ---- A right record that lies as it should means a frame that obeys the rules

operations_obey : (n : ℕ) (xs : List Item) → T (leb 1 n) → n ≤ 4 → T (ok_items n xs) → Canon Operation n xs → T (ok_operations (operations_of n xs))
unfolding ok_operations
operations_obey n xs l u t c =
    let e = I.view_length as_operation 0 n xs t in
    and (within 1 4 (length (operations_of n xs))) (every ok_operation (operations_of n xs)) (rw e (and (leb 1 n) (leb n 4) l (le→leb n 4 u)))
    (I.view_every as_operation Operation ok_operation (λ i x d. I.operation_ok x d.1) 0 n xs c)

placed_obey : (n : ℕ) (xs : List Item) → T (leb 1 n) → n ≤ 4 → T (ok_items n xs) → Canon Placed n xs → T (ok_placed (placed_of n xs))
unfolding ok_placed
placed_obey n xs l u t c =
    let e = I.view_length as_placed 0 n xs t in
    let ok : R.Placed → Bool = λ x. ok_operation x.operation in
    let places : List ℕ = map (λ (x : R.Placed). x.place) (placed_of n xs) in
    and (within 1 4 (length (placed_of n xs)) && rising 0 places) (every ok (placed_of n xs))
    (and (within 1 4 (length (placed_of n xs))) (rising 0 places) (rw e (and (leb 1 n) (leb n 4) l (le→leb n 4 u))) (I.view_rising as_placed (λ x. x.place) (λ x. refl) 0 n xs t))
    (I.view_every as_placed Placed ok (λ i x d. I.operation_ok x d) 0 n xs c)

reads_obey : (n : ℕ) (xs : List Item) → n ≤ 4 → T (ok_items n xs) → Canon Read n xs → T (ok_reads (reads_of n xs))
unfolding ok_reads
reads_obey n xs u t c =
    let e = I.view_length as_read 0 n xs t in
    let ok : R.Read → Bool = λ r. ok_seen r.value in
    let places : List ℕ = map (λ (r : R.Read). r.place) (reads_of n xs) in
    and (leb (length (reads_of n xs)) 4 && rising 0 places) (every ok (reads_of n xs))
    (and (leb (length (reads_of n xs)) 4) (rising 0 places) (rw e (le→leb n 4 u)) (I.view_rising as_read (λ x. x.place) (λ x. refl) 0 n xs t))
    (I.view_every as_read Read ok (λ i x d. I.seen_ok x d.1) 0 n xs c)

write_obeys : (client number ack : ℕ) (os : List R.Operation) → T (leb client 15) → T (ok_window number ack) → T (ok_operations os)
    → T (ok_write (record { client = client; number = number; operations = os }) ack)
unfolding ok_write
write_obeys client number ack os c w o =
    let a : Bool = leb number 65534 in
    let b : Bool = leb ack number in
    let d : Bool = leb number (ack + 7) in
    let u = and_l (a && b) d w in
    and (ok_client client && a && b && d) (ok_operations os)
    (and (ok_client client && a && b) d (and (ok_client client && a) b (and (ok_client client) a c (and_l a b u)) (and_r a b u)) (and_r (a && b) d w)) o

-- of what means nothing, nothing is said
Obeying : Option F.Frame → Type 0
Obeying none = Unit
Obeying (some g) = T (obeys g)

head_obeys : (h : Head) (n : ℕ) (xs : List Item) → T (ok_head h n) → n ≤ 4 → T (ok_items n xs) → Canon (shape_of h) n xs → Obeying (meant h n xs)
unfolding obeys Obeying
head_obeys Bad n xs v u t c = tt
head_obeys (Submit client number ack) n xs v u t c =
    let a = and_l (leb 1 n && leb client 15) (ok_window number ack) v in
    write_obeys client number ack (operations_of n xs) (and_r (leb 1 n) (leb client 15) a) (and_r (leb 1 n && leb client 15) (ok_window number ack) v)
    (operations_obey n xs (and_l (leb 1 n) (leb client 15) a) u t c)
head_obeys (Forward log client number ack) n xs v u t c =
    let l : Bool = leb 1 n in
    let i : Bool = leb log 255 in
    let k : Bool = leb client 15 in
    let w : Bool = ok_window number ack in
    let a = and_l (l && i && k) w v in
    let b = and_l (l && i) k a in
    and (ok_ind log) (ok_write (record { client = client; number = number; operations = operations_of n xs }) ack) (and_r l i b)
    (write_obeys client number ack (operations_of n xs) (and_r (l && i) k a) (and_r (l && i && k) w v) (operations_obey n xs (and_l l i b) u t c))
head_obeys (ShardAppend shard log sn) n xs v u t c =
    let l : Bool = leb 1 n in
    let j : Bool = within 1 8 shard in
    let i : Bool = leb log 255 in
    let k : Bool = within 1 256 sn in
    let a = and_l (l && j && i) k v in
    let b = and_l (l && j) i a in
    and (j && i && k) (ok_placed (placed_of n xs)) (and (j && i) k (and j i (and_r l j b) (and_r (l && j) i a)) (and_r (l && j && i) k v)) (placed_obey n xs (and_l l j b) u t c)
head_obeys (ExecNotif shard log) n xs v u t c = and (within 1 8 shard && ok_ind log) (ok_reads (reads_of n xs)) v (reads_obey n xs u t c)
head_obeys (Executed log) n xs v u t c = and (ok_ind log) (ok_reads (reads_of n xs)) v (reads_obey n xs u t c)
head_obeys (Response client number) n xs v u t c = and (ok_client client && ok_number number) (ok_reads (reads_of n xs)) v (reads_obey n xs u t c)

small : (f : Frame) → T (valid f) → CanonFrame f → f.list.count ≤ 4
small f v (e, c) = let k = enough 0 f.list.count f.list.items (items_of_lem f v) in omega arith

obeying : (f : Frame) → T (valid f) → CanonFrame f → Obeying (meaning f)
unfolding meaning
obeying f v c = head_obeys f.head f.list.count f.list.items (head_of_lem f v) (small f v c) (items_of_lem f v) c.1

pub valid_obeys : (f : Frame) (g : F.Frame) → T (valid f) → CanonFrame f → meaning f ≡ some g → T (obeys g)
unfolding Obeying
valid_obeys f g v c e = rw e at (obeying f v c)

-- ---- The record of a frame that obeys the rules

-- what the record of a frame is
pub record Recorded (g : F.Frame) (f : Frame) : Type 0 where
  pub right : T (valid f)
  pub canon : CanonFrame f
  pub means : meaning f ≡ some g

-- the items that a list is made into
record Made {A : Type 0} (shape : Shape) (view : Item → A) (xs : List A) (n : ℕ) (items : List Item) : Type 0 where
  right : T (ok_items n items)
  four : length items ≡ 4
  canon : Canon shape n items
  means : map view (take n items) ≡ xs

made : {A : Type 0} (shape : Shape) (view : Item → A) (xs : List A) (n : ℕ) (items : List Item) → length items ≡ n → n ≤ 4 → T (ok_from 0 n items) → CanonFrom shape 0 n items
    → map view items ≡ xs → Made shape view xs n (filled 4 items)
made shape view xs n items e h t c m =
    let h' : length items ≤ 4 = omega arith in
    let t' : T (ok_from 0 (length items) items) = rw e t in
    let c' : CanonFrom shape 0 (length items) items = rw e c in
    record {
      right = rw e at (I.filled_ok 4 0 items h' t');
      four = I.filled_length 4 items;
      canon = rw e at (I.filled_canon shape 4 0 items c');
      means = ap (map view) (rw e at (I.filled_take 4 items h')) ∙ m;
    }

made_operations : (os : List R.Operation) → T (ok_operations os) → T (leb 1 (length os)) × Made Operation as_operation os (length os) (filled 4 (operation_items 0 os))
unfolding ok_operations
made_operations os t =
    let n : ℕ = length os in
    let w = and_l (within 1 4 n) (every ok_operation os) t in
    let h = leb→le n 4 (and_r (leb 1 n) (leb n 4) w) in (
      and_l (leb 1 n) (leb n 4) w,
      made Operation as_operation os n (operation_items 0 os) (I.operations_length 0 os) h (I.operations_ok 0 os (omega arith))
          (I.operations_canon 0 os (and_r (within 1 4 n) (every ok_operation os) t)) (I.operations_back 0 os),
    )

made_placed : (xs : List R.Placed) → T (ok_placed xs) → T (leb 1 (length xs)) × Made Placed as_placed xs (length xs) (filled 4 (map placed_item xs))
unfolding ok_placed
made_placed xs t =
    let n : ℕ = length xs in
    let r : Bool = rising 0 (map (λ (x : R.Placed). x.place) xs) in
    let ok : R.Placed → Bool = λ x. ok_operation x.operation in
    let u = and_l (within 1 4 n && r) (every ok xs) t in
    let w = and_l (within 1 4 n) r u in (
      and_l (leb 1 n) (leb n 4) w,
      made Placed as_placed xs n (map placed_item xs) (I.made_length placed_item xs) (leb→le n 4 (and_r (leb 1 n) (leb n 4) w))
          (I.made_ok placed_item (λ x. x.place) (λ x. I.operation_place x.place x.operation) (λ x. I.operation_item_ok x.place x.operation) 0 xs (and_r (within 1 4 n) r u))
          (I.made_canon placed_item Placed ok (λ i x. I.operation_sized x.place x.operation) 0 xs (and_r (within 1 4 n && r) (every ok xs) t))
          (I.made_back placed_item as_placed I.placed_back xs),
    )

made_reads : (rs : List R.Read) → T (ok_reads rs) → Made Read as_read rs (length rs) (filled 4 (map read_item rs))
unfolding ok_reads
made_reads rs t =
    let n : ℕ = length rs in
    let r : Bool = rising 0 (map (λ (x : R.Read). x.place) rs) in
    let ok : R.Read → Bool = λ x. ok_seen x.value in
    let u = and_l (leb n 4 && r) (every ok rs) t in
    made Read as_read rs n (map read_item rs) (I.made_length read_item rs) (leb→le n 4 (and_l (leb n 4) r u))
    (I.made_ok read_item (λ x. x.place) I.read_place I.read_item_ok 0 rs (and_r (leb n 4) r u))
    (I.made_canon read_item Read ok I.read_canon 0 rs (and_r (leb n 4 && r) (every ok rs) t)) (I.made_back read_item as_read I.read_back rs)

window_of : (w : R.Write) (ack : ℕ) → WriteRules w ack → T (ok_window w.number ack)
window_of w ack r =
    and (leb w.number 65534 && leb ack w.number) (leb w.number (ack + 7))
    (and (leb w.number 65534) (leb ack w.number) (le→leb w.number 65534 r.number) (le→leb ack w.number r.ack_low)) (le→leb w.number (ack + 7) r.ack_high)

pub recorded : (g : F.Frame) → T (obeys g) → Recorded g (record_of g)
unfolding obeys valid meaning
recorded (submit w ack) t =
    let r = write_rules w ack t in
    let m = made_operations w.operations r.operations in
    let n : ℕ = length w.operations in
    record {
      right = and (leb 1 n && leb w.client 15 && ok_window w.number ack) _
          (and (leb 1 n && leb w.client 15) (ok_window w.number ack) (and (leb 1 n) (leb w.client 15) m.0 (le→leb w.client 15 r.client)) (window_of w ack r)) m.1.right;
      canon = (m.1.four, m.1.canon);
      means = λ i. some (submit (record { client = w.client; number = w.number; operations = m.1.means i }) ack);
    }
recorded (forward ind w ack) t =
    let r = write_rules w ack (and_r (ok_ind ind) (ok_write w ack) t) in
    let m = made_operations w.operations r.operations in
    let n : ℕ = length w.operations in
    record {
      right = and (leb 1 n && leb ind 255 && leb w.client 15 && ok_window w.number ack) _
          (and (leb 1 n && leb ind 255 && leb w.client 15) (ok_window w.number ack)
          (and (leb 1 n && leb ind 255) (leb w.client 15) (and (leb 1 n) (leb ind 255) m.0 (and_l (ok_ind ind) (ok_write w ack) t)) (le→leb w.client 15 r.client)) (window_of w ack r)) m.1.right;
      canon = (m.1.four, m.1.canon);
      means = λ i. some (forward ind (record { client = w.client; number = w.number; operations = m.1.means i }) ack);
    }
recorded (shard_append j ind sn xs) t =
    let a : Bool = within 1 8 j in
    let b : Bool = ok_ind ind in
    let c : Bool = within 1 256 sn in
    let m = made_placed xs (and_r (a && b && c) (ok_placed xs) t) in
    let u = and_l (a && b && c) (ok_placed xs) t in
    let v = and_l (a && b) c u in
    let l : Bool = leb 1 (length xs) in
    record {
      right = and (l && a && b && c) _ (and (l && a && b) c (and (l && a) b (and l a m.0 (and_l a b v)) (and_r a b v)) (and_r (a && b) c u)) m.1.right;
      canon = (m.1.four, m.1.canon);
      means = λ i. some (shard_append j ind sn (m.1.means i));
    }
recorded (exec_notif j ind rs) t =
    let m = made_reads rs (and_r (within 1 8 j && ok_ind ind) (ok_reads rs) t) in
    record {
      right = and (within 1 8 j && ok_ind ind) _ (and_l (within 1 8 j && ok_ind ind) (ok_reads rs) t) m.right;
      canon = (m.four, m.canon);
      means = λ i. some (exec_notif j ind (m.means i));
    }
recorded (executed ind rs) t =
    let m = made_reads rs (and_r (ok_ind ind) (ok_reads rs) t) in
    record { right = and (ok_ind ind) _ (and_l (ok_ind ind) (ok_reads rs) t) m.right; canon = (m.four, m.canon); means = λ i. some (executed ind (m.means i)) }
recorded (response client number rs) t =
    let a : Bool = ok_client client && ok_number number in
    let m = made_reads rs (and_r a (ok_reads rs) t) in
    record { right = and a _ (and_l a (ok_reads rs) t) m.right; canon = (m.four, m.canon); means = λ i. some (response client number (m.means i)) }

-- for every frame that obeys the rules, its record is written as its bytes
pub record-bytes : (g : F.Frame) → T (obeys g) → frame_bytes (record_of g) ≡ encode g
record-bytes g t = let r = recorded g t in writes_mean (record_of g) (items_of_lem (record_of g) r.right) ∙ ap encoded r.means

-- for every frame that obeys the rules, reading what was written gives that frame
pub record-back : (g : F.Frame) → T (obeys g) → read_frame (frame_bytes (record_of g)) ≡ record_of g
record-back g t = let r = recorded g t in frame_back (record_of g) r.right r.canon

-- ---- The reader

-- a right record is no refusal
says : (f : Frame) → T (valid f) → meaning f ≡ none → ⊥
unfolding meaning
says f v e = go f.head (head_of_lem f v) e
  where
    go : (h : Head) → T (ok_head h f.list.count) → meant h f.list.count f.list.items ≡ none → ⊥
    go Bad t e = t
    go (Submit a b c) t e = nothing (sym e)
    go (Forward a b c d) t e = nothing (sym e)
    go (ShardAppend a b c) t e = nothing (sym e)
    go (ExecNotif a b) t e = nothing (sym e)
    go (Executed a) t e = nothing (sym e)
    go (Response a b) t e = nothing (sym e)

-- for every list of bytes, what the reader gives means what the rules read
pub reads_mean : (s : List ℕ) → Bytes s → meaning (read_frame s) ≡ decode s
reads_mean s b = reads s b (λ (f : Frame). read_frame s ≡ f → meaning f ≡ decode s) (λ e. refused e (decode s) refl) (λ f g e. accepted f g (meaning f) refl) refl
  where
    -- had the rules read a frame, the reader would have given its record
    refused : read_frame s ≡ bad_frame → (o : Option F.Frame) → decode s ≡ o → meaning bad_frame ≡ decode s
    refused e none d = unfold meaning bad_frame in (sym d)
    refused e (some g) d =
        let p = decode_spells s g d in
        let r = recorded g p.rules in
        let q : read_frame s ≡ record_of g = rw (record-bytes g p.rules ∙ p.bytes) at (record-back g p.rules) in
        absurd (says bad_frame (rw (sym q ∙ e) at r.right) (unfold meaning bad_frame in refl))

    accepted : (f : Frame) → Spells s f → (o : Option F.Frame) → meaning f ≡ o → meaning f ≡ decode s
    accepted f g none e = absurd (says f g.right e)
    accepted f g (some h) e =
        let q : encode h ≡ s = sym (writes_mean f (items_of_lem f g.right) ∙ ap encoded e) ∙ g.bytes in
        e ∙ sym (rw q at (decode_encode h (valid_obeys f h g.right g.canon e)))

answer_means : (h : Head) (n : ℕ) (xs : List Item) → answer_of h ≡ answer_to (meant h n xs)
answer_means Bad n xs = refl
answer_means (Submit a b c) n xs = refl
answer_means (Forward a b c d) n xs = refl
answer_means (ShardAppend a b c) n xs = refl
answer_means (ExecNotif a b) n xs = refl
answer_means (Executed a) n xs = refl
answer_means (Response a b) n xs = refl

-- the same with 01's number, as the code promises it
pub promised : (s : List ℕ) (f : Frame) → Bytes s → f ≡ read_frame s → (answer_of f.head ≡ answer_to (decode s)) × (meaning f ≡ decode s)
unfolding meaning
promised s f b e =
    let m : meaning f ≡ decode s = ap meaning e ∙ reads_mean s b in
    (answer_means f.head f.list.count f.list.items ∙ ap answer_to m, m)

-- ---- What an agent needs of a frame that it read, and of one that it sends

-- what was read lies as it should, a refusal too
pub read_canon : (s : List ℕ) → Bytes s → CanonFrame (read_frame s)
read_canon s b = reads s b CanonFrame (unfold bad_frame in (refl, (refl, (refl, (refl, (refl, tt)))))) (λ f g. g.canon)

-- a frame that obeys the rules has a right record where its items are right
many : (n : ℕ) (b : Bool) (k : ℕ) → k ≡ n → T (within 1 4 k && b) → T (leb 1 n)
many n b k e t = rw e at (and_l (leb 1 k) (leb k 4) (and_l (within 1 4 k) b t))

window_obeys : (n : ℕ) (xs : List Item) (client number ack : ℕ) → T (ok_items n xs)
    → T (ok_write (record { client = client; number = number; operations = operations_of n xs }) ack) → T (leb 1 n && leb client 15) × T (ok_window number ack)
unfolding ok_operations
window_obeys n xs client number ack t o =
    let w : R.Write = record { client = client; number = number; operations = operations_of n xs } in
    let r = write_rules w ack o in (
      and (leb 1 n) (leb client 15) (many n (every ok_operation (operations_of n xs)) (length (operations_of n xs)) (I.view_length as_operation 0 n xs t) r.operations)
          (le→leb client 15 r.client),
      window_of w ack r,
    )

head_allowed : (h : Head) (n : ℕ) (xs : List Item) → is_bad h ≡ false → T (ok_items n xs) → Obeying (meant h n xs) → T (ok_head h n)
unfolding obeys Obeying ok_placed
head_allowed Bad n xs b t o = let z : ◌≡◌ {A = ℕ} 0 1 = cc in absurd (omega arith)
head_allowed (Submit client number ack) n xs b t o =
    let w = window_obeys n xs client number ack t o in and (leb 1 n && leb client 15) (ok_window number ack) w.0 w.1
head_allowed (Forward log client number ack) n xs b t o =
    let k : Bool = ok_write (record { client = client; number = number; operations = operations_of n xs }) ack in
    let w = window_obeys n xs client number ack t (and_r (ok_ind log) k o) in
    and (leb 1 n && leb log 255 && leb client 15) (ok_window number ack)
    (and (leb 1 n && leb log 255) (leb client 15) (and (leb 1 n) (leb log 255) (and_l (leb 1 n) (leb client 15) w.0) (and_l (ok_ind log) k o))
    (and_r (leb 1 n) (leb client 15) w.0)) w.1
head_allowed (ShardAppend shard log sn) n xs b t o =
    let j : Bool = within 1 8 shard in
    let i : Bool = leb log 255 in
    let k : Bool = within 1 256 sn in
    let ys = placed_of n xs in
    let p : Bool = rising 0 (map (λ (x : R.Placed). x.place) ys) in
    let q : Bool = every (λ x. ok_operation x.operation) ys in
    let a = and_l (j && i && k) (within 1 4 (length ys) && p && q) o in
    let c = and_l (j && i) k a in
    let l = many n p (length ys) (I.view_length as_placed 0 n xs t) (and_l (within 1 4 (length ys) && p) q (and_r (j && i && k) (within 1 4 (length ys) && p && q) o)) in
    and (leb 1 n && j && i) k (and (leb 1 n && j) i (and (leb 1 n) j l (and_l j i c)) (and_r j i c)) (and_r (j && i) k a)
head_allowed (ExecNotif shard log) n xs b t o = and_l (within 1 8 shard && ok_ind log) (ok_reads (reads_of n xs)) o
head_allowed (Executed log) n xs b t o = and_l (ok_ind log) (ok_reads (reads_of n xs)) o
head_allowed (Response client number) n xs b t o = and_l (ok_client client && ok_number number) (ok_reads (reads_of n xs)) o

-- what means something is no refusal
speaks : (h : Head) (n : ℕ) (xs : List Item) (g : F.Frame) → meant h n xs ≡ some g → is_bad h ≡ false
speaks Bad n xs g e = nothing e
speaks (Submit a b c) n xs g e = refl
speaks (Forward a b c d) n xs g e = refl
speaks (ShardAppend a b c) n xs g e = refl
speaks (ExecNotif a b) n xs g e = refl
speaks (Executed a) n xs g e = refl
speaks (Response a b) n xs g e = refl

pub valid_of : (f : Frame) (g : F.Frame) → T (ok_items f.list.count f.list.items) → meaning f ≡ some g → T (obeys g) → T (valid f)
unfolding valid meaning Obeying
valid_of f g t e o =
    let m : Obeying (meant f.head f.list.count f.list.items) = rw e o in
    and (ok_head f.head f.list.count) (ok_items f.list.count f.list.items) (head_allowed f.head f.list.count f.list.items (speaks f.head f.list.count f.list.items g e) t m) t

pub last_one : (p q : ℕ) → view_last p ≡ view_last q → p ≡ q
last_one zero zero e = refl
last_one zero (suc q) e = nothing e
last_one (suc p) zero e = nothing (sym e)
last_one (suc p) (suc q) e = let f : p ≡ q = cc in ap suc f

pub bytes_take : (n : ℕ) (s : List ℕ) → Bytes s → Bytes (take n s)
bytes_take zero s b i = omega arith
bytes_take (suc n) [] b i = omega arith
bytes_take (suc n) (x ∷ s) b zero = b zero
bytes_take (suc n) (x ∷ s) b (suc i) = bytes_take n s (λ j. b (suc j)) i

-- the reader of a front means the rules' reading of the bytes up to the end that it gives; where it gives none, no beginning of the bytes is a frame
pub front_means : (s : List ℕ) → Bytes s → MatchOption (read_front s) ((n : ℕ) → decode (take n s) ≡ none) (λ r. meaning r.frame ≡ decode (take r.end s))
front_means s b =
    fronts s b (λ o. read_front s ≡ o → MatchOption o ((n : ℕ) → decode (take n s) ≡ none) (λ r. meaning r.frame ≡ decode (take r.end s)))
    (λ e n. refused e n (decode (take n s)) refl)
    (λ r g e. ap meaning (sym (frame_back r.frame g.right g.canon) ∙ ap read_frame g.bytes) ∙ reads_mean (take r.end s) (bytes_take r.end s b)) refl
  where
    -- had the rules read a frame from a beginning, so had the reader
    refused : read_front s ≡ None → (n : ℕ) → (o : Option F.Frame) → decode (take n s) ≡ o → decode (take n s) ≡ none
    refused e n none d = d
    refused e n (some g) d =
        let p = decode_spells (take n s) g d in
        let r = recorded g p.rules in
        let w : frame_bytes (record_of g) ++ drop n s ≡ s = ap (λ (l : List ℕ). l ++ drop n s) (record-bytes g p.rules ∙ p.bytes) ∙ take-append-drop n s in
        let q = rw w at (front_back (record_of g) (drop n s) r.right r.canon) in
        let z : ◌≡◌ {A = Std.Option Front} None (Some (record { frame = record_of g; end = length (frame_bytes (record_of g)) })) = sym e ∙ q in
        cc

-- frames sent in turn have the rules' bytes, back to back
abbrev pub Sends : List Frame → List F.Frame → Type 0
Sends [] [] = Unit
Sends [] (g ∷ gs) = ⊥
Sends (f ∷ fs) [] = ⊥
Sends (f ∷ fs) (g ∷ gs) = (T (ok_items f.list.count f.list.items) × (meaning f ≡ some g)) × Sends fs gs

pub sent_bytes_lem : (fs : List Frame) (gs : List F.Frame) → Sends fs gs → frames_bytes fs ≡ back_to_back encode gs
sent_bytes_lem [] [] h = refl
sent_bytes_lem [] (g ∷ gs) h = absurd h
sent_bytes_lem (f ∷ fs) [] h = absurd h
sent_bytes_lem (f ∷ fs) (g ∷ gs) ((t, m), h) = λ i. (writes_mean f t ∙ ap encoded m) i ++ sent_bytes_lem fs gs h i
