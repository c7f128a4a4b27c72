-- One spelling, for the code's reader and writer: what is written reads back as itself, whatever follows it, and what is read
-- is written as the same bytes. Assumes nothing.
use mathlib.Core.Path.{◌≡◌, refl, sym, ap, ◌∙◌}
use mathlib.Core.Bool.{Bool, false, not, ◌&&◌}
use mathlib.Core.List.{List, [], ◌∷◌, ◌++◌, append-nil}
use Rattle.std.specs.Prelude.{Option, Some, None, IfSome}
use Prim.Native.Nat.{ℕ, zero, suc, ◌+◌, ◌*◌, ◌<◌, ◌≤◌}
use native.Mathlib.Nat.{zero-add}
use native.Mathlib.Omega.{arith}
use lib.ListN.{length, take, drop, length-append}
use lib.Seq.{take_all, get_or-drop}
use lib.Dec.{T, leb, eqb, leb→le, le→leb, eqb→eq, eqb_refl}
use Rattle.rules.specs.Lists.{If◌then◌else◌, within}
use Rattle.rules.specs.Frames.{two, byte_at, two_at}
use Rattle.rules.proofs.Lists.{by, if_yes, and, and_l, and_r}
use Rattle.rules.proofs.Frames.{two_back}
use Rattle.frames.specs.declared.Item.{Item}
use Rattle.frames.specs.declared.Shape.{Shape}
use Rattle.frames.specs.declared.Shape.TheVariants.{Operation, Placed, Read}
use Rattle.frames.specs.declared.Head.{Head}
use Rattle.frames.specs.declared.Head.TheVariants.{Bad, Submit, Forward, ShardAppend, ExecNotif, Executed, Response}
use Rattle.frames.specs.declared.Frame.{Frame}
use Rattle.frames.specs.declared.Front.{Front}
use Rattle.frames.specs.Frames.{kind_of, field_bytes, field_width, shape_of, is_bad, width, items_bytes, list_bytes, framed, frame_bytes, len_of, ok_item, ok_from, ok_items, ok_window, ok_head, valid, bad_frame, slots, listed, read_submit, read_forward, read_shard_append, read_exec_notif, read_executed, read_response, head_of, body_at, candidate_of, taken, accept, read_front, alone, read_frame}
use Rattle.frames.specs.View.{CanonFrom, CanonFrame, Bytes}
use Rattle.frames.proofs.Puts.{frame_bytes_lem, length_frame}
use Rattle.frames.proofs.Lists.{gets, gets_append, gets_part, gets_drop, two_at_lem, items_bytes_lem, slots_canon, items_back}

-- ---- What validity says

-- items that are right are there
pub enough : (p n : ℕ) (xs : List Item) → T (ok_from p n xs) → n ≤ length xs
enough p zero xs t = omega arith
enough p (suc n) [] t = absurd t
enough p (suc n) (x ∷ xs) t = let h = enough (suc x.place) n xs (and_r (leb p x.place && ok_item x) (ok_from (suc x.place) n xs) t) in omega arith

pub head_of_lem : (f : Frame) → T (valid f) → T (ok_head f.head f.list.count)
unfolding valid
head_of_lem f v = and_l (ok_head f.head f.list.count) (ok_items f.list.count f.list.items) v

pub items_of_lem : (f : Frame) → T (valid f) → T (ok_items f.list.count f.list.items)
unfolding valid
items_of_lem f v = and_r (ok_head f.head f.list.count) (ok_items f.list.count f.list.items) v

good_head : (h : Head) (n : ℕ) → T (ok_head h n) → is_bad h ≡ false
good_head Bad n t = absurd t
good_head (Submit a b c) n t = refl
good_head (Forward a b c d) n t = refl
good_head (ShardAppend a b c) n t = refl
good_head (ExecNotif a b) n t = refl
good_head (Executed a) n t = refl
good_head (Response a b) n t = refl

-- whatever the bytes, what the reader gives has four slots and at most four items
pub record Few (f : Frame) : Type 0 where
  pub count : f.list.count ≤ 4
  pub items : length f.list.items ≡ 4

bad_few : Few bad_frame
unfolding bad_frame
bad_few = record { count = omega arith; items = refl }

pub front_few : (s : List ℕ) → IfSome (read_front s) (λ r. Few r.frame)
unfolding read_front accept candidate_of listed
front_few s =
    let f = candidate_of s in
    let n : ℕ = len_of f.head f.list.count in
    by (λ (o : Option Front). IfSome o (λ r. Few r.frame)) (taken f s)
    (λ t.
    let v = and_l (valid f) (eqb (two_at s 0) n) (and_l (valid f && eqb (two_at s 0) n) (leb (n + 2) (length s)) t) in
    record { count = enough 0 f.list.count f.list.items (items_of_lem f v); items = refl }) (λ t. tt)

pub frame_few : (s : List ℕ) → Few (read_frame s)
unfolding read_frame
frame_few s = go (read_front s) (front_few s)
  where
    go : (o : Option Front) → IfSome o (λ r. Few r.frame) → Few (alone (length s) o)
    go None h = bad_few
    go (Some r) h = by Few (eqb r.end (length s)) (λ t. h) (λ t. bad_few)

-- ---- What is written reads back

accepts_it : (f : Frame) (s : List ℕ) → T (valid f) → two_at s 0 ≡ len_of f.head f.list.count → len_of f.head f.list.count + 2 ≤ length s
    → accept f s ≡ Some (record { frame = f; end = len_of f.head f.list.count + 2 })
unfolding accept
accepts_it f s v e h =
    let n : ℕ = len_of f.head f.list.count in
    if_yes (taken f s) _ None
    (and (valid f && eqb (two_at s 0) n) (leb (n + 2) (length s)) (and (valid f) (eqb (two_at s 0) n) v (rw e (eqb_refl n))) (le→leb (n + 2) (length s) h))

-- the length of at most four items fits its field
len_small : (h : Head) (n : ℕ) → n ≤ 4 → len_of h n < 65536
len_small Bad n h = omega arith
len_small (Submit a b c) n h = omega arith
len_small (Forward a b c d) n h = omega arith
len_small (ShardAppend a b c) n h = omega arith
len_small (ExecNotif a b) n h = omega arith
len_small (Executed a) n h = omega arith
len_small (Response a b) n h = omega arith

window : (number ack : ℕ) → T (ok_window number ack) → (number < 65536) × (ack < 65536)
window number ack v =
    let u = and_l (leb number 65534 && leb ack number) (leb number (ack + 7)) v in
    let a = leb→le number 65534 (and_l (leb number 65534) (leb ack number) u) in
    let b = leb→le ack number (and_r (leb number 65534) (leb ack number) u) in
    (omega arith, omega arith)

small : (x m : ℕ) → T (leb x m) → m < 65536 → x < 65536
small x m e h = let k : x ≤ m = leb→le x m e in omega arith

module _ (count : ℕ) (xs : List Item) (t : List ℕ) (four : length xs ≡ 4) where
  frame : Head → Frame
  frame h = record { head = h; list = record { count = count; items = xs } }

  bytes : Head → List ℕ
  bytes h = framed (len_of h count) h count xs ++ t

  list_back : (shape : Shape) → CanonFrom shape 0 count xs → slots shape 0 4 count (items_bytes shape (take count xs) ++ t) 0 ≡ xs
  list_back shape c = rw four at (items_back shape 0 count count xs t (sym (zero-add count)) c)

  -- the frame's bytes are those of no other
  spelled : (h : Head) → T (ok_head h count) → CanonFrom (shape_of h) 0 count xs → candidate_of (bytes h) ≡ frame h
  unfolding candidate_of listed head_of If◌then◌else◌ bytes frame
  spelled Bad v c = absurd v
  spelled (Submit client number ack) v c =
      let w = window number ack (and_r (leb 1 count && leb client 15) (ok_window number ack) v) in
      λ j. record { head = Submit client (two_back number w.0 j) (two_back ack w.1 j); list = record { count = count; items = list_back Operation c j } }
  spelled (Forward log client number ack) v c =
      let a : Bool = leb 1 count && leb log 255 in
      let w = window number ack (and_r (a && leb client 15) (ok_window number ack) v) in
      let u = and_l a (leb client 15) (and_l (a && leb client 15) (ok_window number ack) v) in
      let g = small log 255 (and_r (leb 1 count) (leb log 255) u) (omega arith) in
      λ j. record { head = Forward (two_back log g j) client (two_back number w.0 j) (two_back ack w.1 j); list = record { count = count; items = list_back Operation c j } }
  spelled (ShardAppend shard log sn) v c =
      let a : Bool = leb 1 count && within 1 8 shard in
      let u = and_l (a && leb log 255) (within 1 256 sn) v in
      let g = small log 255 (and_r a (leb log 255) u) (omega arith) in
      let k = small sn 256 (and_r (leb 1 sn) (leb sn 256) (and_r (a && leb log 255) (within 1 256 sn) v)) (omega arith) in
      λ j. record { head = ShardAppend shard (two_back log g j) (two_back sn k j); list = record { count = count; items = list_back Placed c j } }
  spelled (ExecNotif shard log) v c =
      let g = small log 255 (and_r (within 1 8 shard) (leb log 255) v) (omega arith) in
      λ j. record { head = ExecNotif shard (two_back log g j); list = record { count = count; items = list_back Read c j } }
  spelled (Executed log) v c = let g = small log 255 v (omega arith) in λ j. record { head = Executed (two_back log g j); list = record { count = count; items = list_back Read c j } }
  spelled (Response client number) v c =
      let g = small number 65534 (and_r (leb client 15) (leb number 65534) v) (omega arith) in
      λ j. record { head = Response client (two_back number g j); list = record { count = count; items = list_back Read c j } }

-- a frame that obeys the rules is read from its bytes, whatever follows them, and its end is found
pub front_back : (f : Frame) (t : List ℕ) → T (valid f) → CanonFrame f → read_front (frame_bytes f ++ t) ≡ Some (record { frame = f; end = length (frame_bytes f) })
unfolding read_front bytes frame
front_back f t v (four, c) =
    let h = head_of_lem f v in
    let g = good_head f.head f.list.count h in
    let k = enough 0 f.list.count f.list.items (items_of_lem f v) in
    let s : List ℕ = framed (len_of f.head f.list.count) f.head f.list.count f.list.items ++ t in
    let e = frame_bytes_lem f g in
    let n = length_frame f g k in
    let l : len_of f.head f.list.count + 2 ≤ length s
    = omega (arith, ap length e, length-append (framed (len_of f.head f.list.count) f.head f.list.count f.list.items) t) in
    ap (λ (b : List ℕ). read_front (b ++ t)) e
    ∙ ap (λ (g : Frame). accept g s) (spelled f.list.count f.list.items t four f.head h c)
    ∙ accepts_it f s v (two_back (len_of f.head f.list.count) (len_small f.head f.list.count (omega arith))) l
    ∙ λ i. Some (record { frame = f; end = sym n i })

-- for every frame that the rules allow, reading what was written gives that frame
pub frame_back : (f : Frame) → T (valid f) → CanonFrame f → read_frame (frame_bytes f) ≡ f
unfolding read_frame
frame_back f v c =
    let e : read_front (frame_bytes f) ≡ Some (record { frame = f; end = length (frame_bytes f) }) = rw append-nil at (front_back f [] v c) in
    rw e (if_yes (eqb (length (frame_bytes f)) (length (frame_bytes f))) f bad_frame (eqb_refl (length (frame_bytes f))))

-- ---- What is read is written as the same bytes

-- what the reader says of a frame with which s begins
pub record Begins (s : List ℕ) (r : Front) : Type 0 where
  pub right : T (valid r.frame)
  pub canon : CanonFrame r.frame
  pub bytes : frame_bytes r.frame ≡ take r.end s
  pub inside : r.end ≤ length s

-- fields and list of a frame that was read from a body
body_bytes : (body : List ℕ) → Bytes body → (h : Head) → field_bytes h ≡ gets 0 (field_width h) 0 body → (listed h body).list.count ≤ 4
    → field_bytes h ++ list_bytes (shape_of h) (listed h body).list.count (listed h body).list.items
    ≡ gets 0 (field_width h + (1 + width (shape_of h) * (listed h body).list.count)) 0 body
unfolding listed
body_bytes body b h e k =
    let at : ℕ = field_width h in
    let n : ℕ = byte_at body at in
    let m : ℕ = width (shape_of h) * n in
    let l : list_bytes (shape_of h) n (slots (shape_of h) 0 4 n body (at + 1)) ≡ gets 0 (1 + m) at body
    = (λ j. n ∷ items_bytes_lem body b (shape_of h) n 4 0 n (at + 1) (sym (zero-add n)) k j) ∙ gets_append 0 1 m at body in
    (λ j. e j ++ l j) ∙ (rw zero-add at (gets_append 0 at (1 + m) 0 body))

listed_canon : (body : List ℕ) → Bytes body → (h : Head) → CanonFrame (listed h body)
unfolding listed
listed_canon body b h =
    let n : ℕ = byte_at body (field_width h) in (refl, slots_canon body b (shape_of h) 4 n 0 n (field_width h + 1) (sym (zero-add n)))

-- length, header and body are the front of the bytes
front_parts : (s : List ℕ) (m : ℕ) → gets 0 2 0 s ++ (gets 0 2 2 s ++ gets 0 m body_at s) ≡ gets 0 (2 + (2 + m)) 0 s
front_parts s m = ap (λ (l : List ℕ). gets 0 2 0 s ++ l) (gets_append 0 2 m 2 s) ∙ gets_append 0 2 (2 + m) 0 s

module _ (s : List ℕ) (b : Bytes s) where
  bytes_from : (n : ℕ) → Bytes (drop n s)
  bytes_from n i = rw get_or-drop (b (n + i))

  abbrev Accepted : Frame → Type 0
  Accepted f = T (taken f s) → Begins s (record { frame = f; end = len_of f.head f.list.count + 2 })

  -- one frame, whatever its kind
  accepted : (h : Head) → is_bad h ≡ false → two_at s 2 ≡ kind_of h → field_bytes h ≡ gets 0 (field_width h) 0 (drop body_at s) → Accepted (listed h (drop body_at s))
  unfolding listed
  accepted h g k e t =
      let f : Frame = listed h (drop body_at s) in
      let n : ℕ = len_of h f.list.count in
      let u = and_l (valid f && eqb (two_at s 0) n) (leb (n + 2) (length s)) t in
      let v = and_l (valid f) (eqb (two_at s 0) n) u in
      let c : f.list.count ≤ 4 = enough 0 f.list.count f.list.items (items_of_lem f v) in
      let m : ℕ = field_width h + (1 + width (shape_of h) * f.list.count) in
      let i : n + 2 ≤ length s = leb→le (n + 2) (length s) (and_r (valid f && eqb (two_at s 0) n) (leb (n + 2) (length s)) t) in
      let p : two n ≡ gets 0 2 0 s = ap two (sym (eqb→eq (two_at s 0) n (and_r (valid f) (eqb (two_at s 0) n) u))) ∙ two_at_lem s b 0 in
      let q : two (kind_of h) ≡ gets 0 2 2 s = ap two (sym k) ∙ two_at_lem s b 2 in
      let r : field_bytes h ++ list_bytes (shape_of h) f.list.count f.list.items ≡ gets 0 m body_at s = body_bytes (drop body_at s) (bytes_from body_at) h e c ∙ gets_drop 0 m body_at 0 s in
      let x : framed n h f.list.count f.list.items ≡ gets 0 2 0 s ++ (gets 0 2 2 s ++ gets 0 m body_at s) = λ j. p j ++ (q j ++ r j) in
      let y : 2 + (2 + m) ≡ n + 2 = omega arith in
      record {
        right = v;
        canon = listed_canon (drop body_at s) (bytes_from body_at) h;
        bytes = frame_bytes_lem f g ∙ x ∙ front_parts s m ∙ gets_part 0 (2 + (2 + m)) 0 s (omega arith) ∙ ap (λ (k : ℕ). take k s) y;
        inside = i;
      }

  -- a field of two bytes of the body
  field : (i : ℕ) → two (two_at (drop body_at s) i) ≡ gets 0 2 i (drop body_at s)
  field i = two_at_lem (drop body_at s) (bytes_from body_at) i

  abbrev Read_as : Head → Type 0
  Read_as h = Accepted (listed h (drop body_at s))

  bad : Read_as Bad
  unfolding listed valid
  bad t = absurd t

  by_kind : (k : ℕ) → two_at s 2 ≡ k → Read_as (head_of k (drop body_at s))
  unfolding head_of
  by_kind k e =
      let o : List ℕ = drop body_at s in
      by Read_as (eqb k 1) (λ q. accepted (read_submit o) refl (e ∙ eqb→eq k 1 q) (λ j. byte_at o 0 ∷ (field 1 j ++ field 3 j))) λ q.
      by Read_as (eqb k 2) (λ q. accepted (read_forward o) refl (e ∙ eqb→eq k 2 q) (λ j. field 0 j ++ (byte_at o 2 ∷ (field 3 j ++ field 5 j)))) λ q.
      by Read_as (eqb k 3) (λ q. accepted (read_shard_append o) refl (e ∙ eqb→eq k 3 q) (λ j. byte_at o 0 ∷ (field 1 j ++ field 3 j))) λ q.
      by Read_as (eqb k 4) (λ q. accepted (read_exec_notif o) refl (e ∙ eqb→eq k 4 q) (λ j. byte_at o 0 ∷ field 1 j)) λ q.
      by Read_as (eqb k 5) (λ q. accepted (read_executed o) refl (e ∙ eqb→eq k 5 q) (field 0)) λ q.
      by Read_as (eqb k 6) (λ q. accepted (read_response o) refl (e ∙ eqb→eq k 6 q) (λ j. byte_at o 0 ∷ field 1 j)) λ q.
      bad

  -- nothing is read, or a frame with which the bytes begin
  pub fronts : (P : Option Front → Type 0) → P None → ((r : Front) → Begins s r → P (Some r)) → P (read_front s)
  unfolding read_front accept candidate_of
  fronts P none some = by P (taken (candidate_of s) s) (λ t. some _ (by_kind (two_at s 2) refl t)) (λ t. none)

-- what the reader of exactly one frame says of s
pub record Spells (s : List ℕ) (f : Frame) : Type 0 where
  pub right : T (valid f)
  pub canon : CanonFrame f
  pub bytes : frame_bytes f ≡ s

pub reads : (s : List ℕ) → Bytes s → (P : Frame → Type 0) → P bad_frame → ((f : Frame) → Spells s f → P f) → P (read_frame s)
unfolding read_frame
reads s b P none some =
    fronts s b (λ (o : Option Front). P (alone (length s) o)) none
    (λ r g.
    by P (eqb r.end (length s))
    (λ t. some r.frame (record { right = g.right; canon = g.canon; bytes = g.bytes ∙ whole r.end (eqb→eq r.end (length s) t) })) (λ t. none))
  where
    whole : (n : ℕ) → n ≡ length s → take n s ≡ s
    whole n e = take_all n s (omega arith)

-- for every byte list, if the reader accepts it then writing what was read gives the same bytes
pub bytes_back : (s : List ℕ) → Bytes s → T (not (is_bad (read_frame s).head)) → frame_bytes (read_frame s) ≡ s
bytes_back s b = reads s b (λ (f : Frame). T (not (is_bad f.head)) → frame_bytes f ≡ s) (unfold bad_frame in (λ t. absurd t)) (λ f g t. g.bytes)

-- both together: bytes are read as a frame exactly where they are its bytes
pub frame_exactly : (s : List ℕ) (f : Frame) → Bytes s → T (valid f) → CanonFrame f → (read_frame s ≡ f → frame_bytes f ≡ s) × (frame_bytes f ≡ s → read_frame s ≡ f)
frame_exactly s f b v c = (
  (λ e. rw e at (bytes_back s b (rw e (good f.head f.list.count (head_of_lem f v))))),
  (λ e. rw e at (frame_back f v c)),
)
  where
    good : (h : Head) (n : ℕ) → T (ok_head h n) → T (not (is_bad h))
    good h n t = rw (good_head h n t) tt
