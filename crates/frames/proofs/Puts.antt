-- Stores one behind the other are one store of all the bytes.
-- Assumes nothing.
use mathlib.Core.Path.{◌≡◌, refl, sym, ap, ◌∙◌}
use mathlib.Core.Bool.{Bool, true, false}
use mathlib.Core.List.{List, [], ◌∷◌, ◌++◌, append_assoc, append-nil}
use Prim.Native.Nat.{ℕ, zero, suc, ◌+◌, ◌*◌, ◌<◌, ◌≤◌, min}
use native.Mathlib.Numerals.{add-one}
use native.Mathlib.Nat.{mul-le-mul_left, zero-add, add-zero, add-suc, suc-add, mul-suc, mul-zero, not-suc-le-zero, le_of_suc-le-suc}
use native.Mathlib.Omega.{arith}
use lib.ListN.{length, get_or, take, drop, set, length-append, length-take}
use lib.Seq.{sets, length-sets, sets-eq, drop-drop, get_or-take}
use borrow.Rule.Slice.PartMut.{put_mid}
use borrow.Author.Tests.{le-leb, lt-leb}
use Rattle.rules.specs.Lists.{If◌then◌else◌}
use Rattle.rules.specs.Frames.{two, four}
use Rattle.frames.specs.declared.Item.{Item}
use Rattle.frames.specs.declared.Shape.{Shape}
use Rattle.frames.specs.declared.Shape.TheVariants.{Operation, Placed, Read}
use Rattle.frames.specs.Frames.{width, item_bytes, items_bytes, list_bytes, Put, is_bad, kind_of, header_bytes, field_bytes, field_width, shape_of, len_of, framed, frame_bytes, fits, written_of, laid_of}
use Rattle.frames.specs.declared.Head.{Head}
use Rattle.frames.specs.declared.Head.TheVariants.{Bad, Submit, Forward, ShardAppend, ExecNotif, Executed, Response}
use Rattle.frames.specs.declared.Frame.{Frame}

sets_append : (a b l : List ℕ) (i : ℕ) → sets (sets l i a) (i + length a) b ≡ sets l i (a ++ b)
sets_append [] b l i = rw add-zero
sets_append (x ∷ a) b l i = rw (add-suc, ← suc-add) (sets_append a b (set l i x) (suc i))

-- a store, and another where it ended
pub behind : {l m n : List ℕ} {at e d : ℕ} {a b : List ℕ} → Put l m at e a → Put m n e d b → Put l n at d (a ++ b)
behind {l} {m} {n} {at} {e} {d} {a} {b} p q =
    record {
      stored = q.stored ∙ rw (p.stored, p.ended) (sets_append a b l at);
      ended = q.ended ∙ rw (p.ended, length-append) (omega arith);
    }

-- the area stays as long as it was
pub same_length : {l n : List ℕ} {at e : ℕ} {bs : List ℕ} → Put l n at e bs → length n ≡ length l
same_length {l} {n} {at} {e} {bs} p = ap length p.stored ∙ length-sets l at bs

-- bytes that are copied over the part from `at` on
pub put_part : (l m bs : List ℕ) (at k : ℕ) → at + length bs ≤ length l → k ≡ length bs → m ≡ bs → Put l (put_mid at k l m) at (at + length bs) bs
put_part l m bs at k h e em = record { stored = rw (em, e, drop-drop, ← append_assoc) (sym (sets-eq bs l at h)); ended = refl }

-- ---- Items

pub length_item : (shape : Shape) (x : Item) → length (item_bytes shape x) ≡ width shape
length_item Operation x = refl
length_item Placed x = refl
length_item Read x = refl

-- one item more
pub items_more : (shape : Shape) (xs : List Item) (i : ℕ) (d : Item) → i < length xs
    → items_bytes shape (take (suc i) xs) ≡ items_bytes shape (take i xs) ++ item_bytes shape (get_or xs i d)
items_more shape [] i d h = absurd (not-suc-le-zero h)
items_more shape (x ∷ xs) zero d h = append-nil (item_bytes shape x)
items_more shape (x ∷ xs) (suc i) d h =
    ap (λ (l : List ℕ). item_bytes shape x ++ l) (items_more shape xs i d (le_of_suc-le-suc h)) ∙ sym (append_assoc (item_bytes shape x) (items_bytes shape (take i xs)) _)

pub length_items : (shape : Shape) (n : ℕ) (xs : List Item) → n ≤ length xs → length (items_bytes shape (take n xs)) ≡ width shape * n
length_items shape zero xs h = simp mul-zero
length_items shape (suc n) [] h = absurd (not-suc-le-zero h)
length_items shape (suc n) (x ∷ xs) h =
    length-append (item_bytes shape x) (items_bytes shape (take n xs))
    ∙ rw (length_item shape x, length_items shape n xs (le_of_suc-le-suc h))
    (let e : width shape + width shape * n ≡ width shape * suc n = omega (arith, mul-suc (width shape) n) in e)

-- ---- A list, item by item: of the first n of xs, which are ys, i are written

module _ (shape : Shape) (n i : ℕ) (xs ys : List Item) (front : ys ≡ take n xs) (there : i < length ys) where
  inside : (i < n) × (i < length xs)
  inside = let h : i < min n (length xs) = rw (front, length-take) at there in (omega arith, omega arith)

  pub item_room : (at e room : ℕ) → at + 1 + width shape * n ≤ room → e ≡ at + length (n ∷ items_bytes shape (take i xs)) → e + width shape ≤ room
  item_room at e room h k =
      let m : suc i ≤ n = omega (arith, inside) in
      omega (arith, length_items shape i xs (omega (arith, inside)), mul-suc (width shape) i, mul-le-mul_left (width shape) m)

  pub item_behind : {l m : List ℕ} {at e : ℕ} (d : Item) → Put l m at e ((n ∷ items_bytes shape (take i xs)) ++ item_bytes shape (get_or ys i d))
      → Put l m at e (n ∷ items_bytes shape (take (i + 1) xs))
  item_behind d p = let k = inside in rw (add-one, items_more shape xs i d k.1) (rw (front, get_or-take n xs i d k.0) at p)

-- ---- A frame as a whole

pub length_fields : (h : Head) → length (field_bytes h) ≡ field_width h
length_fields Bad = refl
length_fields (Submit a b c) = refl
length_fields (Forward a b c d) = refl
length_fields (ShardAppend a b c) = refl
length_fields (ExecNotif a b) = refl
length_fields (Executed a) = refl
length_fields (Response a b) = refl

pub length_framed : (len : ℕ) (h : Head) (count : ℕ) (xs : List Item) → count ≤ length xs → length (framed len h count xs) ≡ len_of h count + 2
length_framed len h count xs k =
    omega (arith, length-append (field_bytes h) (list_bytes (shape_of h) count xs), length_fields h, length_items (shape_of h) count xs k)

-- a frame that is none has no bytes
pub bad_bytes : (f : Frame) → is_bad f.head ≡ true → frame_bytes f ≡ []
unfolding frame_bytes If◌then◌else◌
bad_bytes f e = simp e

pub frame_bytes_lem : (f : Frame) → is_bad f.head ≡ false → frame_bytes f ≡ framed (len_of f.head f.list.count) f.head f.list.count f.list.items
unfolding frame_bytes If◌then◌else◌
frame_bytes_lem f e = simp e

pub length_frame : (f : Frame) → is_bad f.head ≡ false → f.list.count ≤ length f.list.items → length (frame_bytes f) ≡ len_of f.head f.list.count + 2
length_frame f e k = ap length (frame_bytes_lem f e) ∙ length_framed (len_of f.head f.list.count) f.head f.list.count f.list.items k

-- the law for callers: with at most four items and with room, the frame's bytes stand at the front and nothing else changes
pub writes : (f : Frame) (room : ℕ) → f.list.count ≤ 4 → length (frame_bytes f) ≤ room → written_of f room ≡ length (frame_bytes f)
unfolding written_of fits If◌then◌else◌
writes f room k h = simp (le-leb f.list.count 4 k, le-leb (length (frame_bytes f)) room h)

pub lays : (f : Frame) (out : List ℕ) → f.list.count ≤ 4 → length (frame_bytes f) ≤ length out → laid_of f out ≡ frame_bytes f ++ drop (length (frame_bytes f)) out
unfolding laid_of fits If◌then◌else◌
lays f out k h = simp (le-leb f.list.count 4 k, le-leb (length (frame_bytes f)) (length out) h)

-- what the code leaves where it writes
pub wrote : (f : Frame) (l m : List ℕ) (k len e : ℕ) (shape : Shape) → k ≡ kind_of f.head → len ≡ len_of f.head f.list.count → shape ≡ shape_of f.head
    → is_bad f.head ≡ false → f.list.count ≤ 4 → length f.list.items ≡ 4 → len + 2 ≤ length l
    → Put l m 0 e (((two len ++ header_bytes k) ++ field_bytes f.head) ++ list_bytes shape f.list.count f.list.items) → (e ≡ written_of f (length l)) × (m ≡ laid_of f l)
wrote f l m k len e shape ek en es b c four r p =
    let q : ((two len ++ header_bytes k) ++ field_bytes f.head) ++ list_bytes shape f.list.count f.list.items ≡ frame_bytes f = rw (ek, en, es) (sym (frame_bytes_lem f b)) in
    let p' : Put l m 0 e (frame_bytes f) = rw q at p in
    let n : length (frame_bytes f) ≡ len_of f.head f.list.count + 2 = length_frame f b (omega arith) in
    let room : length (frame_bytes f) ≤ length l = omega arith in (
      p'.ended ∙ zero-add (length (frame_bytes f)) ∙ sym (writes f (length l) c room),
      p'.stored ∙ rw zero-add at (sets-eq (frame_bytes f) l 0 (rw zero-add room)) ∙ sym (lays f l c room),
    )

-- what it leaves where it writes nothing: the frame has no kind, too many items, or too little room
abbrev pub Nothing : Frame → List ℕ → Type 0
Nothing f l = (0 ≡ written_of f (length l)) × (l ≡ laid_of f l)

pub no_kind : (f : Frame) (l : List ℕ) → is_bad f.head ≡ true → Nothing f l
unfolding written_of laid_of If◌then◌else◌
no_kind f l k = let e = bad_bytes f k in (rw e (both (fits f (length l)) 0), rw e (both (fits f (length l)) l))
  where
    both : {A : Type 0} (t : Bool) (x : A) → x ≡ (If t then x else x)
    both true x = refl
    both false x = refl

unfit : (f : Frame) (l : List ℕ) → fits f (length l) ≡ false → Nothing f l
unfolding written_of laid_of If◌then◌else◌
unfit f l e = (simp e, simp e)

pub too_many : (f : Frame) (l : List ℕ) → 4 < f.list.count → Nothing f l
unfolding fits
too_many f l h = unfit f l (simp (lt-leb f.list.count 4 h))

pub no_room : (f : Frame) (l : List ℕ) → is_bad f.head ≡ false → f.list.count ≤ 4 → length f.list.items ≡ 4 → length l < len_of f.head f.list.count + 2 → Nothing f l
unfolding fits
no_room f l b c four h =
    let n = length_frame f b (omega arith) in
    unfit f l (simp (le-leb f.list.count 4 c, lt-leb (length (frame_bytes f)) (length l) (omega arith)))
