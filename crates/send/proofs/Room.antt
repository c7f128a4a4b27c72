-- What an entry makes a board send has at most 68 bytes, whatever the record holds: each ShardAppend has an operation, 10 + 7c is
-- at most 17c, and each of the four operations is on one shard.
-- Assumes nothing.
use mathlib.Core.Path.{◌≡◌, refl, sym, ap, ◌∙◌}
use mathlib.Core.Bool.{Bool, true, false, ◌&&◌}
use mathlib.Core.List.{List, [], ◌∷◌, ◌++◌, append_assoc, append-nil}
use Prim.Native.Nat.{ℕ, zero, suc, ◌+◌, ◌-◌, ◌*◌, ◌≤◌}
use native.Mathlib.Nat.{mul-suc}
use native.Mathlib.Omega.{arith}
use lib.ListN.{length, take, replicate, length-append, length-replicate}
use lib.Dec.{leb, ltb, eqb}
use borrow.Author.Tests.{leb-true, ltb-true, ltb-false, eqb-true, eqb-false}
use Rattle.rules.specs.Lists.{If◌then◌else◌}
use Rattle.rules.proofs.Lists.{by}
use Rattle.frames.specs.declared.Item.{Item}
use Rattle.frames.specs.declared.Shape.{Shape}
use Rattle.frames.specs.declared.Head.{Head}
use Rattle.frames.specs.declared.Frame.{Frame}
use Rattle.frames.specs.Frames.{no_item, is_bad, frame_bytes, framed, field_bytes, list_bytes, item_bytes, items_bytes, shape_of, width, len_of}
use Rattle.frames.proofs.Puts.{length_item, length_framed}
use Rattle.entry.specs.declared.Entry.{Entry}
use Rattle.entry.specs.Model.{shard_number, is_on, chosen, beside, part_on, reads_held, answered_of, in_mask}
use Rattle.entry.proofs.Slots.{beside_few}
use Rattle.send.specs.Model.{bytes_of, forward_frame, backward_of, append_frame, goes, append_at, appends_to}

-- ---- A frame is as long as its count says, or shorter

items_most : (shape : Shape) (n : ℕ) (xs : List Item) → length (items_bytes shape (take n xs)) ≤ width shape * n
items_most shape zero xs = omega arith
items_most shape (suc n) [] = omega arith
items_most shape (suc n) (x ∷ xs) =
    omega (arith, mul-suc (width shape) n, items_most shape n xs, length_item shape x, length-append (item_bytes shape x) (items_bytes shape (take n xs)))

head_length : (h : Head) → length (framed 0 h 0 []) ≡ len_of h 0 + 2
head_length h = length_framed 0 h 0 [] (omega arith)

pub frame_most : (f : Frame) → length (frame_bytes f) ≤ len_of f.head f.list.count + 2
unfolding frame_bytes
frame_most f =
    by (λ (l : List ℕ). length l ≤ len_of f.head f.list.count + 2) (is_bad f.head) (λ t. omega arith)
    (λ t.
    omega (
      arith,
      head_length f.head,
      items_most (shape_of f.head) f.list.count f.list.items,
      length-append (field_bytes f.head) (list_bytes (shape_of f.head) f.list.count f.list.items),
      length-append (field_bytes f.head) (0 ∷ []),
    ))

-- ---- Each operation is on one shard

-- a shard is among the first ones and the next, if it is among the first ones or is the next
share : (s last : ℕ) (y : Item) (ks ls ns : List Item) → length ks ≡ length ls + length ns
    → (a : Bool) → a ≡ ltb s (suc (suc last)) → (b : Bool) → b ≡ ltb s (suc last) → (c : Bool) → c ≡ eqb s (suc last)
    → length (If a then y ∷ ks else ks) ≡ length (If b then y ∷ ls else ls) + length (If c then y ∷ ns else ns)
unfolding If◌then◌else◌
share s last y ks ls ns h true p true q true r = let u = ltb-true s (suc last) (sym q) in let v = eqb-true s (suc last) (sym r) in absurd (omega arith)
share s last y ks ls ns h true p true q false r = omega arith
share s last y ks ls ns h true p false q true r = omega arith
share s last y ks ls ns h true p false q false r =
    let t = ltb-true s (suc (suc last)) (sym p) in
    let u = ltb-false s (suc last) (sym q) in
    absurd (eqb-false s (suc last) (sym r) (omega arith))
share s last y ks ls ns h false p true q c r = let t = ltb-false s (suc (suc last)) (sym p) in let u = ltb-true s (suc last) (sym q) in absurd (omega arith)
share s last y ks ls ns h false p false q true r = let t = ltb-false s (suc (suc last)) (sym p) in let v = eqb-true s (suc last) (sym r) in absurd (omega arith)
share s last y ks ls ns h false p false q false r = h

module _ (m : ℕ) where
  -- on one of the first shards
  abbrev up_to : ℕ → Item → Bool
  up_to last x = ltb (shard_number m x.key) (suc last)

  one_more_lem : (last : ℕ) (xs ys : List Item) → length (beside (up_to (suc last)) xs ys) ≡ length (beside (up_to last) xs ys) + length (beside (is_on m (suc last)) xs ys)
  one_more_lem last [] ys = refl
  one_more_lem last (x ∷ xs) [] = refl
  one_more_lem last (x ∷ xs) (y ∷ ys) =
      share (shard_number m x.key) last y (beside (up_to (suc last)) xs ys) (beside (up_to last) xs ys) (beside (is_on m (suc last)) xs ys) (one_more_lem last xs ys) _ refl _ refl _ refl

-- ---- The ShardAppends

pub bytes_append : (xs ys : List Frame) → bytes_of (xs ++ ys) ≡ bytes_of xs ++ bytes_of ys
unfolding bytes_of
bytes_append [] ys = refl
bytes_append (x ∷ xs) ys = ap (λ (l : List ℕ). frame_bytes x ++ l) (bytes_append xs ys) ∙ sym (append_assoc (frame_bytes x) (bytes_of xs) (bytes_of ys))

pub bytes_one : (f : Frame) → bytes_of (f ∷ []) ≡ frame_bytes f
unfolding bytes_of
bytes_one f = append-nil (frame_bytes f)

module _ (left count : ℕ) (items : List Item) (m ind : ℕ) (masks : List ℕ) where
  abbrev S : ℕ → List Frame
  S last = appends_to left count items m ind masks last

  abbrev part : ℕ → ℕ
  part shard = length (chosen (is_on m shard) count items)

  abbrev below : ℕ → ℕ
  below last = length (beside (up_to m last) (take count items) items)

  append_most : (shard : ℕ) → length (frame_bytes (append_at count items m ind masks shard)) ≤ 10 + 7 * part shard
  unfolding append_at append_frame part_on
  append_most shard = omega (arith, frame_most (append_at count items m ind masks shard))

  pub to_yes : (last : ℕ) → goes left count items m (suc last) ≡ true → S (suc last) ≡ S last ++ (append_at count items m ind masks (suc last) ∷ [])
  unfolding appends_to If◌then◌else◌
  to_yes last h = rw h

  pub to_no : (last : ℕ) → goes left count items m (suc last) ≡ false → S (suc last) ≡ S last
  unfolding appends_to If◌then◌else◌
  to_no last h = rw h (append-nil (S last))

  pub bytes_yes : (last : ℕ) → goes left count items m (suc last) ≡ true
      → bytes_of (S (suc last)) ≡ bytes_of (S last) ++ frame_bytes (append_at count items m ind masks (suc last))
  bytes_yes last h =
      ap bytes_of (to_yes last h)
      ∙ (bytes_append (S last) (append_at count items m ind masks (suc last) ∷ [])
      ∙ ap (λ (l : List ℕ). bytes_of (S last) ++ l) (bytes_one (append_at count items m ind masks (suc last))))

  goes_some : (shard : ℕ) → goes left count items m shard ≡ true → 1 ≤ part shard
  unfolding goes part_on
  goes_some shard h = go (in_mask left shard) h
    where
      go : (t : Bool) → (t && leb 1 (part shard)) ≡ true → 1 ≤ part shard
      go true k = leb-true 1 (part shard) k
      go false k = let z : ◌≡◌ {A = ℕ} 0 1 = cc in absurd (omega arith)

  bytes_none : length (bytes_of (S zero)) ≤ 17 * below zero
  unfolding appends_to bytes_of
  bytes_none = omega arith

  bytes_below : (last : ℕ) → length (bytes_of (S last)) ≤ 17 * below last
  bytes_below zero = bytes_none
  bytes_below (suc last) = go (bytes_below last) (goes left count items m (suc last)) refl
    where
      go : length (bytes_of (S last)) ≤ 17 * below last → (t : Bool) → t ≡ goes left count items m (suc last) → length (bytes_of (S (suc last))) ≤ 17 * below (suc last)
      go h true p =
          omega (
            arith,
            ap length (bytes_yes last (sym p)),
            length-append (bytes_of (S last)) (frame_bytes (append_at count items m ind masks (suc last))),
            append_most (suc last),
            goes_some (suc last) (sym p),
            one_more_lem m last (take count items) items,
            h,
          )
      go h false p = omega (arith, ap (λ (l : List Frame). length (bytes_of l)) (to_no last (sym p)), one_more_lem m last (take count items) items, h)

  -- "no step sends more (the worst: four shards, one operation each, 4 × 17 bytes)"
  pub appends_room : (last : ℕ) → length items ≡ 4 → length (bytes_of (S last)) ≤ 68
  appends_room last h = omega (arith, bytes_below last, beside_few (up_to m last) (take count items) items)

  pub part_few : (shard : ℕ) → length items ≡ 4 → (part_on m shard count items).count ≤ 4
  unfolding part_on
  part_few shard h = omega (arith, beside_few (is_on m shard) (take count items) items)

  pub appends_few : (last : ℕ) → length (S last) ≤ last
  unfolding appends_to
  appends_few zero = omega arith
  appends_few (suc last) = go (appends_few last) (goes left count items m (suc last)) refl
    where
      go : length (S last) ≤ last → (t : Bool) → t ≡ goes left count items m (suc last) → length (S (suc last)) ≤ suc last
      go h true p = omega (arith, ap length (to_yes last (sym p)), length-append (S last) (append_at count items m ind masks (suc last) ∷ []), h)
      go h false p = omega (arith, ap length (to_no last (sym p)), h)

-- ---- The other frames

pub record Fits (f : Frame) : Type 0 where
  pub few : f.list.count ≤ 4
  pub short : length (frame_bytes f) ≤ 68

short : (f : Frame) → f.list.count ≤ 4 → len_of f.head f.list.count ≤ 66 → Fits f
short f h k = record { few = h; short = omega (arith, frame_most f) }

pub forward_fits : (e : Entry) (floor ind : ℕ) → Fits (forward_frame e floor ind)
unfolding forward_frame
forward_fits e floor ind = short _ (omega arith) (omega arith)

-- the four slots of a part hold its list
pub backward_fits : (e : Entry) (m own ind : ℕ) → length (backward_of e m own ind).list.items ≡ 4 → Fits (backward_of e m own ind)
unfolding backward_of reads_held
backward_fits e m own ind =
    let reads : List Item = beside (answered_of m e.remaining) (take e.count e.items) e.reads in
    let slots = length-append reads (replicate (4 - length reads) no_item) in
    let rest = length-replicate (4 - length reads) no_item in
    by (λ (f : Frame). length f.list.items ≡ 4 → Fits f) (eqb own 1)
    (λ t h. let few : length reads ≤ 4 = omega arith in short _ few (omega arith))
    (λ t h. let few : length reads ≤ 4 = omega arith in short _ few (omega arith))
