-- Lists of items, proved once over the item's shape and so over its width: reading a list and writing it undo one another,
-- whatever follows the list. Assumes nothing.
use mathlib.Core.Path.{◌≡◌, refl, sym, ap, ◌∙◌}
use mathlib.Core.List.{List, [], ◌∷◌, ◌++◌, append_assoc}
use Prim.Native.Nat.{ℕ, zero, suc, ◌+◌, ◌*◌, ◌/◌, ◌%◌, ◌<◌, ◌≤◌}
use lib.Arith.{digits_div, digits_mod}
use native.Mathlib.Nat.{zero-add, not-suc-le-zero, le_of_suc-le-suc, mod-eq_of_lt, add-zero, add-suc, suc-add, add_assoc, mul-suc, mul-zero}
use native.Mathlib.Numerals.{add-one, towards_suc}
use native.Mathlib.Omega.{arith}
use lib.ListN.{length, get_or, take, drop, length-take, drop_of_length-le}
use lib.Seq.{drop-cons, get_or-append-add, get_or-drop, get_or-take}
use Rattle.rules.specs.Lists.{If◌then◌else◌}
use borrow.Author.Tests.{lt-ltb, le-ltb}
use Rattle.rules.specs.Frames.{two, four, two_at, four_at}
use Rattle.rules.proofs.Frames.{four_back}
use Rattle.frames.specs.declared.Item.{Item}
use Rattle.frames.specs.declared.Shape.{Shape}
use Rattle.frames.specs.declared.Shape.TheVariants.{Operation, Placed, Read}
use Rattle.frames.specs.Frames.{width, item_at, slot_at, slots, item_bytes, items_bytes, no_item}
use Rattle.frames.specs.View.{CanonItem, CanonFrom}
use Rattle.frames.proofs.Puts.{length_item}

-- ---- Numbers and their bytes

high : (x q m r : ℕ) → x ≡ q * m + r → r < m → x / m ≡ q
high x q m r e h = rw e (digits_div q h)

low : (x q m r : ℕ) → x ≡ q * m + r → r < m → x % m ≡ r
low x q m r e h = rw e (digits_mod q h)

two_of : (a b : ℕ) → a < 256 → b < 256 → two (a + 256 * b) ≡ a ∷ b ∷ []
two_of a b ha hb =
    simp (low (a + 256 * b) b 256 a (omega arith) ha, high (a + 256 * b) b 256 a (omega arith) ha, mod-eq_of_lt hb)

four_of : (a b c d : ℕ) → a < 256 → b < 256 → c < 256 → d < 256 → four (a + 256 * b + 65536 * (c + 256 * d)) ≡ a ∷ b ∷ c ∷ d ∷ []
four_of a b c d ha hb hc hd =
    let x : ℕ = a + 256 * b + 65536 * (c + 256 * d) in
    let z : ℕ = c + 256 * d in
    simp (
      low x (b + 256 * z) 256 a (omega arith) ha,
      high x (b + 256 * z) 256 a (omega arith) ha,
      low (b + 256 * z) z 256 b (omega arith) hb,
      high x z 65536 (a + 256 * b) (omega arith) (omega arith),
      low z d 256 c (omega arith) hc,
      high z d 256 c (omega arith) hc,
      mod-eq_of_lt hd,
    )

-- ---- Elements by their places

-- the first n of a list from i on: what a loop over an array has before it
module _ {A : Type 0} (n : ℕ) (l : List A) (i : ℕ) where
  pub front_cons : (d : A) → i < n → i < length l → drop i (take n l) ≡ get_or l i d ∷ drop (i + 1) (take n l)
  front_cons d h k =
      let m : i < length (take n l) = simp length-take (omega arith) in
      rw (add-one, drop-cons (take n l) i d m, get_or-take n l i d h)

  pub front_end : n ≤ i → drop i (take n l) ≡ []
  front_end h = drop_of_length-le (take n l) {i = i} (simp length-take (omega arith))

-- the m elements from `at` on; past the end z
abbrev pub gets : {A : Type 0} → A → ℕ → ℕ → List A → List A
gets z zero at s = []
gets z (suc m) at s = get_or s at z ∷ gets z m (suc at) s

pub gets_append : {A : Type 0} (z : A) (m k at : ℕ) (s : List A) → gets z m at s ++ gets z k (at + m) s ≡ gets z (m + k) at s
gets_append z zero k at s = simp (add-zero, zero-add)
gets_append {A} z (suc m) k at s =
    rw (suc-add, add-suc, ← suc-add) (ap (λ (l : List A). get_or s at z ∷ l) (gets_append z m k (suc at) s))

-- where they are all there, they are a part of the list
pub gets_part : {A : Type 0} (z : A) (m at : ℕ) (s : List A) → at + m ≤ length s → gets z m at s ≡ take m (drop at s)
gets_part z zero at s h = refl
gets_part {A} z (suc m) at s h =
    let k : at < length s = omega arith in
    rw (drop-cons s at z k) (ap (λ (l : List A). get_or s at z ∷ l) (gets_part z m (suc at) s (omega arith)))

pub gets_drop : {A : Type 0} (z : A) (m n at : ℕ) (s : List A) → gets z m at (drop n s) ≡ gets z m (n + at) s
gets_drop z zero n at s = refl
gets_drop z (suc m) n at s = λ i. get_or-drop n s at z i ∷ (gets_drop z m n (suc at) s ∙ ap (λ (k : ℕ). gets z m k s) (add-suc n at)) i

-- ---- What is read is written as it was, and lies as it should

module _ (s : List ℕ) (by : (i : ℕ) → get_or s i 0 < 256) where
  pub two_at_lem : (i : ℕ) → two (two_at s i) ≡ gets 0 2 i s
  two_at_lem i = rw add-one (two_of (get_or s i 0) (get_or s (suc i) 0) (by i) (by (suc i)))

  four_at_lem : (i : ℕ)
      → four (get_or s i 0 + 256 * get_or s (suc i) 0 + 65536 * (get_or s (suc (suc i)) 0 + 256 * get_or s (suc (suc (suc i))) 0)) ≡ gets 0 4 i s
  four_at_lem i = four_of (get_or s i 0) (get_or s (suc i) 0) (get_or s (suc (suc i)) 0) (get_or s (suc (suc (suc i))) 0) (by i) (by _) (by _) (by _)

  item_bytes_lem : (shape : Shape) (i at : ℕ) → item_bytes shape (item_at shape i s at) ≡ gets 0 (width shape) at s
  item_bytes_lem Operation i at = simp towards_suc (ap (λ (l : List ℕ). gets 0 2 at s ++ l) (four_at_lem (suc (suc at))))
  item_bytes_lem Placed i at = simp towards_suc (ap (λ (l : List ℕ). gets 0 3 at s ++ l) (four_at_lem (suc (suc (suc at)))))
  item_bytes_lem Read i at = simp towards_suc (ap (λ (l : List ℕ). gets 0 2 at s ++ l) (four_at_lem (suc (suc at))))

  -- the first n items that were read are written as the bytes they were read from
  pub items_bytes_lem : (shape : Shape) (n k i count at : ℕ) → count ≡ i + n → n ≤ k → items_bytes shape (take n (slots shape i k count s at)) ≡ gets 0 (width shape * n) at s
  unfolding If◌then◌else◌
  items_bytes_lem shape zero k i count at e h = simp mul-zero
  items_bytes_lem shape (suc n) zero i count at e h = absurd (not-suc-le-zero h)
  items_bytes_lem shape (suc n) (suc k) i count at e h =
      let l : i < count = omega arith in
      rw (lt-ltb i count l, item_bytes_lem shape i at, items_bytes_lem shape n k (suc i) count (at + width shape) (omega arith) (le_of_suc-le-suc h), gets_append)
      (let w : width shape + width shape * n ≡ width shape * suc n = omega (arith, mul-suc (width shape) n) in ap (λ (m : ℕ). gets 0 m at s) w)

  two_small : (i : ℕ) → two_at s i < 65536
  two_small i = omega (arith, by i, by (i + 1))

  four_small : (i : ℕ) → four_at s i < 4294967296
  four_small i = omega (arith, two_small i, two_small (i + 2))

  item_canon : (shape : Shape) (i at : ℕ) → CanonItem shape i (item_at shape i s at)
  item_canon Operation i at = (refl, (by (at + 1), four_small (at + 2)))
  item_canon Placed i at = (by (at + 2), four_small (at + 3))
  item_canon Read i at = (refl, (omega arith, four_small (at + 2)))

  empty_canon : (shape : Shape) (k i count at : ℕ) → count ≤ i → CanonFrom shape i zero (slots shape i k count s at)
  unfolding If◌then◌else◌
  empty_canon shape zero i count at h = tt
  empty_canon shape (suc k) i count at h = (simp (le-ltb i count h), empty_canon shape k (suc i) count (at + width shape) (omega arith))

  pub slots_canon : (shape : Shape) (k n i count at : ℕ) → count ≡ i + n → CanonFrom shape i n (slots shape i k count s at)
  unfolding If◌then◌else◌
  slots_canon shape zero n i count at e = tt
  slots_canon shape (suc k) zero i count at e = empty_canon shape (suc k) i count at (omega arith)
  slots_canon shape (suc k) (suc n) i count at e =
      (rw (lt-ltb i count (omega arith)) (item_canon shape i at), slots_canon shape k n (suc i) count (at + width shape) (omega arith))

-- ---- What is written reads back

-- reading past a beginning is reading what follows it
item_past : (shape : Shape) (i : ℕ) (b s : List ℕ) (at : ℕ) → item_at shape i (b ++ s) (length b + at) ≡ item_at shape i s at
item_past Operation i b s at = simp (add_assoc, get_or-append-add)
item_past Placed i b s at = simp (add_assoc, get_or-append-add)
item_past Read i b s at = simp (add_assoc, get_or-append-add)

slot_past : (shape : Shape) (i count : ℕ) (b s : List ℕ) (at : ℕ) → slot_at shape i count (b ++ s) (length b + at) ≡ slot_at shape i count s at
slot_past shape i count b s at = rw (item_past shape i b s at)

slots_past : (shape : Shape) (i k count : ℕ) (b s : List ℕ) (at : ℕ) → slots shape i k count (b ++ s) (length b + at) ≡ slots shape i k count s at
slots_past shape i zero count b s at = refl
slots_past shape i (suc k) count b s at =
    rw (slot_past shape i count b s at, add_assoc) (ap (λ (l : List Item). slot_at shape i count s at ∷ l) (slots_past shape (suc i) k count b s (at + width shape)))

item_back : (shape : Shape) (i : ℕ) (x : Item) (s : List ℕ) → CanonItem shape i x → item_at shape i (item_bytes shape x ++ s) 0 ≡ x
item_back Operation i x s (p, (k, v)) = λ j. record { place = sym p j; code = x.code; key = x.key; value = four_back x.value v j }
item_back Placed i x s (k, v) = λ j. record { place = x.place; code = x.code; key = x.key; value = four_back x.value v j }
item_back Read i x s (p, (k, v)) = λ j. record { place = x.place; code = x.code; key = sym p j; value = four_back x.value v j }

slots_none : (shape : Shape) (i count at : ℕ) (s : List ℕ) (xs : List Item) → count ≤ i → CanonFrom shape i zero xs → slots shape i (length xs) count s at ≡ xs
unfolding If◌then◌else◌
slots_none shape i count at s [] h c = refl
slots_none shape i count at s (x ∷ xs) h (e, c) =
    rw (le-ltb i count h, e) (ap (λ (l : List Item). no_item ∷ l) (slots_none shape (suc i) count (at + width shape) s xs (omega arith) c))

pub items_back : (shape : Shape) (i n count : ℕ) (xs : List Item) (t : List ℕ) → count ≡ i + n → CanonFrom shape i n xs
    → slots shape i (length xs) count (items_bytes shape (take n xs) ++ t) 0 ≡ xs
unfolding If◌then◌else◌
items_back shape i n count [] t e c = refl
items_back shape i zero count (x ∷ xs) t e c = slots_none shape i count 0 ([] ++ t) (x ∷ xs) (omega arith) c
items_back shape i (suc n) count (x ∷ xs) t e (d, c) =
    let b : List ℕ = item_bytes shape x in
    let r : List ℕ = items_bytes shape (take n xs) ++ t in
    let l : i < count = omega arith in
    let p : 0 + width shape ≡ length b + 0 = zero-add (width shape) ∙ sym (length_item shape x) ∙ sym (add-zero (length b)) in
    rw (lt-ltb i count l, append_assoc b (items_bytes shape (take n xs)) t, item_back shape i x r d, p, slots_past shape (suc i) (length xs) count b r 0)
    (ap (λ (l : List Item). x ∷ l) (items_back shape (suc i) n count xs t (omega arith) c))
