-- A list that is asked for passes the code's test exactly if the rules let it pass, and then it is kept as the operations that are meant.
-- Assumes nothing.
use mathlib.Core.Path.{◌≡◌, refl, sym, ap, ◌∙◌}
use mathlib.Core.Bool.{Bool, true, not, ◌&&◌}
use mathlib.Core.List.{List, [], ◌∷◌}
use mathlib.Core.Option.{Option, none, some}
use Prim.Native.Nat.{ℕ, zero, suc, ◌+◌, ◌≤◌, ◌<◌}
use native.Mathlib.Nat.{zero-add}
use native.Mathlib.Omega.{arith}
use borrow.Author.Tests.{lt-ltb, le-ltb}
use lib.Dec.{T, leb, eqb, leb→le, le→leb, eqb→eq, T_not, not_T}
use lib.ListN.{length, get_or}
use Rattle.rules.specs.Lists.{If◌then◌else◌, within, every}
use Rattle.rules.specs.Transactions.{Operation, get, put}
use Rattle.rules.specs.Frames.{ok_value, ok_operation, ok_operations}
use Rattle.rules.specs.Session as R
use Rattle.rules.proofs.Lists.{and, and_l, and_r, T_false, nothing, either}
use Rattle.frames.specs.declared.Item.{Item}
use Rattle.frames.specs.Frames.{ok_item, ok_from, ok_items}
use Rattle.frames.specs.View.{operation_item, operation_items, filled}
use Rattle.frames.proofs.Slots.{item_rules}
use Rattle.frames.proofs.Round.{enough}
use Rattle.session.specs.declared.Asked.{Asked}
use Rattle.session.specs.declared.Operations.{Operations}
use Rattle.session.specs.Model.{no_asked, kept_item, item_at, items_of, ok_asked}
use Rattle.session.specs.View.{view_asked, firsts, asked_of, EachSized, Sized}

-- ---- The kept items, one behind the other

kept_from : ℕ → ℕ → List Asked → List Item
kept_from place count [] = []
kept_from place count (a ∷ rest) = kept_item a place count ∷ kept_from (suc place) count rest

four_kept : (count : ℕ) (list : List Asked) → length list ≡ 4 →
    kept_item (get_or list 0 no_asked) 0 count ∷ kept_item (get_or list 1 no_asked) 1 count ∷ kept_item (get_or list 2 no_asked) 2 count ∷ kept_item (get_or list 3 no_asked) 3 count ∷ []
    ≡ kept_from 0 count list
unfolding kept_from
four_kept count [] e = absurd (omega arith)
four_kept count (a ∷ []) e = absurd (omega arith)
four_kept count (a ∷ b ∷ []) e = absurd (omega arith)
four_kept count (a ∷ b ∷ c ∷ []) e = absurd (omega arith)
four_kept count (a ∷ b ∷ c ∷ d ∷ []) e = refl
four_kept count (a ∷ b ∷ c ∷ d ∷ x ∷ rest) e = absurd (omega arith)

-- behind the list's end nothing is kept
kept_behind : (place count : ℕ) (list : List Asked) → count ≤ place → kept_from place count list ≡ filled (length list) []
unfolding kept_from kept_item If◌then◌else◌
kept_behind place count [] h = refl
kept_behind place count (a ∷ rest) h = rw (le-ltb place count h, kept_behind (suc place) count rest (omega arith))

-- ---- One operation

abbrev as_item : ℕ → Asked → Item
as_item place a = record { place = place; code = a.code; key = a.key; value = a.value }

kept_here : (a : Asked) (place more : ℕ) → kept_item a place (place + suc more) ≡ as_item place a
unfolding kept_item If◌then◌else◌
kept_here a place more = rw (lt-ltb place (place + suc more) (omega arith))

-- an item that is right is the operation that is meant
record Meant (place : ℕ) (a : Asked) : Type 0 where
  operation : Operation
  is : R.meant (view_asked a) ≡ some operation
  item : as_item place a ≡ operation_item place operation
  ok : T (ok_operation operation)

right_meant : (place : ℕ) (a : Asked) → a.key < 256 → a.value < 4294967296 → T (ok_item (as_item place a)) → Meant place a
unfolding R.meant If◌then◌else◌
right_meant place a k v t =
    let r = item_rules (as_item place a) t in
    either (eqb a.code 0)
    (λ z.
    let code : a.code ≡ 0 = eqb→eq a.code 0 z in
    let value : a.value ≡ 0 = r.value code in
    record { operation = get a.key; is = rw (code, value); item = rw (code, value); ok = le→leb a.key 255 (omega arith) })
    (λ z.
    let some : a.code ≡ 0 → ⊥ = λ q. T_not (eqb a.code 0) z (rw q tt) in
    let code : a.code ≡ 1 = omega (arith, r.code, some) in
    record {
      operation = put a.key a.value;
      is = rw code;
      item = rw code;
      ok = and (leb a.key 255) (ok_value a.value) (le→leb a.key 255 (omega arith)) (le→leb a.value 4294967295 (omega arith));
    })

-- and what is meant is right
meant_right : (place : ℕ) (a : Asked) (o : Operation) → place ≤ 3 → R.meant (view_asked a) ≡ some o → T (ok_item (as_item place a))
unfolding R.meant If◌then◌else◌
meant_right place a o p e =
    either (eqb a.code 0 && eqb a.value 0)
    (λ z.
    let code : a.code ≡ 0 = eqb→eq a.code 0 (and_l (eqb a.code 0) (eqb a.value 0) z) in
    let value : a.value ≡ 0 = eqb→eq a.value 0 (and_r (eqb a.code 0) (eqb a.value 0) z) in
    rw (code, value) (and (leb place 3 && true) true (and (leb place 3) true (le→leb place 3 p) tt) tt))
    (λ z.
    either (eqb a.code 1)
    (λ y. let code : a.code ≡ 1 = eqb→eq a.code 1 y in rw code (and (leb place 3 && true) true (and (leb place 3) true (le→leb place 3 p) tt) tt))
    (λ y. nothing (rw (T_false (eqb a.code 0 && eqb a.value 0) z, T_false (eqb a.code 1) y) at e)))

-- ---- A list

record Before (o : Option Operation) (os : Option (List Operation)) (xs : List Operation) : Type 0 where
  first : Operation
  others : List Operation
  is : o ≡ some first
  are : os ≡ some others
  list : xs ≡ first ∷ others

before : (o : Option Operation) (os : Option (List Operation)) (xs : List Operation) → R.put_before o os ≡ some xs → Before o os xs
unfolding R.put_before
before none os xs e = nothing e
before (some o) none xs e = nothing e
before (some o) (some os) xs e = record { first = o; others = os; is = refl; are = refl; list = cc }

-- as many operations are meant as are asked for
meant_length : (count : ℕ) (list : List Asked) (os : List Operation) → R.all_meant (firsts count list) ≡ some os → length os ≡ count
meant_length zero list os e = let d : os ≡ [] = cc in rw d
meant_length (suc count) [] os e =
    let b = before (R.meant (view_asked no_asked)) (R.all_meant (firsts count [])) os e in
    rw b.list (ap suc (meant_length count [] b.others b.are))
meant_length (suc count) (a ∷ rest) os e =
    let b = before (R.meant (view_asked a)) (R.all_meant (firsts count rest)) os e in
    rw b.list (ap suc (meant_length count rest b.others b.are))

-- a list that passes is kept as the operations that are meant
record Passes (place count : ℕ) (list : List Asked) : Type 0 where
  operations : List Operation
  are : R.all_meant (firsts count list) ≡ some operations
  items : kept_from place (place + count) list ≡ filled (length list) (operation_items place operations)
  ok : T (every ok_operation operations)

passes : (place count : ℕ) (list : List Asked) → EachSized list → T (ok_from place count (kept_from place (place + count) list)) → Passes place count list
unfolding kept_from R.put_before
passes place zero list z t = record { operations = []; are = refl; items = kept_behind place (place + 0) list (omega arith); ok = tt }
passes place (suc count) [] z t = absurd t
passes place (suc count) (a ∷ rest) z t =
    let here = kept_here a place count in
    let on : place + suc count ≡ suc place + count = omega arith in
    let more : Bool = ok_from (suc place) count (kept_from (suc place) (suc place + count) rest) in
    let u : T (leb place place && ok_item (as_item place a) && more) = rw (here, on) at t in
    let m = right_meant place a z.0 z.1 (and_r (leb place place) (ok_item (as_item place a)) (and_l (leb place place && ok_item (as_item place a)) more u)) in
    let p = passes (suc place) count rest z.2 (and_r (leb place place && ok_item (as_item place a)) more u) in
    record {
      operations = m.operation ∷ p.operations;
      are = ap (λ (o : Option Operation). R.put_before o (R.all_meant (firsts count rest))) m.is ∙ ap (R.put_before (some m.operation)) p.are;
      items = λ i. (here ∙ m.item) i ∷ (ap (λ (k : ℕ). kept_from (suc place) k rest) on ∙ p.items) i;
      ok = and (ok_operation m.operation) (every ok_operation p.operations) m.ok p.ok;
    }

-- and one that is meant passes, if it is short enough
meant_passes : (place count : ℕ) (list : List Asked) (os : List Operation) → place + length list ≡ 4 → count ≤ length list → R.all_meant (firsts count list) ≡ some os →
    T (ok_from place count (kept_from place (place + count) list))
unfolding kept_from
meant_passes place zero list os l h e = tt
meant_passes place (suc count) [] os l h e = absurd (omega arith)
meant_passes place (suc count) (a ∷ rest) os l h e =
    let here = kept_here a place count in
    let on : place + suc count ≡ suc place + count = omega arith in
    let b = before (R.meant (view_asked a)) (R.all_meant (firsts count rest)) os e in
    let more = meant_passes (suc place) count rest b.others (omega arith) (omega arith) b.are in
    rw (here, on)
    (and (leb place place && ok_item (as_item place a)) (ok_from (suc place) count (kept_from (suc place) (suc place + count) rest))
    (and (leb place place) (ok_item (as_item place a)) (le→leb place place (omega arith)) (meant_right place a b.first (omega arith) b.is)) more)

-- ---- An invoked list

-- four of them, each with what its types say
pub sized : (ops : Operations) → length ops.items ≡ 4 →
    EachSized (get_or ops.items 0 no_asked ∷ get_or ops.items 1 no_asked ∷ get_or ops.items 2 no_asked ∷ get_or ops.items 3 no_asked ∷ []) → Sized ops
sized ops e z = record { four = e; each = go ops.items e z }
  where
    go : (list : List Asked) → length list ≡ 4 → EachSized (get_or list 0 no_asked ∷ get_or list 1 no_asked ∷ get_or list 2 no_asked ∷ get_or list 3 no_asked ∷ []) → EachSized list
    go [] e z = tt
    go (a ∷ []) e z = absurd (omega arith)
    go (a ∷ b ∷ []) e z = absurd (omega arith)
    go (a ∷ b ∷ c ∷ []) e z = absurd (omega arith)
    go (a ∷ b ∷ c ∷ d ∷ []) e z = z
    go (a ∷ b ∷ c ∷ d ∷ x ∷ rest) e z = absurd (omega arith)

items_kept : (ops : Operations) → Sized ops → items_of ops ≡ kept_from 0 ops.count ops.items
unfolding items_of item_at
items_kept ops z = four_kept ops.count ops.items z.four

pub record Asks (ops : Operations) : Type 0 where
  pub operations : List Operation
  pub are : R.all_meant (asked_of ops) ≡ some operations
  pub ok : T (ok_operations operations)
  pub count : ops.count ≡ length operations
  pub items : items_of ops ≡ filled 4 (operation_items 0 operations)

pub asks : (ops : Operations) → Sized ops → T (ok_asked ops) → Asks ops
unfolding ok_asked ok_operations asked_of
asks ops z t =
    let n : ℕ = ops.count in
    let kept : items_of ops ≡ kept_from 0 (0 + n) ops.items = items_kept ops z ∙ ap (λ (k : ℕ). kept_from 0 k ops.items) (sym (zero-add n)) in
    let right : T (ok_items n (items_of ops)) = and_r (leb 1 n) (ok_items n (items_of ops)) t in
    let p = passes 0 n ops.items z.each (rw kept at right) in
    let many = meant_length n ops.items p.operations p.are in
    let few = enough 0 n (items_of ops) right in
    record {
      operations = p.operations;
      are = p.are;
      ok =
          and (within 1 4 (length p.operations)) (every ok_operation p.operations)
          (rw many (and (leb 1 n) (leb n 4) (and_l (leb 1 n) (ok_items n (items_of ops)) t) (le→leb n 4 (unfold items_of in few)))) p.ok;
      count = sym many;
      items = kept ∙ p.items ∙ ap (λ (k : ℕ). filled k (operation_items 0 p.operations)) z.four;
    }

-- what does not pass, the rules refuse too
pub not_asked : (ops : Operations) → Sized ops → T (not (ok_asked ops)) → (os : List Operation) → R.all_meant (asked_of ops) ≡ some os → T (not (ok_operations os))
unfolding ok_asked ok_operations asked_of
not_asked ops z t os e =
    not_T (ok_operations os) (λ ok.
    let n : ℕ = ops.count in
    let many = meant_length n ops.items os e in
    let h = rw many at (and_l (within 1 4 (length os)) (every ok_operation os) ok) in
    let few : n ≤ 4 = leb→le n 4 (and_r (leb 1 n) (leb n 4) h) in
    let right = meant_passes 0 n ops.items os (omega (arith, z.four)) (omega (arith, z.four)) e in
    let kept : items_of ops ≡ kept_from 0 (0 + n) ops.items = items_kept ops z ∙ ap (λ (k : ℕ). kept_from 0 k ops.items) (sym (zero-add n)) in
    T_not (leb 1 n && ok_items n (items_of ops)) t (and (leb 1 n) (ok_items n (items_of ops)) (and_l (leb 1 n) (leb n 4) h) (rw (← kept) at right)))
