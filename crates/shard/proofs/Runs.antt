-- Running the items of a list on the cells is running its operations on the store that the cells mean, and its reads are the records of the
-- rules' reads: one operation first, then the list.
-- Assumes nothing.
use mathlib.Core.Path.{◌≡◌, refl, sym, ap, ◌∙◌}
use mathlib.Core.Bool.{Bool, true, false}
use mathlib.Core.List.{List, [], ◌∷◌, ◌++◌, map, append-nil, append_assoc, map-append}
use mathlib.Core.Option.{some}
use Prim.Native.Nat.{ℕ, zero, suc, ◌+◌, ◌≤◌, ◌<◌}
use native.Mathlib.Omega.{arith}
use lib.Dec.{eqb}
use lib.ListN.{length, set, length-set, length-append, length-map}
use lib.Seq.{set-get_or, get_or-set_same, get_or-set_other}
use borrow.Author.Tests.{lt-ltb, eqb-true, eqb-false}
use Rattle.rules.specs.Lists.{If◌then◌else◌, ◌=?◌, changed}
use Rattle.rules.specs.Transactions.{Operation, get, put, Placed, Read, Store, effect, store_after, value_of, note, reads_of}
use Rattle.frames.specs.declared.Item.{Item}
use Rattle.shard.specs.declared.Cell.{Cell}
use Rattle.frames.specs.declared.Items.{Items}
use Rattle.shard.specs.Model.{absent, cell_at, cell_after, read_of, noted, Running, turn, ran}
use Rattle.frames.specs.View.{as_placed, read_item, filled}
use Rattle.shard.specs.View.{view_cell, view_store, reads_record}

-- ---- One operation

-- the cells of a group, and the operation on one of its keys
module _ (ind : ℕ) (x : Item) (cells : List Cell) (size : length cells ≡ 256) (small : x.key ≤ 255) where
  abbrev new : Cell
  new = cell_after ind x (cell_at cells x.key)

  stored : (t : Bool) → t ≡ (x.code =? 0) → (key : ℕ) → view_cell (cell_at (set cells x.key new) key) ≡ effect ind (view_store cells) (If t then get x.key else put x.key x.value) key
  unfolding cell_after If◌then◌else◌ view_cell view_store changed
  stored true e key = rw (← e, set-get_or cells x.key absent)
  stored false e key = at (eqb key x.key) refl
    where
      at : (u : Bool) → u ≡ eqb key x.key → view_cell (cell_at (set cells x.key new) key) ≡ (If eqb key x.key then some (record { value = x.value; ind = ind }) else view_cell (cell_at cells key))
      at true f =
          let k = eqb-true key x.key (sym f) in
          let h : x.key < length cells = omega arith in
          rw (← f, k, get_or-set_same cells x.key new absent h, ← e)
      at false f = rw (← f, get_or-set_other cells x.key key new absent (eqb-false key x.key (sym f)))

  pub store_turn : view_store (set cells x.key new) ≡ effect ind (view_store cells) (as_placed x).operation
  unfolding view_store
  store_turn = λ i key. stored (x.code =? 0) refl key i

-- what a get says is the record of what the rules' get says
read_means : (x : Item) (c : Cell) → read_of x c ≡ read_item (record { place = x.place; value = value_of (view_cell c) })
unfolding read_of view_cell If◌then◌else◌
read_means x c = at c.present refl
  where
    at : (t : Bool) → t ≡ c.present → read_of x c ≡ read_item (record { place = x.place; value = value_of (view_cell c) })
    at true e = rw (← e)
    at false e = rw (← e)

-- one slot more is filled
filled_snoc : (k : ℕ) (xs : List Item) (x : Item) → length xs < k → set (filled k xs) (length xs) x ≡ filled k (xs ++ (x ∷ []))
filled_snoc zero xs x h = absurd (omega arith)
filled_snoc (suc k) [] x h = refl
filled_snoc (suc k) (y ∷ xs) x h = ap (λ (l : List Item). y ∷ l) (filled_snoc k xs x (omega arith))

module _ (x : Item) (cells : List Cell) (rs : List Read) (few : length rs < 4) where
  noted_at : (t : Bool) → t ≡ (x.code =? 0)
      → noted (reads_record rs) x (cell_at cells x.key) ≡ reads_record (rs ++ note (as_placed x) (If t then get x.key else put x.key x.value) (view_store cells) [])
  unfolding noted If◌then◌else◌ view_store reads_record
  noted_at true e =
      let r : Read = record { place = x.place; value = value_of (view_cell (cell_at cells x.key)) } in
      let n : length (map read_item rs) ≡ length rs = length-map rs read_item in
      let h : length (map read_item rs) < 4 = omega arith in
      let l : length rs + 1 ≡ length (rs ++ (r ∷ [])) = sym (length-append rs (r ∷ [])) in
      let f : set (filled 4 (map read_item rs)) (length rs) (read_of x (cell_at cells x.key)) ≡ filled 4 (map read_item (rs ++ (r ∷ []))) =
      rw (read_means x (cell_at cells x.key), ← n, filled_snoc 4 (map read_item rs) (read_item r) h, map-append) in
      rw (← e, lt-ltb (length rs) 4 few) (λ i. record { count = l i; items = f i })
  noted_at false e = rw (← e, append-nil)

  noted_turn : noted (reads_record rs) x (cell_at cells x.key) ≡ reads_record (rs ++ note (as_placed x) (as_placed x).operation (view_store cells) [])
  noted_turn = noted_at (x.code =? 0) refl

-- ---- The list

note_more : (x : Placed) (o : Operation) (store : Store) (rs : List Read) → note x o store rs ≡ note x o store [] ++ rs
note_more x (get key) store rs = refl
note_more x (put key value) store rs = refl

note_few : (x : Placed) (o : Operation) (store : Store) → length (note x o store []) ≤ 1
note_few x (get key) store = omega arith
note_few x (put key value) store = omega arith

-- the cells are a store, and the reads are a list's
pub record Reached (r : Running) (q : Store) (rs : List Read) : Type 0 where
  pub size : length r.cells ≡ 256
  pub store : view_store r.cells ≡ q
  pub reads : r.reads ≡ reads_record rs

abbrev pub Keys : List Item → Type 0
Keys [] = Unit {0}
Keys (x ∷ xs) = (x.key ≤ 255) × Keys xs

pub ran_means : (ind : ℕ) (xs : List Item) (r : Running) (store : Store) (rs : List Read) → Keys xs → length rs + length xs ≤ 4 → Reached r store rs
    → Reached (ran ind xs r) (store_after ind store (map as_placed xs)) (rs ++ reads_of ind store (map as_placed xs))
unfolding ran turn
ran_means ind [] r store rs keys room h = record { size = h.size; store = h.store; reads = h.reads ∙ ap reads_record (sym (append-nil rs)) }
ran_means ind (x ∷ xs) r store rs keys room h =
    let o : Operation = (as_placed x).operation in
    let now : List Read = note (as_placed x) o store [] in
    let n = note_few (as_placed x) o store in
    let l = length-append rs now in
    let rest =
    ran_means ind xs (turn ind x r) (effect ind store o) (rs ++ now) keys.1 (omega arith)
    (record {
      size = length-set r.cells x.key (cell_after ind x (cell_at r.cells x.key)) ∙ h.size;
      store = store_turn ind x r.cells h.size keys.0 ∙ ap (λ (s : Store). effect ind s o) h.store;
      reads =
          ap (λ (q : Items). noted q x (cell_at r.cells x.key)) h.reads ∙ noted_turn x r.cells rs (omega arith)
          ∙ ap (λ (s : Store). reads_record (rs ++ note (as_placed x) o s [])) h.store;
    }) in
    let e : (rs ++ now) ++ reads_of ind (effect ind store o) (map as_placed xs) ≡ rs ++ note (as_placed x) o store (reads_of ind (effect ind store o) (map as_placed xs)) =
    append_assoc rs now _ ∙ ap (λ (k : List Read). rs ++ k) (sym (note_more (as_placed x) o store (reads_of ind (effect ind store o) (map as_placed xs)))) in
    record { size = rest.size; store = rest.store; reads = rest.reads ∙ ap reads_record e }
