-- Reads fit the kept operations in the code's test exactly if they do in the rules': the items of a slot stand at their places.
-- Assumes nothing.
use mathlib.Core.Path.{◌≡◌, refl, ap, ◌∙◌}
use mathlib.Core.List.{List, [], ◌∷◌, map}
use Prim.Native.Nat.{ℕ, suc, ◌≤◌}
use native.Mathlib.Omega.{arith}
use lib.ListN.{length}
use Rattle.rules.specs.Transactions.{Operation, placed}
use Rattle.rules.specs.Board.{fits}
use Rattle.frames.specs.declared.Item.{Item}
use Rattle.frames.specs.View.{as_placed, placed_of, reads_of, operation_items, filled}
use Rattle.frames.proofs.Slots.{filled_length, filled_take, operation_back, operation_place, operations_length}
use Rattle.entry.specs.Model.{fits_of}
use Rattle.entry.proofs.Meaning.{fits_view}

placed_back : (place : ℕ) (os : List Operation) → map as_placed (operation_items place os) ≡ placed place os
placed_back place [] = refl
placed_back place (o ∷ os) = λ i. record { place = operation_place place o i; operation = operation_back place o i } ∷ placed_back (suc place) os i

slot_placed : (os : List Operation) → length os ≤ 4 → placed_of (length os) (filled 4 (operation_items 0 os)) ≡ placed 0 os
slot_placed os few =
    let e = operations_length 0 os in
    ap (map as_placed) (rw e at (filled_take 4 (operation_items 0 os) (omega (arith, few, e)))) ∙ placed_back 0 os

pub fits_means : (os : List Operation) (count : ℕ) (reads : List Item) → length os ≤ 4 → count ≤ length reads →
    fits_of (length os) (filled 4 (operation_items 0 os)) count reads ≡ fits (reads_of count reads) (placed 0 os)
fits_means os count reads few enough =
    let four = filled_length 4 (operation_items 0 os) in
    fits_view (length os) (filled 4 (operation_items 0 os)) count reads (omega (arith, few, four)) enough
    ∙ ap (fits (reads_of count reads)) (slot_placed os few)
