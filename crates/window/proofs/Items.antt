-- A slot's items mean the operations that they were made of. Assumes nothing.
use mathlib.Core.Path.{◌≡◌, ap, ◌∙◌}
use mathlib.Core.List.{List, map}
use Prim.Native.Nat.{◌≤◌}
use lib.Dec.{T, leb, leb→le}
use lib.ListN.{length}
use native.Mathlib.Omega.{arith}
use Rattle.rules.specs.Lists.{within, every}
use Rattle.rules.specs.Transactions.{Operation}
use Rattle.rules.specs.Frames.{ok_operation, ok_operations}
use Rattle.rules.proofs.Lists.{and_l, and_r}
use Rattle.frames.specs.View.{as_operation, operations_of, operation_items, filled}
use Rattle.frames.proofs.Slots.{filled_take, operations_length, operations_back}

-- "c is 1..4"
pub some_operations : (os : List Operation) → T (ok_operations os) → (1 ≤ length os) × (length os ≤ 4)
unfolding ok_operations
some_operations os t =
    let h = and_l (within 1 4 (length os)) (every ok_operation os) t in
    (leb→le 1 (length os) (and_l (leb 1 (length os)) (leb (length os) 4) h), leb→le (length os) 4 (and_r (leb 1 (length os)) (leb (length os) 4) h))

pub items_back : (os : List Operation) → T (ok_operations os) → operations_of (length os) (filled 4 (operation_items 0 os)) ≡ os
items_back os t =
    let e = operations_length 0 os in
    let few : length (operation_items 0 os) ≤ 4 = omega (arith, (some_operations os t).1) in
    ap (map as_operation) (rw e at (filled_take 4 (operation_items 0 os) few)) ∙ operations_back 0 os
