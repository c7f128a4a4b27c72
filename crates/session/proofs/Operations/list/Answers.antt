-- Each of the four places has what is kept of its operation.
-- Assumes nothing.
use mathlib.Core.Path.{◌≡◌, ap}
use mathlib.Core.List.{List, [], ◌∷◌}
use Prim.Native.Nat.{ℕ, suc, ◌<◌}
use native.Mathlib.Omega.{arith}
use lib.ListN.{length, get_or}
use Rattle.std.proofs.Common.{rules, tests}
use Rattle.std.proofs.lemmas.List.{get_or_read}
use Rattle.frames.specs.declared.Item.{Item}
use Rattle.frames.specs.Frames.{no_item}
use Rattle.session.specs.declared.Asked.{Asked}
use Rattle.session.specs.declared.Operations.{Operations}
use Rattle.session.specs.Model.{no_asked, item_at, items_of, list_of}
use Rattle.session.specs.View.{EachSized}
use Rattle.session.proofs.Operations.list.Goals as goal

four_items : (ops : Operations) (xs : List Item) → length xs ≡ 4 → ((k : ℕ) → k < 4 → get_or xs k no_item ≡ item_at ops k) → xs ≡ items_of ops
unfolding items_of
four_items ops [] e h = absurd (omega arith)
four_items ops (a ∷ []) e h = absurd (omega arith)
four_items ops (a ∷ b ∷ []) e h = absurd (omega arith)
four_items ops (a ∷ b ∷ c ∷ []) e h = absurd (omega arith)
four_items ops (a ∷ b ∷ c ∷ d ∷ []) e h =
    λ i. h 0 (omega arith) i ∷ h 1 (omega arith) i ∷ h 2 (omega arith) i ∷ h 3 (omega arith) i ∷ []
four_items ops (a ∷ b ∷ c ∷ d ∷ x ∷ xs) e h = absurd (omega arith)

pub returns-clause-value : goal.returns-clause-value
unfolding list_of item_at
returns-clause-value c =
    let r = c.from_fn.ensures.items in
    ap (λ (xs : List Item). record { count = c.args.self.now.count; items = xs }) (four_items c.args.self.now c.from_fn.result r.long (λ k l. let called = (r.at k no_item l).2 in grind (arith, tests, get_or_read)))

each_sized : (xs : List Asked) → ((k : ℕ) → k < length xs → ((get_or xs k no_asked).key < 256) × ((get_or xs k no_asked).value < 4294967296)) → EachSized xs
each_sized [] h = tt
each_sized (a ∷ xs) h = let first = h 0 (omega arith) in (first.0, first.1, each_sized xs (λ k l. h (suc k) (omega (arith, l))))

pub returns-clause-sized : goal.returns-clause-sized
returns-clause-sized c =
    let four : length c.args.self.now.items ≡ 4 = search rules in
    record { four = four; each = each_sized c.args.self.now.items (λ k l. let called = (c.from_fn.ensures.items.at k no_item (omega (arith, four, l))).2 in search rules) }
