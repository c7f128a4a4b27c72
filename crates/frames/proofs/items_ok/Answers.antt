-- Each item is right by itself and the places rise: that is the test of the list.
use mathlib.Core.Path.{sym, ◌∙◌, ◌≡◌}
use mathlib.Core.Bool.{true, false}
use native.Mathlib.Omega.{arith}
use lib.Dec.{ltb}
use borrow.Author.Tests.{lt-leb}
use Rattle.std.proofs.Common.{rules, tests}
use Rattle.std.proofs.lemmas.List.Sorted.{answers_always}
use Rattle.std.proofs.lemmas.Iterator.{YieldsList-from_slice}
use Rattle.std.proofs.lemmas.Iterator.Search.{all_from_yields_List}
use Rattle.frames.specs.declared.Item.{Item}
use Rattle.frames.specs.Frames.{ok_item}
use Rattle.frames.proofs.Rising.{all_right, one_wrong, too_many}
use Rattle.frames.proofs.items_ok.Goals as goal
use Rattle.frames.proofs.items_ok.Goals.{then-list-le4, else-list-le4}

pub returns-then-all : goal.returns-then-all
returns-then-all c =
    elim c.if-list-le4.branch [
      | then-list-le4 w ↦
          all_right _ _ _ (search rules) c.as_slice-items.ensures _ _ (omega arith)
          (all_from_yields_List ok_item _ _ _ w.all.ensures.ran (YieldsList-from_slice c.as_slice-items.result.now cc) (λ x b q k. search (rules, tests)))
          (sym w.value-is ∙ c.if-all.true)
          (c.is_sorted_by.ensures.cases (λ (x : Item) (y : Item). ltb x.place y.place) (answers_always _ _ _ (λ f a r g h. search rules)))
      | else-list-le4 w ↦ let e : false ≡ true = sym (lt-leb _ _ w.if-list-le4.false) ∙ (sym w.value-is ∙ c.if-all.true) in cc
    ]

pub returns-else-all : goal.returns-else-all
returns-else-all c =
    elim c.if-list-le4.branch [
      | then-list-le4 w ↦
          c.if-all.false
          ∙ one_wrong _ _ _ (search rules) c.as_slice-items.ensures _ (omega arith)
          (all_from_yields_List ok_item _ _ _ w.all.ensures.ran (YieldsList-from_slice c.as_slice-items.result.now cc) (λ x b q k. search (rules, tests)))
          (sym w.value-is ∙ c.if-all.false)
      | else-list-le4 w ↦ c.if-all.false ∙ too_many _ _ _ (search rules) c.as_slice-items.ensures (omega arith)
    ]
