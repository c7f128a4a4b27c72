-- `agree` meets its contract: lists with one count are as long, so the zip leaves none of them out.
-- Assumes nothing.
use mathlib.Core.Path.{◌≡◌, ◌∙◌}
use mathlib.Core.List.{List}
use native.Mathlib.Omega.{arith}
use borrow.Author.Tests.{ne_eqb, eq-eqb}
use lib.ListN.{length, take, length-take}
use Rattle.std.proofs.Common.{rules, of_calls}
use Rattle.std.proofs.lemmas.Iterator.{YieldsList-from_slice, YieldsList-from_zip}
use Rattle.std.proofs.lemmas.Iterator.Search.{all_from_yields_List}
use Rattle.frames.specs.declared.Item.{Item}
use Rattle.entry.proofs.Slots.{zip_agrees}
use Rattle.entry.proofs.agree.Goals as goal
use Rattle.entry.proofs.agree.Goals.{then-a-b, else-a-b}

pub returns : goal.returns
returns g c = λ same h.
    let a = c.args in
    let xs : List Item = take a.a.count a.a.items in
    let ys : List Item = take a.b.count a.b.items in
    let p : length a.a.items ≡ 4 = search rules in
    let q : length a.b.items ≡ 4 = search rules in
    elim c.if-a-b.branch [
      | then-a-b w ↦
          let e : length xs ≡ length ys = rw w.if-a-b.true (omega (arith, length-take a.b.count a.a.items, length-take a.b.count a.b.items)) in
          rw (eq-eqb _ _ w.if-a-b.true)
          (w.result-is
          ∙ all_from_yields_List {s = w.zip.result} (λ (p : Item × Item). same p.0 p.1) w.all.new.self _ w.all.result w.all.ensures.ran
          (YieldsList-from_zip (YieldsList-from_slice xs (cc)) (YieldsList-from_slice ys (cc)))
          (λ x b q k. (search rules, h x.0.now x.1.now b (search (rules, of_calls))))
          ∙ zip_agrees same xs ys e)
      | else-a-b w ↦ rw (ne_eqb _ _ w.if-a-b.false) (w.result-is ∙ ne_eqb _ _ w.if-a-b.false)
    ]
