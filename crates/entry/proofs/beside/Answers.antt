-- `beside` meets its contract: the pair of a turn is picked or not, and after the last turn every item was tested.
-- Assumes nothing.
use mathlib.Core.Path.{◌≡◌, refl, sym, ◌∙◌}
use mathlib.Core.List.{List}
use Prim.Native.Nat.{◌≤◌}
use native.Mathlib.Omega.{arith}
use lib.ListN.{length, take, length-take}
use lib.Seq.{take_all}
use Rattle.std.proofs.Common.{rules}
use Rattle.std.proofs.lemmas.List.{length_push}
use Rattle.std.proofs.lemmas.Slice.Zip.{zip_turn, zip_end}
use Rattle.frames.specs.declared.Item.{Item}
use Rattle.frames.specs.Frames.{no_item}
use Rattle.entry.proofs.Slots.{picked_one, picked_none}
use Rattle.entry.proofs.beside.Goals as goal

pub loop-x-preserved-then-passes : goal.loop-x-preserved-then-passes
loop-x-preserved-then-passes g c =
    let a = c.args in
    let xs : List Item = take a.list.count a.list.items in
    let l = c.loop-x in
    let four : length a.ys ≡ 4 = search rules in
    let t = zip_turn xs a.ys l.yielded c.into_iter-x-iterator.result l.x-iterator c.next.new.self c.next.result (cc) (cc) l.yielded_by _ c.in-Some.is c.next.ensures.steps in (
      (tt, tt),
      tt,
      refl,
      λ ok h.
          let n = length_push l.yielded (c.in-Some.x, c.in-Some.y) in
          rw n (c.push.ensures ∙ picked_one ok xs a.ys (length l.yielded) c.in-Some.x.now c.in-Some.y.now t.0 t.1 four (t.2 no_item) (t.3 no_item) l.part (l.invariant.3 ok h) (sym (h c.in-Some.x.now c.passes.result c.passes.ensures) ∙ c.if-passes.true)),
    )

pub loop-x-preserved : goal.loop-x-preserved
loop-x-preserved g c =
    let a = c.args in
    let xs : List Item = take a.list.count a.list.items in
    let l = c.loop-x in
    let four : length a.ys ≡ 4 = search rules in
    let t = zip_turn xs a.ys l.yielded c.into_iter-x-iterator.result l.x-iterator c.next.new.self c.next.result (cc) (cc) l.yielded_by _ c.in-Some.is c.next.ensures.steps in (
      (tt, tt),
      tt,
      refl,
      λ ok h.
          let n = length_push l.yielded (c.in-Some.x, c.in-Some.y) in
          rw n (picked_none ok xs a.ys (length l.yielded) c.in-Some.x.now c.in-Some.y.now t.0 t.1 four (t.2 no_item) (t.3 no_item) l.part (l.invariant.3 ok h) (sym (h c.in-Some.x.now c.passes.result c.passes.ensures) ∙ c.if-passes.false)),
    )

pub returns : goal.returns
returns g c = λ ok h.
    let a = c.args in
    let xs : List Item = take a.list.count a.list.items in
    let l = c.loop-x in
    let four : length a.ys ≡ 4 = search rules in
    let slots : length a.list.items ≡ 4 = search rules in
    let t = zip_end xs a.ys l.yielded c.into_iter-x-iterator.result l.x-iterator c.next.new.self c.next.result (cc) (cc) l.yielded_by c.in-None.is c.next.ensures.steps in
    let few : length xs ≤ length l.yielded = omega (arith, length-take a.list.count a.list.items) in
    rw take_all at (l.invariant.3 ok h)
