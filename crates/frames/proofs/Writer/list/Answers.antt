-- One item more, behind those that are written.
use mathlib.Core.Path.{◌∙◌}
use native.Mathlib.Omega.{arith}
use Rattle.frames.proofs.Puts.{behind, same_length, item_room, item_behind}
use Rattle.frames.proofs.Writer.list.Goals as goal

pub item-requires : goal.item-requires
item-requires c =
    let p = c.loop-x.invariant.put in
    let e = same_length p in
    omega (arith, item_room c.args.shape c.args.list.now.count c.loop-x.x-index c.args.list.now.items _ c.as_slice-x-items.ensures c.loop-x-test.true _ _ _ c.requires.room p.ended)

pub loop-x-preserved : goal.loop-x-preserved
loop-x-preserved c =
    record {
      same_area = c.item.ensures.same_area ∙ c.loop-x.invariant.same_area;
      put = item_behind _ _ _ _ _ c.as_slice-x-items.ensures c.loop-x-test.true _ (behind c.loop-x.invariant.put c.item.ensures.put);
    }
