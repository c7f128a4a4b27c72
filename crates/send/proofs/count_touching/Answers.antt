-- `count_touching` meets its contract: a mask that has the shard is counted, another is passed by.
-- Assumes nothing.
use mathlib.Core.Path.{sym, ◌∙◌}
use native.Mathlib.Omega.{arith}
use lib.ListN.{take}
use Rattle.send.proofs.Count.{counted_one, passed_by}
use Rattle.send.proofs.count_touching.Goals as goal
use Rattle.send.proofs.count_touching.Goals.{then-in_mask, else-in_mask}

pub loop-mask-preserved : goal.loop-mask-preserved
loop-mask-preserved c =
    let l = c.loop-mask in
    let masks = take c.min-up_to.result c.args.masks.now in
    elim c.if-in_mask.branch [
      | then-in_mask w ↦
          rw w.count-is (
            omega (arith, l.invariant.0),
            counted_one c.args.shard masks l.mask-index 0 l.count c.loop-mask-test.true l.invariant.1 (sym c.in_mask.ensures ∙ w.if-in_mask.true),
          )
      | else-in_mask w ↦
          rw w.count-is (
            omega (arith, l.invariant.0),
            passed_by c.args.shard masks l.mask-index 0 l.count c.loop-mask-test.true l.invariant.1 (sym c.in_mask.ensures ∙ w.if-in_mask.false),
          )
    ]
