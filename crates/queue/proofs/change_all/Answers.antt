-- `change_all` meets its contract. The loop has changed the first i queues.
-- Assumes nothing.
use Rattle.std.proofs.Common.{◌≡◌, ◌∙◌, ◌<◌, length, set, arith}
use Rattle.std.proofs.lemmas.List.{set-get_or}
use Rattle.rules.specs.Lists.{If◌then◌else◌}
use Rattle.queue.specs.declared.Queue.{Queue}
use Rattle.queue.specs.Model.{changed_of, changed_all}
use Rattle.queue.specs.View.{blank_queue}
use Rattle.queue.proofs.Loops.{change_yes, change_no, change_all}
use Rattle.queue.proofs.change_all.Goals as goal
use Rattle.queue.proofs.change_all.Goals.{then-in_mask+then-fresh, then-in_mask+else-fresh, else-in_mask}

pub loop-i-preserved : goal.loop-i-preserved
unfolding If◌then◌else◌
loop-i-preserved c = let a = c.args in let l = c.loop-i in
    let change : Queue → Queue = changed_of a.fresh a.log_number in
    let small : l.i < length a.queues.now = omega (arith, l.invariant.0, c.loop-i-test.true) in (
      l.invariant.0,
      elim c.if-in_mask.branch [
        | then-in_mask+then-fresh w ↦
            let done : c.if-in_mask.queues ≡ set l.queues l.i w.push.new.self = w.queues-is in
            done ∙ change_yes change a.shards a.queues.now l.queues l.i blank_queue small l.invariant.1 _ c.in_mask.ensures w.push.new.self w.if-in_mask.true (rw w.if-fresh.true w.push.ensures)
        | then-in_mask+else-fresh w ↦
            let done : c.if-in_mask.queues ≡ set l.queues l.i w.take_up_to.new.self = w.queues-is in
            done ∙ change_yes change a.shards a.queues.now l.queues l.i blank_queue small l.invariant.1 _ c.in_mask.ensures w.take_up_to.new.self w.if-in_mask.true (rw w.if-fresh.false w.take_up_to.ensures)
        | else-in_mask w ↦
            let kept : c.if-in_mask.queues ≡ l.queues = w.queues-is ∙ set-get_or l.queues l.i blank_queue in
            kept ∙ change_no change a.shards a.queues.now l.queues l.i blank_queue small l.invariant.1 _ c.in_mask.ensures w.if-in_mask.false
      ],
    )

pub returns : goal.returns
unfolding changed_all
returns c = let a = c.args in let l = c.loop-i in
    let done : l.i ≡ 8 = omega (arith, c.loop-i-test.false) in
    l.invariant.1 ∙ (rw done (change_all (changed_of a.fresh a.log_number) a.shards a.queues.now 8 (omega (arith, l.invariant.0))))
