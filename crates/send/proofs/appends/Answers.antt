-- `appends` meets its contract: in a turn the frame to the shard is sent or not (turn_sends, turn_skips).
-- Assumes nothing.
use mathlib.Core.Path.{◌≡◌}
use Prim.Native.Nat.{suc, ◌+◌, ◌-◌}
use native.Mathlib.Omega.{arith}
use lib.ListN.{length}
use borrow.Author.Tests.{le-leb, lt-leb}
use borrow.Author.Rules.{rules}
use Rattle.send.specs.Model.{goes, append_at, append_frame}
use Rattle.send.proofs.Lay.{turn_sends, turn_skips}
use Rattle.send.proofs.appends.Goals as goal
use Rattle.send.proofs.appends.Goals.{then-in_mask+then-list-ge1, else-in_mask, else-in_mask-via-then-in_mask+else-list-ge1, else-in_mask-via-else-in_mask}

pub loop-shard-preserved : goal.loop-shard-preserved
unfolding goes append_at append_frame
loop-shard-preserved c =
    let a = c.args in
    let e = a.e.now in
    let o = c.list-operations.result in
    let l = c.loop-shard in
    let four : length o.items ≡ 4 = search rules in
    let this : l.shard ≡ suc (l.shard - 1) = omega arith in
    let next : l.shard + 1 - 1 ≡ l.shard = omega arith in
    elim c.if-in_mask.branch [
      | then-in_mask+then-list-ge1 w ↦
          record {
            room = l.invariant.room;
            sends =
                rw (next, w.sent-is, w.out-is, w.write_behind.ensures.value, w.write_behind.ensures.out_after)
                (turn_sends e.remaining o.count o.items a.m a.log_number a.masks.now (l.shard - 1) a.out.now l.out l.sent four l.invariant.room l.invariant.sends l.shard this
                (rw (← c.in_mask.ensures, w.if-in_mask.true, ← c.part_on-list.ensures) (le-leb 1 _ w.if-list-ge1.true))
                _
                (rw (w.count_touching-sn.ensures, c.part_on-list.ensures)));
          }
      | else-in_mask w ↦
          record {
            room = l.invariant.room;
            sends =
                rw (next, w.sent-is, w.out-is)
                (turn_skips e.remaining o.count o.items a.m a.log_number a.masks.now (l.shard - 1) a.out.now l.out l.sent four l.invariant.room l.invariant.sends l.shard this
                (elim w.else-in_mask.branch [
                  | else-in_mask-via-then-in_mask+else-list-ge1 v ↦ rw (← c.in_mask.ensures, v.if-in_mask.true, ← c.part_on-list.ensures) (lt-leb _ _ v.if-list-ge1.false)
                  | else-in_mask-via-else-in_mask v ↦ rw (← c.in_mask.ensures, v.if-in_mask.false)
                ]));
          }
    ]
