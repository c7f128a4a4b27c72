-- `appends` meets its contract. The loop has sent to the shards below this one, and the out area is laid from these frames.
-- Assumes nothing.
use Prim.Native.Nat.{◌≤◌, ◌-◌}
use lib.ListN.{length}
use Rattle.send.specs.Model.{appends_to, Sends}
use Rattle.send.proofs.appends.Given as goal

abbrev pub invariant-loop-shard : goal.invariant-loop-shard
invariant-loop-shard l = record {
  room : 68 ≤ length l.initial.out;
  sends : Sends (appends_to l.e.remaining l.operations.count l.operations.items l.m l.log_number l.masks (l.shard - 1)) l.initial.out l.out l.sent;
}
