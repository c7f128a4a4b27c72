-- What is left to run leads where the whole list leads.
use Rattle.shard.proofs.Ways.{Along}
use Rattle.shard.proofs.Shard.step.Given as goal

abbrev pub invariant-loop-x : goal.invariant-loop-x
invariant-loop-x l = Along l.log_number l.x-items l.initial.self l.self l.initial.reads l.reads l.x-index
