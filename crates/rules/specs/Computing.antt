-- A proof by computation says `unfolding computing`: that opens every definition of the rules at once.
-- Assumes nothing.
use Rattle.rules.specs.Lists.{If◌then◌else◌, changed}
use Rattle.rules.specs.Transactions.{shard_of, same_write}
use Rattle.rules.specs.Frames.{ok_operations, ok_write, ok_placed, ok_reads, obeys, encode, candidate, spelled, decode}
use Rattle.rules.specs.Outcomes.{taken, refuse}
use Rattle.rules.specs.Queue.{enqueue, take_up_to}
use Rattle.rules.specs.Board as B
use Rattle.rules.specs.Shard as S
use Rattle.rules.specs.Session as C

unfoldable pub computing : Unit {0}
unfolding If◌then◌else◌ changed shard_of same_write ok_operations ok_write ok_placed ok_reads obeys encode candidate spelled decode taken refuse enqueue take_up_to B.empty_board B.start B.holding B.raise_floor B.on_queues B.new_entry B.append B.settle B.forward_of B.shard_append_of B.backward B.onward B.serve_new B.serve_held B.serve_found B.submit_step B.forward_step B.heard_from B.exec_notif_step B.finished B.executed_step B.frame_step B.read_step B.step S.empty_shard S.start S.run S.append_step S.frame_step S.read_step S.step C.smallest C.invoked C.answered C.start C.with_window C.submit_of C.meant C.put_before C.invoke_step C.invoke C.send_again C.retry C.decline C.hand_over C.frame_step C.read_step C.step
computing = tt
