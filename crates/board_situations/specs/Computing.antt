-- A proof by computation says `unfolding computing`: that opens every definition that a start or a step of a board goes through.
-- Assumes nothing.
use Rattle.rules.specs.Lists.{If◌then◌else◌}
use Rattle.rules.specs.Transactions.{shard_of}
use Rattle.frames.specs.Frames.{frame_bytes, valid, bad_frame, head_of, listed, candidate_of, accept, read_front, read_frame}
use Rattle.entry.specs.Model.{in_mask, insert_of, strike_of, shard_number, touched_of, part_on, gets_of, same_operations_of, fits_of, stored_of, reads_held, new_entry_of, same_write_of, heard_from_of, finished_of}
use Rattle.queue.specs.Model.{pushed_of, up_to, last_of, left_of, without, taken_of, changed_all}
use Rattle.send.specs.Model as Send
use Rattle.verdict.specs.Model as Verdict
use Rattle.board.specs.Model as Board

unfoldable pub computing : Unit {0}
unfolding If◌then◌else◌ shard_of frame_bytes valid bad_frame head_of listed candidate_of accept read_front read_frame in_mask insert_of strike_of shard_number touched_of part_on gets_of same_operations_of fits_of stored_of reads_held new_entry_of same_write_of heard_from_of finished_of pushed_of up_to last_of left_of without taken_of changed_all Send.bytes_of Send.laid Send.forward_frame Send.backward_of Send.append_frame Send.goes Send.append_at Send.appends_to Send.onward_of Send.send_parts Verdict.refuse_of Verdict.new_of Verdict.held_of Verdict.judge_submit Verdict.judge_forward Verdict.judge_exec_notif Verdict.judge_executed Verdict.judge_of Board.empty_board Board.in_range Board.start_of Board.slot_of Board.entry_at Board.name_of Board.position_of Board.place_of Board.raised_of Board.followed_of Board.queues_after Board.frames_of Board.board_after Board.taken_step Board.judged_step Board.verdict_of Board.frame_step Board.outcome Board.step_of Board.out_of
computing = tt
