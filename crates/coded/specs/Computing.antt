-- A proof by computation says `unfolding computing`: that opens every definition that a run of the code goes through, and what the boards' logs and
-- the groups' keys mean.
-- Assumes nothing.
use Rattle.rules.specs.Computing as R
use Rattle.frames.specs.Frames as F
use Rattle.entry.specs.Model as E
use Rattle.entry.specs.View as EV
use Rattle.queue.specs.Model as Q
use Rattle.send.specs.Model as D
use Rattle.verdict.specs.Model as J
use Rattle.board.specs.Model as B
use Rattle.board_means.specs.View as BV
use Rattle.shard.specs.Computing as S
use Rattle.shard.specs.View as SV
use Rattle.window.specs.Model as W
use Rattle.session.specs.Model as C
use Rattle.session.specs.View as CV
use Rattle.safety.specs.World as N
use Rattle.safety.specs.OutArea as O
use Rattle.safety.specs.Coded as A
use Rattle.coded.specs.Code as K

unfoldable pub computing : Unit {0}
unfolding R.computing F.frame_bytes F.valid F.bad_frame F.head_of F.listed F.candidate_of F.accept F.read_front F.read_frame F.fits F.written_of F.laid_of E.in_mask E.insert_of E.strike_of E.shard_number E.touched_of E.part_on E.gets_of E.same_operations_of E.fits_of E.stored_of E.reads_held E.new_entry_of E.same_write_of E.heard_from_of E.finished_of EV.write_of EV.view_entry Q.pushed_of Q.up_to Q.last_of Q.left_of Q.without Q.taken_of Q.changed_all D.bytes_of D.laid D.forward_frame D.backward_of D.append_frame D.goes D.append_at D.appends_to D.onward_of D.send_parts J.refuse_of J.new_of J.held_of J.judge_submit J.judge_forward J.judge_exec_notif J.judge_executed J.judge_of B.empty_board B.in_range B.start_of B.slot_of B.entry_at B.name_of B.position_of B.place_of B.raised_of B.followed_of B.queues_after B.frames_of B.board_after B.taken_step B.judged_step B.verdict_of B.frame_step B.outcome B.step_of B.out_of BV.view_board S.computing SV.view_cell SV.view_store SV.view_shard W.fresh_window W.is_outstanding W.smallest_of W.kept_of W.storing W.answered_of W.invoked_of C.started_of C.kept_item C.item_at C.items_of C.ok_asked C.submit_frame C.refusal C.sending C.given C.laid C.taking C.invoking C.invoked_of C.invoke_out C.retrying C.retried_of C.retry_out C.heard_of C.responded_of CV.asked_of N.remembered N.start N.after_board N.after_shard N.after_call N.after_reply N.arrive N.arrive_sent N.next N.after N.run O.cut O.frames_in A.read_off K.step_board K.step_shard K.invoke K.retry K.respond
computing = tt
