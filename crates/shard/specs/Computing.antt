-- A proof by computation says `unfolding computing`: that opens every definition that a start or a step of a group goes through.
-- Assumes nothing.
use Rattle.rules.specs.Lists.{If◌then◌else◌}
use Rattle.frames.specs.Frames.{frame_bytes, valid, bad_frame, head_of, listed, candidate_of, accept, read_front, read_frame}
use Rattle.shard.specs.Model.{empty_shard, start_of, mine, judge_append, judge_head, judge, cell_after, read_of, noted, turn, ran, exec_notif, after, settled, outcome, stepped, laid, step_of, out_of}

unfoldable pub computing : Unit {0}
unfolding If◌then◌else◌ frame_bytes valid bad_frame head_of listed candidate_of accept read_front read_frame empty_shard start_of mine judge_append judge_head judge cell_after read_of noted turn ran exec_notif after settled outcome stepped laid step_of out_of
computing = tt
