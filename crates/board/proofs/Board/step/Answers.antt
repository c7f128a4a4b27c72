-- `board::Board::step` meets its contract: one law for each of its three ways out. Assumes nothing.
use mathlib.Core.Path.{sym, ◌∙◌}
use Rattle.std.proofs.lemmas.List.{set-set, set-get_or}
use Rattle.board.specs.Model.{blank}
use Rattle.board.proofs.Laws.{queues_changed}
use Rattle.board.proofs.Ways.{not_usable_lem, refused_by, taken_by}
use Rattle.board.proofs.Board.step.Goals as goal

pub returns-then-unusable-clause-value : goal.returns-then-unusable-clause-value
returns-then-unusable-clause-value c = not_usable_lem c.args.self.now c.args.frame.now c.args.out.now (sym c.unusable.ensures ∙ c.if-unusable.true)

pub returns-in-Err-clause-value : goal.returns-in-Err-clause-value
returns-in-Err-clause-value c =
    let b = c.args.self.now in
    rw (set-get_or b.log c.slot_of-slot.result blank)
    (refused_by b c.args.frame.now c.args.out.now (sym c.unusable.ensures ∙ c.if-unusable.false) _ c.read_frame-f.ensures.value _ c.place_of-log_number.ensures
    _ c.slot_of-slot.ensures.0 c.in-Err.refusal c.in-Err.ensures)

pub returns-clause-value : goal.returns-clause-value
returns-clause-value c =
    let b = c.args.self.now in
    taken_by b c.args.frame.now c.args.out.now (sym c.unusable.ensures ∙ c.if-unusable.false) _ c.read_frame-f.ensures.value _ c.place_of-log_number.ensures
    _ c.slot_of-slot.ensures.0 c.in-Ok.change (rw c.in-Ok.is at c.judge-judged.ensures) _ (set-set _ _ _ _) _ c.name_of.ensures _ (rw c.list.ensures at c.touched.ensures) _ c.follow.ensures
    _ c.raise.ensures _ (c.change_all.ensures ∙ queues_changed _ _ _ _) _ _ c.sent.ensures
