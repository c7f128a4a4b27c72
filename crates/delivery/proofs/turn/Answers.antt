-- `turn` meets its contract, by whom the address names.
-- Assumes nothing.
use mathlib.Core.Path.{sym, ◌∙◌}
use native.Mathlib.Omega.{arith}
use Rattle.delivery.proofs.Turns.{board_within, shard_within, nobody_turned, board_told, shard_told}
use Rattle.delivery.proofs.turn.Goals as goal

pub offset_bounds-r-i : goal.offset_bounds-r-i
offset_bounds-r-i c = omega (arith, board_within _ _ _ _ (sym c.named.ensures ∙ c.in-Board.is))

pub bounds-r-i : goal.bounds-r-i
bounds-r-i c = board_within _ _ _ _ (sym c.named.ensures ∙ c.in-Board.is)

pub offset_bounds-r-i-in-Shard : goal.offset_bounds-r-i-in-Shard
offset_bounds-r-i-in-Shard c = omega (arith, shard_within _ _ _ _ (sym c.named.ensures ∙ c.in-Shard.is))

pub bounds-r-i-in-Shard : goal.bounds-r-i-in-Shard
bounds-r-i-in-Shard c = shard_within _ _ _ _ (sym c.named.ensures ∙ c.in-Shard.is)

pub returns-in-Board : goal.returns-in-Board
returns-in-Board c =
    let g = c.step_board in
    board_told c.args.r.now c.args.address c.args.frame.now _ c.named.ensures c.in-Board.i _ g.new.b c.in-Board.is (omega (arith, board_within _ _ _ _ (sym c.named.ensures ∙ c.in-Board.is))) g.result g.ensures.stored g.ensures.told g.ensures.refusal

pub returns-in-Shard : goal.returns-in-Shard
returns-in-Shard c =
    let g = c.step_shard in
    shard_told c.args.r.now c.args.address c.args.frame.now _ c.named.ensures c.in-Shard.i _ g.new.s c.in-Shard.is (omega (arith, shard_within _ _ _ _ (sym c.named.ensures ∙ c.in-Shard.is))) g.result g.ensures.stored g.ensures.told g.ensures.refusal

pub returns-in-Nobody : goal.returns-in-Nobody
returns-in-Nobody c = sym (nobody_turned _ _ _ _ c.named.ensures c.in-Nobody.is)
