-- Before each turn `deliver` has delivered some records of the input, and the run that is ahead is the whole run: each turn is one record more.
-- Assumes nothing.
use mathlib.Core.Path.{sym, ap}
use Prim.Native.Nat.{ℕ, ◌+◌}
use native.Mathlib.Omega.{arith}
use Rattle.delivery.specs.Register.{turned}
use Rattle.delivery.proofs.Area.{relaid, relaid_count}
use Rattle.delivery.proofs.Runs.{ready, kept_on, stopped_index, stopped_room, stopped_ended, none_left_by}
use Rattle.delivery.proofs.deliver.Goals as goal

pub overflow_add-frame-in-loop-index : goal.overflow_add-frame-in-loop-index
overflow_add-frame-in-loop-index c = let g = ready c.loop-index.invariant _ c.record_at.ensures _ _ c.in-Record.is c.loop-index-test.true c.if-text-written-ge-ROOM.true in omega arith

pub slice_bounds-frame-count : goal.slice_bounds-frame-count
slice_bounds-frame-count c = let g = ready c.loop-index.invariant _ c.record_at.ensures _ _ c.in-Record.is c.loop-index-test.true c.if-text-written-ge-ROOM.true in omega arith

pub slice_bounds-frame-start : goal.slice_bounds-frame-start
slice_bounds-frame-start c = let g = ready c.loop-index.invariant _ c.record_at.ensures _ _ c.in-Record.is c.loop-index-test.true c.if-text-written-ge-ROOM.true in omega arith

pub slice_bounds-frame-end : goal.slice_bounds-frame-end
slice_bounds-frame-end c = let g = ready c.loop-index.invariant _ c.record_at.ensures _ _ c.in-Record.is c.loop-index-test.true c.if-text-written-ge-ROOM.true in omega arith

pub loop-index-smaller : goal.loop-index-smaller
loop-index-smaller c = let g = ready c.loop-index.invariant _ c.record_at.ensures _ _ c.in-Record.is c.loop-index-test.true c.if-text-written-ge-ROOM.true in omega arith

pub loop-index-preserved : goal.loop-index-preserved
loop-index-preserved c =
    let g = ready c.loop-index.invariant _ c.record_at.ensures _ _ c.in-Record.is c.loop-index-test.true c.if-text-written-ge-ROOM.true in
    let i = c.loop-index in
    kept_on i.invariant g (turned c.turn-turn.new.r c.turn-turn.result) _ _ (sym c.turn-turn.ensures)
    (ap (λ (n : ℕ). i.written + n) (relaid_count i.text _ c.line-written.new.text i.written _ (omega (arith, g.room, i.invariant.grown.as_long)) c.line-written.ensures))
    (relaid i.text _ c.line-written.new.text i.written _ (omega (arith, g.room, i.invariant.grown.as_long)) c.line-written.ensures)

pub returns-else-text-written-ge-ROOM : goal.returns-else-text-written-ge-ROOM
returns-else-text-written-ge-ROOM c =
    let s = stopped_room c.loop-index.invariant c.if-text-written-ge-ROOM.false in
    record { run = s.0; lines = s.1; inside = (s.2, s.3) }

pub returns-after-loop-index : goal.returns-after-loop-index
returns-after-loop-index c =
    let s = stopped_index c.loop-index.invariant c.loop-index-test.false in
    record { run = s.0; lines = s.1; inside = (s.2, s.3) }

pub returns-in_default : goal.returns-in_default
returns-in_default c =
    let s = stopped_ended c.loop-index.invariant (none_left_by c.args.input.now c.loop-index.taken _ c.loop-index.invariant.inside c.record_at.ensures c.in_default.not-Record) in
    record { run = s.0; lines = s.1; inside = (s.2, s.3) }
