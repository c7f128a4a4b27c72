-- Before each turn `log_lines` has laid the lines of the entries that it passed.
-- Assumes nothing.
use mathlib.Core.Path.{ap}
use Prim.Native.Nat.{ℕ, ◌+◌}
use Rattle.delivery.proofs.Area.{relaid, relaid_count}
use Rattle.delivery.proofs.Logs.{room_left, logged_on, logged_all, logged_none}
use Rattle.delivery.proofs.log_lines.Goals as goal

pub returns-then-text-lt-LOG_ROOM : goal.returns-then-text-lt-LOG_ROOM
returns-then-text-lt-LOG_ROOM c =
    let s = logged_none c.args.board c.args.b.now _ c.if-text-lt-LOG_ROOM.true in
    record { written = s.0; lines = s.1; inside = s.2 }

pub loop-i-preserved : goal.loop-i-preserved
loop-i-preserved c =
    let i = c.loop-i in
    let room = room_left i.invariant c.if-text-lt-LOG_ROOM.false c.held-entries.ensures.few c.loop-i-test.true in
    logged_on i.invariant c.if-text-lt-LOG_ROOM.false c.held-entries.ensures.few _ _ _ c.loop-i-test.true
    (ap (λ (n : ℕ). i.written + n) (relaid_count i.text _ c.l_line-written.new.out i.written _ room c.l_line-written.ensures))
    (relaid i.text _ c.l_line-written.new.out i.written _ room c.l_line-written.ensures)

pub returns : goal.returns
returns c =
    let s = logged_all c.loop-i.invariant c.if-text-lt-LOG_ROOM.false c.held-entries.ensures.few c.args.b.now c.held-entries.ensures.value c.loop-i-test.false in
    record { written = s.0; lines = s.1; inside = s.2 }
