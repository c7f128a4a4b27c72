-- `send_parts` meets its contract: nothing without room, the one frame, or the ShardAppends.
-- Assumes nothing.
use mathlib.Core.Path.{◌≡◌, ◌∙◌, refl}
use lib.ListN.{length}
use Rattle.send.proofs.Room.{forward_fits, backward_fits, Fits}
use Rattle.send.proofs.Lay.{wrote_bytes, wrote_laid, parts_back, parts_on}
use borrow.Author.Rules.{rules}
use Rattle.send.proofs.send_parts.Goals as goal
use Rattle.send.proofs.send_parts.Goals.{then-e, else-e+then-own-n}

pub returns : goal.returns
returns c =
    let a = c.args in
    let room = c.if-out-lt-LEAST_OUT.false in
    elim c.if-e.branch [
      | then-e w ↦
          let slots : length w.backward-frame.result.list.items ≡ 4 = search rules in
          let f = w.frame-is ∙ w.backward-frame.ensures in
          let h : Fits c.if-e.frame = rw f (backward_fits a.e.now a.m a.own a.log_number (rw w.backward-frame.ensures at slots)) in
          rw (parts_back a.e.now a.n a.m a.own a.floor a.log_number a.masks.now (length a.out.now) room w.if-e.true c.if-e.frame f)
          (record { frames = refl; bytes = c.write_frame.ensures.value ∙ wrote_bytes _ a.out.now h room; out = c.write_frame.ensures.out_after ∙ wrote_laid _ a.out.now h room })
      | else-e+then-own-n w ↦
          let f = w.frame-is ∙ w.forward.ensures in
          let h : Fits c.if-e.frame = rw f (forward_fits a.e.now a.floor a.log_number) in
          rw (parts_on a.e.now a.n a.m a.own a.floor a.log_number a.masks.now (length a.out.now) room w.if-e.false w.if-own-n.true c.if-e.frame f)
          (record { frames = refl; bytes = c.write_frame.ensures.value ∙ wrote_bytes _ a.out.now h room; out = c.write_frame.ensures.out_after ∙ wrote_laid _ a.out.now h room })
    ]
