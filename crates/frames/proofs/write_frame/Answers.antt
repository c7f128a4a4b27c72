-- Refused, nothing is written; otherwise header, fields and list stand one behind the other.
use mathlib.Core.Path.{sym, ◌∙◌}
use native.Mathlib.Omega.{arith}
use borrow.Author.Rules.{rules}
use Rattle.frames.proofs.Puts.{behind, Nothing, no_kind, too_many, no_room, wrote}
use Rattle.frames.proofs.write_frame.Goals as goal
use Rattle.frames.proofs.write_frame.Goals.{then-is_bad-via-then-is_bad, then-is_bad-via-else-is_bad+then-f-gt4, then-is_bad-via-else-is_bad+else-f-gt4+then-out-len}

pub returns-then-is_bad : goal.returns-then-is_bad
returns-then-is_bad c =
    let w : Nothing c.args.f c.args.out.now =
    elim c.then-is_bad.branch [
      | then-is_bad-via-then-is_bad w ↦ no_kind c.args.f c.args.out.now (sym c.is_bad.ensures ∙ w.if-is_bad.true)
      | then-is_bad-via-else-is_bad+then-f-gt4 w ↦ too_many c.args.f c.args.out.now w.if-f-gt4.true
      | then-is_bad-via-else-is_bad+else-f-gt4+then-out-len w ↦
          no_room c.args.f c.args.out.now (sym c.is_bad.ensures ∙ w.if-is_bad.false) w.if-f-gt4.false (search rules) (omega arith)
    ]
    in
    record { value = w.0; out_after = w.1 }

pub returns : goal.returns
returns c =
    let p = behind (behind (behind c.put16.ensures.put c.put16-2.ensures.put) c.fields.ensures.put) c.list.ensures.put in
    let w = wrote c.args.f c.args.out.now _ _ _ _ _ c.kind.ensures c.len_of-len.ensures.0 c.shape.ensures (sym c.is_bad.ensures ∙ c.if-is_bad.false) c.if-f-gt4.false (search rules) (omega arith) p in
    record { value = w.0; out_after = search (rules, w.1) }
