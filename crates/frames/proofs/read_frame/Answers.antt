-- A front that nothing follows is the frame; what it means is the law `promised`.
use mathlib.Core.Path.{◌≡◌}
use native.Mathlib.Omega.{arith}
use Rattle.rules.specs.Lists.{If◌then◌else◌}
use borrow.Author.Tests.{eq-eqb, ne_eqb}
use Rattle.frames.specs.Frames.{read_frame}
use Rattle.frames.proofs.Meaning.{promised}
use Rattle.frames.proofs.read_frame.Goals as goal
use Rattle.frames.proofs.read_frame.Goals.{in_default-via-in-Some+else-end-s, in_default-via-in_default}

pub returns-in-Some : goal.returns-in-Some
unfolding read_frame If◌then◌else◌
returns-in-Some c =
    let e : c.in-Some.field-0.frame ≡ read_frame c.args.s.now = simp (← c.read_front.ensures, c.in-Some.is, eq-eqb _ _ c.if-end-s.true) in
    record { value = e; head_value = promised c.args.s.now _ (λ i. omega (arith, c.type_inv.s i)) e }

pub returns-in_default : goal.returns-in_default
unfolding read_frame If◌then◌else◌
returns-in_default c =
    let e : c.bad_frame.result ≡ read_frame c.args.s.now =
    elim c.in_default.branch [
      | in_default-via-in-Some+else-end-s w ↦ simp (c.bad_frame.ensures, ← c.read_front.ensures, w.in-Some.is, ne_eqb _ _ w.if-end-s.false)
      | in_default-via-in_default w ↦ simp (c.bad_frame.ensures, ← c.read_front.ensures, w.in_default.is)
    ]
    in
    record { value = e; head_value = promised c.args.s.now _ (λ i. omega (arith, c.type_inv.s i)) e }
