-- The kind decides: a Response is heard, a frame that breaks a rule is refused by 1, every other kind by 2.
-- Assumes nothing.
use mathlib.Core.Path.{refl, sym, ◌∙◌}
use Rattle.rules.specs.Lists.{If◌then◌else◌}
use Rattle.session.specs.Model.{responded_of}
use native.Mathlib.Omega.{arith}
use Rattle.std.proofs.Common.{rules}
use Rattle.session.proofs.Promises.{response_promised}
use Rattle.session.proofs.Ways.{by_kind, other_kind}
use Rattle.session.proofs.Session.response.Goals as goal

pub returns-then-not-self : goal.returns-then-not-self
unfolding responded_of If◌then◌else◌
returns-then-not-self c =
    let a = c.args in
    let p = response_promised a.self.now a.frame.now (λ i. omega (arith, c.type_inv.frame i)) _ (simp c.if-not-self.true) in
    record { value = p.0; response_means = p.1; refusal = refl }

pub returns-in-Bad : goal.returns-in-Bad
returns-in-Bad c =
    let a = c.args in
    let p = response_promised a.self.now a.frame.now (λ i. omega (arith, c.type_inv.frame i)) _ (sym (by_kind a.self.now a.frame.now _ _ c.if-not-self.false c.read_frame-f.ensures.value c.in-Bad.is)) in
    record { value = p.0; response_means = p.1; refusal = search rules }

pub returns-in-Response : goal.returns-in-Response
returns-in-Response c =
    let a = c.args in
    let p = response_promised a.self.now a.frame.now (λ i. omega (arith, c.type_inv.frame i)) _ (c.heard.ensures.value ∙ sym (by_kind a.self.now a.frame.now _ _ c.if-not-self.false c.read_frame-f.ensures.value c.in-Response.is)) in
    record { value = p.0; response_means = p.1; refusal = search rules }

pub returns-in_default : goal.returns-in_default
returns-in_default c =
    let a = c.args in
    let p = response_promised a.self.now a.frame.now (λ i. omega (arith, c.type_inv.frame i)) _ (sym (other_kind a.self.now a.frame.now c.read_frame-f.result c.if-not-self.false c.read_frame-f.ensures.value (search rules))) in
    record { value = p.0; response_means = p.1; refusal = search rules }
