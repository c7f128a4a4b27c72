-- One law for each way out (Ways), and what it means (invoke_promised).
-- Assumes nothing.
use mathlib.Core.Path.{◌≡◌, refl, sym, ◌∙◌}
use native.Mathlib.Omega.{arith}
use lib.ListN.{length}
use Rattle.std.proofs.Common.{rules}
use Rattle.std.proofs.lemmas.Result.{err_from_is_err_and}
use Rattle.refusal.specs.declared.Refusal.TheVariants.{NotUsable, BreaksRule}
use Rattle.session.specs.Model.{refusal, with_window, invoking, invoked_of, invoke_out}
use Rattle.session.proofs.Promises.{invoke_promised}
use Rattle.session.proofs.Ways.{call_refused, call_sent, invoke_unusable, invoke_none, invoke_wrong, invoke_full, invoke_goes}
use Rattle.session.proofs.Session.invoke.Goals as goal
use Rattle.session.proofs.Session.invoke.Goals.{then-list-eq0-via-then-list-eq0, then-list-eq0-via-else-list-eq0+then-not-items_ok}

pub returns-then-unusable : goal.returns-then-unusable
unfolding invoked_of invoke_out
returns-then-unusable c =
    let a = c.args in
    let p = invoke_promised a.self.now a.operations a.out.now c.list-list.ensures.sized _ _
    (call_refused a.self.now a.out.now _ NotUsable (invoke_unusable a.self.now a.operations _ (sym c.unusable.ensures ∙ c.if-unusable.true))) in
    record { value = p.0; invoke_means = p.1; refusal = search rules }

pub returns-then-list-eq0 : goal.returns-then-list-eq0
unfolding invoked_of invoke_out
returns-then-list-eq0 c =
    let a = c.args in
    let u = sym c.unusable.ensures ∙ c.if-unusable.false in
    let wrong : invoking a.self.now a.operations (length a.out.now) ≡ refusal a.self.now 1 =
    elim c.then-list-eq0.branch [
      | then-list-eq0-via-then-list-eq0 w ↦ invoke_none a.self.now a.operations _ u c.list-list.result c.list-list.ensures.value (omega (arith, w.if-list-eq0.true))
      | then-list-eq0-via-else-list-eq0+then-not-items_ok w ↦ invoke_wrong a.self.now a.operations _ u c.list-list.result c.list-list.ensures.value (omega (arith, w.if-list-eq0.false)) (sym w.items_ok.ensures ∙ w.if-not-items_ok.true)
    ] in
    let p = invoke_promised a.self.now a.operations a.out.now c.list-list.ensures.sized _ _ (call_refused a.self.now a.out.now _ BreaksRule wrong) in
    record { value = p.0; invoke_means = p.1; refusal = search rules }

pub returns-in_err-number : goal.returns-in_err-number
unfolding invoked_of invoke_out
returns-in_err-number c =
    let a = c.args in
    let e = err_from_is_err_and c.from_residual.result c.from_residual.ensures.1 in
    let full = invoke_full a.self.now a.operations _ (sym c.unusable.ensures ∙ c.if-unusable.false) c.list-list.result c.list-list.ensures.value (omega (arith, c.if-list-eq0.false)) (sym c.items_ok.ensures ∙ c.if-not-items_ok.false) c.invoke.new.self c.in_err-number.field-0.0 c.in_err-number.ensures.value in
    let p = invoke_promised a.self.now a.operations a.out.now c.list-list.ensures.sized _ _ (call_refused a.self.now a.out.now _ c.in_err-number.field-0.0 full) in
    rw (e.1, e.2, c.in_err-number.ensures.refusal) (record { value = p.0; invoke_means = p.1; refusal = (refl, refl) })

pub returns : goal.returns
unfolding invoked_of invoke_out
returns c =
    let a = c.args in
    let goes = invoke_goes a.self.now a.operations _ (sym c.unusable.ensures ∙ c.if-unusable.false) c.list-list.result c.list-list.ensures.value (omega (arith, c.if-list-eq0.false)) (sym c.items_ok.ensures ∙ c.if-not-items_ok.false) c.invoke.new.self c.in_ok-number.number c.in_ok-number.ensures.value in
    let p = invoke_promised a.self.now a.operations a.out.now c.list-list.ensures.sized _ _
    (call_sent (with_window c.invoke.new.self a.self.now) a.out.now _ c.in_ok-number.number _ _ c.submit.result _ goes c.submit.ensures) in
    record { value = p.0; invoke_means = p.1; refusal = search rules }
