-- One law for each way out (Ways), and what it means (retry_promised).
-- Assumes nothing.
use mathlib.Core.Path.{◌≡◌, refl, sym, ◌∙◌}
use native.Mathlib.Omega.{arith}
use Rattle.std.proofs.Common.{Some, None, rules}
use Rattle.std.proofs.lemmas.Result.{err_from_is_err_and}
use Rattle.refusal.specs.declared.Refusal.TheVariants.{NotUsable, TooLate}
use Rattle.session.specs.Model.{retried_of, retry_out}
use Rattle.session.proofs.Promises.{retry_promised}
use Rattle.session.proofs.Ways.{call_refused, call_sent, retry_unusable, retry_late, retry_goes}
use Rattle.session.proofs.Session.retry.Goals as goal

pub returns-then-unusable : goal.returns-then-unusable
unfolding retried_of retry_out
returns-then-unusable c =
    let a = c.args in
    let p = retry_promised a.self.now a.number a.out.now _ _
    (call_refused a.self.now a.out.now _ NotUsable (retry_unusable a.self.now a.number _ (sym c.unusable.ensures ∙ c.if-unusable.true))) in
    record { value = p.0; retry_means = p.1; refusal = search rules }

pub returns-in_err-kept : goal.returns-in_err-kept
unfolding retried_of retry_out
returns-in_err-kept c =
    let a = c.args in
    let e = err_from_is_err_and c.from_residual.result c.from_residual.ensures.1 in
    let none : c.kept.result ≡ None = grind arith in
    let late : c.in_err-kept.field-0.0 ≡ TooLate = grind arith in
    let p = retry_promised a.self.now a.number a.out.now _ _
    (call_refused a.self.now a.out.now _ TooLate (retry_late a.self.now a.number _ (sym c.unusable.ensures ∙ c.if-unusable.false) (sym none ∙ c.kept.ensures.value))) in
    rw (e.1, e.2, late) (record { value = p.0; retry_means = p.1; refusal = refl })

pub returns : goal.returns
unfolding retried_of retry_out
returns c =
    let a = c.args in
    let some : c.kept.result ≡ Some c.in_ok-kept.kept = grind arith in
    let p = retry_promised a.self.now a.number a.out.now _ _
    (call_sent a.self.now a.out.now _ a.number _ _ c.submit.result _ (retry_goes a.self.now a.number _ (sym c.unusable.ensures ∙ c.if-unusable.false) _ (sym some ∙ c.kept.ensures.value)) c.submit.ensures) in
    record { value = p.0; retry_means = p.1; refusal = search rules }
