-- What is found is the first outstanding number of those that the window reaches back to, or there is none.
-- Assumes nothing.
use mathlib.Core.Path.{◌≡◌, ap, ◌∙◌}
use Prim.Native.Nat.{ℕ, ◌-◌}
use mathlib.Core.Bool.{true, false}
use native.Mathlib.Omega.{arith}
use Rattle.std.proofs.Common.{rules, tests}
use Rattle.std.proofs.lemmas.Iterator.{first_from_Range}
use Rattle.window.specs.Model.{is_outstanding, first_from, smallest_of}
use Rattle.window.proofs.Search.{first_found}
use Rattle.window.proofs.Window.smallest_outstanding.Goals as goal

pub returns : goal.returns
unfolding smallest_of
returns c =
    let slots = c.args.self.now.slots in
    let found = first_from_Range _ _ _ _ (λ i. is_outstanding slots i ≡ true) (λ i. is_outstanding slots i ≡ false) c.find.ensures.ran
    (λ x q k. grind (arith, tests))
    (λ x q k. (search rules, grind (arith, tests))) in
    c.unwrap_or.ensures ∙ first_found slots c.args.self.now.next c.saturating_sub.result c.find.result (omega (arith, c.saturating_sub.ensures)) found
    ∙ ap (λ (k : ℕ). first_from slots k (c.args.self.now.next - k)) c.saturating_sub.ensures
