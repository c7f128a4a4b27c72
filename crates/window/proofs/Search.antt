-- The search for the smallest outstanding number, one number at a time. Assumes nothing.
use mathlib.Core.Path.{◌≡◌, sym, ap, ◌∙◌}
use mathlib.Core.Bool.{true, false}
use mathlib.Core.List.{List}
use Prim.Native.Nat.{ℕ, zero, suc, ◌+◌, ◌-◌, ◌≤◌, ◌<◌}
use native.Mathlib.Numerals.{add-one}
use native.Mathlib.Omega.{arith}
use Rattle.std.proofs.Common.{Option, Some, None, MatchOption, unwrap_or}
use Rattle.rules.specs.Lists.{If◌then◌else◌}
use Rattle.window.specs.declared.Slot.{Slot}
use Rattle.window.specs.Model.{is_outstanding, first_from}

module _ (slots : List Slot) (number next : ℕ) where
  -- one number fewer is left
  fewer : number < next → next - number ≡ suc (next - (number + 1))
  fewer h = omega arith

  pub first_here : number < next → is_outstanding slots number ≡ true → first_from slots number (next - number) ≡ number
  unfolding If◌then◌else◌
  first_here h e = ap (first_from slots number) (fewer h) ∙ rw e

  pub first_past : number < next → is_outstanding slots number ≡ false → first_from slots number (next - number) ≡ first_from slots (number + 1) (next - (number + 1))
  unfolding If◌then◌else◌
  first_past h e = ap (first_from slots number) (fewer h) ∙ rw (e, add-one)

  pub first_none : next ≤ number → first_from slots number (next - number) ≡ number
  first_none h = let e : next - number ≡ 0 = omega arith in ap (first_from slots number) e

module _ (slots : List Slot) (next : ℕ) where
  -- so many numbers that are not outstanding are passed
  passed : (more number to : ℕ) → number + more ≡ to → to ≤ next → ((k : ℕ) → number ≤ k → k < to → is_outstanding slots k ≡ false) →
      first_from slots number (next - number) ≡ first_from slots to (next - to)
  passed zero number to e l none = ap (λ (k : ℕ). first_from slots k (next - k)) (omega arith)
  passed (suc more) number to e l none =
      first_past slots number next (omega arith) (none number (omega arith) (omega arith)) ∙ passed more (number + 1) to (omega arith) l (λ k a b. none k (omega arith) b)

  -- the number that is found by a search from low on, or next
  pub first_found : (low : ℕ) (r : Option ℕ) → low ≤ next →
      MatchOption r ((k : ℕ) → low ≤ k → k < next → is_outstanding slots k ≡ false)
      (λ i. (low ≤ i) × (i < next) × (is_outstanding slots i ≡ true) × ((k : ℕ) → low ≤ k → k < i → is_outstanding slots k ≡ false)) →
      unwrap_or r next ≡ first_from slots low (next - low)
  first_found low None l none = sym (passed (next - low) low next (omega arith) (omega arith) none ∙ first_none slots next next (omega arith))
  first_found low (Some i) l h = sym (passed (i - low) low i (omega arith) (omega arith) h.3 ∙ first_here slots i next h.1 h.2)
