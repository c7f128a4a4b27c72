-- What an invocation's result shows tells it, and the window that it leaves.
-- Assumes nothing.
use mathlib.Core.Path.{◌≡◌, sym, ap}
use Prim.Native.Nat.{ℕ}
use Rattle.std.proofs.Common.{Result, Ok, Err}
use Rattle.refusal.specs.declared.Refusal.{Refusal}
use Rattle.refusal.proofs.Tells.{number_tells, number_not_done}
use Rattle.window.specs.declared.Window.{Window}
use Rattle.window.specs.Model.{Invoked, invoked_shown}

pub invoked_told : (s t : Window) (q r : Result ℕ Refusal) → invoked_shown s q ≡ invoked_shown t r → (s ≡ t) × (q ≡ r)
invoked_told s t (Ok m) (Ok n) e = (ap (λ (i : Invoked). i.window) e, ap (λ (k : ℕ). Ok k) (ap (λ (i : Invoked). i.number) e))
invoked_told s t (Ok m) (Err r) e = absurd (number_not_done r (sym (ap (λ (i : Invoked). i.answer) e)))
invoked_told s t (Err q) (Ok n) e = absurd (number_not_done q (ap (λ (i : Invoked). i.answer) e))
invoked_told s t (Err q) (Err r) e = (ap (λ (i : Invoked). i.window) e, ap (λ (k : Refusal). Err k) (number_tells q r (ap (λ (i : Invoked). i.answer) e)))
