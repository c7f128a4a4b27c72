-- Wrong answers that the promises of this crate rule out, beside those that the laws in Means and Promises do: each is shown of the definition that
-- the contract cites.
-- Assumes nothing.
use mathlib.Core.Path.{◌≡◌, refl}
use mathlib.Core.Bool.{false}
use Prim.Native.Nat.{ℕ, ◌≤◌}
use native.Mathlib.Omega.{arith}
use lib.Dec.{ltb}
use borrow.Author.Tests.{lt-ltb, le-ltb}
use Rattle.rules.specs.Lists.{If◌then◌else◌}
use Rattle.rules.specs.Answers.{not_usable}
use Rattle.rules.specs.Outcomes.{unusable}
use Rattle.rules.proofs.Lists.{by}
use Rattle.window.specs.Model as W
use Rattle.window.proofs.Ruled.{fresh_has_none}
use Rattle.session.specs.declared.Session.{Session}
use Rattle.session.specs.declared.Operations.{Operations}
use Rattle.session.specs.Model.{Started, unstarted, started_of, refusal, sending, invoking, retrying, given, invoked_of, retried_of, responded_of}
use mathlib.Core.List.{List}

-- ---- start

-- a session of client 16
pub no_client_16 : (client : ℕ) → 16 ≤ client → ((started_of client).session.started ≡ false) × ((started_of client).answer ≡ not_usable)
unfolding started_of If◌then◌else◌
no_client_16 client h = rw (lt-ltb 15 client (omega arith)) (refl, refl)

-- a number outstanding at the start
pub none_outstanding : (client number : ℕ) → W.is_outstanding (started_of client).session.window.slots number ≡ false
unfolding started_of
none_outstanding client number =
    by (λ (r : Started). W.is_outstanding r.session.window.slots number ≡ false) (ltb 15 client) (λ t. fresh_has_none number) (λ t. fresh_has_none number)

-- ---- unstarted

-- a call that it takes
pub unstarted_takes_none : (ops : Operations) (number : ℕ) (bytes out : List ℕ)
    → ((invoked_of unstarted ops out).sent.answer ≡ not_usable)
    × ((retried_of unstarted number out).sent.answer ≡ not_usable)
    × ((responded_of unstarted bytes).reply.answer ≡ not_usable)
unfolding unstarted invoked_of invoking retried_of retrying responded_of given refusal If◌then◌else◌
unstarted_takes_none ops number bytes out = (refl, refl, refl)

-- a number outstanding in it
pub unstarted_has_none : (number : ℕ) → W.is_outstanding unstarted.window.slots number ≡ false
unfolding unstarted
unstarted_has_none number = fresh_has_none number

-- another session than the one that a refused start leaves
pub refused_leaves : (client : ℕ) → 16 ≤ client → (started_of client).session ≡ unstarted
unfolding unstarted started_of If◌then◌else◌
refused_leaves client h = rw (lt-ltb 15 client (omega arith))

-- ---- retry

-- other operations than the kept ones
pub retry_kept : (s : Session) (number room : ℕ) → unusable s.started room ≡ false → 1 ≤ (W.kept_of s.window number).count
    → retrying s number room ≡ sending s number (W.kept_of s.window number).count (W.kept_of s.window number).items
unfolding retrying If◌then◌else◌
retry_kept s number room h g = rw (h, le-ltb (W.kept_of s.window number).count 1 g)
