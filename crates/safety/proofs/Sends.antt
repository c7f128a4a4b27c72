-- What a board of the permissive machine sends is right, where its entries are.
-- Assumes nothing.
use mathlib.Core.Path.{◌≡◌, refl, ap, ◌∙◌}
use mathlib.Core.List.{List, []}
use mathlib.Core.Option.{some}
use Prim.Native.Nat.{ℕ, zero, suc, pred, ◌≤◌, ◌<◌}
use native.Mathlib.Omega.{arith}
use lib.Dec.{T}
use Rattle.rules.specs.Lists.{at, has}
use Rattle.rules.specs.Transactions.{Write, Placed, touches, placed, keep, gather}
use Rattle.rules.specs.Frames.{Frame}
use Rattle.rules.specs.Board.{Entry, is_exe, writes, touching}
use Rattle.rules.proofs.Counts.{touching_one}
use Rattle.rules.proofs.Obeys.{all_left}
use Rattle.rules.proofs.Kept.{at_writes}
use Rattle.safety.specs.World.{recipient}
use Rattle.safety.specs.Machine.{Sends, sends_forward, sends_append, sends_executed, sends_response}
use Rattle.safety.proofs.Invariant.{Logs, Past, sees, RightTo, logged, job, ended, told, heard_of, Sound, idle, busy}

-- where Executed goes
pub before : (n i : ℕ) → 2 ≤ i → i ≤ n → (1 ≤ pred i) × (pred i < n)
before n zero h l = absurd (omega arith)
before n (suc i) h l = (omega arith, omega arith)

-- what remains is touched
pub remains_touched : (m : ℕ) (G : List Write) (ind : ℕ) (e : Entry) → Sound m G ind e → (j : ℕ) → T (has j e.remaining) → T (touches m j e.write.operations)
remains_touched m G ind e (idle x y z) j h = rw x at h
remains_touched m G ind e (busy x) j h = x.sub j h

-- an entry that is EXE has all its reads
pub record Ended (m : ℕ) (G : List Write) (ind : ℕ) (e : Entry) : Type 0 where
  pub stands : at G ind ≡ some e.write
  pub none_remain : e.remaining ≡ []
  pub whole : e.reads ≡ gather (placed 0 e.write.operations) (sees G ind e.write)

pub ends : (m : ℕ) (G : List Write) (ind : ℕ) (e : Entry) → Sound m G ind e → T (is_exe e.status) → Ended m G ind e
ends m G ind e (idle x y z) t = absurd (rw y at t)
ends m G ind e (busy y) t =
    let z : e.reads ≡ gather (keep (heard_of m []) (placed 0 e.write.operations)) (sees G ind e.write) = rw (y.done t) at y.right in
    record {
      stands = y.stands;
      none_remain = y.done t;
      whole = z ∙ ap (λ (xs : List Placed). gather xs (sees G ind e.write)) (all_left 0 e.write.operations);
    }

pub sends_right : (n m : ℕ) (L : Logs) (H : Past) (i : ℕ) (log : List Entry) → 1 ≤ i → i ≤ n → L i ≡ writes log
    → ((ind : ℕ) (e : Entry) → at log ind ≡ some e → Sound m (L n) ind e) → (f : Frame) → Sends n m i log f → RightTo n m L H (recipient n i f) f
sends_right n m L H i log lo hi u s _ (sends_forward ind ack e l h) = logged i ind ack e.write lo l (rw u (at_writes log ind e h))
sends_right n m L H i log lo hi u s _ (sends_append j ind sn e l h r k) =
    let d : i ≡ n = omega arith in
    let v : L n ≡ writes log = rw d at u in
    let a : at (L n) ind ≡ some e.write = rw v (at_writes log ind e h) in
    let t = remains_touched m (L n) ind e (s ind e h) j r in
    let c = touching_one m j (writes log) ind e.write (at_writes log ind e h) t in
    let d : sn ≡ suc (touching m j (writes log) ind) = omega (arith, k) in
    job j ind sn _ e.write a t (rw v d) refl
sends_right n m L H i log lo hi u s _ (sends_executed ind e l h r) =
    let y = ends m (L n) ind e (s ind e h) r in
    let b = before n i l hi in
    ended (pred i) ind _ e.write b.0 b.1 y.stands y.whole
sends_right n m L H i log lo hi u s _ (sends_response ind e l h r) =
    let y = ends m (L n) ind e (s ind e h) r in
    told _ _ ind _ e.write y.stands refl refl y.whole
