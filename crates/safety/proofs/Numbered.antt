-- A client's entries in a log: where they are its first invocations, high + 1 is how many there are, and the next one keeps them so.
-- Assumes nothing.
use mathlib.Core.Path.{◌≡◌, refl, sym, ap, ◌∙◌}
use mathlib.Core.Bool.{Bool, true, false, not}
use mathlib.Core.List.{List, [], ◌∷◌}
use mathlib.Core.Option.{some}
use Prim.Native.Nat.{ℕ, zero, suc, ◌+◌}
use native.Mathlib.Omega.{arith}
use lib.Dec.{T, eqb}
use lib.ListN.{length}
use mir.Facts.{eqb_yes}
use Rattle.rules.specs.Lists.{If◌then◌else◌, at, snoc}
use Rattle.rules.specs.Transactions.{Operation, Write}
use Rattle.rules.specs.Board.{next_number}
use Rattle.rules.specs.Kept.{of_client, Counted}
use Rattle.rules.proofs.Lists.{if_yes, if_no, nothing}
use Rattle.rules.proofs.Numbers.{next_counts}
use Rattle.safety.specs.Claim.{invocations}
use Rattle.safety.proofs.Lists.{Under, under_snoc}

-- ---- A client's entries, when a log grows

if_snoc : (b : Bool) (x w : Write) (l : List Write) → (If b then x ∷ snoc l w else snoc l w) ≡ snoc (If b then x ∷ l else l) w
unfolding If◌then◌else◌
if_snoc true x w l = refl
if_snoc false x w l = refl

pub client_yes : (c : ℕ) (w : Write) (l : List Write) → T (eqb w.client c) → of_client c (snoc l w) ≡ snoc (of_client c l) w
client_yes c w [] t = if_yes (eqb w.client c) (w ∷ []) [] t
client_yes c w (x ∷ l) t = rw (client_yes c w l t) (if_snoc (eqb x.client c) x w (of_client c l))

pub client_no : (c : ℕ) (w : Write) (l : List Write) → T (not (eqb w.client c)) → of_client c (snoc l w) ≡ of_client c l
client_no c w [] t = if_no (eqb w.client c) (w ∷ []) [] t
client_no c w (x ∷ l) t = rw (client_no c w l t) refl

-- ---- Invocations

-- the k-th invocation
pub record Invoked (c z : ℕ) (past : List (List Operation)) (k : ℕ) (w : Write) : Type 0 where
  pub client : w.client ≡ c
  pub number : w.number ≡ z + k
  pub operations : at past k ≡ some w.operations

pub invoked_at : (c z : ℕ) (past : List (List Operation)) (k : ℕ) (w : Write) → at (invocations c z past) k ≡ some w → Invoked c z past k w
invoked_at c z [] k w e = nothing e
invoked_at c z (os ∷ past) zero w e =
    let d : record { client = c; number = z; operations = os } ≡ w = cc in
    record { client = ap (λ (x : Write). x.client) (sym d); number = ap (λ (x : Write). x.number) (sym d) ∙ omega arith; operations = ap (λ (x : Write). some x.operations) d }
invoked_at c z (os ∷ past) (suc k) w e =
    let i = invoked_at c (suc z) past k w e in
    record { client = i.client; number = i.number ∙ omega arith; operations = i.operations }

pub at_invoked : (c z : ℕ) (past : List (List Operation)) (k : ℕ) (w : Write) → Invoked c z past k w → at (invocations c z past) k ≡ some w
at_invoked c z [] k w i = nothing i.operations
at_invoked c z (os ∷ past) zero w i =
    let a = i.client in
    let b : w.number ≡ z = i.number ∙ omega arith in
    let d : some os ≡ some w.operations = i.operations in
    let e : os ≡ w.operations = cc in
    λ t. some (record { client = sym a t; number = sym b t; operations = e t })
at_invoked c z (os ∷ past) (suc k) w i =
    at_invoked c (suc z) past k w (record { client = i.client; number = i.number ∙ omega arith; operations = i.operations })

-- a history that grows
pub invoked_grows : (c : ℕ) (past more : List (List Operation)) → Under past more → Under (invocations c 0 past) (invocations c 0 more)
invoked_grows c past more u k w e =
    let i = invoked_at c 0 past k w e in
    at_invoked c 0 more k w (record { client = i.client; number = i.number; operations = u k w.operations i.operations })

-- ---- High + 1 counts them

counted : (k : ℕ) (l : List Write) → ((p : ℕ) (w : Write) → at l p ≡ some w → w.number ≡ k + p) → Counted k l
counted k [] h = tt
counted k (w ∷ l) h = (h 0 w refl ∙ omega arith, counted (suc k) l (λ p v e. h (suc p) v e ∙ omega arith))

-- where a client's entries are its first invocations, they are numbered from 0 on
pub firsts_counted : (c : ℕ) (past : List (List Operation)) (ws : List Write) → Under (of_client c ws) (invocations c 0 past) → Counted 0 (of_client c ws)
firsts_counted c past ws u = counted 0 (of_client c ws) (λ p w e. (invoked_at c 0 past p w (u p w e)).number)

-- ---- The next invocation, taken into the log

pub next_first : (c : ℕ) (past : List (List Operation)) (ws : List Write) (w : Write) → Under (of_client c ws) (invocations c 0 past)
    → (w.client ≡ c → w.number ≡ next_number c ws) → (w.client ≡ c → at past w.number ≡ some w.operations)
    → Under (of_client c (snoc ws w)) (invocations c 0 past)
next_first c past ws w u num ops = go (eqb w.client c) refl
  where
    go : (b : Bool) → eqb w.client c ≡ b → Under (of_client c (snoc ws w)) (invocations c 0 past)
    go true e =
        let d : w.client ≡ c = eqb_yes {a = w.client} (rw e tt) in
        let k : w.number ≡ length (of_client c ws) = num d ∙ next_counts c ws (firsts_counted c past ws u) in
        rw (client_yes c w ws (rw e tt)) (under_snoc (of_client c ws) (invocations c 0 past) w u
        (at_invoked c 0 past (length (of_client c ws)) w (record { client = d; number = k ∙ omega arith; operations = rw (← k) (ops d) })))
    go false e = rw (client_no c w ws (rw e tt)) u
