-- A session's numbers and what it keeps as outstanding are its client's invocations, through every call and Response; so the Submits it sends are
-- right.
-- Assumes nothing.
use mathlib.Core.Path.{◌≡◌}
use mathlib.Core.List.{List, [], ◌∷◌}
use mathlib.Core.Option.{Option, some}
use Prim.Native.Nat.{ℕ}
use native.Mathlib.Omega.{arith}
use lib.Dec.{eqb, eqb→eq}
use lib.ListN.{length-append}
use Rattle.rules.specs.Lists.{at, snoc, changed}
use Rattle.rules.specs.Transactions.{Operation}
use Rattle.rules.specs.Session as C
use Rattle.rules.specs.Kept.{SessionKept}
use Rattle.rules.specs.Shard.{Shard}
use Rattle.rules.proofs.Lists.{by, nothing, at_snoc_new}
use Rattle.safety.specs.World.{board, Packet, ReplyTaken}
use Rattle.safety.specs.Machine.{All}
use Rattle.safety.proofs.Lists.{Changed, there, elsewhere, changed_cases, Under, at_snoc_old, all_map, all_append}
use Rattle.safety.proofs.Numbered.{invoked_grows}
use Rattle.safety.proofs.Flight.{flies_map}
use Rattle.safety.proofs.Invariant.{Logs, Past, RightTo, asked, Core}
use Rattle.safety.proofs.Growth.{right_grows}
use Rattle.safety.proofs.Deeds.{after_invoke}
use Rattle.safety.proofs.Happens.{after_answer}
use Rattle.safety.proofs.Known.{SessionKnown}

-- what is outstanding was invoked
abbrev pub WasInvoked : List (List Operation) → C.Outstanding → Type 0
WasInvoked past o = at past o.number ≡ some o.operations

pub kept_operations : (past : List (List Operation)) (k : ℕ) (os : List Operation) (l : List C.Outstanding) → All (WasInvoked past) l → C.operations_of k l ≡ some os → at past k ≡ some os
kept_operations past k os [] a = λ e. nothing e
kept_operations past k os (o ∷ l) a =
    by (λ (x : Option (List Operation)). x ≡ some os → at past k ≡ some os) (eqb o.number k)
    (λ t e. let d : o.number ≡ k = eqb→eq o.number k t in let h = a.0 in cc) (λ t. kept_operations past k os l a.1)

all_without : (P : C.Outstanding → Type 0) (k : ℕ) (l : List C.Outstanding) → All P l → All P (C.without k l)
all_without P k [] a = tt
all_without P k (o ∷ l) a = by (All P) (eqb o.number k) (λ t. all_without P k l a.1) (λ t. (a.0, all_without P k l a.1))

pub invoke_known : (c : ℕ) (past : List (List Operation)) (s : C.Session) (os : List Operation) → SessionKnown c past s → SessionKept (after_invoke os s)
    → SessionKnown c (snoc past os) (after_invoke os s)
unfolding C.with_window C.invoked
invoke_known c past s os r z =
    let k = r.next_is in
    record {
      own_is = r.own_is;
      next_is = simp length-append (omega arith);
      outstanding =
          all_append (WasInvoked (snoc past os)) s.window.outstanding (record { number = s.window.next; operations = os } ∷ [])
          (all_map (λ o. at_snoc_old past os o.number o.operations) s.window.outstanding r.outstanding) (rw k (at_snoc_new past os), tt);
      window = z;
    }

pub answer_known : (c : ℕ) (past : List (List Operation)) (s : C.Session) (k : ℕ) → SessionKnown c past s → SessionKept (after_answer k s) → SessionKnown c past (after_answer k s)
unfolding C.with_window C.answered
answer_known c past s k r z =
    record { own_is = r.own_is; next_is = r.next_is; outstanding = all_without (WasInvoked past) k s.window.outstanding r.outstanding; window = z }

-- a history grows by one
pub past_grows : (H : Past) (c : ℕ) (os : List Operation) (d : ℕ) → Under (H d) (changed H c (snoc (H c) os) d)
past_grows H c os d p x k = go (changed_cases H c (snoc (H c) os) d)
  where
    go : Changed H c (snoc (H c) os) d (changed H c (snoc (H c) os) d) → at (changed H c (snoc (H c) os) d) p ≡ some x
    go (there h q) = let a : at (H c) p ≡ some x = cc in rw q (at_snoc_old (H c) os p x a)
    go (elsewhere h q) = rw q k

pub past_core : {n m : ℕ} {L : Logs} {H : Past} {shards : ℕ → Shard} {replies : List ReplyTaken} {sent : List Packet} (c : ℕ) (os : List Operation)
    → Core n m L H shards replies sent → Core n m L (changed H c (snoc (H c) os)) shards replies sent
past_core {H = H} {sent = sent} c os k =
    record {
      chain = k.chain;
      firsts = λ d p e h. invoked_grows d (H d) (changed H c (snoc (H c) os) d) (past_grows H c os d) p e (k.firsts d p e h);
      groups = k.groups;
      flight = flies_map (right_grows (λ i p x h. h) (past_grows H c os)) sent k.flight;
      answers = k.answers;
    }

pub submit_right : (n m : ℕ) (L : Logs) (H : Past) (s : C.Session) (c k : ℕ) (os : List Operation) → s.client ≡ c → at (H c) k ≡ some os
    → RightTo n m L H (board 1) (C.submit_of s k os)
unfolding C.submit_of
submit_right n m L H s c k os e a = asked (C.smallest s.window) (record { client = s.client; number = k; operations = os }) (rw e a)
