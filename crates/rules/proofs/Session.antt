-- Every start gives and every call keeps the window rule, and every Submit that a session sends obeys the rules of frames.
-- Assumes nothing.
use mathlib.Core.Path.{◌≡◌, refl}
use mathlib.Core.Bool.{Bool, ◌&&◌}
use mathlib.Core.List.{List, [], ◌∷◌}
use mathlib.Core.Option.{Option, none, some}
use Prim.Native.Nat.{ℕ, zero, suc, ◌+◌, ◌≤◌, ◌<◌}
use native.Mathlib.Omega.{arith}
use lib.Dec.{T, leb, eqb, leb→le, le→leb, nleb→lt, eqb→eq}
use Rattle.rules.specs.Lists.{at, snoc}
use Rattle.rules.specs.Transactions.{Operation, Read}
use Rattle.rules.specs.Frames.{Frame, submit, forward, shard_append, exec_notif, executed, response, ok_client, ok_number, ok_operations, ok_write, obeys, decode}
use Rattle.rules.specs.Outcomes.{Outcome, taken, refuse}
use Rattle.rules.specs.Session.{Outstanding, Window, empty_window, first_of, smallest, invoked, without, answered, operations_of, Session, start, with_window, submit_of, Asked, all_meant, invoke_step, invoke, send_again, retry, Reply, decline, hand_over, frame_step, read_step, step}
use Rattle.rules.specs.Kept.{Rise, WindowKept, SessionKept}
use Rattle.rules.proofs.Lists.{by, yes_of, and, nothing}
use Rattle.rules.proofs.Room.{alone, Good, refuse_good}

-- ---- The list of outstanding numbers

rise_lower : (l k : ℕ) (os : List Outstanding) (next : ℕ) → l ≤ k → Rise k os next → Rise l os next
rise_lower l k [] next h r = omega arith
rise_lower l k (o ∷ os) next h r = (omega (arith, r.0), r.1, r.2)

rise_up : (low : ℕ) (os : List Outstanding) (next : ℕ) → Rise low os next → low ≤ next
rise_up low [] next r = r
rise_up low (o ∷ os) next r = let h = rise_up (suc o.number) os next r.2 in omega (arith, r.0)

first_range : (low : ℕ) (os : List Outstanding) (next : ℕ) → Rise low os next → (low ≤ first_of os next) × (first_of os next ≤ next)
first_range low [] next r = (r, omega arith)
first_range low (o ∷ os) next r = let h = rise_up (suc o.number) os next r.2 in (r.0, omega arith)

rise_first : (low : ℕ) (os : List Outstanding) (next : ℕ) → Rise low os next → Rise (first_of os next) os next
rise_first low [] next r = omega arith
rise_first low (o ∷ os) next r = (omega arith, r.1, r.2)

rise_snoc : (low : ℕ) (os : List Outstanding) (next : ℕ) (xs : List Operation) → Rise low os next → T (ok_operations xs)
    → Rise low (snoc os (record { number = next; operations = xs })) (suc next)
rise_snoc low [] next xs r t = (r, t, omega arith)
rise_snoc low (o ∷ os) next xs r t = (r.0, r.1, rise_snoc (suc o.number) os next xs r.2 t)

first_snoc : (os : List Outstanding) (next : ℕ) (xs : List Operation) → first_of (snoc os (record { number = next; operations = xs })) (suc next) ≡ first_of os next
first_snoc [] next xs = refl
first_snoc (o ∷ os) next xs = refl

rise_without : (low k : ℕ) (os : List Outstanding) (next : ℕ) → Rise low os next → Rise low (without k os) next
rise_without low k [] next r = r
rise_without low k (o ∷ os) next r =
    let h = rise_without (suc o.number) k os next r.2 in
    by (λ (l : List Outstanding). Rise low l next) (eqb o.number k) (λ t. rise_lower low (suc o.number) (without k os) next (omega (arith, r.0)) h)
    (λ t. (r.0, r.1, h))

-- what is kept is outstanding
pub record Waits (os : List Outstanding) (next k : ℕ) (xs : List Operation) : Type 0 where
  pub least : first_of os next ≤ k
  pub less : k < next
  pub ok : T (ok_operations xs)

kept_waits : (low k : ℕ) (os : List Outstanding) (next : ℕ) (xs : List Operation) → Rise low os next → operations_of k os ≡ some xs → Waits os next k xs
kept_waits low k [] next xs r = λ e. nothing e
kept_waits low k (o ∷ os) next xs r =
    let up = rise_up (suc o.number) os next r.2 in
    let first = first_range (suc o.number) os next r.2 in
    by (λ (x : Option (List Operation)). x ≡ some xs → Waits (o ∷ os) next k xs) (eqb o.number k)
    (λ t e.
    let d : o.operations ≡ xs = cc in
    let n : o.number ≡ k = eqb→eq o.number k t in
    record { least = omega arith; less = omega arith; ok = rw (← d) r.1 })
    (λ t e. let w = kept_waits (suc o.number) k os next xs r.2 e in record { least = omega (arith, w.least, first.0); less = w.less; ok = w.ok })

-- ---- The window

invoked_kept : (w : Window) (xs : List Operation) → WindowKept w → T (ok_operations xs) → w.next < 65535 → w.next < smallest w + 8 → WindowKept (invoked xs w)
unfolding invoked smallest
invoked_kept w xs k t l h =
    record {
      rise = rise_snoc 0 w.outstanding w.next xs k.rise t;
      window = rw (first_snoc w.outstanding w.next xs) (omega arith);
      numbers = omega arith;
    }

answered_kept : (w : Window) (number : ℕ) → WindowKept w → WindowKept (answered number w)
unfolding answered smallest
answered_kept w number k =
    let r = rise_without (first_of w.outstanding w.next) number w.outstanding w.next (rise_first 0 w.outstanding w.next k.rise) in
    let f = first_range (first_of w.outstanding w.next) (without number w.outstanding) w.next r in
    record { rise = rise_without 0 number w.outstanding w.next k.rise; window = omega (arith, k.window, f.0); numbers = k.numbers }

-- "ack is the smallest outstanding number, its own included": it is an outstanding number, and no outstanding number is below it
pub record Least (w : Window) : Type 0 where
  pub first : Outstanding
  pub there : at w.outstanding 0 ≡ some first
  pub smallest_is : smallest w ≡ first.number
  pub least : (p : ℕ) (o : Outstanding) → at w.outstanding p ≡ some o → smallest w ≤ o.number

at_range : (low : ℕ) (os : List Outstanding) (next p : ℕ) (o : Outstanding) → Rise low os next → at os p ≡ some o → low ≤ o.number
at_range low [] next p o r e = nothing e
at_range low (x ∷ os) next zero o r e = let d : x ≡ o = cc in rw (← d) r.0
at_range low (x ∷ os) next (suc p) o r e = let h = at_range (suc x.number) os next p o r.2 e in omega (arith, r.0)

cons_least : (x : Outstanding) (os : List Outstanding) (next : ℕ) → Rise 0 (x ∷ os) next → Least (record { next = next; outstanding = x ∷ os })
unfolding smallest
cons_least x os next r =
    record { first = x; there = refl; smallest_is = refl; least = λ p o e. at_range x.number (x ∷ os) next p o (rise_first 0 (x ∷ os) next r) e }

pub invoked_least : (w : Window) (xs : List Operation) → WindowKept w → T (ok_operations xs) → Least (invoked xs w)
unfolding invoked
invoked_least w xs k t = go w.outstanding (rise_snoc 0 w.outstanding w.next xs k.rise t)
  where
    own : Outstanding
    own = record { number = w.next; operations = xs }

    go : (os : List Outstanding) → Rise 0 (snoc os own) (suc w.next) → Least (record { next = suc w.next; outstanding = snoc os own })
    go [] r = cons_least own [] (suc w.next) r
    go (x ∷ os) r = cons_least x (snoc os own) (suc w.next) r

-- ---- Submits

submit_obeys : (s : Session) (number : ℕ) (xs : List Operation) → s.client ≤ 15 → number ≤ 65534 → smallest s.window ≤ number → number ≤ smallest s.window + 7
    → T (ok_operations xs) → T (obeys (submit_of s number xs))
unfolding obeys submit_of ok_write
submit_obeys s number xs c n l h t =
    let a : ℕ = smallest s.window in
    and (ok_client s.client && ok_number number && leb a number && leb number (a + 7)) (ok_operations xs)
    (and (ok_client s.client && ok_number number && leb a number) (leb number (a + 7))
    (and (ok_client s.client && ok_number number) (leb a number)
    (and (ok_client s.client) (ok_number number) (le→leb s.client 15 c) (le→leb number 65534 n)) (le→leb a number l)) (le→leb number (a + 7) h)) t

-- ---- The calls

abbrev pub SessionGood : Outcome Session → Type 0
SessionGood o = Good SessionKept o

pub start_good : (client : ℕ) → SessionKept (start client).state
unfolding start taken refuse smallest
start_good client = by (λ (o : Outcome Session). SessionKept o.state) _ (λ t. empty client (leb→le client 15 t)) (λ t. unfold refuse in (empty 0 (omega arith)))
  where
    empty : {started : Bool} (c : ℕ) → c ≤ 15 → SessionKept (record { started = started; client = c; window = empty_window })
    empty c h = record { client = h; window = record { rise = omega arith; window = omega arith; numbers = omega arith } }

meant_good : (s : Session) (o : Option (List Operation)) → SessionKept s → SessionGood (invoke_step s o)
unfolding invoke_step taken with_window
meant_good s none k = refuse_good 1 s k
meant_good s (some xs) k =
    by SessionGood _ (λ t. refuse_good 1 s k) λ ok.
    by SessionGood _ (λ t. refuse_good 10 s k) λ few.
    by SessionGood _ (λ t. refuse_good 9 s k) λ room.
    let t : T (ok_operations xs) = yes_of (ok_operations xs) ok in
    let l : s.window.next < 65535 = nleb→lt 65535 s.window.next few in
    let small : s.window.next ≤ 65534 = omega arith in
    let h : s.window.next < smallest s.window + 8 = nleb→lt (smallest s.window + 8) s.window.next room in
    let near : s.window.next ≤ smallest s.window + 7 = omega arith in
    let f = first_range 0 s.window.outstanding s.window.next k.window.rise in
    let low : smallest s.window ≤ s.window.next = unfold smallest in f.1 in
    let e : smallest (invoked xs s.window) ≡ smallest s.window = unfold invoked smallest in (first_snoc s.window.outstanding s.window.next xs) in
    let sent = alone (submit_of (with_window (invoked xs s.window) s) s.window.next xs)
    (submit_obeys (with_window (invoked xs s.window) s) s.window.next xs k.client small (rw e low) (rw e near) t) in
    record { state = record { client = k.client; window = invoked_kept s.window xs k.window t l h }; frames = sent }

pub invoke_good : (s : Session) (asked : List Asked) (out : ℕ) → SessionKept s → SessionGood (invoke s asked out)
unfolding invoke
invoke_good s asked out k = by SessionGood _ (λ t. refuse_good 11 s k) (λ t. meant_good s (all_meant asked) k)

again_good : (s : Session) (number : ℕ) (o : Option (List Operation)) → operations_of number s.window.outstanding ≡ o → SessionKept s → SessionGood (send_again s number o)
unfolding send_again taken
again_good s number none e k = refuse_good 7 s k
again_good s number (some xs) e k =
    let w = kept_waits 0 number s.window.outstanding s.window.next xs k.window.rise e in
    let sent = alone (submit_of s number xs)
    (submit_obeys s number xs k.client (omega (arith, w.less, k.window.numbers)) (unfold smallest in w.least) (omega (arith, w.less, k.window.window)) w.ok) in
    record { state = k; frames = sent }

pub retry_good : (s : Session) (number out : ℕ) → SessionKept s → SessionGood (retry s number out)
unfolding retry
retry_good s number out k = by SessionGood _ (λ t. refuse_good 11 s k) (λ t. again_good s number (operations_of number s.window.outstanding) refl k)

-- ---- Response

abbrev R : Reply → Type 0
R r = SessionKept r.session

decline_kept : (number : ℕ) (s : Session) → SessionKept s → R (decline number s)
unfolding decline
decline_kept number s k = k

over_kept : (s : Session) (number : ℕ) (rs : List Read) (o : Option (List Operation)) → SessionKept s → R (hand_over s number rs o)
unfolding hand_over with_window
over_kept s number rs none k = decline_kept 7 s k
over_kept s number rs (some xs) k = by R _ (λ t. decline_kept 8 s k) (λ t. record { client = k.client; window = answered_kept s.window number k.window })

frame_kept : (s : Session) (f : Frame) → SessionKept s → R (frame_step s f)
unfolding frame_step
frame_kept s (submit w ack) k = decline_kept 2 s k
frame_kept s (forward ind w ack) k = decline_kept 2 s k
frame_kept s (shard_append j ind sn xs) k = decline_kept 2 s k
frame_kept s (exec_notif j ind rs) k = decline_kept 2 s k
frame_kept s (executed ind rs) k = decline_kept 2 s k
frame_kept s (response client number rs) k = by R _ (λ t. over_kept s number rs (operations_of number s.window.outstanding) k) (λ t. decline_kept 2 s k)

read_kept : (s : Session) (o : Option Frame) → SessionKept s → R (read_step s o)
unfolding read_step
read_kept s none k = decline_kept 1 s k
read_kept s (some f) k = frame_kept s f k

pub step_good : (s : Session) (bytes : List ℕ) → SessionKept s → SessionKept (step s bytes).session
unfolding step
step_good s bytes k = by R _ (λ t. decline_kept 11 s k) (λ t. read_kept s (decode bytes) k)
