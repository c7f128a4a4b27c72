-- Under Held a window's methods mean the rules' window, and Held is what a fresh window has and every method keeps: a number is looked
-- for where it would stand, and of two numbers with one slot at most one is outstanding.
-- Assumes nothing.
use mathlib.Core.Path.{◌≡◌, refl, sym, ap, ◌∙◌}
use mathlib.Core.Bool.{true, false, not}
use mathlib.Core.Logic.{◌⊎◌, inl, inr, ⊎_elim}
use mathlib.Core.List.{List, ◌∷◌}
use mathlib.Core.Option.{none, some}
use Prim.Native.Nat.{ℕ, zero, suc, ◌+◌, ◌-◌, ◌%◌, ◌≤◌, ◌<◌}
use native.Mathlib.Numerals.{add-one}
use native.Mathlib.Omega.{arith}
use lib.Dec.{T, leb, eqb, leb→le, le→leb, nleb→lt, eqb→eq, eqb_refl, T_not, not_T}
use lib.ListN.{length, get_or, set, length-set, get_or-replicate}
use lib.Seq.{get_or-set_same, get_or-set_other}
use Rattle.rules.specs.Lists.{If◌then◌else◌, snoc}
use Rattle.rules.specs.Transactions.{Operation}
use Rattle.rules.specs.Frames.{ok_operations}
use Rattle.rules.specs.Session as R
use Rattle.rules.specs.Kept.{Rise, WindowKept}
use Rattle.rules.proofs.Lists.{by, if_yes, if_no, and, and_l, and_r, T_true, T_false, either}
use Rattle.frames.specs.View.{operations_of}
use Rattle.window.specs.declared.Slot.{Slot}
use Rattle.window.specs.declared.Window.{Window}
use Rattle.window.specs.Model.{free, no_slot, fresh_window, waits, slot_of, is_outstanding, oldest, span, first_from, smallest_of, kept_of, storing, answered_of}
use Rattle.window.specs.View.{outstanding_of, outstanding_from, view_window, slot_for, Waiting, Held}
use Rattle.window.proofs.Items.{items_back, some_operations}

-- ---- The smallest outstanding number

first_means : (slots : List Slot) (number more : ℕ) → R.first_of (outstanding_from slots number more) (number + more) ≡ first_from slots number more
unfolding outstanding_of If◌then◌else◌
first_means slots number zero = omega arith
first_means slots number (suc more) =
    let next : suc number + more ≡ number + suc more = omega arith in
    either (is_outstanding slots number)
    (λ t. rw (T_true (is_outstanding slots number) t))
    (λ t. rw (T_false (is_outstanding slots number) t, ← next) (first_means slots (suc number) more))

pub smallest_means : (w : Window) → R.smallest (view_window w) ≡ smallest_of w
unfolding R.smallest view_window smallest_of
smallest_means w =
    let e : oldest w.next + span w.next ≡ w.next = omega arith in
    rw e at (first_means w.slots (oldest w.next) (span w.next))

-- no outstanding number of a range is below the one found first, which is in the range or behind it
first_range : (slots : List Slot) (number more : ℕ) → (number ≤ first_from slots number more) × (first_from slots number more ≤ number + more)
unfolding If◌then◌else◌
first_range slots number zero = (omega arith, omega arith)
first_range slots number (suc more) =
    let h = first_range slots (suc number) more in
    either (is_outstanding slots number)
    (λ t. rw (T_true (is_outstanding slots number) t) (omega arith, omega arith))
    (λ t. rw (T_false (is_outstanding slots number) t) (omega (arith, h.0), omega (arith, h.1)))

pub smallest_range : (w : Window) → (oldest w.next ≤ smallest_of w) × (smallest_of w ≤ w.next)
unfolding smallest_of
smallest_range w = let r = first_range w.slots (oldest w.next) (span w.next) in (r.0, omega (arith, r.1))

pub smallest_below : (w : Window) → smallest_of w ≤ w.next
smallest_below w = (smallest_range w).1

first_least : (slots : List Slot) (number more k : ℕ) → number ≤ k → k < number + more → T (is_outstanding slots k) → first_from slots number more ≤ k
unfolding If◌then◌else◌
first_least slots number zero k l u t = absurd (omega arith)
first_least slots number (suc more) k l u t =
    either (is_outstanding slots number)
    (λ y. rw (T_true (is_outstanding slots number) y) l)
    (λ n.
    let other : number ≡ k → ⊥ = λ e. T_not (is_outstanding slots k) (rw e at n) t in
    rw (T_false (is_outstanding slots number) n) (first_least slots (suc number) more k (omega (arith, other)) (omega arith) t))

-- ---- An outstanding number

-- a free slot has no number outstanding
free_waits : (number : ℕ) → T (waits free number) → ⊥
free_waits number t = and_r (eqb 0 number) false t

-- the slot of an outstanding number has this number
outstanding_here : (slots : List Slot) (number : ℕ) → T (is_outstanding slots number) → (slot_of slots number).number ≡ number
unfolding is_outstanding
outstanding_here slots number t =
    eqb→eq (slot_of slots number).number number (and_l (eqb (slot_of slots number).number number) (leb 1 (slot_of slots number).count) t)

outstanding_waits : (w : Window) (number : ℕ) → Held w → T (is_outstanding w.slots number) → Waiting w.next (number % 8) (slot_of w.slots number)
unfolding is_outstanding
outstanding_waits w number h t =
    ⊎_elim (λ e. absurd (free_waits number (rw e at t))) (λ x. x) (h.each number)

-- it is one of the last 8
outstanding_range : (w : Window) (number : ℕ) → Held w → T (is_outstanding w.slots number) → (oldest w.next ≤ number) × (number < w.next)
outstanding_range w number h t =
    let x = outstanding_waits w number h t in
    let e = outstanding_here w.slots number t in
    (omega (arith, x.old, e), omega (arith, x.young, e))

-- ---- The kept operations

operations_means : (slots : List Slot) (number more k : ℕ) → (T (is_outstanding slots k) → (number ≤ k) × (k < number + more)) →
    R.operations_of k (outstanding_from slots number more) ≡ (If is_outstanding slots k then some (outstanding_of slots k).operations else none)
unfolding If◌then◌else◌ outstanding_of
operations_means slots number zero k h =
    either (is_outstanding slots k) (λ t. absurd (omega (arith, (h t).0, (h t).1))) (λ t. rw (T_false (is_outstanding slots k) t))
operations_means slots number (suc more) k h =
    either (is_outstanding slots number)
    (λ y.
    rw (T_true (is_outstanding slots number) y)
    (either (eqb number k)
    (λ e. let same : number ≡ k = eqb→eq number k e in rw (T_true (eqb number k) e, ← same, T_true (is_outstanding slots number) y))
    (λ e.
    let other : number ≡ k → ⊥ = λ q. T_not (eqb number k) e (rw (← q) (eqb_refl number)) in
    rw (T_false (eqb number k) e) (operations_means slots (suc number) more k (λ t. let r = h t in (omega (arith, other), omega arith))))))
    (λ n.
    rw (T_false (is_outstanding slots number) n)
    (operations_means slots (suc number) more k
    (λ t.
    let r = h t in
    let other : number ≡ k → ⊥ = λ q. T_not (is_outstanding slots number) n (rw q t) in
    (omega (arith, other), omega arith))))

kept_found : (w : Window) (number : ℕ) → Held w →
    R.operations_of number (view_window w).outstanding ≡ (If is_outstanding w.slots number then some (outstanding_of w.slots number).operations else none)
unfolding view_window
kept_found w number h =
    operations_means w.slots (oldest w.next) (span w.next) number (λ t. let r = outstanding_range w number h t in (r.0, omega (arith, r.1)))

-- the slot of an outstanding number has its operations as the rules keep them ..
pub record KeptHere (w : Window) (number : ℕ) : Type 0 where
  pub operations : List Operation
  pub ok : T (ok_operations operations)
  pub slot : kept_of w number ≡ slot_for number operations
  pub are : R.operations_of number (view_window w).outstanding ≡ some operations

-- .. and of any other number the rules keep nothing
pub record KeptNowhere (w : Window) (number : ℕ) : Type 0 where
  pub slot : kept_of w number ≡ free
  pub are : R.operations_of number (view_window w).outstanding ≡ none

waiting_operations : (next i : ℕ) (s : Slot) (x : Waiting next i s) → operations_of s.count s.items ≡ x.operations
unfolding slot_for
waiting_operations next i s x = ap (λ (y : Slot). operations_of y.count y.items) x.is ∙ items_back x.operations x.ok

pub kept_means : (w : Window) (number : ℕ) → Held w → KeptHere w number ⊎ KeptNowhere w number
unfolding kept_of outstanding_of
kept_means w number h =
    let found = kept_found w number h in
    either (is_outstanding w.slots number)
    (λ t.
    let x = outstanding_waits w number h t in
    let e : (slot_of w.slots number).number ≡ number = outstanding_here w.slots number t in
    inl
    (record {
      operations = x.operations;
      ok = x.ok;
      slot = if_yes (is_outstanding w.slots number) _ _ t ∙ x.is ∙ ap (λ (k : ℕ). slot_for k x.operations) e;
      are = found ∙ if_yes (is_outstanding w.slots number) _ _ t ∙ ap some (waiting_operations w.next (number % 8) (slot_of w.slots number) x);
    }))
    (λ t. inr (record { slot = if_no (is_outstanding w.slots number) _ _ t; are = found ∙ if_no (is_outstanding w.slots number) _ _ t }))

-- ---- A number answered

module _ (slots : List Slot) (k : ℕ) (eight : length slots ≡ 8) where
  -- what stands in the slot of a number that is stored to
  stored_here : (s : Slot) → slot_of (set slots (k % 8) s) k ≡ s
  stored_here s = get_or-set_same slots (k % 8) s _ (omega arith)

  stored_near : (s : Slot) (number : ℕ) → number % 8 ≡ k % 8 → slot_of (set slots (k % 8) s) number ≡ s
  stored_near s number e = rw e (stored_here s)

  stored_far : (s : Slot) (number : ℕ) → (number % 8 ≡ k % 8 → ⊥) → slot_of (set slots (k % 8) s) number ≡ slot_of slots number
  stored_far s number d = get_or-set_other slots (k % 8) (number % 8) s _ d

-- a number is outstanding, and with which operations, by what stands in its slot
same_outstanding : (slots others : List Slot) (number : ℕ) → slot_of slots number ≡ slot_of others number → is_outstanding slots number ≡ is_outstanding others number
unfolding is_outstanding
same_outstanding slots others number e = ap (λ (s : Slot). waits s number) e

same_operations_lem : (slots others : List Slot) (number : ℕ) → slot_of slots number ≡ slot_of others number → outstanding_of slots number ≡ outstanding_of others number
unfolding outstanding_of
same_operations_lem slots others number e = ap (λ (s : Slot). record { number = number; operations = operations_of s.count s.items }) e

pub free_outstanding : (slots : List Slot) (number : ℕ) → slot_of slots number ≡ free → T (not (is_outstanding slots number))
unfolding is_outstanding
free_outstanding slots number e = not_T (waits (slot_of slots number) number) (λ t. free_waits number (rw e at t))

-- of two numbers with one slot, one is not outstanding
only_one : (slots : List Slot) (number k : ℕ) → number % 8 ≡ k % 8 → (number ≡ k → ⊥) → T (is_outstanding slots k) → T (not (is_outstanding slots number))
only_one slots number k e d t =
    not_T (is_outstanding slots number) (λ y.
    let here : (slot_of slots number).number ≡ (slot_of slots k).number = ap (λ (i : ℕ). (get_or slots i no_slot).number) e in
    d (sym (outstanding_here slots number y) ∙ here ∙ outstanding_here slots k t))

without_none : (slots : List Slot) (k number more : ℕ) → T (not (is_outstanding slots k)) → R.without k (outstanding_from slots number more) ≡ outstanding_from slots number more
unfolding If◌then◌else◌ outstanding_of
without_none slots k number zero n = refl
without_none slots k number (suc more) n =
    let rest = without_none slots k (suc number) more n in
    either (is_outstanding slots number)
    (λ y.
    let other : eqb number k ≡ false = T_false (eqb number k) (not_T (eqb number k) (λ e. let same : number ≡ k = eqb→eq number k e in T_not (is_outstanding slots k) n (rw same at y))) in
    rw (T_true (is_outstanding slots number) y, other, rest))
    (λ y. rw (T_false (is_outstanding slots number) y) rest)

module _ (slots : List Slot) (k : ℕ) (eight : length slots ≡ 8) (t : T (is_outstanding slots k)) where
  without_one : (number more : ℕ) → R.without k (outstanding_from slots number more) ≡ outstanding_from (set slots (k % 8) free) number more
  unfolding If◌then◌else◌ outstanding_of
  without_one number zero = refl
  without_one number (suc more) =
      let rest = without_one (suc number) more in
      let gone : List Slot = set slots (k % 8) free in
      either (eqb number k)
      (λ e.
      let same : number ≡ k = eqb→eq number k e in
      let was : is_outstanding slots number ≡ true = T_true (is_outstanding slots number) (rw same t) in
      let is : is_outstanding gone number ≡ false = T_false (is_outstanding gone number) (free_outstanding gone number (rw same (stored_here slots k eight free))) in
      rw (was, is, T_true (eqb number k) e) rest)
      (λ e.
      let other : number ≡ k → ⊥ = λ q. T_not (eqb number k) e (rw (← q) (eqb_refl number)) in
      either (eqb (number % 8) (k % 8))
      (λ n.
      let near : number % 8 ≡ k % 8 = eqb→eq (number % 8) (k % 8) n in
      let was : is_outstanding slots number ≡ false = T_false (is_outstanding slots number) (only_one slots number k near other t) in
      let is : is_outstanding gone number ≡ false = T_false (is_outstanding gone number) (free_outstanding gone number (stored_near slots k eight free number near)) in
      rw (was, is) rest)
      (λ n.
      let far = stored_far slots k eight free number (λ q. T_not (eqb (number % 8) (k % 8)) n (rw (← q) (eqb_refl (number % 8)))) in
      let is : is_outstanding gone number ≡ is_outstanding slots number = same_outstanding gone slots number far in
      let ops : outstanding_of gone number ≡ outstanding_of slots number = same_operations_lem gone slots number far in
      either (is_outstanding slots number)
      (λ y. rw (is, T_true (is_outstanding slots number) y, T_false (eqb number k) e, ops, rest))
      (λ y. rw (is, T_false (is_outstanding slots number) y) rest)))

pub answered_means : (w : Window) (number : ℕ) → Held w → view_window (answered_of w number) ≡ R.answered number (view_window w)
unfolding view_window answered_of R.answered storing
answered_means w number h =
    by (λ (v : Window). record { next = v.next; outstanding = outstanding_from v.slots (oldest v.next) (span v.next) } ≡ R.answered number (view_window w))
    (is_outstanding w.slots number)
    (λ t. ap (λ (os : List R.Outstanding). record { next = w.next; outstanding = os }) (sym (without_one w.slots number h.eight t (oldest w.next) (span w.next))))
    (λ t. ap (λ (os : List R.Outstanding). record { next = w.next; outstanding = os }) (sym (without_none w.slots number (oldest w.next) (span w.next) t)))

-- ---- A number invoked

-- numbers of which none is outstanding may be left out at the front
skip_one : (slots : List Slot) (number more : ℕ) → T (not (is_outstanding slots number)) → outstanding_from slots number (suc more) ≡ outstanding_from slots (suc number) more
skip_one slots number more n = if_no (is_outstanding slots number) _ _ n

module _ (slots : List Slot) (next : ℕ) (os : List Operation) (eight : length slots ≡ 8) (t : T (ok_operations os)) where
  -- the slot that the next number takes
  new_outstanding : T (is_outstanding (set slots (next % 8) (slot_for next os)) next)
  unfolding is_outstanding slot_for
  new_outstanding = rw (stored_here slots next eight (slot_for next os)) (and (eqb next next) (leb 1 (length os)) (eqb_refl next) (le→leb 1 (length os) (some_operations os t).0))

  new_operations : outstanding_of (set slots (next % 8) (slot_for next os)) next ≡ record { number = next; operations = os }
  unfolding outstanding_of slot_for
  new_operations = rw (stored_here slots next eight (slot_for next os)) (λ i. record { number = next; operations = items_back os t i })

  -- behind the outstanding ones of the 7 numbers before it
  invoked_last : (number more : ℕ) → number + more ≡ next → next ≤ number + 7 →
      outstanding_from (set slots (next % 8) (slot_for next os)) number (suc more) ≡ snoc (outstanding_from slots number more) (record { number = next; operations = os })
  unfolding If◌then◌else◌
  invoked_last number zero e h =
      let same : number ≡ next = omega arith in
      rw (same, T_true (is_outstanding (set slots (next % 8) (slot_for next os)) next) new_outstanding, new_operations)
  invoked_last number (suc more) e h =
      let rest = invoked_last (suc number) more (omega arith) (omega arith) in
      let new : List Slot = set slots (next % 8) (slot_for next os) in
      let far = stored_far slots next eight (slot_for next os) number (λ q. omega arith) in
      let is : is_outstanding new number ≡ is_outstanding slots number = same_outstanding new slots number far in
      let ops : outstanding_of new number ≡ outstanding_of slots number = same_operations_lem new slots number far in
      either (is_outstanding slots number)
      (λ y. rw (is, T_true (is_outstanding slots number) y, ops) (ap (λ (l : List R.Outstanding). outstanding_of slots number ∷ l) rest))
      (λ y. rw (is, T_false (is_outstanding slots number) y) rest)

-- refusal 9 is not given: the number 8 before the next one is not outstanding
oldest_free : (w : Window) → w.next < smallest_of w + 8 → 8 ≤ w.next → T (not (is_outstanding w.slots (oldest w.next)))
unfolding smallest_of
oldest_free w h l =
    not_T (is_outstanding w.slots (oldest w.next))
    (λ t. let f = first_least w.slots (oldest w.next) (span w.next) (oldest w.next) (omega arith) (omega arith) t in omega (arith, f))

-- the window reaches one number further
reach_on : (w : Window) → w.next < smallest_of w + 8 →
    outstanding_from w.slots (oldest w.next) (span w.next) ≡ outstanding_from w.slots (oldest (w.next + 1)) (w.next - oldest (w.next + 1))
reach_on w h =
    either (leb 8 w.next)
    (λ l.
    let low : 8 ≤ w.next = leb→le 8 w.next l in
    let a : oldest (w.next + 1) ≡ suc (oldest w.next) = omega arith in
    let b : span w.next ≡ suc (w.next - oldest (w.next + 1)) = omega arith in
    rw (b, a) (skip_one w.slots (oldest w.next) (w.next - suc (oldest w.next)) (oldest_free w h low)))
    (λ l.
    let low : w.next < 8 = nleb→lt 8 w.next l in
    let a : oldest w.next ≡ 0 = omega arith in
    let b : oldest (w.next + 1) ≡ 0 = omega arith in
    rw (a, b))

pub invoked_means : (w : Window) (os : List Operation) → Held w → T (ok_operations os) → w.next < smallest_of w + 8 →
    view_window (storing w.next (slot_for w.next os) (w.next + 1) w) ≡ R.invoked os (view_window w)
unfolding view_window storing R.invoked
invoked_means w os h t f =
    let e : span (w.next + 1) ≡ suc (w.next - oldest (w.next + 1)) = omega arith in
    let l = invoked_last w.slots w.next os h.eight t (oldest (w.next + 1)) (w.next - oldest (w.next + 1)) (omega arith) (omega arith) in
    λ i.
    record {
      next = add-one w.next i;
      outstanding = (ap (outstanding_from (set w.slots (w.next % 8) (slot_for w.next os)) (oldest (w.next + 1))) e ∙ l
          ∙ ap (λ (x : List R.Outstanding). snoc x (record { number = w.next; operations = os })) (sym (reach_on w f))) i;
    }

-- ---- Held

fresh_slot : (number : ℕ) → slot_of fresh_window.slots number ≡ free
unfolding fresh_window
fresh_slot number = get_or-replicate 8 (number % 8) free no_slot (omega arith)

pub fresh_held : Held fresh_window
unfolding fresh_window
fresh_held = record { eight = refl; numbers = omega arith; each = λ number. inl (fresh_slot number) }

pub fresh_means : view_window fresh_window ≡ R.empty_window
unfolding view_window fresh_window
fresh_means = refl

-- a slot that is stored to has what is stored, every other one what it had
stored_each : (P : Slot → ℕ → Type 0) (slots : List Slot) (k : ℕ) (s : Slot) → length slots ≡ 8 → P s (k % 8) → ((number : ℕ) → P (slot_of slots number) (number % 8)) →
    (number : ℕ) → P (slot_of (set slots (k % 8) s) number) (number % 8)
stored_each P slots k s eight p each number =
    either (eqb (number % 8) (k % 8))
    (λ n. let near : number % 8 ≡ k % 8 = eqb→eq (number % 8) (k % 8) n in rw (near, stored_here slots k eight s) p)
    (λ n.
    let far = stored_far slots k eight s number (λ q. T_not (eqb (number % 8) (k % 8)) n (rw (← q) (eqb_refl (number % 8)))) in
    rw far (each number))

pub answered_held : (w : Window) (number : ℕ) → Held w → Held (answered_of w number)
unfolding answered_of storing
answered_held w number h =
    by Held (is_outstanding w.slots number)
    (λ t.
    record {
      eight = length-set w.slots (number % 8) free ∙ h.eight;
      numbers = h.numbers;
      each = stored_each (λ s i. (s ≡ free) ⊎ Waiting w.next i s) w.slots number free h.eight (inl refl) h.each;
    })
    (λ t. h)

-- what waits in a slot is outstanding
pub waiting_outstanding : (slots : List Slot) (next number : ℕ) → Waiting next (number % 8) (slot_of slots number) → T (is_outstanding slots (slot_of slots number).number)
unfolding is_outstanding slot_for
waiting_outstanding slots next number x =
    let s : Slot = slot_of slots number in
    let here : slot_of slots s.number ≡ s = ap (λ (i : ℕ). get_or slots i no_slot) x.place in
    let many : s.count ≡ length x.operations = ap (λ (y : Slot). y.count) x.is in
    let some : 1 ≤ s.count = omega (arith, many, (some_operations x.operations x.ok).0) in
    rw here (and (eqb s.number s.number) (leb 1 s.count) (eqb_refl s.number) (le→leb 1 s.count some))

waiting_least : (w : Window) (number : ℕ) → Waiting w.next (number % 8) (slot_of w.slots number) → smallest_of w ≤ (slot_of w.slots number).number
unfolding smallest_of
waiting_least w number x =
    first_least w.slots (oldest w.next) (span w.next) (slot_of w.slots number).number (omega (arith, x.old)) (omega (arith, x.young))
    (waiting_outstanding w.slots w.next number x)

pub invoked_held : (w : Window) (os : List Operation) → Held w → T (ok_operations os) → w.next < 65535 → w.next < smallest_of w + 8 →
    Held (storing w.next (slot_for w.next os) (w.next + 1) w)
unfolding storing slot_for
invoked_held w os h t n f =
    record {
      eight = length-set w.slots (w.next % 8) (slot_for w.next os) ∙ h.eight;
      numbers = omega arith;
      each =
          stored_each (λ s i. (s ≡ free) ⊎ Waiting (w.next + 1) i s) w.slots w.next (slot_for w.next os) h.eight
          (inr (record { operations = os; ok = t; is = refl; place = refl; old = omega arith; young = omega arith }))
          (λ number. ⊎_elim (λ e. inl e) (λ x. inr (later number x)) (h.each number));
    }
  where
    -- an outstanding number is not 8 before the next one
    later : (number : ℕ) → Waiting w.next (number % 8) (slot_of w.slots number) → Waiting (w.next + 1) (number % 8) (slot_of w.slots number)
    later number x =
        let k : ℕ = (slot_of w.slots number).number in
        let least = waiting_least w number x in
        record { operations = x.operations; ok = x.ok; is = x.is; place = x.place; old = omega (arith, least); young = omega (arith, x.young) }

-- ---- The rules' own window rule

held_operations : (w : Window) (number : ℕ) → Held w → T (is_outstanding w.slots number) → T (ok_operations (outstanding_of w.slots number).operations)
unfolding outstanding_of
held_operations w number h t =
    let x = outstanding_waits w number h t in
    rw (waiting_operations w.next (number % 8) (slot_of w.slots number) x) x.ok

held_rise : (w : Window) → Held w → (low number more : ℕ) → low ≤ number → Rise low (outstanding_from w.slots number more) (number + more)
unfolding If◌then◌else◌ outstanding_of
held_rise w h low number zero l = omega arith
held_rise w h low number (suc more) l =
    let next : suc number + more ≡ number + suc more = omega arith in
    either (is_outstanding w.slots number)
    (λ y. rw (T_true (is_outstanding w.slots number) y) (l, held_operations w number h y, rw next at (held_rise w h (suc number) (suc number) more (omega arith))))
    (λ n. rw (T_false (is_outstanding w.slots number) n, ← next) (held_rise w h low (suc number) more (omega arith)))

pub held_kept : (w : Window) → Held w → WindowKept (view_window w)
unfolding view_window
held_kept w h =
    let e : oldest w.next + span w.next ≡ w.next = omega arith in
    let least = (smallest_range w).0 in
    record {
      rise = rw e at (held_rise w h 0 (oldest w.next) (span w.next) (omega arith));
      window = rw (smallest_means w) (omega (arith, least));
      numbers = h.numbers;
    }
