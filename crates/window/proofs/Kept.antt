-- The list that is kept of a number, by the slot in which it would wait.
-- Assumes nothing.
use mathlib.Core.Path.{◌≡◌, refl, ap, ◌∙◌}
use mathlib.Core.Bool.{Bool, true, false, ◌&&◌}
use Prim.Native.Nat.{ℕ}
use lib.Dec.{T, eqb→eq, leb, ltb, eqb, leb→le, nleb→lt}
use borrow.Author.Tests.{lt-ltb, le-ltb}
use Rattle.std.proofs.Common.{Option, Some, None}
use Rattle.rules.specs.Lists.{If◌then◌else◌}
use Rattle.rules.proofs.Lists.{if_yes, if_no, and_l, and_r, T_true, either}
use Rattle.frames.specs.declared.Items.{Items}
use Rattle.window.specs.declared.Slot.{Slot}
use Rattle.window.specs.declared.Window.{Window}
use Rattle.window.specs.Model.{free, waits, slot_of, is_outstanding, kept_of, list_in}

module _ (w : Window) (number : ℕ) (s : Slot) (e : s ≡ slot_of w.slots number) where
  pub kept_some : waits s number ≡ true → Some (record { count = s.count; items = s.items }) ≡ list_in (kept_of w number)
  unfolding kept_of is_outstanding list_in If◌then◌else◌
  kept_some h =
      let t : T (eqb s.number number && leb 1 s.count) = rw h tt in
      rw (← e, h, T_true (leb 1 s.count) (and_r (eqb s.number number) (leb 1 s.count) t))

  pub kept_none : waits s number ≡ false → None ≡ list_in (kept_of w number)
  unfolding kept_of is_outstanding list_in If◌then◌else◌
  kept_none h = rw (← e, h)

-- ---- What the list says of the slot

pub list_none : (s : Slot) → None ≡ list_in s → ltb s.count 1 ≡ true
unfolding list_in
list_none s e =
    either (leb 1 s.count)
    (λ t. let d : None ≡ Some (record { count = s.count; items = s.items }) = e ∙ if_yes (leb 1 s.count) _ _ t in cc)
    (λ t. lt-ltb s.count 1 (nleb→lt 1 s.count t))

pub list_some : (s : Slot) (list : Items) → Some list ≡ list_in s → (ltb s.count 1 ≡ false) × (list.count ≡ s.count) × (list.items ≡ s.items)
unfolding list_in
list_some s list e =
    either (leb 1 s.count)
    (λ t.
    let d : Some list ≡ Some (record { count = s.count; items = s.items }) = e ∙ if_yes (leb 1 s.count) _ _ t in
    let same : list ≡ record { count = s.count; items = s.items } = cc in
    (le-ltb s.count 1 (leb→le 1 s.count t), ap (λ (x : Items). x.count) same, ap (λ (x : Items). x.items) same))
    (λ t. let d : Some list ≡ None = e ∙ if_no (leb 1 s.count) _ _ t in cc)

-- ---- What is kept of a number tells the slot: none a free one, a list the slot with this number

abbrev pub slot_with : ℕ → Option Items → Slot
slot_with number None = free
slot_with number (Some list) = record { number = number; count = list.count; items = list.items }

pub kept_told : (w : Window) (number : ℕ) → kept_of w number ≡ slot_with number (list_in (kept_of w number))
unfolding kept_of is_outstanding If◌then◌else◌
kept_told w number = go (is_outstanding w.slots number) refl
  where
    go : (b : Bool) → is_outstanding w.slots number ≡ b → kept_of w number ≡ slot_with number (list_in (kept_of w number))
    go true h =
        let named : (slot_of w.slots number).number ≡ number = eqb→eq _ _ (and_l (eqb (slot_of w.slots number).number number) (leb 1 (slot_of w.slots number).count) (rw h tt)) in
        let kept : kept_of w number ≡ slot_of w.slots number = rw h in
        kept
        ∙ (λ i. record { number = named i; count = (slot_of w.slots number).count; items = (slot_of w.slots number).items })
        ∙ ap (slot_with number) (kept_some w number (slot_of w.slots number) refl h)
    go false h =
        let kept : kept_of w number ≡ free = rw h in
        kept ∙ ap (slot_with number) (kept_none w number (slot_of w.slots number) refl h)
