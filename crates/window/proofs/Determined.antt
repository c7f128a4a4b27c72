-- A window is determined by what it means: two windows that are held and mean the same are the same, slot by slot.
-- Assumes nothing.
use mathlib.Core.Path.{◌≡◌, sym, ap, ◌∙◌}
use mathlib.Core.Logic.{⊎_elim}
use mathlib.Core.Option.{some}
use Prim.Native.Nat.{ℕ, ◌%◌, ◌<◌}
use native.Mathlib.Nat.{mod-eq_of_lt}
use native.Mathlib.Omega.{arith}
use lib.Dec.{T_not}
use lib.ListN.{get_or}
use lib.Seq.{ext_get_or}
use Rattle.rules.specs.Session as R
use Rattle.rules.proofs.Lists.{either, if_yes, if_no, nothing}
use Rattle.window.specs.declared.Window.{Window}
use Rattle.window.specs.Model.{free, no_slot, slot_of, is_outstanding, kept_of}
use Rattle.window.specs.View.{view_window, slot_for, Waiting, Held}
use Rattle.window.proofs.Means.{free_outstanding, waiting_outstanding, KeptHere, kept_means}

module _ (w v : Window) (h : Held w) (k : Held v) (e : view_window w ≡ view_window v) where
  -- the rules keep the same operations of a number, or none
  told : (number : ℕ) → R.operations_of number (view_window w).outstanding ≡ R.operations_of number (view_window v).outstanding
  told number = ap (λ (x : R.Window). R.operations_of number x.outstanding) e

  -- so each number's kept slot is the same
  kept_alike : (number : ℕ) → kept_of w number ≡ kept_of v number
  kept_alike number =
      ⊎_elim (λ a. ⊎_elim (λ b. here a b) (λ b. nothing (sym b.are ∙ sym (told number) ∙ a.are)) (kept_means v number k))
      (λ a. ⊎_elim (λ b. nothing (sym a.are ∙ told number ∙ b.are)) (λ b. a.slot ∙ sym b.slot) (kept_means v number k))
      (kept_means w number h)
    where
      here : KeptHere w number → KeptHere v number → kept_of w number ≡ kept_of v number
      here a b =
          let s : some a.operations ≡ some b.operations = sym a.are ∙ told number ∙ b.are in
          let same : a.operations ≡ b.operations = cc in
          a.slot ∙ ap (slot_for number) same ∙ sym b.slot

-- a slot in which a number waits is the other window's, where each number's kept slot is the same
waiting_alike : (w v : Window) → ((number : ℕ) → kept_of w number ≡ kept_of v number) → (number : ℕ) → Waiting w.next (number % 8) (slot_of w.slots number)
    → slot_of w.slots number ≡ slot_of v.slots number
unfolding kept_of
waiting_alike w v alike number x =
    let n : ℕ = (slot_of w.slots number).number in
    let t = waiting_outstanding w.slots w.next number x in
    let mine : slot_of w.slots n ≡ slot_of w.slots number = ap (λ (i : ℕ). get_or w.slots i no_slot) x.place in
    let kept : kept_of w n ≡ slot_of w.slots number = if_yes (is_outstanding w.slots n) _ _ t ∙ mine in
    either (is_outstanding v.slots n)
    (λ u. sym kept ∙ alike n ∙ if_yes (is_outstanding v.slots n) _ _ u ∙ ap (λ (i : ℕ). get_or v.slots i no_slot) x.place)
    (λ u.
    let gone : slot_of w.slots n ≡ free = mine ∙ sym kept ∙ alike n ∙ if_no (is_outstanding v.slots n) _ _ u in
    absurd (T_not (is_outstanding w.slots n) (free_outstanding w.slots n gone) t))

pub determined : (w v : Window) → Held w → Held v → view_window w ≡ view_window v → w ≡ v
unfolding view_window
determined w v h k e = λ i. record { next = (e i).next; slots = slots i }
  where
    alike : (number : ℕ) → kept_of w number ≡ kept_of v number
    alike = kept_alike w v h k e

    slot : (number : ℕ) → slot_of w.slots number ≡ slot_of v.slots number
    slot number =
        ⊎_elim (λ a. ⊎_elim (λ b. a ∙ sym b) (λ y. sym (waiting_alike v w (λ m. sym (alike m)) number y)) (k.each number))
        (λ x. waiting_alike w v alike number x) (h.each number)

    slots : w.slots ≡ v.slots
    slots =
        ext_get_or no_slot w.slots v.slots (h.eight ∙ sym k.eight)
        (λ i l.
        let few : i < 8 = omega (arith, h.eight, l) in
        let m : i % 8 ≡ i = mod-eq_of_lt few in
        ap (λ (j : ℕ). get_or w.slots j no_slot) (sym m) ∙ slot i ∙ ap (λ (j : ℕ). get_or v.slots j no_slot) m)
