-- Situations B, C, D, F and I, computed from what start and step promise.
-- Assumes nothing.
use mathlib.Core.Path.{◌≡◌, refl, ap, ◌∙◌}
use mathlib.Core.List.{List, ◌++◌}
use Prim.Native.Nat.{ℕ}
use lib.ListN.{length, drop, get_or}
use Rattle.std.proofs.Common.{Result, Ok, Err}
use Rattle.refusal.specs.declared.Refusal.{Refusal}
use Rattle.refusal.specs.Number.{answer_of}
use Rattle.entry.specs.declared.Entry.{Entry}
use Rattle.queue.specs.declared.Queue.{Queue}
use Rattle.queue.specs.View.{blank_queue}
use Rattle.send.specs.declared.Sent.{Sent}
use Rattle.board.specs.declared.Board.{Board}
use Rattle.board.specs.Model.{Stepped, shown, blank, start_of, step_of, out_of}
use Rattle.board_situations.specs.declared.SeenD.{SeenD}
use Rattle.board_situations.specs.declared.SeenF.{SeenF}
use Rattle.board_situations.specs.declared.SeenI.{SeenI}
use Rattle.board_situations.specs.Expected.{seen_d, forward_a, seen_f, seen_i, submit_a, forward_at, notif_at, executed_a}
use Rattle.board_situations.specs.Computing.{computing}

-- one more step, with an out area of 68 bytes
abbrev next : Board → List ℕ → Stepped
next b s = step_of b s 68

-- the board and the answer of a step, if its result shows this
stepped : (after : Board) (r : Result Sent Refusal) (a : Stepped) → shown after r ≡ a → (after ≡ a.board) × (answer_of r ≡ a.answer)
stepped after (Ok sent) a e = (ap (λ (x : Stepped). x.board) e, ap (λ (x : Stepped). x.answer) e)
stepped after (Err refusal) a e = (ap (λ (x : Stepped). x.board) e, ap (λ (x : Stepped). x.answer) e)

-- the same, if it is known on which board
on : (b b' : Board) (s : List ℕ) (k : ℕ) (after : Board) (r : Result Sent Refusal) → shown after r ≡ step_of b s k → b ≡ b' → k ≡ 68
    → (after ≡ (next b' s).board) × (answer_of r ≡ (next b' s).answer)
on b b' s k after r p q e = stepped after r (next b' s) (p ∙ (λ i. step_of (q i) s (e i)))

-- ---- B, C, D

abbrev head : Board
head = (start_of 2 1 1).board

abbrev try_b : Stepped
try_b = next head (submit_a 2 0)

abbrev try_c : Stepped
try_c = next try_b.board (submit_a 1 1)

abbrev once_a : Stepped
once_a = next try_c.board (submit_a 1 0)

abbrev twice_a : Stepped
twice_a = next once_a.board (submit_a 1 0)

abbrev saw_D : ℕ → ℕ → ℕ → ℕ → Board → SeenD
saw_D b c first second board = record { b = b; c = c; first = first; second = second; entries = board.len }

computed_D : saw_D try_b.answer try_c.answer once_a.answer twice_a.answer twice_a.board ≡ seen_d
unfolding computing
computed_D = refl

sent_once : (out : List ℕ) → length out ≡ 68 → out_of try_c.board (submit_a 1 0) out ≡ forward_a ++ drop 18 out
unfolding computing
sent_once out e = rw e

sent_twice : (out : List ℕ) → length out ≡ 68 → out_of once_a.board (submit_a 1 0) out ≡ forward_a ++ drop 18 out
unfolding computing
sent_twice out e = rw e

module _ (b₀ b₁ b₂ b₃ b₄ : Board) (r₁ r₂ r₃ r₄ : Result Sent Refusal) (k l : ℕ) (out left again left' : List ℕ) (fresh : b₀ ≡ head)
    (p : shown b₁ r₁ ≡ step_of b₀ (submit_a 2 0) k) (q : shown b₂ r₂ ≡ step_of b₁ (submit_a 1 1) l) (e : k ≡ 68) (f : l ≡ 68)
    (c : length out ≡ 68) (d : length again ≡ 68)
    (u : (shown b₃ r₃ ≡ step_of b₂ (submit_a 1 0) (length out)) × (left ≡ out_of b₂ (submit_a 1 0) out))
    (v : (shown b₄ r₄ ≡ step_of b₃ (submit_a 1 0) (length again)) × (left' ≡ out_of b₃ (submit_a 1 0) again)) where
  pub played_D : (saw_D (answer_of r₁) (answer_of r₂) (answer_of r₃) (answer_of r₄) b₄ ≡ seen_d) × (left ≡ forward_a ++ drop 18 out) × (left' ≡ forward_a ++ drop 18 again)
  played_D =
      let x₁ = on b₀ head (submit_a 2 0) k b₁ r₁ p fresh e in
      let x₂ = on b₁ try_b.board (submit_a 1 1) l b₂ r₂ q x₁.0 f in
      let x₃ = on b₂ try_c.board (submit_a 1 0) (length out) b₃ r₃ u.0 x₂.0 c in
      let x₄ = on b₃ once_a.board (submit_a 1 0) (length again) b₄ r₄ v.0 x₃.0 d in (
        (λ i. saw_D (x₁.1 i) (x₂.1 i) (x₃.1 i) (x₄.1 i) (x₄.0 i)) ∙ computed_D,
        u.1 ∙ ap (λ (b : Board). out_of b (submit_a 1 0) out) x₂.0 ∙ sent_once out c,
        v.1 ∙ ap (λ (b : Board). out_of b (submit_a 1 0) again) x₃.0 ∙ sent_twice again d,
      )

-- ---- F

abbrev tail : Board
tail = (start_of 2 1 2).board

abbrev with0 : Stepped
with0 = next tail (forward_at 0)

abbrev with1 : Stepped
with1 = next with0.board (forward_at 1)

abbrev with2 : Stepped
with2 = next with1.board (forward_at 2)

abbrev heard2 : Stepped
heard2 = next with2.board (notif_at 2)

abbrev heard0 : Stepped
heard0 = next heard2.board (notif_at 0)

abbrev exe_at : Board → ℕ → Entry
exe_at b ind = get_or b.log ind blank

abbrev first_queue : Board → Queue
first_queue b = get_or b.queues 0 blank_queue

abbrev saw_F : ℕ → Board → ℕ → Board → SeenF
saw_F first d second e =
    record {
      first = first;
      waiting = (first_queue d).len;
      exe0 = (exe_at d 0).exe;
      exe1 = (exe_at d 1).exe;
      exe2 = (exe_at d 2).exe;
      second = second;
      taken = (first_queue e).taken;
    }

computed_F : saw_F heard2.answer heard2.board heard0.answer heard0.board ≡ seen_f
unfolding computing
computed_F = refl

module _ (b₀ b₁ b₂ b₃ b₄ b₅ : Board) (r₁ r₂ r₃ r₄ r₅ : Result Sent Refusal) (k l m n o : ℕ) (fresh : b₀ ≡ tail)
    (p : shown b₁ r₁ ≡ step_of b₀ (forward_at 0) k) (q : shown b₂ r₂ ≡ step_of b₁ (forward_at 1) l) (r : shown b₃ r₃ ≡ step_of b₂ (forward_at 2) m)
    (s : shown b₄ r₄ ≡ step_of b₃ (notif_at 2) n) (t : shown b₅ r₅ ≡ step_of b₄ (notif_at 0) o)
    (k₁ : k ≡ 68) (l₁ : l ≡ 68) (m₁ : m ≡ 68) (n₁ : n ≡ 68) (o₁ : o ≡ 68) where
  pub played_F : saw_F (answer_of r₄) b₄ (answer_of r₅) b₅ ≡ seen_f
  played_F =
      let x₁ = on b₀ tail (forward_at 0) k b₁ r₁ p fresh k₁ in
      let x₂ = on b₁ with0.board (forward_at 1) l b₂ r₂ q x₁.0 l₁ in
      let x₃ = on b₂ with1.board (forward_at 2) m b₃ r₃ r x₂.0 m₁ in
      let x₄ = on b₃ with2.board (notif_at 2) n b₄ r₄ s x₃.0 n₁ in
      let x₅ = on b₄ heard2.board (notif_at 0) o b₅ r₅ t x₄.0 o₁ in
      (λ i. saw_F (x₄.1 i) (x₄.0 i) (x₅.1 i) (x₅.0 i)) ∙ computed_F

-- ---- I

abbrev started_A : Stepped
started_A = next head (submit_a 1 0)

abbrev once : Stepped
once = next started_A.board executed_a

abbrev twice : Stepped
twice = next once.board executed_a

abbrev saw_I : ℕ → ℕ → SeenI
saw_I first second = record { first = first; second = second }

computed_I : saw_I once.answer twice.answer ≡ seen_i
unfolding computing
computed_I = refl

module _ (b₀ b₁ b₂ b₃ : Board) (r₁ r₂ r₃ : Result Sent Refusal) (k l m : ℕ) (fresh : b₀ ≡ head)
    (p : shown b₁ r₁ ≡ step_of b₀ (submit_a 1 0) k) (q : shown b₂ r₂ ≡ step_of b₁ executed_a l) (r : shown b₃ r₃ ≡ step_of b₂ executed_a m)
    (k₁ : k ≡ 68) (l₁ : l ≡ 68) (m₁ : m ≡ 68) where
  pub played_I : saw_I (answer_of r₂) (answer_of r₃) ≡ seen_i
  played_I =
      let x₁ = on b₀ head (submit_a 1 0) k b₁ r₁ p fresh k₁ in
      let x₂ = on b₁ started_A.board executed_a l b₂ r₂ q x₁.0 l₁ in
      let x₃ = on b₂ once.board executed_a m b₃ r₃ r x₂.0 m₁ in
      (λ i. saw_I (x₂.1 i) (x₃.1 i)) ∙ computed_I
