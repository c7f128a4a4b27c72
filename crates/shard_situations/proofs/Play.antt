-- Situations E and G, computed from what start and step promise.
-- Assumes nothing.
use mathlib.Core.Path.{◌≡◌, refl, ap, ◌∙◌}
use mathlib.Core.List.{List, [], ◌∷◌, ◌++◌}
use Prim.Native.Nat.{ℕ}
use lib.ListN.{length, drop}
use Rattle.std.specs.Prelude.{Result, Ok, Err, true, is_ok}
use Rattle.refusal.specs.declared.Refusal.{Refusal}
use Rattle.refusal.specs.Number.{answer_of}
use Rattle.refusal.proofs.Tells.{number_not_done}
use Rattle.shard.specs.declared.Shard.{Shard}
use Rattle.shard.specs.Model.{Started, Stepped, shown_start, shown, start_of, step_of, out_of}
use Rattle.shard.specs.Computing.{computing}
use Rattle.shard_situations.specs.Expected.{answers_e, sent_g, put_at, put_and_get}

-- ---- A fresh group

started : (r : Result (Unit {0}) Refusal) → answer_of r ≡ 0 → is_ok r ≡ true
started (Ok x) e = refl
started (Err refusal) e = absurd (number_not_done refusal e)

answer_fresh : (start_of 1 1).answer ≡ 0
unfolding computing
answer_fresh = refl

pub fresh_starts : (s : Shard) (r : Result (Unit {0}) Refusal) → shown_start s r ≡ start_of 1 1 → is_ok r ≡ true
fresh_starts s r e = started r (ap (λ (x : Started). x.answer) e ∙ answer_fresh)

abbrev fresh : Shard
fresh = (start_of 1 1).shard

abbrev one : Stepped
one = step_of fresh (put_at 2) 68

abbrev two : Stepped
two = step_of one.shard (put_at 1) 68

abbrev three : Stepped
three = step_of two.shard (put_at 1) 68

answers_E : one.answer ∷ two.answer ∷ three.answer ∷ [] ≡ answers_e
unfolding computing
answers_E = refl

-- three steps from a fresh group, each with an out area of 68 bytes
pub played_E : (s t u w : Shard) (a b c : Result ℕ Refusal) (k l : ℕ) → s ≡ fresh → shown t a ≡ step_of s (put_at 2) 68 → shown u b ≡ step_of t (put_at 1) k
    → shown w c ≡ step_of u (put_at 1) l → k ≡ 68 → l ≡ 68 → answer_of a ∷ answer_of b ∷ answer_of c ∷ [] ≡ answers_e
played_E s t u w a b c k l p q r v e f =
    let a₁ : shown t a ≡ one = q ∙ ap (λ (x : Shard). step_of x (put_at 2) 68) p in
    let b₁ : shown u b ≡ two = r ∙ (λ i. step_of (a₁ i).shard (put_at 1) (e i)) in
    let c₁ : shown w c ≡ three = v ∙ (λ i. step_of (b₁ i).shard (put_at 1) (f i)) in
    (λ i. (a₁ i).answer ∷ (b₁ i).answer ∷ (c₁ i).answer ∷ []) ∙ answers_E

answer_G : (step_of fresh put_and_get 68).answer ≡ 0
unfolding computing
answer_G = refl

sent_G : (out : List ℕ) → length out ≡ 68 → out_of fresh put_and_get out ≡ sent_g ++ drop 14 out
unfolding computing
sent_G out e = rw e

-- one step of a fresh group
pub played_G : (s t : Shard) (a : Result ℕ Refusal) (out left : List ℕ) → s ≡ fresh → length out ≡ 68
    → (shown t a ≡ step_of s put_and_get (length out)) × (left ≡ out_of s put_and_get out) → (answer_of a ≡ 0) × (left ≡ sent_g ++ drop 14 out)
played_G s t a out left p e q = (
  ap (λ (x : Stepped). x.answer) (q.0 ∙ (λ i. step_of (p i) put_and_get (e i))) ∙ answer_G,
  q.1 ∙ ap (λ (x : Shard). out_of x put_and_get out) p ∙ sent_G out e,
)
