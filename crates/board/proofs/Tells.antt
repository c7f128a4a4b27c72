-- What the result of a start or of a step shows tells it, and the board that it leaves: so the contracts of `start` and of `step` admit one outcome.
-- Assumes nothing.
use mathlib.Core.Path.{◌≡◌, refl, sym, ap, ◌∙◌}
use mathlib.Core.List.{List}
use Prim.Native.Nat.{ℕ}
use lib.ListN.{length}
use Rattle.std.proofs.Common.{Result, Ok, Err}
use Rattle.refusal.specs.declared.Refusal.{Refusal}
use Rattle.refusal.proofs.Tells.{number_tells, number_not_done}
use Rattle.send.specs.declared.Sent.{Sent}
use Rattle.board.specs.declared.Board.{Board}
use Rattle.board.specs.Model.{Started, Stepped, started_of, shown, start_of, step_of, out_of}

pub start_tells : (a b : Board) (q r : Result (Unit {0}) Refusal) → started_of a q ≡ started_of b r → (a ≡ b) × (q ≡ r)
start_tells a b (Ok x) (Ok y) e = (ap (λ (s : Started). s.board) e, refl)
start_tells a b (Ok x) (Err r) e = absurd (number_not_done r (sym (ap (λ (s : Started). s.answer) e)))
start_tells a b (Err q) (Ok y) e = absurd (number_not_done q (ap (λ (s : Started). s.answer) e))
start_tells a b (Err q) (Err r) e = (ap (λ (s : Started). s.board) e, ap (λ (k : Refusal). Err k) (number_tells q r (ap (λ (s : Started). s.answer) e)))

pub step_tells : (a b : Board) (q r : Result Sent Refusal) → shown a q ≡ shown b r → (a ≡ b) × (q ≡ r)
step_tells a b (Ok s) (Ok t) e =
    (ap (λ (x : Stepped). x.board) e, ap (λ (x : Stepped). Ok (record { frames = x.frames; bytes = x.bytes })) e)
step_tells a b (Ok s) (Err r) e = absurd (number_not_done r (sym (ap (λ (x : Stepped). x.answer) e)))
step_tells a b (Err q) (Ok t) e = absurd (number_not_done q (ap (λ (x : Stepped). x.answer) e))
step_tells a b (Err q) (Err r) e = (ap (λ (x : Stepped). x.board) e, ap (λ (k : Refusal). Err k) (number_tells q r (ap (λ (x : Stepped). x.answer) e)))

-- ---- The contracts' own words, of two outcomes

pub start_once : (n m own : ℕ) (a b : Board) (q r : Result (Unit {0}) Refusal) → started_of a q ≡ start_of n m own → started_of b r ≡ start_of n m own → (a ≡ b) × (q ≡ r)
start_once n m own a b q r e d = start_tells a b q r (e ∙ sym d)

pub step_once : (s : Board) (bytes out : List ℕ) (a b : Board) (q r : Result Sent Refusal) (left rest : List ℕ)
    → (shown a q ≡ step_of s bytes (length out)) × (left ≡ out_of s bytes out) → (shown b r ≡ step_of s bytes (length out)) × (rest ≡ out_of s bytes out)
    → (a ≡ b) × (q ≡ r) × (left ≡ rest)
step_once s bytes out a b q r left rest e d = let told = step_tells a b q r (e.0 ∙ sym d.0) in (told.0, told.1, e.1 ∙ sym d.1)
