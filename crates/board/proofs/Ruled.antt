-- Wrong answers that the promises of this crate rule out: each is shown of the definition that the contract cites, for every value of a board.
-- Assumes nothing.
use mathlib.Core.Path.{◌≡◌, refl}
use mathlib.Core.Bool.{false, ◌&&◌}
use mathlib.Core.List.{List}
use Prim.Native.Nat.{ℕ, ◌<◌}
use native.Mathlib.Omega.{arith}
use lib.Dec.{leb, leb→le}
use lib.ListN.{length, replicate}
use Rattle.rules.specs.Lists.{If◌then◌else◌, within}
use Rattle.rules.specs.Answers.{not_usable}
use Rattle.rules.proofs.Lists.{by, and_r}
use Rattle.entry.specs.Model.{no_entry}
use Rattle.send.specs.Model.{bytes_of, laid}
use Rattle.board.specs.declared.Board.{Board}
use Rattle.board.specs.Model.{Started, Stepped, empty_board, in_range, start_of, Outcome, taken_step, judged_step, frame_step, outcome, stepped_of, step_of, out_of}

-- ---- unstarted

-- an entry in it
pub unstarted_log : ((empty_board 0 0 0 false).len ≡ 0) × ((empty_board 0 0 0 false).log ≡ replicate 256 no_entry)
unfolding empty_board
unstarted_log = (refl, refl)

-- a step that it takes
pub unstarted_refuses : (bytes : List ℕ) (room : ℕ) → (step_of (empty_board 0 0 0 false) bytes room).answer ≡ not_usable
unfolding step_of outcome empty_board If◌then◌else◌
unstarted_refuses bytes room = refl

-- ---- start

-- an entry of an old log
pub start_log : (n m own : ℕ) → ((start_of n m own).board.len ≡ 0) × ((start_of n m own).board.log ≡ replicate 256 no_entry)
unfolding start_of empty_board
start_log n m own = by (λ (r : Started). (r.board.len ≡ 0) × (r.board.log ≡ replicate 256 no_entry)) (in_range n m own) (λ t. (refl, refl)) (λ t. (refl, refl))

-- a board whose own number is above n
pub start_above_n : (n m own : ℕ) → n < own → start_of n m own ≡ record { board = empty_board 0 0 0 false; answer = not_usable }
unfolding start_of in_range
start_above_n n m own h =
    by (λ (r : Started). r ≡ record { board = empty_board 0 0 0 false; answer = not_usable }) (within 2 8 n && within 1 8 m && within 1 n own)
    (λ t. let g = leb→le own n (and_r (leb 1 own) (leb own n) (and_r (within 2 8 n && within 1 8 m) (within 1 n own) t)) in absurd (omega arith))
    (λ t. refl)

-- ---- step

-- what a refusal leaves: the board and every byte of the out area as they were, and counts of 0
pub record Still (b : Board) (out : List ℕ) (r : Stepped) (left : List ℕ) : Type 0 where
  pub board : r.board ≡ b
  pub frames : r.frames ≡ 0
  pub bytes : r.bytes ≡ 0
  pub written : left ≡ out

abbrev Refused : Board → List ℕ → Outcome → Type 0
Refused b out o = (o.answer ≡ 0 → ⊥) → Still b out (stepped_of o) (laid o.frames out)

-- a board changed, a frame counted or a byte written by a refusal
pub refused_board_still : (b : Board) (s out : List ℕ) → ((step_of b s (length out)).answer ≡ 0 → ⊥) → Still b out (step_of b s (length out)) (out_of b s out)
unfolding step_of out_of outcome frame_step judged_step taken_step laid bytes_of
refused_board_still b s out =
    by (Refused b out) _ (λ t d. record { board = refl; frames = refl; bytes = refl; written = refl }) λ t.
    by (Refused b out) _ (λ t d. absurd (d refl)) (λ t d. record { board = refl; frames = refl; bytes = refl; written = refl })
