-- What a record does, by whom its address names: a law for each way through `turn`.
-- Assumes nothing.
use mathlib.Core.Bool.{Bool, true, false, ◌&&◌}
use mathlib.Core.List.{List, [], ◌∷◌}
use mathlib.Core.Path.{◌≡◌, refl, ap, sym, ◌∙◌}
use Prim.Native.Nat.{ℕ, zero, suc, ◌-◌, ◌<◌}
use native.Mathlib.Omega.{arith}
use lib.ListN.{length, get_or}
use lib.Dec.{leb→le}
use borrow.Author.Tests.{eq-eqb, ne_eqb}
use Rattle.rules.specs.Lists.{If◌then◌else◌, within, ◌≤?◌}
use Rattle.rules.specs.Answers.{not_for_me}
use Rattle.std.specs.Prelude.{set, OnErr, Result, Ok, Err}
use Rattle.std.proofs.lemmas.List.{set-get_or}
use Rattle.rules.proofs.Lists.{and_l, and_r}
use Rattle.board.specs.declared.Board.{Board}
use Rattle.board.specs.Model.{Stepped as BoardStepped, step_of as board_step}
use Rattle.shard.specs.declared.Shard.{Shard}
use Rattle.shard.specs.Model.{Stepped as ShardStepped, step_of as shard_step}
use Rattle.refusal.specs.declared.Refusal.{Refusal}
use Rattle.refusal.specs.Number.{answer_of}
use Rattle.refusal.proofs.Tells.{number_not_done}
use Rattle.delivery.specs.declared.Register.{Register}
use Rattle.records.specs.declared.Receiver.{Receiver}
use Rattle.records.specs.declared.Receiver.TheVariants.{Board as to_board, Shard as to_shard, Nobody as to_nobody}
use Rattle.records.specs.Records.{receiver_of}
use Rattle.delivery.specs.Register.{board_turn, shard_turn, turn_at, turn_of, turned, sent_by, with_board, with_shard, board_at_start, shard_at_start}

-- within a list it does not matter what would stand past its end
get_d_any : {A : Type 0} (l : List A) (i : ℕ) (d e : A) → i < length l → get_or l i d ≡ get_or l i e
get_d_any [] i d e h = absurd (omega arith)
get_d_any (x ∷ l) zero d e h = refl
get_d_any (x ∷ l) (suc i) d e h = get_d_any l i d e (omega arith)

module _ (r : Register) (address : ℕ) (frame : List ℕ) (whom : Receiver) (to : whom ≡ receiver_of r.n r.m address) where
  pub nobody_turned : whom ≡ to_nobody → turn_of r address frame ≡ record { register = r; answer = not_for_me; frames = 0 }
  unfolding turn_at
  nobody_turned e = ap (turn_at r frame) (sym to ∙ e)

  module _ (i : ℕ) (d : Board) (s : BoardStepped) (e : whom ≡ to_board i) (inside : i < length r.boards) (stepped : s ≡ board_step (get_or r.boards i d) frame 68) where
    board_turned : turn_of r address frame ≡ board_turn r i s
    unfolding turn_at
    board_turned =
        ap (turn_at r frame) (sym to ∙ e)
        ∙ ap (λ (b : Board). board_turn r i (board_step b frame 68)) (get_d_any r.boards i (board_at_start 0 0 0) d inside)
        ∙ ap (board_turn r i) (sym stepped)

    pub board_taken : s.answer ≡ 0 → turn_of r address frame ≡ record { register = with_board r i s.board; answer = s.answer; frames = s.frames }
    unfolding board_turn If◌then◌else◌
    board_taken a = board_turned ∙ rw (eq-eqb s.answer 0 a)

    pub board_refused : (s.answer ≡ 0 → ⊥) → turn_of r address frame ≡ record { register = r; answer = s.answer; frames = s.frames }
    unfolding board_turn If◌then◌else◌
    board_refused a = board_turned ∙ rw (ne_eqb s.answer 0 a)

  module _ (i : ℕ) (d : Shard) (s : ShardStepped) (e : whom ≡ to_shard i) (inside : i < length r.shards) (stepped : s ≡ shard_step (get_or r.shards i d) frame 68) where
    shard_turned : turn_of r address frame ≡ shard_turn r i s
    unfolding turn_at
    shard_turned =
        ap (turn_at r frame) (sym to ∙ e)
        ∙ ap (λ (b : Shard). shard_turn r i (shard_step b frame 68)) (get_d_any r.shards i (shard_at_start 0 0) d inside)
        ∙ ap (shard_turn r i) (sym stepped)

    pub shard_taken : s.answer ≡ 0 → turn_of r address frame ≡ record { register = with_shard r i s.shard; answer = s.answer; frames = s.frames }
    unfolding shard_turn If◌then◌else◌
    shard_taken a = shard_turned ∙ rw (eq-eqb s.answer 0 a)

    pub shard_refused : (s.answer ≡ 0 → ⊥) → turn_of r address frame ≡ record { register = r; answer = s.answer; frames = s.frames }
    unfolding shard_turn If◌then◌else◌
    shard_refused a = shard_turned ∙ rw (ne_eqb s.answer 0 a)

  -- what the code's results show of a step that is taken and of one that is refused
  module _ (i : ℕ) (d b : Board) (e : whom ≡ to_board i) (inside : i < length r.boards) where
    abbrev board_gives : BoardStepped
    board_gives = board_step (get_or r.boards i d) frame 68

    pub board_told : (sent : Result ℕ Refusal) → b ≡ board_gives.board → (answer_of sent ≡ board_gives.answer) × (sent_by sent ≡ board_gives.frames)
        → OnErr sent (b ≡ get_or r.boards i d) → turned (with_board r i b) sent ≡ turn_of r address frame
    board_told (Ok frames) stored told kept =
        (λ j. record { register = with_board r i (stored j); answer = told.0 j; frames = told.1 j })
        ∙ sym (board_taken i d board_gives e inside refl (sym told.0))
    board_told (Err refusal) stored told kept =
        let put : set r.boards i b ≡ r.boards = ap (λ (x : Board). set r.boards i x) kept ∙ set-get_or r.boards i d in
        (λ j. record { register = record { n = r.n; m = r.m; boards = put j; shards = r.shards }; answer = told.0 j; frames = told.1 j })
        ∙ sym (board_refused i d board_gives e inside refl (λ a. number_not_done refusal (told.0 ∙ a)))

  module _ (i : ℕ) (d g : Shard) (e : whom ≡ to_shard i) (inside : i < length r.shards) where
    abbrev shard_gives : ShardStepped
    shard_gives = shard_step (get_or r.shards i d) frame 68

    pub shard_told : (sent : Result ℕ Refusal) → g ≡ shard_gives.shard → (answer_of sent ≡ shard_gives.answer) × (sent_by sent ≡ shard_gives.frames)
        → OnErr sent (g ≡ get_or r.shards i d) → turned (with_shard r i g) sent ≡ turn_of r address frame
    shard_told (Ok frames) stored told kept =
        (λ j. record { register = with_shard r i (stored j); answer = told.0 j; frames = told.1 j })
        ∙ sym (shard_taken i d shard_gives e inside refl (sym told.0))
    shard_told (Err refusal) stored told kept =
        let put : set r.shards i g ≡ r.shards = ap (λ (x : Shard). set r.shards i x) kept ∙ set-get_or r.shards i d in
        (λ j. record { register = record { n = r.n; m = r.m; boards = r.boards; shards = put j }; answer = told.0 j; frames = told.1 j })
        ∙ sym (shard_refused i d shard_gives e inside refl (λ a. number_not_done refusal (told.0 ∙ a)))

-- an address names one of 8 boards or of 8 shard groups
pub board_within : (n m address i : ℕ) → receiver_of n m address ≡ to_board i → i < 8
unfolding receiver_of If◌then◌else◌
board_within n m address i e = by (within 1 8 address && address ≤? n) (within 17 24 address && address - 16 ≤? m) refl e
  where
    by : (t u : Bool) → within 1 8 address && address ≤? n ≡ t
        → (If t then to_board (address - 1) else If u then to_shard (address - 17) else to_nobody) ≡ to_board i → i < 8
    by true u a p =
        let z : address - 1 ≡ i = cc in
        omega (arith, leb→le address 8 (and_r (1 ≤? address) (address ≤? 8) (and_l (within 1 8 address) (address ≤? n) (rw a tt))))
    by false true a p = let z : ◌≡◌ {A = ℕ} 0 1 = cc in absurd (omega arith)
    by false false a p = let z : ◌≡◌ {A = ℕ} 0 1 = cc in absurd (omega arith)

pub shard_within : (n m address i : ℕ) → receiver_of n m address ≡ to_shard i → i < 8
unfolding receiver_of If◌then◌else◌
shard_within n m address i e = by (within 1 8 address && address ≤? n) (within 17 24 address && address - 16 ≤? m) refl e
  where
    by : (t u : Bool) → within 17 24 address && address - 16 ≤? m ≡ u
        → (If t then to_board (address - 1) else If u then to_shard (address - 17) else to_nobody) ≡ to_shard i → i < 8
    by true u a p = let z : ◌≡◌ {A = ℕ} 0 1 = cc in absurd (omega arith)
    by false true a p =
        let z : address - 17 ≡ i = cc in
        omega (arith, leb→le address 24 (and_r (17 ≤? address) (address ≤? 24) (and_l (within 17 24 address) (address - 16 ≤? m) (rw a tt))))
    by false false a p = let z : ◌≡◌ {A = ℕ} 0 1 = cc in absurd (omega arith)
