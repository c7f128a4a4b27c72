-- What a record does to the register is what the rules say that it does to the park: register, answer and frames sent.
-- Assumes nothing.
use mathlib.Core.Bool.{Bool, true, false, not}
use mathlib.Core.List.{List}
use mathlib.Core.Path.{◌≡◌, refl, ap, sym, ◌∙◌}
use Prim.Native.Nat.{ℕ, ◌+◌, ◌<◌}
use native.Mathlib.Omega.{arith}
use lib.Dec.{T, eqb}
use lib.ListN.{get_or, set, replicate, length-set}
use lib.Seq.{get_or-set_same, get_or-set_other, set-get_or}
use borrow.Author.Tests.{eqb-true, eqb-false}
use Rattle.rules.specs.Lists.{If◌then◌else◌, changed, ◌=?◌}
use Rattle.rules.specs.Answers.{done}
use Rattle.rules.specs.Outcomes.{Outcome, taken, refuse, least_out, frame_count}
use Rattle.rules.specs.Board as B
use Rattle.rules.specs.Shard as S
use Rattle.rules.proofs.Lists.{by, T_false}
use Rattle.rules.proofs.Steps.{Deed, refused, held, new, heard, step_deed}
use Rattle.rules.proofs.Steps as Steps
use Rattle.frames.specs.View.{Bytes}
use Rattle.frames.proofs.Meaning.{reads_mean}
use Rattle.board.specs.declared.Board.{Board}
use Rattle.board.specs.Model.{step_of as board_step}
use Rattle.board_means.specs.View.{view_board}
use Rattle.board_means.proofs.Means as BP
use Rattle.shard.specs.declared.Shard.{Shard}
use Rattle.shard.specs.Model.{step_of as shard_step, out_of as shard_out}
use Rattle.shard.specs.View.{view_shard}
use Rattle.shard.proofs.Promises as SP
use Rattle.records.specs.declared.Receiver.{Receiver}
use Rattle.records.specs.declared.Receiver.TheVariants.{Board as to_board, Shard as to_shard, Nobody as to_nobody}
use Rattle.records.specs.Records.{receiver_of}
use Rattle.delivery.specs.declared.Register.{Register}
use Rattle.delivery.specs.Register.{board_at_start, shard_at_start, board_turn, shard_turn, turn_at, turn_of}
use Rattle.delivery.proofs.Turns.{board_within, shard_within}
use Rattle.bench_means.specs.Transcript.{Park, at_board, at_shard, turn_to, turn}
use Rattle.bench_means.specs.View.{BoardMeans, ShardMeans, Eight, Means, TurnMeans}

-- ---- One of eight changes

module _ {A B : Type 0} {Each : A → B → Type 0} {blank : A} {row : List A} {numbered : ℕ → B} (h : Eight Each blank row numbered) (place : ℕ) (inside : place < 8) where
  pub changes : (x : A) (y : B) → Each x y → Eight Each blank (set row place x) (changed numbered (place + 1) y)
  unfolding changed If◌then◌else◌
  changes x y e = record { eight = length-set row place x ∙ h.eight; each = λ i l. at i l (eqb (i + 1) (place + 1)) refl }
    where
      at : (i : ℕ) → i < 8 → (t : Bool) → eqb (i + 1) (place + 1) ≡ t → Each (get_or (set row place x) i blank) (If t then y else numbered (i + 1))
      at i l true t =
          let same : i ≡ place = omega (arith, eqb-true (i + 1) (place + 1) t) in
          rw (same, get_or-set_same row place x blank (omega (arith, h.eight))) e
      at i l false t =
          rw (get_or-set_other row place i x blank (λ same. eqb-false (i + 1) (place + 1) t (ap (λ (k : ℕ). k + 1) same))) (h.each i l)

  -- what stays, and means something else
  pub stays : (y : B) → Each (get_or row place blank) y → Eight Each blank row (changed numbered (place + 1) y)
  stays y e = rw (set-get_or row place blank) at (changes (get_or row place blank) y e)

-- ---- A step

-- "A refusal .. leaves the state as before"
refused_stays : (b : B.Board) (o : Outcome B.Board) → Deed b o → T (not (o.answer =? done)) → o.state ≡ b
unfolding taken refuse B.serve_new
refused_stays b o (refused number) t = refl
refused_stays b o (held ind ack entry s a w) t = absurd t
refused_stays b o (new w ack s rules next few) t = absurd t
refused_stays b o (heard j ind rs entry s a e r f) t = absurd t
refused_stays b o (Steps.done ind rs entry s a r f) t = absurd t

-- What a step of the code gives, beside the rules' step: the same answer and count of frames; the record that it hands back means the rules' state, and
-- where it is refused so does the record that was handed in.
record Stepping {A B : Type 0} (Each : A → B → Type 0) (given back : A) (answer frames : ℕ) (o : Outcome B) : Type 0 where
  taken : Each back o.state
  kept : T (not (answer =? done)) → Each given o.state
  answers : answer ≡ o.answer
  sends : frames ≡ frame_count o

board_steps_lem : (b : Board) (r : B.Board) (frame : List ℕ) → BoardMeans b r → Bytes frame
    → Stepping BoardMeans b (board_step b frame least_out).board (board_step b frame least_out).answer (board_step b frame least_out).frames (B.step r frame least_out)
board_steps_lem b r frame means bytes =
    let x = BP.step_means b means.held frame bytes (replicate least_out 0) in
    rw (← means.view) (record {
      taken = record { held = x.held; view = x.state };
      kept = λ t. record {
        held = means.held;
        view = sym (refused_stays (view_board b) (B.step (view_board b) frame least_out) (step_deed (view_board b) frame least_out) (rw x.answer at t));
      };
      answers = x.answer;
      sends = x.frames;
    })

shard_steps_lem : (s : Shard) (r : S.Shard) (frame : List ℕ) → ShardMeans s r → Bytes frame
    → Stepping ShardMeans s (shard_step s frame least_out).shard (shard_step s frame least_out).answer (shard_step s frame least_out).frames (S.step r frame least_out)
shard_steps_lem s r frame means bytes =
    let out : List ℕ = replicate least_out 0 in
    let x = SP.step_means s means.held frame (reads_mean frame bytes) out (shard_step s frame least_out) (shard_out s frame out) (refl, refl) in
    rw (← means.view) (record {
      taken = record { held = x.held; view = x.state };
      kept = λ t.
          let still = SP.refused_still s frame out (λ e. T_not (shard_step s frame least_out).answer t e) in
          record { held = means.held; view = ap view_shard (sym still.shard) ∙ x.state };
      answers = x.answer;
      sends = x.frames;
    })
  where
    T_not : (answer : ℕ) → T (not (answer =? done)) → answer ≡ 0 → ⊥
    T_not answer t e = eqb-false answer 0 (T_false (answer =? done) t) e

-- ---- A record

module _ (r : Register) (p : Park) (h : Means r p) (frame : List ℕ) (bytes : Bytes frame) where
  board_turn_lem : (place : ℕ) → place < 8
      → TurnMeans (board_turn r place (board_step (get_or r.boards place (board_at_start 0 0 0)) frame least_out)) (at_board p (place + 1) (B.step (p.board (place + 1)) frame least_out))
  unfolding board_turn at_board
  board_turn_lem place inside =
      let x = board_steps_lem _ _ frame (h.boards.each place inside) bytes in
      record {
        register = by (λ (after : Register). Means after (at_board p (place + 1) (B.step (p.board (place + 1)) frame least_out)).park) _
            (λ t. record { n = h.n; m = h.m; few = h.few; boards = changes h.boards place inside _ _ x.taken; shards = h.shards })
            (λ t. record { n = h.n; m = h.m; few = h.few; boards = stays h.boards place inside _ (x.kept t); shards = h.shards });
        answer = x.answers;
        frames = x.sends;
      }

  shard_turn_lem : (place : ℕ) → place < 8
      → TurnMeans (shard_turn r place (shard_step (get_or r.shards place (shard_at_start 0 0)) frame least_out)) (at_shard p (place + 1) (S.step (p.shard (place + 1)) frame least_out))
  unfolding shard_turn at_shard
  shard_turn_lem place inside =
      let x = shard_steps_lem _ _ frame (h.shards.each place inside) bytes in
      record {
        register = by (λ (after : Register). Means after (at_shard p (place + 1) (S.step (p.shard (place + 1)) frame least_out)).park) _
            (λ t. record { n = h.n; m = h.m; few = h.few; boards = h.boards; shards = changes h.shards place inside _ _ x.taken })
            (λ t. record { n = h.n; m = h.m; few = h.few; boards = h.boards; shards = stays h.shards place inside _ (x.kept t) });
        answer = x.answers;
        frames = x.sends;
      }

  -- whomever an address names
  to_whom : (address : ℕ) (whom : Receiver) → receiver_of r.n r.m address ≡ whom → TurnMeans (turn_at r frame whom) (turn_to p frame whom)
  unfolding turn_at turn_to
  to_whom address (to_board place) e = board_turn_lem place (board_within r.n r.m address place e)
  to_whom address (to_shard place) e = shard_turn_lem place (shard_within r.n r.m address place e)
  to_whom address to_nobody e = record { register = h; answer = refl; frames = refl }

  pub turn_means : (address : ℕ) → TurnMeans (turn_of r address frame) (turn p (record { address = address; frame = frame }))
  turn_means address =
      let same : receiver_of r.n r.m address ≡ receiver_of p.n p.m address = λ i. receiver_of (h.n i) (h.m i) address in
      rw same (to_whom address (receiver_of p.n p.m address) same)
