-- What is known of a whole register at every moment, each agent by itself and all together, and that a frame's step keeps what is known of
-- its board or shard group by itself.
-- Assumes nothing.
use mathlib.Core.Path.{◌≡◌, ap, ◌∙◌}
use mathlib.Core.Bool.{Bool, true, false, not, ◌||◌}
use mathlib.Core.List.{List, []}
use mathlib.Core.Option.{some}
use Prim.Native.Nat.{ℕ, ◌≤◌}
use lib.Dec.{T}
use lib.ListN.{length}
use mir.Facts.{T_not}
use Rattle.rules.specs.Lists.{at, every}
use Rattle.rules.specs.Transactions.{Operation}
use Rattle.rules.specs.Frames.{Frame, obeys, encode, decode}
use Rattle.rules.specs.Outcomes.{refuse, least_out, unusable}
use Rattle.rules.specs.Answers.{not_usable}
use Rattle.rules.specs.Board as B
use Rattle.rules.specs.Shard as S
use Rattle.rules.specs.Session as C
use Rattle.rules.specs.Kept.{Kept, SizesKept, ShardKept, SessionKept}
use Rattle.rules.proofs.Lists.{if_no}
use Rattle.rules.proofs.Frames.{decode_encode}
use Rattle.rules.proofs.Obeys as O
use Rattle.rules.proofs.Kept as KP
use Rattle.rules.proofs.Shard as SP
use Rattle.safety.specs.World.{World, rules}
use Rattle.safety.specs.Machine.{All, Moved, Ran}
use Rattle.safety.proofs.Invariant.{Good}
use Rattle.safety.proofs.Deeds.{frame_deed, shard_law}
use Rattle.safety.proofs.Local.{deed_law}

-- ---- What is known

-- a board that was started as board i of n, with m shard groups
pub record Setup (n m i : ℕ) (b : B.Board) : Type 0 where
  pub n_is : b.n ≡ n
  pub m_is : b.m ≡ m
  pub own_is : b.own ≡ i
  pub low : 1 ≤ i
  pub high : i ≤ n

pub record BoardKnown (n m i : ℕ) (b : B.Board) : Type 0 where
  pub on : T b.started → Setup n m i b
  pub off : T (not b.started) → b.log ≡ []
  pub queues : Kept b
  pub sizes : SizesKept b

pub record ShardKnown (m j : ℕ) (s : S.Shard) : Type 0 where
  pub own_is : T s.started → s.own ≡ j
  pub m_is : T s.started → s.m ≡ m
  pub sizes : ShardKept s

-- a session's numbers are its invocations, and what it keeps as outstanding was invoked so
pub record SessionKnown (c : ℕ) (past : List (List Operation)) (s : C.Session) : Type 0 where
  pub own_is : T s.started → s.client ≡ c
  pub next_is : s.window.next ≡ length past
  pub outstanding : All (λ (o : C.Outstanding). at past o.number ≡ some o.operations) s.window.outstanding
  pub window : SessionKept s

abbrev pub entries_of : (ℕ → B.Board) → ℕ → List B.Entry
entries_of boards = λ i. (boards i).log

pub record Known (n m : ℕ) (w : World rules) : Type 0 where
  pub good : Good n m (entries_of w.boards) w.invoked w.shards w.replies w.sent
  pub boards : (i : ℕ) → BoardKnown n m i (w.boards i)
  pub shards : (j : ℕ) → ShardKnown m j (w.shards j)
  pub sessions : (c : ℕ) → SessionKnown c (w.invoked c) (w.sessions c)

-- ---- A frame's step is the step on its bytes

usable_yes : (started small : Bool) → T started → T (not small) → T (not (not started || small))
usable_yes true true s t = absurd t
usable_yes true false s t = tt
usable_yes false b s t = absurd s

board_bytes : (b : B.Board) (f : Frame) → T b.started → T (obeys f) → B.step b (encode f) least_out ≡ B.frame_step b f
unfolding B.step B.read_step
board_bytes b f s ok =
    if_no (unusable b.started least_out) (refuse not_usable b) (B.read_step b (decode (encode f))) (usable_yes b.started false s tt) ∙ ap (B.read_step b) (decode_encode f ok)

shard_bytes : (s : S.Shard) (f : Frame) → T s.started → T (obeys f) → S.step s (encode f) least_out ≡ S.frame_step s f
unfolding S.step S.read_step
shard_bytes s f t ok =
    if_no (unusable s.started least_out) (refuse not_usable s) (S.read_step s (decode (encode f))) (usable_yes s.started false t tt) ∙ ap (S.read_step s) (decode_encode f ok)

-- ---- A board's step

module _ (n m i : ℕ) (b : B.Board) (f : Frame) (k : BoardKnown n m i b) (t : T b.started) (ok : T (obeys f)) where
  board_good : O.BoardGood (B.frame_step b f)
  board_good = rw (board_bytes b f t ok) at (O.step_good b k.sizes k.queues (encode f) least_out)

  pub board_obeys : T (every obeys (B.frame_step b f).frames)
  board_obeys = board_good.frames.rules

  pub board_moved : Moved n m i b.log f (B.frame_step b f).state.log (B.frame_step b f).frames
  board_moved = let e = k.on t in here e.n_is e.m_is e.own_is (deed_law b f (B.frame_step b f) (rw e.own_is e.low) (frame_deed b f)).moved
    where
      here : {a c d : ℕ} {log l : List B.Entry} {fs : List Frame} → a ≡ n → c ≡ m → d ≡ i → Moved a c d log f l fs → Moved n m i log f l fs
      here x y z h = rw (x, y, z) at h

  pub board_known : BoardKnown n m i (B.frame_step b f).state
  board_known =
      let e = k.on t in
      let law = deed_law b f (B.frame_step b f) (rw e.own_is e.low) (frame_deed b f) in
      record {
        on = λ _. record { n_is = law.n ∙ e.n_is; m_is = law.m ∙ e.m_is; own_is = law.own ∙ e.own_is; low = e.low; high = e.high };
        off = λ v. absurd (T_not b.started t (rw law.started at v));
        queues = rw (board_bytes b f t ok) at (KP.step_kept b (encode f) least_out k.queues);
        sizes = board_good.state;
      }

-- ---- A shard group's step

module _ (m j : ℕ) (s : S.Shard) (f : Frame) (k : ShardKnown m j s) (t : T s.started) (ok : T (obeys f)) where
  shard_good : SP.ShardGood (S.frame_step s f)
  shard_good = rw (shard_bytes s f t ok) at (SP.step_good s k.sizes (encode f) least_out)

  pub shard_obeys : T (every obeys (S.frame_step s f).frames)
  shard_obeys = shard_good.frames.rules

  pub shard_ran : Ran j s f (S.frame_step s f).state (S.frame_step s f).frames
  shard_ran = here (k.own_is t) (shard_law s f).ran
    where
      here : {a : ℕ} {u : S.Shard} {fs : List Frame} → a ≡ j → Ran a s f u fs → Ran j s f u fs
      here x h = rw x at h

  pub shard_known : ShardKnown m j (S.frame_step s f).state
  shard_known =
      let law = shard_law s f in
      record { own_is = λ _. law.own ∙ k.own_is t; m_is = λ _. law.m ∙ k.m_is t; sizes = shard_good.state }
