-- Every floor and every ack in flight is at most the client's smallest outstanding number: a board's step raises a floor only as far as the ack
-- that arrives and sends no ack above its floor, a session sends that number itself, and it never falls.
-- Assumes nothing.
use mathlib.Core.Path.{◌≡◌, refl}
use mathlib.Core.List.{List, [], ◌∷◌, map}
use Prim.Native.Nat.{ℕ, suc, ◌≤◌, max}
use native.Mathlib.Omega.{arith}
use lib.Dec.{T, eqb}
use lib.ListN.{length}
use Rattle.rules.specs.Lists.{snoc, changed}
use Rattle.rules.specs.Transactions.{Operation, Write, Read}
use Rattle.rules.specs.Frames.{Frame, submit, forward, shard_append, exec_notif, executed, response}
use Rattle.rules.specs.Outcomes.{Outcome, taken, refuse}
use Rattle.rules.specs.Board.{Entry, Board, holding, raise_floor, new_entry, append, settle, forward_of, shard_append_of, backward, onward, serve_new, heard_from, finished}
use Rattle.rules.specs.Board as B
use Rattle.rules.specs.Shard as S
use Rattle.rules.specs.Session as C
use Rattle.rules.specs.Session.{Outstanding, Window, first_of, smallest, invoked, without, answered}
use Rattle.rules.specs.Kept.{Rise, WindowKept}
use Rattle.rules.proofs.Lists.{by}
use Rattle.rules.proofs.Session.{SessionGood}
use Rattle.safety.specs.World.{Address, board, shard, World, rules, start, after_board, after_shard}
use Rattle.safety.specs.Machine.{All, Ran, stayed, went}
use Rattle.safety.specs.Further.{least, AckLow}
use Rattle.safety.proofs.Lists.{changed_same, changed_all_lem}
use Rattle.safety.proofs.Flight.{InFlight, Flies, arrives, flies_map, more_fly}
use Rattle.safety.proofs.Deeds.{Carries, by_submit, by_forward, Deed, refused, held, new, heard, ended, frame_deed, after_invoke}
use Rattle.safety.proofs.Happens.{Happened, nothing_happened, board_stepped_lem, shard_stepped_lem, client_invoked, client_retried, client_answered, with_invoked, with_retried, with_reply, after_answer}
use Rattle.safety.proofs.Known.{Known, board_obeys, shard_obeys, shard_ran}

-- ---- Boards

abbrev pub FloorsLow : (ℕ → ℕ) → Board → Type 0
FloorsLow most b = (c : ℕ) → b.floor c ≤ most c

pub record Low (most : ℕ → ℕ) (o : Outcome Board) : Type 0 where
  pub floors : FloorsLow most o.state
  pub frames : All (AckLow most) o.frames

module _ (most : ℕ → ℕ) where
  pub ack_grows : (more : ℕ → ℕ) → ((c : ℕ) → most c ≤ more c) → (f : Frame) → AckLow most f → AckLow more f
  ack_grows more h (submit v ack) a = let k = h v.client in omega arith
  ack_grows more h (forward ind v ack) a = let k = h v.client in omega arith
  ack_grows more h (shard_append j ind sn xs) a = tt
  ack_grows more h (exec_notif j ind rs) a = tt
  ack_grows more h (executed ind rs) a = tt
  ack_grows more h (response c k rs) a = tt

  back_low : (b : Board) (ind : ℕ) (e : Entry) → AckLow most (backward b ind e)
  unfolding backward
  back_low b ind e = by (AckLow most) _ (λ t. tt) (λ t. tt)

  shards_low : (b : Board) (ind : ℕ) (w : Write) (js : List ℕ) → All (AckLow most) (map (shard_append_of b ind w) js)
  unfolding shard_append_of
  shards_low b ind w [] = tt
  shards_low b ind w (j ∷ js) = (tt, shards_low b ind w js)

  -- "Forward carries the smaller of the sender's floor and the number as ack"
  onward_low : (b : Board) (ind : ℕ) (e : Entry) → FloorsLow most b → All (AckLow most) (onward b ind e)
  unfolding onward forward_of
  onward_low b ind e h =
      by (All (AckLow most)) _ (λ t. (back_low b ind e, tt)) λ t.
      by (All (AckLow most)) _ (λ u. let k = h e.write.client in (omega arith, tt)) (λ u. shards_low b ind e.write e.remaining)

  raised_low : (b : Board) (c ack : ℕ) → FloorsLow most b → ack ≤ most c → FloorsLow most (raise_floor c ack b)
  unfolding raise_floor holding
  raised_low b c ack h l = changed_all_lem (λ d x. x ≤ most d) b.floor c (max (b.floor c) ack) (let k = h c in omega arith) h

  -- the ack that a frame carries
  carried : (f : Frame) (w : Write) (ack : ℕ) → Carries f w ack → AckLow most f → ack ≤ most w.client
  carried _ w ack (by_submit _ _) l = l
  carried _ w ack (by_forward ind _ _) l = l

  pub deed_low : (b : Board) (f : Frame) (o : Outcome Board) → FloorsLow most b → AckLow most f → Deed b f o → Low most o
  unfolding refuse taken serve_new append settle holding
  deed_low b _ _ h l (refused r f) = record { floors = h; frames = tt }
  deed_low b _ _ h l (held f w ind ack e c a) =
      let floors = raised_low b w.client ack h (carried f w ack c l) in
      record { floors = floors; frames = onward_low (raise_floor w.client ack b) ind e floors }
  deed_low b _ _ h l (new f w ack c from) =
      let floors = raised_low b w.client ack h (carried f w ack c l) in
      record { floors = floors; frames = onward_low (append w (raise_floor w.client ack b)) (length b.log) (new_entry b.m w) floors }
  deed_low b _ _ h l (heard j ind rs e a t) = record { floors = h; frames = by (All (AckLow most)) _ (λ u. (back_low b ind (heard_from j rs e), tt)) (λ u. tt) }
  deed_low b _ _ h l (ended ind rs e a) = record { floors = h; frames = (back_low b ind (finished rs e), tt) }

-- ---- Windows

-- an invocation leaves the smallest outstanding number
pub smallest_invoked : (os : List Operation) (w : Window) → smallest w ≤ smallest (invoked os w)
unfolding smallest invoked
smallest_invoked os w = go w.outstanding
  where
    go : (l : List Outstanding) → first_of l w.next ≤ first_of (snoc l (record { number = w.next; operations = os })) (suc w.next)
    go [] = omega arith
    go (o ∷ l) = omega arith

-- an answer leaves or raises it, since the numbers rise
from_low : (low next : ℕ) (l : List Outstanding) → Rise low l next → low ≤ first_of l next
from_low low next [] r = r
from_low low next (o ∷ l) r = r.0

without_rises : (low next k : ℕ) (l : List Outstanding) → Rise low l next → first_of l next ≤ first_of (without k l) next
without_rises low next k [] r = omega arith
without_rises low next k (o ∷ l) r =
    by (λ (x : List Outstanding). o.number ≤ first_of x next) (eqb o.number k)
    (λ t. let a = from_low (suc o.number) next l r.2 in let b = without_rises (suc o.number) next k l r.2 in omega arith) (λ t. omega arith)

pub smallest_answered : (k : ℕ) (w : Window) → WindowKept w → smallest w ≤ smallest (answered k w)
unfolding smallest answered
smallest_answered k w z = without_rises 0 w.next k w.outstanding z.rise

-- ---- In a register

-- an ack is low whoever it is for
abbrev pub LowTo : (ℕ → ℕ) → Address → Frame → Type 0
LowTo most to f = AckLow most f

pub record AcksKnown (w : World rules) : Type 0 where
  pub floors : (i : ℕ) → FloorsLow (least w.sessions) (w.boards i)
  pub flight : All (Flies (LowTo (least w.sessions))) w.sent

shard_frames : (most : ℕ → ℕ) (j : ℕ) (s u : S.Shard) (f : Frame) (fs : List Frame) → Ran j s f u fs → All (AckLow most) fs
shard_frames most j s _ _ _ (stayed f) = tt
shard_frames most j s _ _ _ (went ind sn xs e) = (tt, tt)

board_acks : (n m : ℕ) (w : World rules) (i : ℕ) (f : Frame) → Known n m w → InFlight w.sent (board i) f → T (w.boards i).started → AcksKnown w
    → AcksKnown (after_board rules n w i (B.frame_step (w.boards i) f))
unfolding after_board
board_acks n m w i f k x t a =
    let low = deed_low (least w.sessions) (w.boards i) f (B.frame_step (w.boards i) f) (a.floors i) (arrives (LowTo (least w.sessions)) w.sent (board i) f a.flight x) (frame_deed (w.boards i) f) in
    record {
      floors = changed_all_lem (λ j b. FloorsLow (least w.sessions) b) w.boards i (B.frame_step (w.boards i) f).state low.floors a.floors;
      flight = more_fly (LowTo (least w.sessions)) w.sent n i (B.frame_step (w.boards i) f).frames a.flight low.frames (board_obeys n m i (w.boards i) f (k.boards i) t x.rules);
    }

shard_acks : (n m : ℕ) (w : World rules) (j : ℕ) (f : Frame) → Known n m w → InFlight w.sent (shard j) f → T (w.shards j).started → AcksKnown w
    → AcksKnown (after_shard rules n w j (S.frame_step (w.shards j) f))
unfolding after_shard
shard_acks n m w j f k x t a =
    let z = k.shards j in
    record {
      floors = a.floors;
      flight = more_fly (LowTo (least w.sessions)) w.sent n j (S.frame_step (w.shards j) f).frames a.flight (shard_frames (least w.sessions) j (w.shards j) _ f _ (shard_ran m j (w.shards j) f z t x.rules))
          (shard_obeys m j (w.shards j) f z t x.rules);
    }

-- the smallest outstanding numbers have risen
acks_rise : (w : World rules) (sessions : ℕ → C.Session) → ((c : ℕ) → least w.sessions c ≤ least sessions c) → AcksKnown w
    → ((i : ℕ) → FloorsLow (least sessions) (w.boards i)) × All (Flies (LowTo (least sessions))) w.sent
acks_rise w sessions h a =
    (λ i c. let x = a.floors i c in let y = h c in omega arith, flies_map (λ to f. ack_grows (least w.sessions) (least sessions) h f) w.sent a.flight)

-- a Submit carries its client's
submit_acks : (sessions : ℕ → C.Session) (s : C.Session) (c number : ℕ) (os : List Operation) → s.client ≡ c → sessions c ≡ s → AckLow (least sessions) (C.submit_of s number os)
unfolding C.submit_of
submit_acks sessions s c number os e d = rw (e, d) (omega arith)

invoke_acks : (n m : ℕ) (w : World rules) (c : ℕ) (os : List Operation) → Known n m w → T (w.sessions c).started
    → SessionGood (taken (after_invoke os (w.sessions c)) (C.submit_of (after_invoke os (w.sessions c)) (w.sessions c).window.next os ∷ [])) → AcksKnown w → AcksKnown (with_invoked n w c os)
invoke_acks n m w c os k t z a =
    let s : C.Session = after_invoke os (w.sessions c) in
    let sessions : ℕ → C.Session = changed w.sessions c s in
    let rise : (d : ℕ) → least w.sessions d ≤ least sessions d =
    changed_all_lem (λ d x. least w.sessions d ≤ C.smallest x.window) w.sessions c s (unfold C.with_window in (smallest_invoked os (w.sessions c).window)) (λ d. omega arith) in
    let r = acks_rise w sessions rise a in
    let own : s.client ≡ c = unfold C.with_window in ((k.sessions c).own_is t) in
    record {
      floors = r.0;
      flight = more_fly (LowTo (least sessions)) w.sent n c (C.submit_of s (w.sessions c).window.next os ∷ []) r.1 (submit_acks sessions s c (w.sessions c).window.next os own (changed_same w.sessions c s), tt)
          (unfold taken in z.frames.rules);
    }

retry_acks : (n m : ℕ) (w : World rules) (c number : ℕ) (os : List Operation) → Known n m w → T (w.sessions c).started
    → SessionGood (taken (w.sessions c) (C.submit_of (w.sessions c) number os ∷ [])) → AcksKnown w → AcksKnown (with_retried n w c number os)
retry_acks n m w c number os k t z a =
    record {
      floors = a.floors;
      flight = more_fly (LowTo (least w.sessions)) w.sent n c (C.submit_of (w.sessions c) number os ∷ []) a.flight (submit_acks w.sessions (w.sessions c) c number os ((k.sessions c).own_is t) refl, tt)
          (unfold taken in z.frames.rules);
    }

reply_acks : (n m : ℕ) (w : World rules) (c number : ℕ) (rs : List Read) → Known n m w → AcksKnown w → AcksKnown (with_reply w c number rs)
reply_acks n m w c number rs k a =
    let s : C.Session = after_answer number (w.sessions c) in
    let rise : (d : ℕ) → least w.sessions d ≤ least (changed w.sessions c s) d =
    changed_all_lem (λ d x. least w.sessions d ≤ C.smallest x.window) w.sessions c s
    (unfold C.with_window in (smallest_answered number (w.sessions c).window (k.sessions c).window.window)) (λ d. omega arith) in
    let r = acks_rise w (changed w.sessions c s) rise a in
    record { floors = r.0; flight = r.1 }

pub acks_lasts : (n m : ℕ) (w v : World rules) → Happened n w v → Known n m w → AcksKnown w → AcksKnown v
acks_lasts n m w _ nothing_happened k a = a
acks_lasts n m w _ (board_stepped_lem i f x t) k a = board_acks n m w i f k x t a
acks_lasts n m w _ (shard_stepped_lem j f x t) k a = shard_acks n m w j f k x t a
acks_lasts n m w _ (client_invoked c os t g) k a = invoke_acks n m w c os k t (g (k.sessions c).window) a
acks_lasts n m w _ (client_retried c number os t e g) k a = retry_acks n m w c number os k t (g (k.sessions c).window) a
acks_lasts n m w _ (client_answered c number rs x g) k a = reply_acks n m w c number rs k a

pub acks_start : (n m : ℕ) → AcksKnown (start rules n m)
unfolding start B.start taken refuse B.empty_board
acks_start n m =
    record {
      floors = λ i. by (λ (o : Outcome Board). FloorsLow (least (λ c. (C.start c).state)) o.state) _ (λ t c. omega arith) (λ t c. omega arith);
      flight = tt;
    }
