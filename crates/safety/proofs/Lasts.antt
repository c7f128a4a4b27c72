-- Whatever happens keeps what is known of a register.
-- Assumes nothing.
use mathlib.Core.Path.{◌≡◌, sym, ◌∙◌}
use mathlib.Core.List.{List, [], ◌∷◌}
use mathlib.Core.Option.{some}
use Prim.Native.Nat.{ℕ}
use lib.Dec.{T}
use Rattle.rules.specs.Lists.{at, snoc, changed}
use Rattle.rules.specs.Transactions.{Operation, Read, store_after_log, reads_in_log}
use Rattle.rules.specs.Frames.{Frame, response}
use Rattle.rules.specs.Outcomes.{Outcome, taken}
use Rattle.rules.specs.Board as B
use Rattle.rules.specs.Shard as S
use Rattle.rules.specs.Session as C
use Rattle.rules.specs.Kept.{SessionKept}
use Rattle.rules.proofs.Session.{SessionGood}
use Rattle.rules.proofs.Lists.{at_snoc_new}
use Rattle.safety.specs.World.{Address, board, shard, client, World, rules, posted, after_board, after_shard}
use Rattle.safety.specs.Claim.{ReplyRight}
use Rattle.safety.specs.Machine.{All}
use Rattle.safety.proofs.Lists.{Changed, there, elsewhere, changed_same, changed_cases, changed_all_lem, changed_map, all_append}
use Rattle.safety.proofs.Running.{whole_reads}
use Rattle.safety.proofs.Flight.{InFlight, Flies, arrives, posted_fly}
use Rattle.safety.proofs.Invariant.{Logs, Past, RightTo, told, logs_of}
use Rattle.safety.proofs.Boards as Boards
use Rattle.safety.proofs.Shards as Shards
use Rattle.safety.proofs.Deeds.{after_invoke}
use Rattle.safety.proofs.Happens.{nothing_happened, board_stepped_lem, shard_stepped_lem, client_invoked, client_retried, client_answered, with_invoked, with_retried, with_reply, after_answer, Lasts}
use Rattle.safety.proofs.Known.{BoardKnown, ShardKnown, SessionKnown, entries_of, Known, board_obeys, board_moved, board_known, shard_obeys, shard_ran, shard_known}
use Rattle.safety.proofs.Sessions.{kept_operations, invoke_known, answer_known, past_core, submit_right}

-- the frame that arrives is right
pub right : (n m : ℕ) (w : World rules) → Known n m w → (to : Address) (f : Frame) → InFlight w.sent to f → RightTo n m (logs_of (entries_of w.boards)) w.invoked to f
right n m w k to f x = arrives (RightTo n m (logs_of (entries_of w.boards)) w.invoked) w.sent to f k.good.core.flight x

board_lasts : (n m : ℕ) (w : World rules) (i : ℕ) (f : Frame) → Known n m w → InFlight w.sent (board i) f → T (w.boards i).started
    → Known n m (after_board rules n w i (B.frame_step (w.boards i) f))
unfolding after_board
board_lasts n m w i f k x t =
    let b : B.Board = w.boards i in
    let o : Outcome B.Board = B.frame_step b f in
    let z = k.boards i in
    let e = z.on t in
    record {
      good = rw (changed_map (λ (c : B.Board). c.log) w.boards i o.state)
          (Boards.board_good (entries_of w.boards) i f o.state.log o.frames e.low e.high k.good (right n m w k (board i) f x)
          (board_moved n m i b f z t x.rules) (board_obeys n m i b f z t x.rules));
      boards = changed_all_lem (λ j c. BoardKnown n m j c) w.boards i o.state (board_known n m i b f z t x.rules) k.boards;
      shards = k.shards;
      sessions = k.sessions;
    }

shard_lasts : (n m : ℕ) (w : World rules) (j : ℕ) (f : Frame) → Known n m w → InFlight w.sent (shard j) f → T (w.shards j).started
    → Known n m (after_shard rules n w j (S.frame_step (w.shards j) f))
unfolding after_shard
shard_lasts n m w j f k x t =
    let s : S.Shard = w.shards j in
    let o : Outcome S.Shard = S.frame_step s f in
    let z = k.shards j in
    record {
      good = record {
        core = Shards.shard_good j f o.state o.frames k.good.core (right n m w k (shard j) f x) (shard_ran m j s f z t x.rules) (shard_obeys m j s f z t x.rules);
        marks = k.good.marks;
      };
      boards = k.boards;
      shards = changed_all_lem (λ i u. ShardKnown m i u) w.shards j o.state (shard_known m j s f z t x.rules) k.shards;
      sessions = k.sessions;
    }

-- a Submit goes out
submitted : (n m : ℕ) (w : World rules) (s : C.Session) (c number : ℕ) (os : List Operation) (H : Past) → s.client ≡ c → at (H c) number ≡ some os
    → SessionGood (taken s (C.submit_of s number os ∷ []))
    → All (Flies (RightTo n m (logs_of (entries_of w.boards)) H)) (posted n c (C.submit_of s number os ∷ []))
unfolding taken C.submit_of
submitted n m w s c number os H own here z =
    posted_fly (RightTo n m (logs_of (entries_of w.boards)) H) n c (C.submit_of s number os ∷ [])
    (submit_right n m (logs_of (entries_of w.boards)) H s c number os own here, tt) z.frames.rules

invoke_lasts : (n m : ℕ) (w : World rules) (c : ℕ) (os : List Operation) → Known n m w → T (w.sessions c).started
    → SessionGood (taken (after_invoke os (w.sessions c)) (C.submit_of (after_invoke os (w.sessions c)) (w.sessions c).window.next os ∷ []))
    → Known n m (with_invoked n w c os)
invoke_lasts n m w c os k t z =
    let s : C.Session = after_invoke os (w.sessions c) in
    let x = k.sessions c in
    let H : Past = changed w.invoked c (snoc (w.invoked c) os) in
    let own : s.client ≡ c = unfold C.with_window in (x.own_is t) in
    let here : at (H c) (w.sessions c).window.next ≡ some os = rw (x.next_is, changed_same w.invoked c (snoc (w.invoked c) os)) (at_snoc_new (w.invoked c) os) in
    record {
      good = record {
        core = Boards.add_sent (logs_of (entries_of w.boards)) (posted n c (C.submit_of s (w.sessions c).window.next os ∷ [])) (past_core c os k.good.core)
            (submitted n m w s c (w.sessions c).window.next os H own here z);
        marks = k.good.marks;
      };
      boards = k.boards;
      shards = k.shards;
      sessions = λ d. known d (changed_cases w.sessions c s d) (changed_cases w.invoked c (snoc (w.invoked c) os) d);
    }
  where
    known : (d : ℕ) → Changed w.sessions c (after_invoke os (w.sessions c)) d (changed w.sessions c (after_invoke os (w.sessions c)) d)
        → Changed w.invoked c (snoc (w.invoked c) os) d (changed w.invoked c (snoc (w.invoked c) os) d)
        → SessionKnown d (changed w.invoked c (snoc (w.invoked c) os) d) (changed w.sessions c (after_invoke os (w.sessions c)) d)
    known d (there a p) (there b q) = rw (p, q, a) (invoke_known c (w.invoked c) (w.sessions c) os (k.sessions c) (unfold taken in z.state))
    known d (there a p) (elsewhere b q) = absurd (b a)
    known d (elsewhere a p) (there b q) = absurd (a b)
    known d (elsewhere a p) (elsewhere b q) = rw (p, q) (k.sessions d)

retry_lasts : (n m : ℕ) (w : World rules) (c number : ℕ) (os : List Operation) → Known n m w → T (w.sessions c).started
    → C.operations_of number (w.sessions c).window.outstanding ≡ some os → SessionGood (taken (w.sessions c) (C.submit_of (w.sessions c) number os ∷ []))
    → Known n m (with_retried n w c number os)
retry_lasts n m w c number os k t e z =
    let s : C.Session = w.sessions c in
    let x = k.sessions c in
    record {
      good = record {
        core = Boards.add_sent (logs_of (entries_of w.boards)) (posted n c (C.submit_of s number os ∷ [])) k.good.core
            (submitted n m w s c number os w.invoked (x.own_is t) (kept_operations (w.invoked c) number os s.window.outstanding x.outstanding e) z);
        marks = k.good.marks;
      };
      boards = k.boards;
      shards = k.shards;
      sessions = k.sessions;
    }

reply_right : (n m : ℕ) (L : Logs) (H : Past) (c d number : ℕ) (rs : List Read) → RightTo n m L H (client c) (response d number rs)
    → ReplyRight (L n) (record { client = c; number = number; reads = rs })
unfolding reads_in_log
reply_right n m L H c _ number rs (told _ _ ind _ w a x y z) =
    record { ind = ind; write = w; stands = a; client = x; number = y; reads = z ∙ sym (whole_reads ind w.operations (store_after_log (L n) ind)) }

reply_lasts : (n m : ℕ) (w : World rules) (c number : ℕ) (rs : List Read) → Known n m w → InFlight w.sent (client c) (response (w.sessions c).client number rs)
    → SessionKept (after_answer number (w.sessions c)) → Known n m (with_reply w c number rs)
reply_lasts n m w c number rs k x z =
    let r = right n m w k (client c) (response (w.sessions c).client number rs) x in
    let core = k.good.core in
    record {
      good = record {
        core = record {
          chain = core.chain;
          firsts = core.firsts;
          groups = core.groups;
          flight = core.flight;
          answers = all_append (ReplyRight (logs_of (entries_of w.boards) n)) w.replies (record { client = c; number = number; reads = rs } ∷ []) core.answers
              (reply_right n m (logs_of (entries_of w.boards)) w.invoked c (w.sessions c).client number rs r, tt);
        };
        marks = k.good.marks;
      };
      boards = k.boards;
      shards = k.shards;
      sessions = changed_all_lem (λ d s. SessionKnown d (w.invoked d) s) w.sessions c (after_answer number (w.sessions c))
          (answer_known c (w.invoked c) (w.sessions c) number (k.sessions c) z) k.sessions;
    }

pub known_lasts : (n m : ℕ) → Lasts n (Known n m)
known_lasts n m w _ nothing_happened k = k
known_lasts n m w _ (board_stepped_lem i f x t) k = board_lasts n m w i f k x t
known_lasts n m w _ (shard_stepped_lem j f x t) k = shard_lasts n m w j f k x t
known_lasts n m w _ (client_invoked c os t g) k = invoke_lasts n m w c os k t (g (k.sessions c).window)
known_lasts n m w _ (client_retried c number os t e g) k = retry_lasts n m w c number os k t e (g (k.sessions c).window)
known_lasts n m w _ (client_answered c number rs x g) k = reply_lasts n m w c number rs k x (g (k.sessions c).window)
