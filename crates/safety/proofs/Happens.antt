-- What a choice does to a world: nothing, or one of five things. Out areas, bytes and refusals by 11 and 1 end here; what holds at the start and
-- through these holds at every moment of every run.
-- Assumes nothing.
use mathlib.Core.Path.{◌≡◌, refl}
use mathlib.Core.List.{List, [], ◌∷◌, ◌++◌, append-nil}
use mathlib.Core.Option.{Option, none, some}
use Prim.Native.Nat.{ℕ, ◌≤◌}
use native.Mathlib.Omega.{arith}
use lib.Dec.{T, eqb}
use lib.ListN.{length}
use mir.Facts.{no_eqb}
use Rattle.rules.specs.Lists.{If◌then◌else◌, at, snoc, changed}
use Rattle.rules.specs.Answers.{done, breaks_rule, not_usable}
use Rattle.rules.specs.Transactions.{Operation, Read}
use Rattle.rules.specs.Frames.{Frame, response, decode}
use Rattle.rules.specs.Outcomes.{Outcome, taken, refuse}
use Rattle.rules.specs.Board as B
use Rattle.rules.specs.Shard as S
use Rattle.rules.specs.Session as C
use Rattle.rules.specs.Kept.{SessionKept}
use Rattle.rules.proofs.Lists.{by, if_yes, if_no}
use Rattle.rules.proofs.Frames.{decode_spells}
use Rattle.rules.proofs.Steps.{ready}
use Rattle.rules.proofs.Session.{SessionGood, invoke_good, retry_good}
use Rattle.rules.proofs.Session as CP
use Rattle.safety.specs.World.{Address, board, shard, client, Packet, posted, Replied, World, rules, Choice, invoke, retry, deliver, remembered, start, after_board, after_shard, after_call, after_reply, arrive, arrive_sent, next, after, run}
use Rattle.safety.proofs.Lists.{changed_own}
use Rattle.safety.proofs.Flight.{InFlight}
use Rattle.safety.proofs.Deeds.{after_invoke, Invokes, not_invoked, invokes, invoke_law, Retries, not_retried, retries, retry_law, Hears, not_heard, hears, response_law}

-- ---- Worlds after a call that was taken, and after a reply that was

abbrev pub with_invoked : ℕ → World rules → ℕ → List Operation → World rules
with_invoked n w c os =
    let s = after_invoke os (w.sessions c) in
    record {
      boards = w.boards;
      shards = w.shards;
      sessions = changed w.sessions c s;
      sent = w.sent ++ posted n c (C.submit_of s (w.sessions c).window.next os ∷ []);
      invoked = changed w.invoked c (snoc (w.invoked c) os);
      replies = w.replies;
    }

abbrev pub with_retried : ℕ → World rules → ℕ → ℕ → List Operation → World rules
with_retried n w c k os =
    record {
      boards = w.boards;
      shards = w.shards;
      sessions = w.sessions;
      sent = w.sent ++ posted n c (C.submit_of (w.sessions c) k os ∷ []);
      invoked = w.invoked;
      replies = w.replies;
    }

abbrev pub after_answer : ℕ → C.Session → C.Session
after_answer k s = C.with_window (C.answered k s.window) s

abbrev pub with_reply : World rules → ℕ → ℕ → List Read → World rules
with_reply w c k rs =
    record {
      boards = w.boards;
      shards = w.shards;
      sessions = changed w.sessions c (after_answer k (w.sessions c));
      sent = w.sent;
      invoked = w.invoked;
      replies = snoc w.replies (record { client = c; number = k; reads = rs });
    }

-- ---- The five things

pub data Happened (n : ℕ) (w : World rules) : World rules → Type 0 where
  nothing_happened : Happened n w w
  board_stepped_lem : (i : ℕ) (f : Frame) → InFlight w.sent (board i) f → T (w.boards i).started → Happened n w (after_board rules n w i (B.frame_step (w.boards i) f))
  shard_stepped_lem : (j : ℕ) (f : Frame) → InFlight w.sent (shard j) f → T (w.shards j).started → Happened n w (after_shard rules n w j (S.frame_step (w.shards j) f))
  client_invoked : (c : ℕ) (os : List Operation) → T (w.sessions c).started
      → (SessionKept (w.sessions c) → SessionGood (taken (after_invoke os (w.sessions c)) (C.submit_of (after_invoke os (w.sessions c)) (w.sessions c).window.next os ∷ [])))
      → Happened n w (with_invoked n w c os)
  client_retried : (c k : ℕ) (os : List Operation) → T (w.sessions c).started → C.operations_of k (w.sessions c).window.outstanding ≡ some os
      → (SessionKept (w.sessions c) → SessionGood (taken (w.sessions c) (C.submit_of (w.sessions c) k os ∷ []))) → Happened n w (with_retried n w c k os)
  client_answered : (c k : ℕ) (rs : List Read) → InFlight w.sent (client c) (response (w.sessions c).client k rs)
      → (SessionKept (w.sessions c) → SessionKept (after_answer k (w.sessions c))) → Happened n w (with_reply w c k rs)

-- ---- A refusal changes nothing

not_done : {A : Type 0} (r : ℕ) (x y : A) → 1 ≤ r → (If eqb r done then x else y) ≡ y
not_done r x y l = if_no (eqb r done) x y (no_eqb {a = r} {b = done} (omega arith))

board_refused : (n : ℕ) (w : World rules) (i r : ℕ) → after_board rules n w i (refuse r (w.boards i)) ≡ w
unfolding after_board refuse
board_refused n w i r = rw (changed_own w.boards i, append-nil w.sent) refl

shard_refused : (n : ℕ) (w : World rules) (j r : ℕ) → after_shard rules n w j (refuse r (w.shards j)) ≡ w
unfolding after_shard refuse
shard_refused n w j r = rw (changed_own w.shards j, append-nil w.sent) refl

call_refused : (n : ℕ) (w : World rules) (c r : ℕ) (h : List (List Operation)) → 1 ≤ r → after_call rules n w c h (refuse r (w.sessions c)) ≡ w
unfolding after_call refuse
call_refused n w c r h l = rw (not_done r h (w.invoked c) l, changed_own w.sessions c, changed_own w.invoked c, append-nil w.sent) refl

-- ---- Calls

invoke_taken : (n : ℕ) (w : World rules) (c : ℕ) (os : List Operation)
    → after_call rules n w c (snoc (w.invoked c) os) (taken (after_invoke os (w.sessions c)) (C.submit_of (after_invoke os (w.sessions c)) (w.sessions c).window.next os ∷ []))
    ≡ with_invoked n w c os
unfolding after_call taken
invoke_taken n w c os = rw (if_yes (eqb done done) (snoc (w.invoked c) os) (w.invoked c) tt) refl

invoke_happens : (n : ℕ) (w : World rules) (c : ℕ) (list : List C.Asked) (o : Outcome C.Session) → (SessionKept (w.sessions c) → SessionGood o) → Invokes (w.sessions c) list o
    → Happened n w (after_call rules n w c (remembered (w.invoked c) (C.all_meant list)) o)
invoke_happens n w c list _ g (not_invoked r l) = rw (call_refused n w c r (remembered (w.invoked c) (C.all_meant list)) l) nothing_happened
invoke_happens n w c list _ g (invokes os e t) =
    let past : remembered (w.invoked c) (C.all_meant list) ≡ snoc (w.invoked c) os = rw e (unfold remembered in refl) in
    rw (past, invoke_taken n w c os) (client_invoked c os t g)

retry_taken : (n : ℕ) (w : World rules) (c k : ℕ) (os : List Operation)
    → after_call rules n w c (w.invoked c) (taken (w.sessions c) (C.submit_of (w.sessions c) k os ∷ [])) ≡ with_retried n w c k os
unfolding after_call taken
retry_taken n w c k os = rw (if_yes (eqb done done) (w.invoked c) (w.invoked c) tt, changed_own w.sessions c, changed_own w.invoked c) refl

retry_happens : (n : ℕ) (w : World rules) (c k : ℕ) (o : Outcome C.Session) → (SessionKept (w.sessions c) → SessionGood o) → Retries (w.sessions c) k o
    → Happened n w (after_call rules n w c (w.invoked c) o)
retry_happens n w c k _ g (not_retried r l) = rw (call_refused n w c r (w.invoked c) l) nothing_happened
retry_happens n w c k _ g (retries os t e) = rw (retry_taken n w c k os) (client_retried c k os t e g)

-- ---- Arrivals

told : C.Reply → Replied C.Session
told r = record { answer = r.answer; session = r.session; number = r.number; reads = r.reads }

reply_refused : (w : World rules) (c r : ℕ) → 1 ≤ r → after_reply rules w c (told (C.decline r (w.sessions c))) ≡ w
unfolding after_reply told C.decline
reply_refused w c r l = rw (not_done r (snoc w.replies (record { client = c; number = 0; reads = [] })) w.replies l, changed_own w.sessions c) refl

reply_taken : (w : World rules) (c k : ℕ) (rs : List Read)
    → after_reply rules w c (told (record { answer = done; session = after_answer k (w.sessions c); number = k; reads = rs })) ≡ with_reply w c k rs
unfolding after_reply told
reply_taken w c k rs = rw (if_yes (eqb done done) (snoc w.replies (record { client = c; number = k; reads = rs })) w.replies tt) refl

reply_happens : (n : ℕ) (w : World rules) (c : ℕ) (f : Frame) (r : C.Reply) → InFlight w.sent (client c) f → (SessionKept (w.sessions c) → SessionKept r.session)
    → Hears (w.sessions c) f r → Happened n w (after_reply rules w c (told r))
reply_happens n w c _ _ x g (not_heard f r l) = rw (reply_refused w c r l) nothing_happened
reply_happens n w c _ _ x g (hears k rs) = rw (reply_taken w c k rs) (client_answered c k rs x g)

-- bytes that are a frame's arrive, or bytes that are none's
pub flown : (sent : List Packet) (which : ℕ) (p : Packet) (f : Frame) → at sent which ≡ some p → decode p.bytes ≡ some f → InFlight sent p.to f
flown sent which p f a d =
    let s = decode_spells p.bytes f d in
    record { which = which; stands = rw s.bytes a; rules = s.rules }

arrive_happens : (n : ℕ) (w : World rules) (to : Address) (bytes out : List ℕ) → ((f : Frame) → decode bytes ≡ some f → InFlight w.sent to f) → Happened n w (arrive rules n w to bytes out)
unfolding arrive told B.step B.read_step S.step S.read_step C.step C.read_step
arrive_happens n w (board i) bytes out x =
    by (λ o. Happened n w (after_board rules n w i o)) _ (λ t. rw (board_refused n w i not_usable) nothing_happened) (λ t. go (ready (w.boards i).started _ t) (decode bytes) x)
  where
    go : T (w.boards i).started → (o : Option Frame) → ((f : Frame) → o ≡ some f → InFlight w.sent (board i) f) → Happened n w (after_board rules n w i (B.read_step (w.boards i) o))
    go t none x = rw (board_refused n w i breaks_rule) nothing_happened
    go t (some f) x = board_stepped_lem i f (x f refl) t
arrive_happens n w (shard j) bytes out x =
    by (λ o. Happened n w (after_shard rules n w j o)) _ (λ t. rw (shard_refused n w j not_usable) nothing_happened) (λ t. go (ready (w.shards j).started _ t) (decode bytes) x)
  where
    go : T (w.shards j).started → (o : Option Frame) → ((f : Frame) → o ≡ some f → InFlight w.sent (shard j) f) → Happened n w (after_shard rules n w j (S.read_step (w.shards j) o))
    go t none x = rw (shard_refused n w j breaks_rule) nothing_happened
    go t (some f) x = shard_stepped_lem j f (x f refl) t
arrive_happens n w (client c) bytes out x = by P _ (λ t g. rw (reply_refused w c not_usable (omega arith)) nothing_happened) (λ t. go (decode bytes) x) (CP.step_good (w.sessions c) bytes)
  where
    P : C.Reply → Type 0
    P r = (SessionKept (w.sessions c) → SessionKept r.session) → Happened n w (after_reply rules w c (told r))

    go : (o : Option Frame) → ((f : Frame) → o ≡ some f → InFlight w.sent (client c) f) → P (C.read_step (w.sessions c) o)
    go none x g = rw (reply_refused w c breaks_rule (omega arith)) nothing_happened
    go (some f) x g = reply_happens n w c f (C.frame_step (w.sessions c) f) (x f refl) g (response_law (w.sessions c) f)

sent_happens : (n : ℕ) (w : World rules) (which : ℕ) (o : Option Packet) (out : List ℕ) → at w.sent which ≡ o → Happened n w (arrive_sent rules n w o out)
unfolding arrive_sent
sent_happens n w which none out e = nothing_happened
sent_happens n w which (some p) out e = arrive_happens n w p.to p.bytes out (λ f d. flown w.sent which p f e d)

pub happens : (n : ℕ) (w : World rules) (x : Choice rules) → Happened n w (next rules n w x)
unfolding next
happens n w (invoke c list out) = invoke_happens n w c list _ (invoke_good (w.sessions c) list (length out)) (invoke_law (w.sessions c) list (length out))
happens n w (retry c k out) = retry_happens n w c k _ (retry_good (w.sessions c) k (length out)) (retry_law (w.sessions c) k (length out))
happens n w (deliver which out) = sent_happens n w which (at w.sent which) out refl

-- ---- Every moment of every run

-- P is kept by whatever happens
abbrev pub Lasts : ℕ → (World rules → Type 0) → Type 0
Lasts n P = (w v : World rules) → Happened n w v → P w → P v

after_lasts : (n : ℕ) (P : World rules → Type 0) → Lasts n P → (w : World rules) (choices : List (Choice rules)) → P w → P (after rules n w choices)
unfolding after
after_lasts n P h w [] p = p
after_lasts n P h w (x ∷ xs) p = after_lasts n P h (next rules n w x) xs (h w (next rules n w x) (happens n w x) p)

pub always : (n m : ℕ) (P : World rules → Type 0) → P (start rules n m) → Lasts n P → (choices : List (Choice rules)) → P (run rules n m choices)
unfolding run
always n m P s h choices = after_lasts n P h (start rules n m) choices s
