-- A run of code that keeps its promises is, by what its states mean, a run of the rules; so demand 3 holds of the code's own step functions, and
-- so does whatever else is shown of every run.
-- Assumes nothing.
use mathlib.Core.Path.{◌≡◌, refl, ap, ◌∙◌, fun_ext}
use mathlib.Core.List.{List, [], ◌∷◌, map}
use mathlib.Core.Option.{Option, none, some}
use Prim.Native.Nat.{ℕ}
use lib.Dec.{T}
use lib.ListN.{length}
use Rattle.rules.specs.Lists.{at, every}
use Rattle.rules.specs.Transactions.{Operation}
use Rattle.rules.specs.Frames.{Frame, obeys}
use Rattle.rules.specs.Outcomes.{Outcome}
use Rattle.rules.specs.Board as B
use Rattle.rules.specs.Shard as S
use Rattle.rules.specs.Session as C
use Rattle.rules.proofs.Obeys as O
use Rattle.rules.proofs.Shard as SP
use Rattle.rules.proofs.Session as CP
use Rattle.safety.specs.World.{Replied, Address, board, shard, client, Packet, rules, World, Choice, invoke, retry, deliver, remembered, start, after_board, after_shard, after_call, after_reply, arrive, arrive_sent, next, after, run}
use Rattle.safety.specs.OutArea.{frames_in}
use Rattle.safety.specs.Coded.{Stepped, Code, read_off, agents, Bytes, Meant, Promises, meaning, Demand3Of}
use Rattle.safety.proofs.Lists.{changed_all_lem, changed_map, all_at}
use Rattle.safety.proofs.OutArea.{frames_in_lem}
use Rattle.safety.proofs.Bytes.{encode_bytes}
use Rattle.safety.proofs.Flight.{Flies}
use Rattle.safety.proofs.Happens.{happens}
use Rattle.safety.proofs.Invariant.{RightTo, logs_of}
use Rattle.safety.proofs.Known.{entries_of, Known}
use Rattle.safety.proofs.Lasts.{known_lasts}
use Rattle.safety.proofs.Safety.{known_starts, safe}

-- ---- One step, read off its out area, is the rules' step

viewed : {State Rule : Type 0} → (State → Rule) → Outcome State → Outcome Rule
viewed view o = record { answer = o.answer; state = view o.state; frames = o.frames }

read_meant : {State Rule : Type 0} (Held : State → Type 0) (view : State → Rule) (out : List ℕ) (g : Stepped State) (o : Outcome Rule) → Meant Held view out g o
    → T (every obeys o.frames) → viewed view (read_off g) ≡ o
unfolding viewed read_off
read_meant Held view out g o m ok =
    let fs : frames_in g.frames g.out ≡ o.frames = rw (m.frames, m.written) (frames_in_lem o.frames out ok) in
    λ i. record { answer = m.answer i; state = m.state i; frames = fs i }

module _ (code : Code) (p : Promises code) where
  pub record Held (w : World (agents code)) : Type 0 where
    pub boards : (i : ℕ) → p.HeldBoard (w.boards i)
    pub shards : (j : ℕ) → p.HeldShard (w.shards j)
    pub sessions : (c : ℕ) → p.HeldSession (w.sessions c)

  -- a world of the code that is held and means a world of the rules
  pub record Follows (w : World (agents code)) (v : World rules) : Type 0 where
    pub held : Held w
    pub means : meaning code p w ≡ v

  -- ---- What each step does to the world

  board_meant : (n : ℕ) (w : World (agents code)) (i : ℕ) (o : Outcome code.Board)
      → meaning code p (after_board (agents code) n w i o) ≡ after_board rules n (meaning code p w) i (viewed p.view_board o)
  unfolding meaning after_board viewed
  board_meant n w i o = rw (changed_map p.view_board w.boards i o.state) refl

  shard_meant : (n : ℕ) (w : World (agents code)) (j : ℕ) (o : Outcome code.Shard)
      → meaning code p (after_shard (agents code) n w j o) ≡ after_shard rules n (meaning code p w) j (viewed p.view_shard o)
  unfolding meaning after_shard viewed
  shard_meant n w j o = rw (changed_map p.view_shard w.shards j o.state) refl

  call_meant : (n : ℕ) (w : World (agents code)) (c : ℕ) (history : List (List Operation)) (o : Outcome code.Session)
      → meaning code p (after_call (agents code) n w c history o) ≡ after_call rules n (meaning code p w) c history (viewed p.view_session o)
  unfolding meaning after_call viewed
  call_meant n w c history o = rw (changed_map p.view_session w.sessions c o.state) refl

  seen : Replied code.Session → Replied C.Session
  seen r = record { answer = r.answer; session = p.view_session r.session; number = r.number; reads = r.reads }

  reply_meant : (w : World (agents code)) (c : ℕ) (r : Replied code.Session) → meaning code p (after_reply (agents code) w c r) ≡ after_reply rules (meaning code p w) c (seen r)
  unfolding meaning after_reply seen
  reply_meant w c r = rw (changed_map p.view_session w.sessions c r.session) refl

  -- ---- What is chosen, and what follows

  pub meant_choice : Choice (agents code) → Choice rules
  meant_choice (invoke c request out) = invoke c (code.asks request) out
  meant_choice (retry c number out) = retry c number out
  meant_choice (deliver which out) = deliver which out

  module _ (n m : ℕ) (w : World (agents code)) (h : Held w) (k : Known n m (meaning code p w)) where
    call_follows : (c : ℕ) (history : List (List Operation)) (out : List ℕ) (g : Stepped code.Session) (o : Outcome C.Session)
        → Meant p.HeldSession p.view_session out g o → T (every obeys o.frames)
        → Follows (after_call (agents code) n w c history (read_off g)) (after_call rules n (meaning code p w) c history o)
    call_follows c history out g o x ok =
        record {
          held = unfold after_call read_off in
              (record { boards = h.boards; shards = h.shards; sessions = changed_all_lem (λ d s. p.HeldSession s) w.sessions c g.state x.held h.sessions });
          means = call_meant n w c history (read_off g) ∙ ap (after_call rules n (meaning code p w) c history) (read_meant p.HeldSession p.view_session out g o x ok);
        }

    arrive_follows : (to : Address) (bytes out : List ℕ) → Bytes bytes → Follows (arrive (agents code) n w to bytes out) (arrive rules n (meaning code p w) to bytes out)
    unfolding arrive meaning
    arrive_follows (board i) bytes out small =
        let g = code.step_board (w.boards i) bytes out in
        let x = p.board_steps (w.boards i) bytes out (h.boards i) small in
        let z = k.boards i in
        let ok = (O.step_good (p.view_board (w.boards i)) z.sizes z.queues bytes (length out)).frames.rules in
        record {
          held = unfold after_board read_off in
              (record { boards = changed_all_lem (λ j b. p.HeldBoard b) w.boards i g.state x.held h.boards; shards = h.shards; sessions = h.sessions });
          means = board_meant n w i (read_off g)
              ∙ ap (after_board rules n (meaning code p w) i) (read_meant p.HeldBoard p.view_board out g _ x ok);
        }
    arrive_follows (shard j) bytes out small =
        let g = code.step_shard (w.shards j) bytes out in
        let x = p.shard_steps (w.shards j) bytes out (h.shards j) small in
        let ok = (SP.step_good (p.view_shard (w.shards j)) (k.shards j).sizes bytes (length out)).frames.rules in
        record {
          held = unfold after_shard read_off in
              (record { boards = h.boards; shards = changed_all_lem (λ i s. p.HeldShard s) w.shards j g.state x.held h.shards; sessions = h.sessions });
          means = shard_meant n w j (read_off g)
              ∙ ap (after_shard rules n (meaning code p w) j) (read_meant p.HeldShard p.view_shard out g _ x ok);
        }
    arrive_follows (client c) bytes out small =
        let g = code.respond (w.sessions c) bytes in
        let x = p.responds (w.sessions c) bytes (h.sessions c) small in
        let e : seen g ≡ rules.respond (p.view_session (w.sessions c)) bytes =
        unfold seen in (λ i. record { answer = x.answer i; session = x.session i; number = x.number i; reads = x.reads i }) in
        record {
          held = unfold after_reply in
              (record { boards = h.boards; shards = h.shards; sessions = changed_all_lem (λ d s. p.HeldSession s) w.sessions c g.session x.held h.sessions });
          means = reply_meant w c g ∙ ap (after_reply rules (meaning code p w) c) e;
        }

    -- what was sent is a frame's bytes
    sent_follows : (o : Option Packet) (out : List ℕ) → ((q : Packet) → o ≡ some q → Bytes q.bytes) → Follows (arrive_sent (agents code) n w o out) (arrive_sent rules n (meaning code p w) o out)
    unfolding arrive_sent
    sent_follows none out small = record { held = h; means = refl }
    sent_follows (some q) out small = arrive_follows q.to q.bytes out (small q refl)

    next_follows : (x : Choice (agents code)) → Follows (next (agents code) n w x) (next rules n (meaning code p w) (meant_choice x))
    unfolding next meant_choice meaning
    next_follows (invoke c request out) =
        call_follows c (remembered (w.invoked c) (C.all_meant (code.asks request))) out (code.invoke (w.sessions c) request out) _ (p.invokes (w.sessions c) request out (h.sessions c))
        (CP.invoke_good (p.view_session (w.sessions c)) (code.asks request) (length out) (k.sessions c).window).frames.rules
    next_follows (retry c number out) =
        call_follows c (w.invoked c) out (code.retry (w.sessions c) number out) _ (p.retries (w.sessions c) number out (h.sessions c))
        (CP.retry_good (p.view_session (w.sessions c)) number (length out) (k.sessions c).window).frames.rules
    next_follows (deliver which out) = sent_follows (at w.sent which) out small
      where
        R : Address → Frame → Type 0
        R = RightTo n m (logs_of (entries_of (meaning code p w).boards)) w.invoked

        small : (q : Packet) → at w.sent which ≡ some q → Bytes q.bytes
        small q e = let f = all_at (Flies R) w.sent which q e k.good.core.flight in rw f.bytes (encode_bytes f.frame f.rules)

  after_follows : (n m : ℕ) (w : World (agents code)) (xs : List (Choice (agents code))) → Held w → Known n m (meaning code p w)
      → Follows (after (agents code) n w xs) (after rules n (meaning code p w) (map meant_choice xs))
  unfolding after
  after_follows n m w [] h k = record { held = h; means = refl }
  after_follows n m w (x ∷ xs) h k =
      let v = meaning code p w in
      let y = meant_choice x in
      let f = next_follows n m w h k x in
      let rest = after_follows n m (next (agents code) n w x) xs f.held (rw f.means (known_lasts n m v (next rules n v y) (happens n v y) k)) in
      record { held = rest.held; means = rest.means ∙ ap (λ (u : World rules). after rules n u (map meant_choice xs)) f.means }

  start_follows : (n m : ℕ) → Follows (start (agents code) n m) (start rules n m)
  unfolding start meaning
  start_follows n m =
      let bs : ◌≡◌ {A = ℕ → B.Board} (λ i. p.view_board (code.start_board n m i)) (λ i. (B.start n m i).state) = fun_ext (λ i. (p.board_starts n m i).1) in
      let ss : ◌≡◌ {A = ℕ → S.Shard} (λ j. p.view_shard (code.start_shard m j)) (λ j. (S.start m j).state) = fun_ext (λ j. (p.shard_starts m j).1) in
      let cs : ◌≡◌ {A = ℕ → C.Session} (λ c. p.view_session (code.start_session c)) (λ c. (C.start c).state) = fun_ext (λ c. (p.session_starts c).1) in
      record {
        held = record { boards = λ i. (p.board_starts n m i).0; shards = λ j. (p.shard_starts m j).0; sessions = λ c. (p.session_starts c).0 };
        means = λ i. record { boards = bs i; shards = ss i; sessions = cs i; sent = []; invoked = λ c. []; replies = [] };
      }

  -- every run of the code is held, and means the rules' run by the same choices
  pub run_follows : (n m : ℕ) (choices : List (Choice (agents code))) → Follows (run (agents code) n m choices) (run rules n m (map meant_choice choices))
  unfolding run
  run_follows n m choices =
      let s = start_follows n m in
      let f = after_follows n m (start (agents code) n m) choices s.held (rw s.means (known_starts n m)) in
      record { held = f.held; means = f.means ∙ ap (λ (u : World rules). after rules n u (map meant_choice choices)) s.means }

  -- DEMAND 3 of the code
  pub safe_code : Demand3Of code p
  safe_code n m choices = rw (run_follows n m choices).means (safe n m (map meant_choice choices))
