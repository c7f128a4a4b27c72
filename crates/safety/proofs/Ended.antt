-- An entry that is EXE is the same entry on every board behind; an Executed in flight was sent by such an entry, and so were a Response in flight
-- and a reply taken, on every board.
-- Assumes nothing.
use mathlib.Core.Path.{◌≡◌, refl, sym, ap, ◌∙◌}
use mathlib.Core.Logic.{◌⊎◌, inl, inr}
use mathlib.Core.List.{List, [], ◌∷◌, ◌++◌}
use mathlib.Core.Option.{some}
use Prim.Native.Nat.{ℕ, pred, ◌≤◌, ◌<◌}
use native.Mathlib.Omega.{arith}
use native.Mathlib.Decide.{ℕ_discrete}
use lib.Dec.{T}
use lib.ListN.{length, set}
use Rattle.rules.specs.Lists.{at, changed}
use Rattle.rules.specs.Transactions.{Operation, Write, Read}
use Rattle.rules.specs.Frames.{Frame, submit, forward, shard_append, exec_notif, executed, response}
use Rattle.rules.specs.Outcomes.{Outcome, taken, refuse}
use Rattle.rules.specs.Board as B
use Rattle.rules.specs.Board.{Entry, Board, Status, PRE, EXE, is_exe, writes, new_entry, finished}
use Rattle.rules.specs.Shard as S
use Rattle.rules.specs.Session as C
use Rattle.rules.proofs.Lists.{by, nothing, at_snoc_cases, at_set_cases}
use Rattle.rules.proofs.Kept.{at_writes}
use Rattle.rules.proofs.Session.{SessionGood}
use Rattle.safety.specs.World.{Address, board, shard, client, recipient, Packet, posted, ReplyTaken, World, rules, start, after_board, after_shard}
use Rattle.safety.specs.Further.{Everywhere}
use Rattle.safety.specs.Machine.{All, Sends, sends_forward, sends_append, sends_executed, sends_response, Remark, by_notif, by_executed, Moved, same, grown, marked, Ran, stayed, went}
use Rattle.safety.proofs.Lists.{Changed, there, elsewhere, changed_cases, changed_same, changed_map, Under, at_snoc_old, at_set_there, at_set_elsewhere, all_map, all_append}
use Rattle.safety.proofs.Invariant.{Logs, Past, RightTo, heard, told, Sound, logs_of, Marks}
use Rattle.safety.proofs.Flight.{InFlight, Flies, arrives, flies_map, more_fly}
use Rattle.safety.proofs.Growth.{further_up}
use Rattle.safety.proofs.Sends.{Ended, ends}
use Rattle.safety.proofs.Marked.{remark_sound}
use Rattle.safety.proofs.Deeds.{after_invoke}
use Rattle.safety.proofs.Happens.{Happened, nothing_happened, board_stepped_lem, shard_stepped_lem, client_invoked, client_retried, client_answered}
use Rattle.safety.proofs.Known.{entries_of, Known, board_obeys, board_moved, shard_obeys, shard_ran}
use Rattle.safety.proofs.Lasts.{right}

-- ---- EXE entries of two boards

exe_is : (s : Status) → T (is_exe s) → s ≡ EXE
exe_is PRE t = absurd t
exe_is EXE t = refl

-- two EXE entries under one log number are one
pub one_entry : (m : ℕ) (G : List Write) (ind : ℕ) (d e : Entry) → Sound m G ind d → Sound m G ind e → T (is_exe d.status) → T (is_exe e.status) → d ≡ e
one_entry m G ind d e s t x y =
    let a = ends m G ind d s x in
    let b = ends m G ind e t y in
    let h : some d.write ≡ some e.write = sym a.stands ∙ b.stands in
    let w : d.write ≡ e.write = cc in
    let r : d.reads ≡ e.reads = a.whole ∙ (rw w (sym b.whole)) in
    let st : d.status ≡ e.status = exe_is d.status x ∙ sym (exe_is e.status y) in
    let rem : d.remaining ≡ e.remaining = a.none_remain ∙ sym b.none_remain in
    λ i. record { write = w i; status = st i; reads = r i; remaining = rem i }

-- ---- What is known

pub record Exe (E : ℕ → List Entry) (i ind : ℕ) : Type 0 where
  pub entry : Entry
  pub stands : at (E i) ind ≡ some entry
  pub exe : T (is_exe entry.status)

-- every board behind has it EXE
abbrev pub Behind : ℕ → (ℕ → List Entry) → ℕ → ℕ → Type 0
Behind n E i ind = (k : ℕ) → i < k → k ≤ n → Exe E k ind

-- of each entry, of each frame in flight, and of each reply
abbrev pub Ends : ℕ → (ℕ → List Entry) → Type 0
Ends n E = (i ind : ℕ) → 1 ≤ i → Exe E i ind → Behind n E i ind

abbrev pub EndedTo : ℕ → (ℕ → List Entry) → Address → Frame → Type 0
EndedTo n E to (submit w ack) = Unit {0}
EndedTo n E to (forward ind w ack) = Unit {0}
EndedTo n E to (shard_append j ind sn xs) = Unit {0}
EndedTo n E to (exec_notif j ind rs) = Unit {0}
EndedTo n E to (executed ind rs) = (i : ℕ) → to ≡ board i → Behind n E i ind
EndedTo n E to (response c number rs) = Everywhere n E c number rs

abbrev pub ToldRight : ℕ → (ℕ → List Entry) → ReplyTaken → Type 0
ToldRight n E r = Everywhere n E r.client r.number r.reads

-- ---- EXE entries stay as they are, so all this stays

abbrev pub Stays : (ℕ → List Entry) → (ℕ → List Entry) → Type 0
Stays E F = (i ind : ℕ) (e : Entry) → 1 ≤ i → at (E i) ind ≡ some e → T (is_exe e.status) → at (F i) ind ≡ some e

module _ (E F : ℕ → List Entry) (h : Stays E F) where
  behind_stays : (n i ind : ℕ) → Behind n E i ind → Behind n F i ind
  behind_stays n i ind b k lo hi = let x = b k lo hi in record { entry = x.entry; stands = h k ind x.entry (omega arith) x.stands x.exe; exe = x.exe }

  everywhere_stays : (n c number : ℕ) (rs : List Read) → Everywhere n E c number rs → Everywhere n F c number rs
  everywhere_stays n c number rs x =
      record {
        ind = x.ind;
        entry = x.entry;
        exe = x.exe;
        client = x.client;
        number_is = x.number_is;
        reads_are = x.reads_are;
        stands = λ i lo hi. h i x.ind x.entry lo (x.stands i lo hi) x.exe;
      }

  pub ended_stays : (n : ℕ) (to : Address) (f : Frame) → EndedTo n E to f → EndedTo n F to f
  ended_stays n to (submit w ack) x = tt
  ended_stays n to (forward ind w ack) x = tt
  ended_stays n to (shard_append j ind sn xs) x = tt
  ended_stays n to (exec_notif j ind rs) x = tt
  ended_stays n to (executed ind rs) x = λ i e. behind_stays n i ind (x i e)
  ended_stays n to (response c number rs) x = everywhere_stays n c number rs x

  pub told_stays : (n : ℕ) (r : ReplyTaken) → ToldRight n E r → ToldRight n F r
  told_stays n r x = everywhere_stays n r.client r.number r.reads x

-- ---- A board's step

module _ (n m : ℕ) (E : ℕ → List Entry) (H : Past) (i : ℕ) (lo : 1 ≤ i) (hi : i ≤ n) (marks : Marks n m E) (under : Under (writes (E n)) (writes (E i)))
    (f : Frame) (right : RightTo n m (logs_of E) H (board i) f) where
  -- an EXE entry that is changed stays as it is
  remark_stays : (ind : ℕ) (e d : Entry) → at (E i) ind ≡ some e → Remark e ind f d → T (is_exe e.status) → d ≡ e
  remark_stays ind e d a how t =
      let s = marks i ind e lo a in
      let z = remark_sound n m (logs_of E) H i ind e d f under (at_writes (E i) ind e a) s right how in
      go how (ends m (writes (E n)) ind e s t) (λ u. one_entry m (writes (E n)) ind d e z s u t)
    where
      go : {g : Frame} {c : Entry} → Remark e ind g c → Ended m (writes (E n)) ind e → (T (is_exe c.status) → c ≡ e) → c ≡ e
      go (by_notif j rs status h z) x one = absurd (rw x.none_remain at h)
      go (by_executed rs) x one = one (unfold finished in tt)

  moved_stays : (log : List Entry) (fs : List Frame) → Moved n m i (E i) f log fs → (ind : ℕ) (e : Entry) → at (E i) ind ≡ some e → T (is_exe e.status) → at log ind ≡ some e
  moved_stays _ _ (same fs s) ind e a t = a
  moved_stays _ _ (grown w fs from s) ind e a t = at_snoc_old (E i) (new_entry m w) ind e a
  moved_stays _ _ (marked q d c fs b how s) ind e a t = go (ℕ_discrete ind q)
    where
      go : Dec (ind ≡ q) → at (set (E i) q c) ind ≡ some e
      go (yes k) =
          let x : at (E i) ind ≡ some d = rw k b in
          let y : d ≡ e = cc in
          let z : c ≡ d = remark_stays q d c b how (rw y t) in
          rw (k, ← y, ← z) (at_set_there (E i) q d c b)
      go (no k) = at_set_elsewhere (E i) q c ind e k a

  pub board_stays : (log : List Entry) (fs : List Frame) → Moved n m i (E i) f log fs → Stays E (changed E i log)
  board_stays log fs mv j ind e l a t = go (changed_cases E i log j)
    where
      go : Changed E i log j (changed E i log j) → at (changed E i log j) ind ≡ some e
      go (there x y) = rw y (moved_stays log fs mv ind e (rw x at a) t)
      go (elsewhere x y) = rw y a

  -- what is newly EXE is EXE behind
  new_ends : (log : List Entry) (fs : List Frame) → Moved n m i (E i) f log fs → Ends n E → EndedTo n E (board i) f → (ind : ℕ) (e : Entry) → at log ind ≡ some e → T (is_exe e.status)
      → Behind n E i ind
  new_ends _ _ (same fs s) old to ind e a t = old i ind lo (record { entry = e; stands = a; exe = t })
  new_ends _ _ (grown w fs from s) old to ind e a t = go (at_snoc_cases (E i) (new_entry m w) ind e a)
    where
      go : (at (E i) ind ≡ some e) ⊎ ((ind ≡ length (E i)) × (e ≡ new_entry m w)) → Behind n E i ind
      go (inl b) = old i ind lo (record { entry = e; stands = b; exe = t })
      go (inr b) = absurd (unfold new_entry in (rw b.1 at t))
  new_ends _ _ (marked q d c fs b how s) old to ind e a t = go (at_set_cases (E i) q c ind e a)
    where
      by_how : {g : Frame} {x : Entry} {here : Address} → Remark d q g x → RightTo n m (logs_of E) H here g → here ≡ board i → EndedTo n E here g → Behind n E i q
      by_how (by_notif j rs status h o) (heard b _ _ _ w z r u y) is to = λ k l u. let v : b ≡ i = cc in absurd (omega arith)
      by_how (by_executed rs) r is to = to i is

      go : (at (E i) ind ≡ some e) ⊎ ((ind ≡ q) × (e ≡ c)) → Behind n E i ind
      go (inl b) = old i ind lo (record { entry = e; stands = b; exe = t })
      go (inr b) = rw b.0 (by_how how right refl to)

  pub board_ends : (log : List Entry) (fs : List Frame) → Moved n m i (E i) f log fs → Ends n E → EndedTo n E (board i) f → Ends n (changed E i log)
  board_ends log fs mv old to j ind l x = go (changed_cases E i log j)
    where
      st : Stays E (changed E i log)
      st = board_stays log fs mv

      go : Changed E i log j (changed E i log j) → Behind n (changed E i log) j ind
      go (there a b) = rw a (behind_stays E (changed E i log) st n i ind (new_ends log fs mv old to ind x.entry (rw b at x.stands) x.exe))
      go (elsewhere a b) = behind_stays E (changed E i log) st n j ind (old j ind l (record { entry = x.entry; stands = rw b at x.stands; exe = x.exe }))

-- ---- What a board sends

-- at or behind
at_or_behind : (i k : ℕ) → i ≤ k → (i ≡ k) ⊎ (i < k)
at_or_behind i k h = go (ℕ_discrete i k)
  where
    go : Dec (i ≡ k) → (i ≡ k) ⊎ (i < k)
    go (yes e) = inl e
    go (no e) = inr (omega arith)

pub sends_ended : (n m : ℕ) (E : ℕ → List Entry) (i : ℕ) → 1 ≤ i → i ≤ n → Marks n m E → Ends n E → (g : Frame) → Sends n m i (E i) g → EndedTo n E (recipient n i g) g
sends_ended n m E i lo hi marks old _ (sends_forward ind ack e l a) = tt
sends_ended n m E i lo hi marks old _ (sends_append j ind sn e l a r k) = tt
sends_ended n m E i lo hi marks old _ (sends_executed ind e l a t) = λ to q k x y. go to q k x y
  where
    go : (to : ℕ) → board (pred i) ≡ board to → (k : ℕ) → to < k → k ≤ n → Exe E k ind
    go to q k x y = let d : pred i ≡ to = cc in side (at_or_behind i k (omega arith))
      where
        side : (i ≡ k) ⊎ (i < k) → Exe E k ind
        side (inl b) = record { entry = e; stands = rw (← b) a; exe = t }
        side (inr b) = old i ind lo (record { entry = e; stands = a; exe = t }) k b y
sends_ended n m E i lo hi marks old _ (sends_response ind e l a t) =
    record { ind = ind; entry = e; exe = t; client = refl; number_is = refl; reads_are = refl; stands = λ k x y. go k x y (at_or_behind i k (omega arith)) }
  where
    go : (k : ℕ) → 1 ≤ k → k ≤ n → (i ≡ k) ⊎ (i < k) → at (E k) ind ≡ some e
    go k x y (inl b) = rw (← b) a
    go k x y (inr b) =
        let z = old i ind lo (record { entry = e; stands = a; exe = t }) k b y in
        z.stands ∙ ap some (one_entry m (writes (E n)) ind z.entry e (marks k ind z.entry x z.stands) (marks i ind e lo a) z.exe t)

-- ---- In a register

pub record EndsWell (n : ℕ) (E : ℕ → List Entry) (sent : List Packet) (replies : List ReplyTaken) : Type 0 where
  pub entries : Ends n E
  pub flight : All (Flies (EndedTo n E)) sent
  pub told : All (ToldRight n E) replies

abbrev pub EndsKnown : ℕ → World rules → Type 0
EndsKnown n w = EndsWell n (entries_of w.boards) w.sent w.replies

moved_sends : (n m i : ℕ) (log new : List Entry) (f : Frame) (fs : List Frame) → Moved n m i log f new fs → All (Sends n m i new) fs
moved_sends n m i log _ f _ (same fs s) = s
moved_sends n m i log _ f _ (grown w fs from s) = s
moved_sends n m i log _ f _ (marked ind e d fs a how s) = s

board_ended : (n m : ℕ) (w : World rules) (i : ℕ) (f : Frame) → Known n m w → InFlight w.sent (board i) f → T (w.boards i).started
    → Known n m (after_board rules n w i (B.frame_step (w.boards i) f)) → EndsKnown n w → EndsKnown n (after_board rules n w i (B.frame_step (w.boards i) f))
unfolding after_board
board_ended n m w i f k x t u a =
    let E : ℕ → List Entry = entries_of w.boards in
    let b : Board = w.boards i in
    let o : Outcome Board = B.frame_step b f in
    let z = k.boards i in
    let lo = (z.on t).low in
    let hi = (z.on t).high in
    let mv = board_moved n m i b f z t x.rules in
    let under = further_up (logs_of E) k.good.core.chain i n lo hi in
    let r = right n m w k (board i) f x in
    let to = arrives (EndedTo n E) w.sent (board i) f a.flight x in
    let F : ℕ → List Entry = changed E i o.state.log in
    let stays : Stays E F = board_stays n m E w.invoked i lo hi k.good.marks under f r o.state.log o.frames mv in
    let new : Ends n F = board_ends n m E w.invoked i lo hi k.good.marks under f r o.state.log o.frames mv a.entries to in
    let logs : entries_of (changed w.boards i o.state) ≡ F = changed_map (λ (c : Board). c.log) w.boards i o.state in
    let marks : Marks n m F = rw logs at u.good.marks in
    rw logs (record {
      entries = new;
      flight = more_fly (EndedTo n F) w.sent n i o.frames (flies_map (ended_stays E F stays n) w.sent a.flight)
          (all_map (sends_ended n m F i lo hi marks new) o.frames (rw (changed_same E i o.state.log) (moved_sends n m i b.log o.state.log f o.frames mv)))
          (board_obeys n m i b f z t x.rules);
      told = all_map (told_stays E F stays n) w.replies a.told;
    })

shard_frames : (n : ℕ) (E : ℕ → List Entry) (j : ℕ) (s u : S.Shard) (f : Frame) (fs : List Frame) → Ran j s f u fs → All (λ g. EndedTo n E (recipient n j g) g) fs
shard_frames n E j s _ _ _ (stayed f) = tt
shard_frames n E j s _ _ _ (went ind sn xs e) = (tt, tt)

shard_ended : (n m : ℕ) (w : World rules) (j : ℕ) (f : Frame) → Known n m w → InFlight w.sent (shard j) f → T (w.shards j).started → EndsKnown n w
    → EndsKnown n (after_shard rules n w j (S.frame_step (w.shards j) f))
unfolding after_shard
shard_ended n m w j f k x t a =
    let z = k.shards j in
    let E : ℕ → List Entry = entries_of w.boards in
    record {
      entries = a.entries;
      flight = more_fly (EndedTo n E) w.sent n j (S.frame_step (w.shards j) f).frames a.flight
          (shard_frames n E j (w.shards j) _ f _ (shard_ran m j (w.shards j) f z t x.rules)) (shard_obeys m j (w.shards j) f z t x.rules);
      told = a.told;
    }

-- a Submit says nothing of this
submit_ended : (n : ℕ) (E : ℕ → List Entry) (sent : List Packet) (replies : List ReplyTaken) (c number : ℕ) (s : C.Session) (os : List Operation)
    → SessionGood (taken s (C.submit_of s number os ∷ [])) → EndsWell n E sent replies → EndsWell n E (sent ++ posted n c (C.submit_of s number os ∷ [])) replies
unfolding taken C.submit_of
submit_ended n E sent replies c number s os z a =
    record { entries = a.entries; flight = more_fly (EndedTo n E) sent n c (C.submit_of s number os ∷ []) a.flight (tt, tt) z.frames.rules; told = a.told }

own_reply : {n m : ℕ} {L : Logs} {H : Past} {c d number : ℕ} {rs : List Read} → RightTo n m L H (client c) (response d number rs) → d ≡ c
own_reply (told c k ind rs w r y z x) = refl

pub ends_lasts : (n m : ℕ) (w v : World rules) → Happened n w v → Known n m w → Known n m v → EndsKnown n w → EndsKnown n v
ends_lasts n m w _ nothing_happened k u a = a
ends_lasts n m w _ (board_stepped_lem i f x t) k u a = board_ended n m w i f k x t u a
ends_lasts n m w _ (shard_stepped_lem j f x t) k u a = shard_ended n m w j f k x t a
ends_lasts n m w _ (client_invoked c os t g) k u a =
    submit_ended n (entries_of w.boards) w.sent w.replies c (w.sessions c).window.next (after_invoke os (w.sessions c)) os (g (k.sessions c).window) a
ends_lasts n m w _ (client_retried c number os t e g) k u a =
    submit_ended n (entries_of w.boards) w.sent w.replies c number (w.sessions c) os (g (k.sessions c).window) a
ends_lasts n m w _ (client_answered c number rs x g) k u a =
    let f : Frame = response (w.sessions c).client number rs in
    let r = arrives (EndedTo n (entries_of w.boards)) w.sent (client c) f a.flight x in
    let own = own_reply (right n m w k (client c) f x) in
    record {
      entries = a.entries;
      flight = a.flight;
      told = all_append (ToldRight n (entries_of w.boards)) w.replies (record { client = c; number = number; reads = rs } ∷ []) a.told (rw own at r, tt);
    }

pub ends_start : (n m : ℕ) → EndsKnown n (start rules n m)
unfolding start B.start taken refuse B.empty_board
ends_start n m = record { entries = λ i ind l x. absurd (empty i ind x); flight = tt; told = tt }
  where
    empty : (i ind : ℕ) → Exe (λ i. (B.start n m i).state.log) i ind → ⊥
    empty i ind x = by (λ (o : Outcome Board). at o.state.log ind ≡ some x.entry → ⊥) _ (λ t a. nothing a) (λ t a. nothing a) x.stands
