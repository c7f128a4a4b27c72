-- Every step keeps a board's sizes, and every frame that it sends obeys the rules of frames. So what is sent is read again as it was sent.
-- Assumes nothing.
use mathlib.Core.Path.{◌≡◌, refl, sym, ap, ◌∙◌, fun_ext}
use mathlib.Core.Logic.{◌⊎◌, inl, inr}
use mathlib.Core.Bool.{Bool, true, false, not, ◌&&◌, ◌||◌}
use mathlib.Core.List.{List, [], ◌∷◌, map}
use mathlib.Core.Option.{some}
use Prim.Native.Nat.{ℕ, suc, ◌+◌, ◌*◌, ◌≤◌, ◌<◌, min}
use native.Mathlib.Omega.{arith}
use lib.Dec.{T, leb, ltb, eqb, leb→le, le→leb, eqb→eq, eqb_refl, T_not}
use lib.ListN.{length, length-append, length-set}
use Rattle.rules.specs.Lists.{If◌then◌else◌, within, at, is_empty, every, changed, has, insert, strike}
use Rattle.rules.specs.Transactions.{Operation, Write, Placed, Read, key_of, shard_of, touched, touches, placed, keep, on_shard, get_places}
use Rattle.rules.specs.Frames.{Frame, shard_append, ok_client, ok_number, ok_ind, ok_seen, rising, ok_operations, ok_write, ok_placed, ok_reads, obeys}
use Rattle.rules.specs.Outcomes.{Outcome, taken, refuse, sent_bytes}
use Rattle.rules.specs.Board.{Entry, Board, PRE, EXE, is_exe, empty_board, start, writes, touching, holding, raise_floor, new_entry, append, settle, forward_of, shard_append_of, backward, onward, serve_new, fits, heard_from, finished, step}
use Rattle.rules.specs.Kept.{Kept, EntryKept, SizesKept}
use Rattle.rules.proofs.Lists.{by, if_yes, and, and_l, and_r, or_left, or_right, nothing, same_eq, at_lt, at_snoc_cases, at_set_cases, de_morgan, at_snoc_new}
use Rattle.rules.proofs.Frames.{WriteRules}
use Rattle.rules.proofs.Sets.{strike_has, touched_every, touched_range, part_some}
use Rattle.rules.proofs.Places.{places, operations_few, part_obeys, reads_obey, places_both, add_ok}
use Rattle.rules.proofs.Room.{Sent, silent, alone, strike_ascends, touched_ascends, parts, parts_most, placed_length, encode_length, Good, refuse_good}
use Rattle.rules.proofs.Steps.{Deed, refused, held, new, heard, done, step_deed}
use Rattle.rules.proofs.Kept.{at_writes}
use Rattle.rules.proofs.Counts.{touching_most, touching_one}

-- ---- The reads of an entry

pub none_left : (m : ℕ) (rem : List ℕ) (p : ℕ) (os : List Operation) → T (every (λ o. has (shard_of m (key_of o)) rem) os)
    → keep (λ key. not (has (shard_of m key) rem)) (placed p os) ≡ []
none_left m rem p [] h = refl
none_left m rem p (o ∷ os) h =
    let here = and_l (has (shard_of m (key_of o)) rem) (every (λ x. has (shard_of m (key_of x)) rem) os) h in
    let rest = none_left m rem (suc p) os (and_r (has (shard_of m (key_of o)) rem) (every (λ x. has (shard_of m (key_of x)) rem) os) h) in
    by (λ (l : List Placed). l ≡ []) (not (has (shard_of m (key_of o)) rem)) (λ t. absurd (T_not (has (shard_of m (key_of o)) rem) t here)) (λ t. rest)

pub all_left : (p : ℕ) (os : List Operation) → keep (λ key. true) (placed p os) ≡ placed p os
all_left p [] = refl
all_left p (o ∷ os) =
    if_yes true (record { place = p; operation = o } ∷ keep (λ key. true) (placed (suc p) os)) (keep (λ key. true) (placed (suc p) os)) tt
    ∙ ap {B = List Placed} (λ l. record { place = p; operation = o } ∷ l) (all_left (suc p) os)

-- a transaction touches a shard, so a new entry is PRE
insert_some : (j : ℕ) (l : List ℕ) → false ≡ is_empty (insert j l)
insert_some j [] = refl
insert_some j (i ∷ l) =
    by (λ (k : List ℕ). false ≡ is_empty k) (ltb j i) (λ t. refl) λ t.
    by (λ (k : List ℕ). false ≡ is_empty k) (eqb j i) (λ u. refl) (λ u. refl)

some_touched : (m : ℕ) (os : List Operation) → T (ok_operations os) → false ≡ is_empty (touched m os)
unfolding ok_operations
some_touched m [] t = absurd t
some_touched m (o ∷ os) t = insert_some (shard_of m (key_of o)) (touched m os)

none_or_some : (none? : Bool) → is_exe (If none? then EXE else PRE) ≡ none?
unfolding If◌then◌else◌
none_or_some true = refl
none_or_some false = refl

pub new_entry_lem : (m : ℕ) (w : Write) (ack : ℕ) → WriteRules w ack → EntryKept m (new_entry m w)
unfolding new_entry
new_entry_lem m w ack r =
    record {
      client = r.client;
      number = r.number;
      operations = r.operations;
      places = ap get_places (sym (none_left m (touched m w.operations) 0 w.operations (touched_every m w.operations)));
      values = tt;
      status = some_touched m w.operations r.operations;
      remaining = touched_ascends m w.operations;
    }

reads_values : (rs : List Read) → T (ok_reads rs) → T (every (λ r. ok_seen r.value) rs)
unfolding ok_reads
reads_values rs t = and_r (leb (length rs) 4 && rising 0 (places rs)) (every (λ r. ok_seen r.value) rs) t

pub finished_entry : (m : ℕ) (rs : List Read) (e : Entry) → EntryKept m e → T (ok_reads rs) → T (fits rs (placed 0 e.write.operations)) → EntryKept m (finished rs e)
unfolding finished
finished_entry m rs e k t f =
    record {
      client = k.client;
      number = k.number;
      operations = k.operations;
      places = same_eq (places rs) (get_places (placed 0 e.write.operations)) f ∙ ap get_places (sym (all_left 0 e.write.operations));
      values = reads_values rs t;
      status = refl;
      remaining = tt;
    }

pub heard_entry : (m j : ℕ) (rs : List Read) (e : Entry) → EntryKept m e → T (has j e.remaining) → T (ok_reads rs) → T (fits rs (on_shard m j e.write.operations))
    → EntryKept m (heard_from j rs e)
unfolding heard_from
heard_entry m j rs e k h t f =
    record {
      client = k.client;
      number = k.number;
      operations = k.operations;
      places =
          places_both (λ key. eqb (shard_of m key) j) (λ key. not (has (shard_of m key) e.remaining)) apart e.write.operations rs e.reads
          (same_eq (places rs) (get_places (on_shard m j e.write.operations)) f) k.places
          ∙ ap (λ (ok : ℕ → Bool). get_places (keep ok (placed 0 e.write.operations))) (fun_ext both);
      values = add_ok rs e.reads (reads_values rs t) k.values;
      status = none_or_some (is_empty (strike j e.remaining));
      remaining = strike_ascends 0 j e.remaining k.remaining;
    }
  where
    apart : (key : ℕ) → T (eqb (shard_of m key) j) → T (not (has (shard_of m key) e.remaining)) → ⊥
    apart key a b = let q : shard_of m key ≡ j = eqb→eq (shard_of m key) j a in T_not (has j e.remaining) (rw q at b) h

    both : (key : ℕ) → (eqb (shard_of m key) j || not (has (shard_of m key) e.remaining)) ≡ not (has (shard_of m key) (strike j e.remaining))
    both key = de_morgan (eqb (shard_of m key) j) (has (shard_of m key) e.remaining) ∙ ap not (sym (strike_has (shard_of m key) j e.remaining))

-- ---- What is sent

backward_obeys : (b : Board) (m ind : ℕ) (e : Entry) → EntryKept m e → ind ≤ 255 → T (obeys (backward b ind e))
unfolding backward obeys
backward_obeys b m ind e k l =
    let r = reads_obey (λ key. not (has (shard_of m key) e.remaining)) e.write.operations e.reads k.operations k.places k.values in
    by (λ (f : Frame). T (obeys f)) _
    (λ t.
    and (ok_client e.write.client && ok_number e.write.number) (ok_reads e.reads)
    (and (ok_client e.write.client) (ok_number e.write.number) (le→leb e.write.client 15 k.client) (le→leb e.write.number 65534 k.number)) r)
    (λ t. and (ok_ind ind) (ok_reads e.reads) (le→leb ind 255 l) r)

forward_obeys : (b : Board) (m ind : ℕ) (e : Entry) → EntryKept m e → ind ≤ 255 → e.write.number ≤ b.floor e.write.client + 7 → T (obeys (forward_of b ind e.write))
unfolding forward_of obeys ok_write
forward_obeys b m ind e k l h =
    let c : ℕ = e.write.client in
    let n : ℕ = e.write.number in
    let a : ℕ = min (b.floor e.write.client) e.write.number in
    and (ok_ind ind) (ok_client c && ok_number n && leb a n && leb n (a + 7) && ok_operations e.write.operations) (le→leb ind 255 l)
    (and (ok_client c && ok_number n && leb a n && leb n (a + 7)) (ok_operations e.write.operations)
    (and (ok_client c && ok_number n && leb a n) (leb n (a + 7))
    (and (ok_client c && ok_number n) (leb a n) (and (ok_client c) (ok_number n) (le→leb c 15 k.client) (le→leb n 65534 k.number)) (le→leb a n (omega arith)))
    (le→leb n (a + 7) (omega arith))) k.operations)

append_obeys : (b : Board) (ind : ℕ) (e : Entry) (j : ℕ) → EntryKept b.m e → at b.log ind ≡ some e → ind ≤ 255 → 1 ≤ b.m → b.m ≤ 8
    → T (touches b.m j e.write.operations) → T (obeys (shard_append_of b ind e.write j))
unfolding shard_append_of obeys
append_obeys b ind e j k a l lo hi t =
    let r = touched_range b.m j e.write.operations lo hi t in
    let most = touching_most b.m j (writes b.log) ind in
    let one = touching_one b.m j (writes b.log) ind e.write (at_writes b.log ind e a) t in
    let sn : ℕ = touching b.m j (writes b.log) (suc ind) in
    let xs : List Placed = on_shard b.m j e.write.operations in
    and (within 1 8 j && ok_ind ind && within 1 256 sn) (ok_placed xs)
    (and (within 1 8 j && ok_ind ind) (within 1 256 sn)
    (and (within 1 8 j) (ok_ind ind) (and (leb 1 j) (leb j 8) (le→leb 1 j r.0) (le→leb j 8 r.1)) (le→leb ind 255 l))
    (and (leb 1 sn) (leb sn 256) (le→leb 1 sn (rw one (omega arith))) (le→leb sn 256 (rw one (omega arith)))))
    (part_obeys (λ key. eqb (shard_of b.m key) j) e.write.operations k.operations (part_some b.m j 0 e.write.operations t))

appends_obey : (b : Board) (ind : ℕ) (e : Entry) (js : List ℕ) → EntryKept b.m e → at b.log ind ≡ some e → ind ≤ 255 → 1 ≤ b.m → b.m ≤ 8
    → ((j : ℕ) → T (has j js) → T (touches b.m j e.write.operations)) → T (every obeys (map (shard_append_of b ind e.write) js))
appends_obey b ind e [] k a l lo hi t = tt
appends_obey b ind e (j ∷ js) k a l lo hi t =
    and (obeys (shard_append_of b ind e.write j)) (every obeys (map (shard_append_of b ind e.write) js))
    (append_obeys b ind e j k a l lo hi (t j (or_left (eqb j j) (has j js) (eqb_refl j))))
    (appends_obey b ind e js k a l lo hi (λ i h. t i (or_right (eqb i j) (has i js) h)))

-- "the worst: four shards, one operation each, 4 × 17 bytes"
appends_room : (b : Board) (ind : ℕ) (w : Write) (js : List ℕ) → ((j : ℕ) → T (has j js) → T (touches b.m j w.operations))
    → length (sent_bytes (map (shard_append_of b ind w) js)) ≤ 17 * parts b.m js (placed 0 w.operations)
unfolding shard_append_of parts
appends_room b ind w [] t = omega arith
appends_room b ind w (j ∷ js) t =
    let r = appends_room b ind w js (λ i h. t i (or_right (eqb i j) (has i js) h)) in
    let one = part_some b.m j 0 w.operations (t j (or_left (eqb j j) (has j js) (eqb_refl j))) in
    let e = encode_length (shard_append j ind (touching b.m j (writes b.log) (suc ind)) (on_shard b.m j w.operations)) in
    rw length-append (omega arith)

appends_sent : (b : Board) (ind : ℕ) (e : Entry) → EntryKept b.m e → at b.log ind ≡ some e → ind ≤ 255 → 1 ≤ b.m → b.m ≤ 8
    → ((j : ℕ) → T (has j e.remaining) → T (touches b.m j e.write.operations)) → Sent (map (shard_append_of b ind e.write) e.remaining)
appends_sent b ind e k a l lo hi t =
    let r = appends_room b ind e.write e.remaining t in
    let p = parts_most b.m 0 e.remaining (placed 0 e.write.operations) k.remaining in
    let q = placed_length 0 e.write.operations in
    let few = operations_few e.write.operations k.operations in
    record { rules = appends_obey b ind e e.remaining k a l lo hi t; room = omega arith }

onward_obeys : (b : Board) (ind : ℕ) (e : Entry) → EntryKept b.m e → at b.log ind ≡ some e → ind ≤ 255 → 1 ≤ b.m → b.m ≤ 8
    → e.write.number ≤ b.floor e.write.client + 7 → ((j : ℕ) → T (has j e.remaining) → T (touches b.m j e.write.operations)) → Sent (onward b ind e)
unfolding onward
onward_obeys b ind e k a l lo hi near t =
    by Sent _ (λ u. alone (backward b ind e) (backward_obeys b b.m ind e k l)) λ u.
    by Sent _ (λ v. alone (forward_of b ind e.write) (forward_obeys b b.m ind e k l near))
    (λ v. appends_sent b ind e k a l lo hi t)

-- ---- The steps

abbrev pub BoardGood : Outcome Board → Type 0
BoardGood o = Good SizesKept o

raised : (b : Board) (client ack : ℕ) → ack ≤ (raise_floor client ack b).floor client
unfolding raise_floor holding changed
raised b client ack = by (λ (x : ℕ). ack ≤ x) (eqb client client) (λ t. omega arith) (λ t. absurd (T_not (eqb client client) t (eqb_refl client)))

raise_sizes : (b : Board) (client ack : ℕ) → SizesKept b → SizesKept (raise_floor client ack b)
unfolding raise_floor holding
raise_sizes b client ack k = record { setup = k.setup; size = k.size; entries = k.entries }

append_sizes : (b : Board) (w : Write) → SizesKept b → EntryKept b.m (new_entry b.m w) → length b.log < 256 → SizesKept (append w b)
unfolding append holding
append_sizes b w k n l =
    record {
      setup = k.setup;
      size = simp length-append (omega arith);
      entries = λ ind e a. go ind e (at_snoc_cases b.log (new_entry b.m w) ind e a);
    }
  where
    go : (ind : ℕ) (e : Entry) → (at b.log ind ≡ some e) ⊎ ((ind ≡ length b.log) × (e ≡ new_entry b.m w)) → EntryKept b.m e
    go ind e (inl h) = k.entries ind e h
    go ind e (inr h) = rw h.1 n

settle_sizes : (b : Board) (ind : ℕ) (e : Entry) (shards : List ℕ) → SizesKept b → EntryKept b.m e → SizesKept (settle ind e shards b)
unfolding settle holding
settle_sizes b ind e shards k n =
    record { setup = k.setup; size = rw length-set k.size; entries = λ q x a. go q x (at_set_cases b.log ind e q x a) }
  where
    go : (q : ℕ) (x : Entry) → (at b.log q ≡ some x) ⊎ ((q ≡ ind) × (x ≡ e)) → EntryKept b.m x
    go q x (inl h) = k.entries q x h
    go q x (inr h) = rw h.1 n

module _ (b : Board) (k : SizesKept b) (q : Kept b) where
  new_good : (w : Write) (ack : ℕ) → T b.started → WriteRules w ack → length b.log < 256 → BoardGood (serve_new b w ack)
  unfolding serve_new taken
  new_good w ack s r l =
      let n = new_entry_lem b.m w ack r in
      let up = raised b w.client ack in
      let near : w.number ≤ (raise_floor w.client ack b).floor w.client + 7 = omega (arith, r.ack_high) in
      record {
        state = append_sizes (raise_floor w.client ack b) w (raise_sizes b w.client ack k) (unfold raise_floor holding in n) (unfold raise_floor holding in l);
        frames =
            onward_obeys (append w (raise_floor w.client ack b)) (length b.log) (new_entry b.m w) (unfold append raise_floor holding in n)
            (unfold append raise_floor holding in (at_snoc_new b.log (new_entry b.m w))) (omega arith) (unfold append raise_floor holding in (k.setup s).0)
            (unfold append raise_floor holding in (k.setup s).1) (unfold append holding new_entry in near) (unfold append raise_floor holding new_entry in (λ j t. t));
      }

  deed_good : (o : Outcome Board) → Deed b o → BoardGood o
  unfolding taken refuse
  deed_good _ (refused number) = refuse_good number b k
  deed_good _ (held ind ack e s a r) =
      let up = raised b e.write.client ack in
      let near : e.write.number ≤ (raise_floor e.write.client ack b).floor e.write.client + 7 = omega (arith, r.ack_high) in
      let l = at_lt b.log ind e a in
      record {
        state = raise_sizes b e.write.client ack k;
        frames =
            onward_obeys (raise_floor e.write.client ack b) ind e (unfold raise_floor holding in (k.entries ind e a)) (unfold raise_floor holding in a)
            (omega (arith, k.size)) (unfold raise_floor holding in (k.setup s).0) (unfold raise_floor holding in (k.setup s).1) near
            (unfold raise_floor holding in (λ j t. q.remains ind e j a t));
      }
  deed_good _ (new w ack s r n l) = new_good w ack s r l
  deed_good _ (heard j ind rs e s a h t f) =
      let l = at_lt b.log ind e a in
      let x = heard_entry b.m j rs e (k.entries ind e a) h t f in
      record {
        state = settle_sizes b ind (heard_from j rs e) (j ∷ []) k x;
        frames = by Sent _ (λ y. alone (backward b ind (heard_from j rs e)) (backward_obeys b b.m ind (heard_from j rs e) x (omega (arith, k.size)))) (λ y. silent);
      }
  deed_good _ (done ind rs e s a t f) =
      let l = at_lt b.log ind e a in
      let x = finished_entry b.m rs e (k.entries ind e a) t f in
      record {
        state = settle_sizes b ind (finished rs e) (touched b.m e.write.operations) k x;
        frames = alone (backward b ind (finished rs e)) (backward_obeys b b.m ind (finished rs e) x (omega (arith, k.size)));
      }

  -- whatever arrives: the sizes stay, and each frame sent obeys the rules
  pub step_good : (bytes : List ℕ) (out : ℕ) → BoardGood (step b bytes out)
  step_good bytes out = deed_good (step b bytes out) (step_deed b bytes out)

pub start_good : (n m own : ℕ) → SizesKept (start n m own).state
unfolding start taken empty_board
start_good n m own =
    by (λ (o : Outcome Board). SizesKept o.state) _
    (λ t.
    let u = and_r (within 2 8 n) (within 1 8 m) (and_l (within 2 8 n && within 1 8 m) (within 1 n own) t) in
    record {
      setup = λ s. (leb→le 1 m (and_l (leb 1 m) (leb m 8) u), leb→le m 8 (and_r (leb 1 m) (leb m 8) u));
      size = omega arith;
      entries = λ ind e a. nothing a;
    })
    (λ t. unfold refuse in (record { setup = λ s. absurd s; size = omega arith; entries = λ ind e a. nothing a }))
