-- A new entry, one that is heard from and one that is finished mean the rules' new_entry, heard_from and finished, and stay what every entry is.
-- Assumes nothing.
use mathlib.Core.Path.{◌≡◌, refl, sym, ap, ◌∙◌, fun_ext}
use mathlib.Core.Bool.{Bool, true, false, not, ◌&&◌, ◌||◌}
use mathlib.Core.List.{List, [], ◌∷◌, map}
use mathlib.Core.Option.{Option, none, some}
use Prim.Native.Nat.{ℕ, zero, suc, ◌≤◌, ◌<◌}
use native.Mathlib.Omega.{arith}
use lib.Dec.{T, leb, eqb, leb→le, eqb→eq, T_not}
use lib.ListN.{length, get_or, set, take, replicate, length-set, length-replicate}
use Rattle.rules.specs.Lists.{If◌then◌else◌, at, is_empty, every, has, strike}
use Rattle.rules.specs.Transactions.{Operation, Write, Read, key_of, shard_of, touched, placed, keep, on_shard, get_places, gather}
use Rattle.rules.specs.Frames.{ok_reads}
use Rattle.rules.specs.Board as B
use Rattle.rules.specs.Board.{PRE, EXE, add_reads}
use Rattle.rules.proofs.Lists.{by, and, and_l, and_r, nothing, same_eq, T_false, de_morgan}
use Rattle.rules.proofs.Frames.{WriteRules}
use Rattle.rules.proofs.Sets.{strike_has, touched_every}
use Rattle.rules.proofs.Gather.{gather_both}
use Rattle.rules.proofs.Obeys.{none_left, all_left, new_entry_lem, heard_entry, finished_entry}
use Rattle.frames.specs.declared.Item.{Item}
use Rattle.frames.specs.declared.Shape.TheVariants.{Operation as AnOperation, Read as ARead}
use Rattle.frames.specs.Frames.{no_item, ok_item, ok_from, ok_items}
use Rattle.frames.specs.View.{as_read, operations_of, reads_of, CanonItem, CanonFrom, Canon}
use Rattle.entry.specs.declared.Entry.{Entry}
use Rattle.entry.specs.Model.{in_mask, insert_of, strike_of, is_empty_of, touched_mask, touched_of, stored_all, stored_of, no_items, new_entry_of, heard_from_of, finished_of}
use Rattle.entry.specs.View.{set_of, saw, heard_key, write_of, view_entry, is_get, ReadOf, answered_get, EntryHeld}
use Rattle.entry.proofs.Masks.{bit_room}
use Rattle.entry.proofs.Sets.{in_set, strike_set, empty_set, touched_set}
use Rattle.entry.proofs.ByPlace.{Each, After, new, old, stored_reads, after_store, behind, same_reads}

-- ---- What a frame's reads are

-- the reads that a frame carries, and what a read of it is
pub record Carried (k : ℕ) (rs : List Item) : Type 0 where
  pub slots : length rs ≡ 4
  pub items : T (ok_items k rs)
  pub canon : Canon ARead k rs
  pub obeys : T (ok_reads (reads_of k rs))

-- of a place, as a frame carries it: what does not depend on the place
record AsRead (x : Item) : Type 0 where
  ok : T (ok_item x)
  canon : CanonItem ARead 0 x

each_read : (p i n : ℕ) (rs : List Item) → T (ok_from p n rs) → CanonFrom ARead i n rs → Each AsRead (take n rs)
each_read p i zero [] h c = tt
each_read p i zero (r ∷ rs) h c = tt
each_read p i (suc n) [] h c = tt
each_read p i (suc n) (r ∷ rs) h c =
    let a : Bool = leb p r.place in
    let b : Bool = ok_item r in
    let d : Bool = ok_from (suc r.place) n rs in
    (record { ok = and_r a b (and_l (a && b) d h); canon = c.0 }, each_read (suc r.place) (suc i) n rs (and_r (a && b) d h) c.1)

-- the first n of a list that rises
taken_rise : (p n : ℕ) (rs : List Item) → T (ok_from p n rs) → T (ok_from p (length (take n rs)) (take n rs))
taken_rise p zero [] h = tt
taken_rise p zero (r ∷ rs) h = tt
taken_rise p (suc n) [] h = absurd h
taken_rise p (suc n) (r ∷ rs) h =
    let a : Bool = leb p r.place in
    let b : Bool = ok_item r in
    and (a && b) (ok_from (suc r.place) (length (take n rs)) (take n rs)) (and_l (a && b) (ok_from (suc r.place) n rs) h)
    (taken_rise (suc r.place) n rs (and_r (a && b) (ok_from (suc r.place) n rs) h))

stored_length : (slots rs : List Item) → length slots ≡ 4 → length (stored_all slots rs) ≡ 4
stored_length slots [] h = h
stored_length slots (r ∷ rs) h = stored_length (set slots r.place r) rs (rw length-set h)

-- ---- Slots of which none was answered

blanks : (n p : ℕ) → get_or (replicate n no_item) p no_item ≡ no_item
blanks zero p = refl
blanks (suc n) zero = refl
blanks (suc n) (suc p) = blanks n p

-- no operation has a place behind the list
past : (os : List Operation) (p : ℕ) → at os p ≡ none → length os ≤ p
past [] p a = omega arith
past (o ∷ os) zero a = nothing (sym a)
past (o ∷ os) (suc p) a = let h = past os p a in omega arith

-- ---- A new entry

insert_byte : (mask j : ℕ) → mask < 256 → insert_of mask j < 256
unfolding insert_of
insert_byte mask j h =
    by (λ (k : ℕ). k < 256) _
    (λ t.
    let w = and_l (leb 1 j && leb j 8) (not (in_mask mask j)) t in
    bit_room mask j (leb→le 1 j (and_l (leb 1 j) (leb j 8) w)) (leb→le j 8 (and_r (leb 1 j) (leb j 8) w)) h
    (T_false (in_mask mask j) (and_r (leb 1 j && leb j 8) (not (in_mask mask j)) t)))
    (λ t. h)

touched_byte : (m : ℕ) (xs : List Item) → touched_mask m xs < 256
touched_byte m [] = omega arith
touched_byte m (x ∷ xs) = insert_byte (touched_mask m xs) _ (touched_byte m xs)

pub exe_view : (m : ℕ) (e : Entry) → B.is_exe (view_entry m e).status ≡ e.exe
unfolding view_entry
exe_view m e = go e.exe
  where
    go : (t : Bool) → B.is_exe (If t then B.EXE else B.PRE) ≡ t
    go true = unfold If◌then◌else◌ in refl
    go false = unfold If◌then◌else◌ in refl

abbrev pub the_write : ℕ → ℕ → ℕ → List Item → Write
the_write client number count items = record { client = client; number = number; operations = operations_of count items }

pub new_view : (m client number count : ℕ) (items : List Item) → 1 ≤ m → m ≤ 8
    → view_entry m (new_entry_of m client number count items) ≡ B.new_entry m (the_write client number count items)
unfolding view_entry new_entry_of write_of B.new_entry If◌then◌else◌
new_view m client number count items lo hi =
    let e = touched_set m count items lo hi in
    let os : List Operation = operations_of count items in
    let none : gather (keep (heard_key m (set_of (touched_of m count items))) (placed 0 (operations_of count items))) (saw no_items) ≡ []
    = rw (e, none_left m (touched m (operations_of count items)) 0 (operations_of count items) (touched_every m (operations_of count items))) refl in
    λ i. record { write = the_write client number count items; status = PRE; reads = none i; remaining = e i }

every_at : (ok : Operation → Bool) (os : List Operation) (p : ℕ) (o : Operation) → T (every ok os) → at os p ≡ some o → T (ok o)
every_at ok [] p o h a = nothing a
every_at ok (x ∷ os) zero o h a = let d : x ≡ o = cc in rw (← d) (and_l (ok x) (every ok os) h)
every_at ok (x ∷ os) (suc p) o h a = every_at ok os p o (and_r (ok x) (every ok os) h) a

pub new_held : (m client number ack count : ℕ) (items : List Item) → 1 ≤ m → m ≤ 8 → length items ≡ 4 → T (ok_items count items) → Canon AnOperation count items
    → WriteRules (the_write client number count items) ack → EntryHeld m (new_entry_of m client number count items)
new_held m client number ack count items lo hi n ok c r =
    record {
      slots = unfold new_entry_of in n;
      items = unfold new_entry_of in ok;
      canon = unfold new_entry_of in c;
      places = unfold new_entry_of in (length-replicate 4 no_item);
      answered = unfold new_entry_of in (λ p o a g h.
          let t = every_at (λ x. has (shard_of m (key_of x)) (touched m (operations_of count items))) (operations_of count items) p o (touched_every m (operations_of count items)) a in
          absurd (T_not (has (shard_of m (key_of o)) (touched m (operations_of count items))) (rw (touched_set m count items lo hi) at h) t));
      unanswered = unfold new_entry_of in (λ p t. blanks 4 p);
      byte = unfold new_entry_of touched_of in (touched_byte m (take count items));
      kept = rw (new_view m client number count items lo hi) (new_entry_lem m (the_write client number count items) ack r);
    }

-- ---- Heard from a shard

module _ (m : ℕ) (e : Entry) (held : EntryHeld m e) (j k : ℕ) (rs : List Item) (carried : Carried k rs) (left : T (in_mask e.remaining j))
    (fit : T (B.fits (reads_of k rs) (on_shard m j (operations_of e.count e.items)))) where
  abbrev os : List Operation
  os = operations_of e.count e.items

  abbrev mine : ℕ → Bool
  mine key = eqb (shard_of m key) j

  abbrev before : ℕ → Bool
  before key = heard_key m (set_of e.remaining) key

  abbrev slots' : List Item
  slots' = stored_all e.reads (take k rs)

  has_j : T (has j (set_of e.remaining))
  has_j = rw (in_set e.remaining j) left

  fitting : map (λ (r : Read). r.place) (map as_read (take k rs)) ≡ get_places (keep mine (placed 0 os))
  fitting = same_eq (map (λ (r : Read). r.place) (reads_of k rs)) (get_places (on_shard m j os)) fit

  rise : T (ok_from 0 (length (take k rs)) (take k rs))
  rise = taken_rise 0 k rs carried.items

  apart : (key : ℕ) → T (mine key) → T (before key) → ⊥
  apart key a b = let q : shard_of m key ≡ j = eqb→eq (shard_of m key) j a in T_not (has j (set_of e.remaining)) (rw q at b) has_j

  -- a key is heard then, if it is the shard's or was heard before
  then_heard : (key : ℕ) → heard_key m (set_of (strike_of e.remaining j)) key ≡ (mine key || before key)
  then_heard key =
      ap (λ (l : List ℕ). not (has (shard_of m key) l)) (strike_set e.remaining j)
      ∙ (ap not (strike_has (shard_of m key) j (set_of e.remaining)) ∙ sym (de_morgan (mine key) (has (shard_of m key) (set_of e.remaining))))

  after : (p : ℕ) (o : Operation) → at os p ≡ some o → After AsRead (is_get o && mine (key_of o)) p (get_or e.reads p no_item) (get_or slots' p no_item)
  after p o a =
      after_store AsRead mine 0 os o p e.reads (take k rs) rise held.places (each_read 0 0 k rs carried.items carried.canon) fitting p (omega arith) a

  -- the slot of a get that was heard before is as it was
  as_before : (p : ℕ) (o : Operation) → at os p ≡ some o → T (before (key_of o)) → get_or slots' p no_item ≡ get_or e.reads p no_item
  as_before p o a b = go (after p o a)
    where
      go : After AsRead (is_get o && mine (key_of o)) p (get_or e.reads p no_item) (get_or slots' p no_item) → get_or slots' p no_item ≡ get_or e.reads p no_item
      go (new t x y) = absurd (apart (key_of o) (and_r (is_get o) (mine (key_of o)) t) b)
      go (old t x) = x

  heard_reads : gather (keep (heard_key m (set_of (strike_of e.remaining j))) (placed 0 os)) (saw slots')
      ≡ add_reads (reads_of k rs) (gather (keep before (placed 0 os)) (saw e.reads))
  heard_reads =
      let own : gather (keep mine (placed 0 os)) (saw slots') ≡ reads_of k rs = stored_reads 0 (keep mine (placed 0 os)) e.reads (take k rs) rise held.places fitting in
      let rest : gather (keep before (placed 0 os)) (saw slots') ≡ gather (keep before (placed 0 os)) (saw e.reads)
      = same_reads before 0 os (saw slots') (saw e.reads) (λ q i o d a g b. let z : q ≡ i = omega arith in rw z (ap (λ (x : Item). (as_read x).value) (as_before i o a b))) in
      ap (λ (ok : ℕ → Bool). gather (keep ok (placed 0 os)) (saw slots')) (fun_ext then_heard)
      ∙ (sym (gather_both mine before apart (saw slots') 0 os) ∙ (λ i. add_reads (own i) (rest i)))

  strike_byte : strike_of e.remaining j < 256
  unfolding strike_of
  strike_byte = by (λ (x : ℕ). x < 256) (in_mask e.remaining j) (λ t. let h = held.byte in omega arith) (λ t. held.byte)

  pub heard_view : view_entry m (heard_from_of e j k rs) ≡ B.heard_from j (reads_of k rs) (view_entry m e)
  unfolding view_entry heard_from_of stored_of write_of B.heard_from
  heard_view =
      let set : set_of (strike_of e.remaining j) ≡ strike j (set_of e.remaining) = strike_set e.remaining j in
      let none : is_empty_of (strike_of e.remaining j) ≡ is_empty (strike j (set_of e.remaining))
      = sym (empty_set (strike_of e.remaining j) strike_byte) ∙ ap is_empty set in
      λ i.
      record {
        write = record { client = e.client; number = e.number; operations = os };
        status = If none i then EXE else PRE;
        reads = heard_reads i;
        remaining = set i;
      }

  pub heard_held : EntryHeld m (heard_from_of e j k rs)
  heard_held =
      record {
        slots = unfold heard_from_of in held.slots;
        items = unfold heard_from_of in held.items;
        canon = unfold heard_from_of in held.canon;
        places = unfold heard_from_of stored_of in (stored_length e.reads (take k rs) held.places);
        answered = unfold heard_from_of stored_of in answered;
        unanswered = unfold heard_from_of stored_of in (λ p t. unanswered p (at os p) refl t);
        byte = unfold heard_from_of in strike_byte;
        kept = rw heard_view (heard_entry m j (reads_of k rs) (view_entry m e) held.kept (unfold view_entry in has_j) carried.obeys (unfold view_entry write_of in fit));
      }
    where
      answered : (p : ℕ) (o : Operation) → at os p ≡ some o → T (is_get o) → T (heard_key m (set_of (strike_of e.remaining j)) (key_of o)) → ReadOf p (get_or slots' p no_item)
      answered p o a g h = go (after p o a)
        where
          now : T (mine (key_of o) || before (key_of o))
          now = rw (then_heard (key_of o)) at h

          still : (s t : Bool) → T (is_get o) → T (not (is_get o && s)) → T (s || t) → T t
          still true t g x y = absurd (T_not (is_get o && true) x (and (is_get o) true g tt))
          still false t g x y = y

          go : After AsRead (is_get o && mine (key_of o)) p (get_or e.reads p no_item) (get_or slots' p no_item) → ReadOf p (get_or slots' p no_item)
          go (new t x y) = record { place = x; ok = y.ok; canon = y.canon }
          go (old t x) = rw x (held.answered p o a g (still (mine (key_of o)) (before (key_of o)) g t now))

      unanswered : (p : ℕ) (x : Option Operation) → x ≡ at os p → T (not (answered_get m (set_of (strike_of e.remaining j)) x)) → get_or slots' p no_item ≡ no_item
      unanswered p none a t = behind AsRead mine 0 os e.reads (take k rs) fitting p (let l = past os p (sym a) in omega arith) ∙ held.unanswered p (rw (← a) tt)
      unanswered p (some o) a t = go (after p o (sym a))
        where
          never : T (not (is_get o && (mine (key_of o) || before (key_of o))))
          never = rw (then_heard (key_of o)) at t

          apart_from : (g s t : Bool) → T (not (g && (s || t))) → T (g && s) → ⊥
          apart_from true true t x y = x
          apart_from true false t x y = y
          apart_from false s t x y = y

          nor : (g s t : Bool) → T (not (g && (s || t))) → T (not (g && t))
          nor true true t x = absurd x
          nor true false t x = x
          nor false s t x = tt

          go : After AsRead (is_get o && mine (key_of o)) p (get_or e.reads p no_item) (get_or slots' p no_item) → get_or slots' p no_item ≡ no_item
          go (new u x y) = absurd (apart_from (is_get o) (mine (key_of o)) (before (key_of o)) never u)
          go (old u x) = x ∙ held.unanswered p (rw (← a) (nor (is_get o) (mine (key_of o)) (before (key_of o)) never))

-- ---- Finished

module _ (m : ℕ) (e : Entry) (held : EntryHeld m e) (k : ℕ) (rs : List Item) (carried : Carried k rs)
    (fit : T (B.fits (reads_of k rs) (placed 0 (operations_of e.count e.items)))) where
  abbrev all : List Operation
  all = operations_of e.count e.items

  whole : placed 0 all ≡ keep (λ key. true) (placed 0 all)
  whole = sym (all_left 0 all)

  fits_all : map (λ (r : Read). r.place) (map as_read (take k rs)) ≡ get_places (keep (λ key. true) (placed 0 all))
  fits_all = same_eq (map (λ (r : Read). r.place) (reads_of k rs)) (get_places (placed 0 all)) fit ∙ ap get_places whole

  nobody : (key : ℕ) → heard_key m (set_of 0) key ≡ true
  unfolding set_of in_mask If◌then◌else◌
  nobody key = refl

  finished_reads : gather (keep (heard_key m (set_of 0)) (placed 0 all)) (saw (stored_all no_items (take k rs))) ≡ reads_of k rs
  finished_reads =
      ap (λ (ok : ℕ → Bool). gather (keep ok (placed 0 all)) (saw (stored_all no_items (take k rs)))) (fun_ext nobody)
      ∙ stored_reads 0 (keep (λ key. true) (placed 0 all)) no_items (take k rs) (taken_rise 0 k rs carried.items) (length-replicate 4 no_item) fits_all

  no_shards : set_of 0 ≡ []
  unfolding set_of in_mask If◌then◌else◌
  no_shards = refl

  pub finished_view : view_entry m (finished_of e k rs) ≡ B.finished (reads_of k rs) (view_entry m e)
  unfolding view_entry finished_of stored_of write_of B.finished If◌then◌else◌
  finished_view =
      λ i. record { write = record { client = e.client; number = e.number; operations = all }; status = EXE; reads = finished_reads i; remaining = no_shards i }

  pub finished_held : EntryHeld m (finished_of e k rs)
  finished_held =
      record {
        slots = unfold finished_of in held.slots;
        items = unfold finished_of in held.items;
        canon = unfold finished_of in held.canon;
        places = unfold finished_of stored_of in (stored_length no_items (take k rs) (length-replicate 4 no_item));
        answered = unfold finished_of stored_of in answered;
        unanswered = unfold finished_of stored_of in (λ p t. unanswered p (at all p) refl t);
        byte = unfold finished_of in (omega arith);
        kept = rw finished_view (finished_entry m (reads_of k rs) (view_entry m e) held.kept carried.obeys (unfold view_entry write_of in fit));
      }
    where
      answered : (p : ℕ) (o : Operation) → at all p ≡ some o → T (is_get o) → T (heard_key m (set_of 0) (key_of o)) → ReadOf p (get_or (stored_all no_items (take k rs)) p no_item)
      answered p o a g h =
          go (after_store AsRead (λ key. true) 0 all o p no_items (take k rs) (taken_rise 0 k rs carried.items) (length-replicate 4 no_item)
          (each_read 0 0 k rs carried.items carried.canon) fits_all p (omega arith) a)
        where
          go : After AsRead (is_get o && true) p (get_or no_items p no_item) (get_or (stored_all no_items (take k rs)) p no_item) → ReadOf p (get_or (stored_all no_items (take k rs)) p no_item)
          go (new t x y) = record { place = x; ok = y.ok; canon = y.canon }
          go (old t x) = absurd (T_not (is_get o && true) t (and (is_get o) true g tt))

      unanswered : (p : ℕ) (x : Option Operation) → x ≡ at all p → T (not (answered_get m (set_of 0) x)) → get_or (stored_all no_items (take k rs)) p no_item ≡ no_item
      unanswered p none a t = behind AsRead (λ key. true) 0 all no_items (take k rs) fits_all p (let l = past all p (sym a) in omega arith) ∙ blanks 4 p
      unanswered p (some o) a t =
          go (after_store AsRead (λ key. true) 0 all o p no_items (take k rs) (taken_rise 0 k rs carried.items) (length-replicate 4 no_item)
          (each_read 0 0 k rs carried.items carried.canon) fits_all p (omega arith) (sym a))
        where
          go : After AsRead (is_get o && true) p (get_or no_items p no_item) (get_or (stored_all no_items (take k rs)) p no_item) → get_or (stored_all no_items (take k rs)) p no_item ≡ no_item
          go (new u x y) = absurd (T_not (is_get o && true) (rw (nobody (key_of o)) at t) u)
          go (old u x) = x ∙ blanks 4 p
