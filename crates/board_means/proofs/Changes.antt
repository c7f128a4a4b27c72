-- The two things that a step does to a board: an entry is replaced by one with the same write, or a new one is appended. Either way the record
-- lies as it must, and means the rules' board with that entry, the floor raised and the queues changed.
-- Assumes nothing.
use mathlib.Core.Path.{◌≡◌, refl, sym, ap, ◌∙◌, fun_ext}
use mathlib.Core.Logic.{◌⊎◌, inl, inr}
use mathlib.Core.Bool.{Bool, true, false}
use mathlib.Core.List.{List, map}
use mathlib.Core.Option.{some}
use Prim.Native.Nat.{ℕ, suc, ◌+◌, ◌-◌, ◌≤◌, ◌<◌, max}
use native.Mathlib.Omega.{arith}
use native.Mathlib.Nat.{mod-eq_of_lt}
use native.Mathlib.Numerals.{add-one}
use lib.Dec.{eqb, eqb→eq}
use lib.ListN.{length, get_or, set, take, drop, replicate, length-take, length-set, length-map}
use lib.Seq.{get_or-set_same, get_or-set_other}
use mir.Facts.{eqb_no}
use Rattle.rules.specs.Lists.{If◌then◌else◌, at, snoc, changed}
use Rattle.rules.specs.Queue as Q
use Rattle.rules.specs.Queue.{enqueue, take_up_to}
use Rattle.rules.specs.Board.{writes, next_number, holding, on_queues, raise_floor, append, new_entry}
use Rattle.rules.proofs.Lists.{by, at_lt, at_snoc_cases, at_set_cases}
use Rattle.rules.proofs.Kept.{writes_snoc, writes_set}
use Rattle.frames.specs.declared.Item.{Item}
use Rattle.entry.specs.declared.Entry.{Entry}
use Rattle.entry.specs.Model.{in_mask, is_empty_of, no_entry, new_entry_of}
use Rattle.entry.specs.View.{set_of, write_of, view_entry, EntryHeld}
use Rattle.entry.proofs.Sets.{touched_set}
use Rattle.entry.proofs.Entries.{the_write, new_view}
use Rattle.queue.specs.declared.Queue.{Queue}
use Rattle.queue.specs.Model.{changed_all}
use Rattle.queue.specs.View.{view_queues, QueuesHeld, AllTidy}
use Rattle.queue.proofs.Meaning.{pushed_view, taken_view, pushed_held, taken_held}
use Rattle.queue.proofs.Determined.{changed_tidy}
use Rattle.verdict.specs.Model.{Verdict, next_of, floor_of}
use Rattle.board.specs.declared.Board.{Board}
use Rattle.board.specs.Model.{slot_of, blank, entry_at, name_of, raised_of, followed_of, queues_after, board_after}
use Rattle.board_means.specs.View.{entries_of, view_log, view_board, name_in, mask_in, Columns}
use Rattle.board_means.proofs.Slots.{take_set, take_snoc, at_take, map_set, map_snoc, at_map, drop_set, drop_next}
use Rattle.board_means.proofs.Numbers.{next_snoc}

pub slot_is : (ind : ℕ) → ind < 256 → slot_of ind ≡ ind
unfolding slot_of
slot_is ind h = mod-eq_of_lt h

-- ---- Floors, numbers and queues

-- an element of an array that was stored
stored_at : (l : List ℕ) (i x j : ℕ) → i < length l → get_or (set l i x) j 0 ≡ (If eqb j i then x else get_or l j 0)
stored_at l i x j h =
    by (λ (k : ℕ). get_or (set l i x) j 0 ≡ k) (eqb j i) (λ t. let e : j ≡ i = eqb→eq j i t in rw e (get_or-set_same l i x 0 h))
    (λ t. get_or-set_other l i j x 0 (eqb_no {a = j} {b = i} t))

pub floor_view : (floor : List ℕ) (client ack : ℕ) → client < length floor
    → ◌≡◌ {A = ℕ → ℕ} (λ c. floor_of (raised_of floor client ack) c) (changed (λ c. floor_of floor c) client (max (floor_of floor client) ack))
unfolding raised_of changed
floor_view floor client ack h = fun_ext (λ c. stored_at floor client (max (floor_of floor client) ack) c h)

-- an ack of 0 raises none
pub floor_still : (f : ℕ → ℕ) (client : ℕ) → changed f client (max (f client) 0) ≡ f
unfolding changed
floor_still f client =
    fun_ext (λ c. by (λ (k : ℕ). k ≡ f c) (eqb c client) (λ t. let e : c ≡ client = eqb→eq c client t in rw e (omega arith)) (λ t. refl))

-- what happens to a queue of a set of shards
abbrev pub queueing : Bool → ℕ → Q.Queue → Q.Queue
queueing true ind = enqueue ind
queueing false ind = take_up_to ind

pub no_queues : (f : Q.Queue → Q.Queue) (queue : ℕ → Q.Queue) → on_queues (set_of 0) f queue ≡ queue
unfolding on_queues set_of in_mask If◌then◌else◌
no_queues f queue = refl

pub queues_view : (queues : List Queue) (fresh : Bool) (shards ind most : ℕ) → QueuesHeld most queues → most < 256
    → view_queues (queues_after queues fresh shards ind) ≡ on_queues (set_of shards) (queueing fresh ind) (view_queues queues)
unfolding queues_after
queues_view queues fresh shards ind most h m =
    by (λ (qs : List Queue). view_queues qs ≡ on_queues (set_of shards) (queueing fresh ind) (view_queues queues)) (is_empty_of shards)
    (λ t. let e : shards ≡ 0 = eqb→eq shards 0 t in rw e (sym (no_queues (queueing fresh ind) (view_queues queues)))) (λ t. go fresh)
  where
    go : (fresh : Bool) → view_queues (changed_all queues fresh shards ind) ≡ on_queues (set_of shards) (queueing fresh ind) (view_queues queues)
    go true = pushed_view queues shards ind most h m
    go false = taken_view queues shards ind most h (omega arith)

-- the same where only numbers are taken, also from a full queue
pub taken_queues : (queues : List Queue) (shards ind most : ℕ) → QueuesHeld most queues → most ≤ 256
    → view_queues (queues_after queues false shards ind) ≡ on_queues (set_of shards) (take_up_to ind) (view_queues queues)
unfolding queues_after
taken_queues queues shards ind most h m =
    by (λ (qs : List Queue). view_queues qs ≡ on_queues (set_of shards) (take_up_to ind) (view_queues queues)) (is_empty_of shards)
    (λ t. let e : shards ≡ 0 = eqb→eq shards 0 t in rw e (sym (no_queues (take_up_to ind) (view_queues queues))))
    (λ t. taken_view queues shards ind most h m)

taken_lie : (queues : List Queue) (shards ind most : ℕ) → QueuesHeld most queues → most ≤ 256 → QueuesHeld most (queues_after queues false shards ind)
unfolding queues_after
taken_lie queues shards ind most h m = by (QueuesHeld most) (is_empty_of shards) (λ t. h) (λ t. taken_held queues shards ind most m h)

pushed_lie : (queues : List Queue) (shards ind most : ℕ) → QueuesHeld most queues → QueuesHeld (most + 1) (queues_after queues true shards ind)
unfolding queues_after
pushed_lie queues shards ind most h =
    rw (add-one most)
    (by (QueuesHeld (suc most)) (is_empty_of shards) (λ t. record { eight = h.eight; each = λ i l. let k = h.each i l in record { slots = k.slots; few = let f = k.few in omega arith } })
    (λ t. pushed_held queues shards ind most h))

after_tidy : (queues : List Queue) (fresh : Bool) (shards ind : ℕ) → AllTidy queues → AllTidy (queues_after queues fresh shards ind)
unfolding queues_after
after_tidy queues fresh shards ind h =
    by AllTidy (is_empty_of shards) (λ t. h) (λ t. changed_tidy queues fresh shards ind h)

-- ---- The changes

module _ (b : Board) (c : Columns b) where
  pub entries_length : length (entries_of b) ≡ b.len
  entries_length = let e = length-take b.len b.log in let s = c.slots in let f = c.few in omega arith

  pub view_length : length (view_log b.m (entries_of b)) ≡ b.len
  view_length = length-map (entries_of b) (view_entry b.m) ∙ entries_length

  pub old_entry : (ind : ℕ) → ind < b.len → at (entries_of b) ind ≡ some (entry_at b.log ind)
  unfolding entry_at
  old_entry ind h =
      let s = c.slots in
      let f = c.few in
      rw (slot_is ind (omega arith)) (at_take b.log ind b.len blank h (omega arith))

  module _ (ind : ℕ) (e e' : Entry) (a : at (entries_of b) ind ≡ some e) (same : write_of e' ≡ write_of e)
      (held : EntryHeld b.m e') (answer ack shards : ℕ) (sends : Bool) where
    -- an entry replaced
    abbrev pub verdict : Verdict
    verdict = record { answer = answer; entry = e'; fresh = false; len = b.len; shards = shards; ack = ack; sends = sends }

    inside : ind < b.len
    inside = let l = at_lt (entries_of b) ind e a in let n = entries_length in omega arith

    small : ind < 256
    small = let f = c.few in let l = inside in omega arith

    after : take b.len (set b.log (slot_of ind) e') ≡ set (entries_of b) ind e'
    after = rw (slot_is ind small) (take_set b.log ind b.len e' inside)

    pub entries_replaced : entries_of (board_after b ind verdict) ≡ set (entries_of b) ind e'
    unfolding board_after
    entries_replaced = after

    log_replaced : view_log b.m (set (entries_of b) ind e') ≡ set (view_log b.m (entries_of b)) ind (view_entry b.m e')
    log_replaced = map_set (view_entry b.m) (entries_of b) ind e'

    writes_stay : writes (view_log b.m (set (entries_of b) ind e')) ≡ writes (view_log b.m (entries_of b))
    writes_stay =
        ap writes log_replaced
        ∙ writes_set (view_log b.m (entries_of b)) ind (view_entry b.m e) (view_entry b.m e') (at_map (view_entry b.m) (entries_of b) ind e a) (unfold view_entry in same)

    column : (f : Entry → ℕ) (l : List ℕ) (x : ℕ) → take b.len l ≡ map f (entries_of b) → x ≡ f e'
        → take b.len (set l (slot_of ind) x) ≡ map f (take b.len (set b.log (slot_of ind) e'))
    column f l x h d =
        rw (slot_is ind small) (take_set l ind b.len x inside ∙ ((λ i. set (h i) ind (d i)) ∙ sym (map_set f (entries_of b) ind e')))
        ∙ ap (map f) (sym after)

    rest : {A : Type 0} (l : List A) (x : A) → drop b.len (set l (slot_of ind) x) ≡ drop b.len l
    rest l x = rw (slot_is ind small) (drop_set l ind b.len x inside)

    pub replaced_columns : Columns (board_after b ind verdict)
    unfolding board_after followed_of raised_of
    replaced_columns =
        record {
          slots = rw length-set c.slots;
          few = c.few;
          entries = λ i x h. each i x (rw after at h);
          log_rest = rest b.log e' ∙ c.log_rest;
          name_slots = rw length-set c.name_slots;
          names = column name_in b.names (name_of e'.client e'.number) c.names refl;
          name_rest = rest b.names (name_of e'.client e'.number) ∙ c.name_rest;
          mask_slots = rw length-set c.mask_slots;
          masks = column (mask_in b.m) b.touched (mask_in b.m e') c.masks refl;
          mask_rest = rest b.touched (mask_in b.m e') ∙ c.mask_rest;
          clients = unfold If◌then◌else◌ in c.clients;
          next = λ d. unfold If◌then◌else◌ in (c.next d ∙ ap (next_number d) (sym writes_stay ∙ ap (λ l. writes (view_log b.m l)) (sym after)));
          floors = rw length-set c.floors;
          queues = taken_lie b.queues shards ind b.len c.queues c.few;
          tidy = after_tidy b.queues false shards ind c.tidy;
        }
      where
        each : (i : ℕ) (x : Entry) → at (set (entries_of b) ind e') i ≡ some x → EntryHeld b.m x
        each i x h = go (at_set_cases (entries_of b) ind e' i x h)
          where
            go : (at (entries_of b) i ≡ some x) ⊎ ((i ≡ ind) × (x ≡ e')) → EntryHeld b.m x
            go (inl k) = c.entries i x k
            go (inr k) = rw k.1 held

    pub replaced_view : e'.client < 16 → view_board (board_after b ind verdict)
        ≡ holding (set (view_board b).log ind (view_entry b.m e')) (changed (view_board b).floor e'.client (max ((view_board b).floor e'.client) ack))
        (on_queues (set_of shards) (take_up_to ind) (view_board b).queue) (view_board b)
    unfolding view_board holding board_after
    replaced_view h =
        λ i.
        holding ((ap (view_log b.m) entries_replaced ∙ log_replaced) i) (floor_view b.floor e'.client ack (let f = c.floors in omega arith) i)
        (taken_queues b.queues shards ind b.len c.queues c.few i) (view_board b)

  module _ (client number ack count : ℕ) (items : List Item) (lo : 1 ≤ b.m) (hi : b.m ≤ 8) (room : b.len < 256) (small : client < 16)
      (next : number ≡ next_number client (writes (view_log b.m (entries_of b)))) (held : EntryHeld b.m (new_entry_of b.m client number count items)) where
    abbrev pub the_new : Entry
    the_new = new_entry_of b.m client number count items

    -- an entry appended
    abbrev pub new_verdict : Verdict
    new_verdict = record { answer = 0; entry = the_new; fresh = true; len = b.len + 1; shards = the_new.remaining; ack = ack; sends = true }

    longer : {A : Type 0} (l : List A) (x : A) → length l ≡ 256 → take (b.len + 1) (set l (slot_of b.len) x) ≡ snoc (take b.len l) x
    longer l x h = rw (slot_is b.len room) (take_snoc l b.len x (omega arith))

    shorter : {A : Type 0} (l : List A) (x y : A) → drop b.len l ≡ replicate (256 - b.len) y → drop (b.len + 1) (set l (slot_of b.len) x) ≡ replicate (256 - (b.len + 1)) y
    shorter {A} l x y h =
        let k : 256 - b.len ≡ suc (256 - suc b.len) = omega arith in
        rw (slot_is b.len room, add-one b.len)
        (drop_set l b.len (suc b.len) x (omega arith) ∙ drop_next l b.len (256 - suc b.len) y (h ∙ ap (λ (n : ℕ). replicate {A = A} n y) k))

    pub entries_longer : entries_of (board_after b b.len new_verdict) ≡ snoc (entries_of b) the_new
    unfolding board_after
    entries_longer = longer b.log the_new c.slots

    log_longer : view_log b.m (snoc (entries_of b) the_new) ≡ snoc (view_log b.m (entries_of b)) (new_entry b.m (the_write client number count items))
    log_longer = map_snoc (view_entry b.m) (entries_of b) the_new ∙ ap (snoc (view_log b.m (entries_of b))) (new_view b.m client number count items lo hi)

    pub longer_columns : Columns (board_after b b.len new_verdict)
    unfolding board_after
    longer_columns =
        record {
          slots = rw length-set c.slots;
          few = omega arith;
          entries = λ i x h. each i x (rw (longer b.log the_new c.slots) at h);
          log_rest = shorter b.log the_new no_entry c.log_rest;
          name_slots = rw length-set c.name_slots;
          names = column name_in b.names (name_in the_new) c.name_slots c.names refl;
          name_rest = shorter b.names (name_in the_new) 0 c.name_rest;
          mask_slots = rw length-set c.mask_slots;
          masks = column (mask_in b.m) b.touched (mask_in b.m the_new) c.mask_slots c.masks refl;
          mask_rest = shorter b.touched (mask_in b.m the_new) 0 c.mask_rest;
          clients = unfold followed_of If◌then◌else◌ in (rw length-set c.clients);
          next = λ d. rw (longer b.log the_new c.slots, log_longer, writes_snoc (view_log b.m (entries_of b)) (new_entry b.m (the_write client number count items))) (following d);
          floors = unfold raised_of in (rw length-set c.floors);
          queues = pushed_lie b.queues the_new.remaining b.len b.len c.queues;
          tidy = after_tidy b.queues true the_new.remaining b.len c.tidy;
        }
      where
        each : (i : ℕ) (x : Entry) → at (snoc (entries_of b) the_new) i ≡ some x → EntryHeld b.m x
        each i x h = go (at_snoc_cases (entries_of b) the_new i x h)
          where
            go : (at (entries_of b) i ≡ some x) ⊎ ((i ≡ length (entries_of b)) × (x ≡ the_new)) → EntryHeld b.m x
            go (inl k) = c.entries i x k
            go (inr k) = rw k.1 held

        column : (f : Entry → ℕ) (l : List ℕ) (x : ℕ) → length l ≡ 256 → take b.len l ≡ map f (entries_of b) → x ≡ f the_new
            → take (b.len + 1) (set l (slot_of b.len) x) ≡ map f (take (b.len + 1) (set b.log (slot_of b.len) the_new))
        column f l x n h d =
            longer l x n ∙ ((λ i. snoc (h i) (d i)) ∙ (sym (map_snoc f (entries_of b) the_new) ∙ ap (map f) (sym (longer b.log the_new c.slots))))

        following : (d : ℕ) → next_of (followed_of b.next true the_new.client the_new.number) d ≡ next_number d (snoc (writes (view_log b.m (entries_of b))) (new_entry b.m (the_write client number count items)).write)
        following d =
            unfold followed_of new_entry_of new_entry If◌then◌else◌ in
            (stored_at b.next client (number + 1) d (let k = c.clients in omega arith) ∙ (go (eqb d client) (eqb client d) refl refl ∙ sym (next_snoc d (writes (view_log b.m (entries_of b))) (the_write client number count items))))
          where
            go : (s t : Bool) → s ≡ eqb d client → t ≡ eqb client d → (If s then number + 1 else next_of b.next d)
                ≡ (If t then max (next_number d (writes (view_log b.m (entries_of b)))) (suc number) else next_number d (writes (view_log b.m (entries_of b))))
            go true true p q = let e : d ≡ client = eqb→eq d client (rw (← p) tt) in rw e (unfold If◌then◌else◌ in (omega arith))
            go true false p q = let e : d ≡ client = eqb→eq d client (rw (← p) tt) in let f = eqb_no {a = client} {b = d} (rw (← q) tt) in absurd (f (sym e))
            go false true p q = let e : client ≡ d = eqb→eq client d (rw (← q) tt) in let f = eqb_no {a = d} {b = client} (rw (← p) tt) in absurd (f (sym e))
            go false false p q = unfold If◌then◌else◌ in (c.next d)

    pub longer_view : view_board (board_after b b.len new_verdict) ≡ append (the_write client number count items) (raise_floor client ack (view_board b))
    unfolding view_board append raise_floor holding board_after new_entry_of
    longer_view =
        λ i.
        holding ((ap (view_log b.m) entries_longer ∙ log_longer) i) (floor_view b.floor client ack (let f = c.floors in omega arith) i)
        ((queues_view b.queues true the_new.remaining b.len b.len c.queues room
        ∙ (λ k. on_queues (touched_set b.m count items lo hi k) (enqueue (sym view_length k)) (view_queues b.queues))) i)
        (view_board b)
