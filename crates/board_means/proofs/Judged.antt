-- A step of each kind means the rules' step of that kind: refused by the same number, or taken with the same entry, the same board and the same
-- frames.
-- Assumes nothing.
use mathlib.Core.Path.{◌≡◌, refl, sym, ap, ◌∙◌}
use mathlib.Core.Bool.{Bool, true, false, not, ◌&&◌}
use mathlib.Core.List.{List, [], ◌∷◌, map}
use mathlib.Core.Option.{Option, none, some}
use Prim.Native.Nat.{ℕ, suc, ◌+◌, ◌≤◌, ◌<◌, max}
use native.Mathlib.Omega.{arith}
use lib.Dec.{T, leb, ltb, eqb, ltb→lt, lt→ltb, nltb→le, nleb→lt, eqb→eq}
use lib.ListN.{length, set, take, length-map}
use mir.Facts.{no_leb, no_ltb}
use Rattle.rules.specs.Lists.{If◌then◌else◌, at, snoc, changed, has, insert}
use Rattle.rules.specs.Transactions.{Write, touched, touches, placed, on_shard, same_write}
use Rattle.rules.specs.Frames as F
use Rattle.rules.specs.Outcomes as O
use Rattle.rules.specs.Outcomes.{sent_bytes, taken, refuse}
use Rattle.rules.specs.Queue.{take_up_to}
use Rattle.rules.specs.Board as B
use Rattle.rules.specs.Board.{is_exe, writes, next_number, find, holding, on_queues, raise_floor, append, new_entry, settle, backward, onward, serve_new, serve_held, serve_found, submit_step, forward_step, heard_from, exec_notif_step, finished, executed_step, log_size}
use Rattle.rules.specs.Kept.{of_client, Counted}
use Rattle.rules.proofs.Lists.{by, if_yes, if_no, yes_of, nothing, at_lt, strike_sub, T_true, at_snoc_new}
use Rattle.rules.proofs.Frames.{WriteRules}
use Rattle.rules.proofs.Steps.{same_write_lem}
use Rattle.rules.proofs.Numbers.{find_stands}
use Rattle.frames.specs.declared.Item.{Item}
use Rattle.frames.specs.declared.Frame.{Frame}
use Rattle.frames.specs.declared.Shape.TheVariants.{Operation as AnOperation}
use Rattle.frames.specs.Frames.{ok_items}
use Rattle.frames.specs.View.{operations_of, reads_of, Canon}
use Rattle.frames.proofs.Round.{enough}
use Rattle.entry.specs.declared.Entry.{Entry}
use Rattle.entry.specs.Model.{in_mask, insert_of, touched_of, is_on, chosen, part_on, fits_of, new_entry_of, same_write_of, heard_from_of, finished_of}
use Rattle.entry.specs.View.{set_of, write_of, view_entry, EntryHeld}
use Rattle.entry.proofs.Sets.{in_set, insert_set, strike_set, touched_set}
use Rattle.entry.proofs.Slots.{beside_few, part_slots}
use Rattle.entry.proofs.Meaning.{placed_view, part_view, same_write_view, fits_view}
use Rattle.entry.proofs.Entries.{Carried, the_write, new_view, new_held, heard_view, heard_held, finished_view, finished_held, exe_view}
use Rattle.send.specs.Model.{bytes_of, onward_of, send_parts}
use Rattle.send.specs.View.{PartsOf}
use Rattle.send.proofs.Meaning.{onward_count, onward_bytes}
use Rattle.verdict.specs.Model.{Verdict, next_of, floor_of, refuse_of, new_of, held_of, judge_submit, judge_forward, judge_exec_notif, judge_executed}
use Rattle.board.specs.declared.Board.{Board}
use Rattle.board.specs.Model as M
use Rattle.board.specs.Model.{entry_at, name_of, position_of, frames_of, board_after, taken_step, judged_step}
use Rattle.board_means.specs.View.{entries_of, view_log, view_board, name_in, mask_in, Columns, Held}
use Rattle.board_means.proofs.Slots.{set_same, at_map, at_none, at_set}
use Rattle.board_means.proofs.Numbers as N
use Rattle.board_means.proofs.Numbers.{place_in, find_is}
use Rattle.board_means.proofs.Changes.{floor_still, no_queues, verdict, new_verdict, entries_length, view_length, old_entry, entries_replaced, replaced_columns, replaced_view, entries_longer, longer_columns, longer_view}

-- ---- What is sent

-- as many frames, with the same bytes
pub record Sends (fs : List Frame) (gs : List F.Frame) : Type 0 where
  pub count : length fs ≡ length gs
  pub bytes : bytes_of fs ≡ sent_bytes gs

-- what an entry makes a board send is what the rules say, of any board that means this
send_law : (n m own floor ind room : ℕ) (masks : List ℕ) (es : List Entry) (e : Entry) (r : B.Board) → 1 ≤ m → m ≤ 8 → 68 ≤ room → r.n ≡ n → r.m ≡ m → r.own ≡ own
    → r.log ≡ view_log m es → r.floor e.client ≡ floor → take (length es) masks ≡ map (mask_in m) es → at es ind ≡ some e → EntryHeld m e
    → ((j : ℕ) → T (has j (set_of e.remaining)) → T (touches m j (operations_of e.count e.items)))
    → Sends (send_parts e n m own floor ind masks room) (onward r ind (view_entry m e))
unfolding send_parts
send_law n m own floor ind room masks es e r lo hi wide n_is m_is own_is log_is floor_is masks_are a held remains =
    let p : PartsOf r es e n m own floor ind masks = record {
      n_is = n_is;
      m_is = m_is;
      own_is = own_is;
      floor_is = floor_is;
      log_is = log_is;
      masks_are = masks_are;
      inside = at_lt es ind e a;
      low = lo;
      high = hi;
      held = held;
      remains = unfold view_entry write_of in remains;
    } in
    let all : (If ltb room 68 then [] else onward_of e n m own floor ind masks) ≡ onward_of e n m own floor ind masks = if_no (ltb room 68) [] (onward_of e n m own floor ind masks) (no_ltb {a = room} {b = 68} wide) in
    record {
      count = ap length all ∙ onward_count r es e n m own floor ind masks p;
      bytes = ap bytes_of all ∙ onward_bytes r es e n m own floor ind masks p;
    }

-- ---- A step means a step

pub record Lifts (o : M.Outcome) (r : O.Outcome B.Board) : Type 0 where
  pub columns : Columns o.board
  pub answer : o.answer ≡ r.answer
  pub state : view_board o.board ≡ r.state
  pub frames : Sends o.frames r.frames

pub nothing_sent : Sends [] []
unfolding bytes_of
nothing_sent = record { count = refl; bytes = refl }

same_client : (e : Entry) (w : Write) → write_of e ≡ w → e.client ≡ w.client
unfolding write_of
same_client e w d = ap (λ (x : Write). x.client) d

-- a part has its items
part_slots_enough : (m j count : ℕ) (items : List Item) → length items ≤ 4 → (part_on m j count items).count ≤ length (part_on m j count items).items
unfolding part_on
part_slots_enough m j count items h =
    let few = beside_few (is_on m j) (take count items) items in
    let n = part_slots (chosen (is_on m j) count items) (omega arith) in
    omega arith

module _ (b : Board) (held : Held b) (ready : T b.started) (lo : 1 ≤ b.m) (hi : b.m ≤ 8) (room : ℕ) (wide : 68 ≤ room) where
  abbrev c : Columns b
  c = held.columns

  abbrev es : List Entry
  es = entries_of b

  abbrev r : B.Board
  r = view_board b

  -- the verdict v about the log number ind means the outcome q
  pub record Judged (ind : ℕ) (v : Verdict) (q : O.Outcome B.Board) : Type 0 where
    pub means : Lifts (judged_step b ind v room) q

  pub refusing : (ind answer : ℕ) → T (not (eqb answer 0)) → Judged ind (refuse_of answer) (refuse answer (view_board b))
  unfolding judged_step refuse_of refuse
  refusing ind answer t =
      record {
        means =
            rw (if_no (eqb answer 0) (taken_step b ind (refuse_of answer) room) (M.refused b answer) t)
            (record { columns = c; answer = refl; state = refl; frames = nothing_sent });
      }

  -- the same test on both sides
  pub either : (ind : ℕ) (s t : Bool) {v w : Verdict} {p q : O.Outcome B.Board} → s ≡ t → (T s → Judged ind v p) → (T (not s) → Judged ind w q)
      → Judged ind (If s then v else w) (If t then p else q)
  either ind true t e f g = rw (← e) (unfold If◌then◌else◌ in (f tt))
  either ind false t e f g = rw (← e) (unfold If◌then◌else◌ in (g tt))

  taking : (ind : ℕ) (v : Verdict) (q : O.Outcome B.Board) → v.answer ≡ 0 → Lifts (taken_step b ind v room) q → Judged ind v q
  unfolding judged_step
  taking ind v q e l = record { means = rw (if_yes (eqb v.answer 0) (taken_step b ind v room) (M.refused b v.answer) (rw e tt)) l }

  log_at : (ind : ℕ) → ind < b.len → at (view_log b.m es) ind ≡ some (view_entry b.m (entry_at b.log ind))
  log_at ind l = at_map (view_entry b.m) es ind (entry_at b.log ind) (old_entry b c ind l)

  log_none : (ind : ℕ) → b.len ≤ ind → at (view_log b.m es) ind ≡ none
  log_none ind l = at_none (view_log b.m es) ind (let k = view_length b c in omega arith)

  entry_held : (ind : ℕ) → ind < b.len → EntryHeld b.m (entry_at b.log ind)
  entry_held ind l = c.entries ind (entry_at b.log ind) (old_entry b c ind l)

  left_touched : (ind : ℕ) → ind < b.len → (j : ℕ) → T (has j (set_of (entry_at b.log ind).remaining))
      → T (touches b.m j (operations_of (entry_at b.log ind).count (entry_at b.log ind).items))
  unfolding view_board view_entry write_of
  left_touched ind l j t = held.kept.remains ind (view_entry b.m (entry_at b.log ind)) j (log_at ind l) t

  -- the frames that an entry of the board after a step makes it send
  sent_after : (after : Board) → Columns after → after.m ≡ b.m → (ind : ℕ) (e : Entry) → at (entries_of after) ind ≡ some e → EntryHeld b.m e
      → ((j : ℕ) → T (has j (set_of e.remaining)) → T (touches b.m j (operations_of e.count e.items)))
      → Sends (send_parts e after.n b.m after.own (floor_of after.floor e.client) ind after.touched room) (onward (view_board after) ind (view_entry b.m e))
  sent_after after k d ind e a h t =
      send_law after.n b.m after.own (floor_of after.floor e.client) ind room after.touched (entries_of after) e (view_board after) lo hi wide (unfold view_board in refl)
      (unfold view_board in d) (unfold view_board in refl) (unfold view_board in (ap (λ m. view_log m (entries_of after)) d)) (unfold view_board in refl)
      (rw (entries_length after k) (k.masks ∙ ap (λ m. map (mask_in m) (entries_of after)) d)) a h t

  -- ---- An entry replaced

  module _ (ind : ℕ) (l : ind < b.len) (e' : Entry) (write : write_of e' ≡ write_of (entry_at b.log ind)) (kept : EntryHeld b.m e')
      (touched-left : (j : ℕ) → T (has j (set_of e'.remaining)) → T (touches b.m j (operations_of e'.count e'.items))) (ack shards : ℕ) (sends : Bool) where
    abbrev old : Entry
    old = entry_at b.log ind

    abbrev replacing : Verdict
    replacing = verdict b c ind old e' (old_entry b c ind l) write kept 0 ack shards sends

    abbrev moved : Board
    moved = board_after b ind replacing

    client_small : e'.client < 16
    unfolding view_entry write_of
    client_small = let k = kept.kept.client in omega arith

    columns : Columns moved
    columns = replaced_columns b c ind old e' (old_entry b c ind l) write kept 0 ack shards sends

    there : at (entries_of moved) ind ≡ some e'
    there =
        ap (λ (x : List Entry). at x ind) (entries_replaced b c ind old e' (old_entry b c ind l) write kept 0 ack shards sends)
        ∙ at_set (entries_of b) ind e' (let k = entries_length b c in omega arith)

    after : holding (set (view_board b).log ind (view_entry b.m e')) (changed (view_board b).floor e'.client (max ((view_board b).floor e'.client) ack))
        (on_queues (set_of shards) (take_up_to ind) (view_board b).queue) (view_board b)
        ≡ view_board moved
    after = sym (replaced_view b c ind old e' (old_entry b c ind l) write kept 0 ack shards sends client_small)

    frames_after : Sends (frames_of true e' b.n b.m b.own moved.floor ind moved.touched room) (onward (view_board moved) ind (view_entry b.m e'))
    unfolding frames_of board_after If◌then◌else◌
    frames_after = sent_after moved columns refl ind e' there kept touched-left

  -- ---- A held entry is served again

  served : (ind ack : ℕ) (l : ind < b.len)
      → Lifts (taken_step b ind (record { answer = 0; entry = entry_at b.log ind; fresh = false; len = b.len; shards = 0; ack = ack; sends = true }) room)
      (taken (raise_floor (entry_at b.log ind).client ack (view_board b))
      (onward (raise_floor (entry_at b.log ind).client ack (view_board b)) ind (view_entry b.m (entry_at b.log ind))))
  unfolding taken_step taken
  served ind ack l =
      let e : Entry = entry_at b.log ind in
      let is : view_board (moved ind l (entry_at b.log ind) refl (entry_held ind l) (left_touched ind l) ack 0 true) ≡ raise_floor (entry_at b.log ind).client ack (view_board b)
      = sym (after ind l (entry_at b.log ind) refl (entry_held ind l) (left_touched ind l) ack 0 true) ∙ same_board ind ack l in
      record {
        columns = columns ind l (entry_at b.log ind) refl (entry_held ind l) (left_touched ind l) ack 0 true;
        answer = refl;
        state = is;
        frames = rw (← is) (frames_after ind l (entry_at b.log ind) refl (entry_held ind l) (left_touched ind l) ack 0 true);
      }
    where
      same_board : (ind ack : ℕ) (l : ind < b.len)
          → holding (set (view_board b).log ind (view_entry b.m (entry_at b.log ind)))
          (changed (view_board b).floor (entry_at b.log ind).client (max ((view_board b).floor (entry_at b.log ind).client) ack)) (on_queues (set_of 0) (take_up_to ind) (view_board b).queue) (view_board b)
          ≡ raise_floor (entry_at b.log ind).client ack (view_board b)
      same_board ind ack l =
          unfold raise_floor in
          (λ i.
          holding (set_same (view_board b).log ind (view_entry b.m (entry_at b.log ind)) (unfold view_board in (log_at ind l)) i)
          (changed (view_board b).floor (entry_at b.log ind).client (max ((view_board b).floor (entry_at b.log ind).client) ack)) (no_queues (take_up_to ind) (view_board b).queue i) (view_board b))

  serve_held_lem : (ind client number ack count : ℕ) (items : List Item) → ind < b.len → T (ok_items count items)
      → Judged ind (held_of client number ack count items b.len true (entry_at b.log ind))
      (serve_held (view_board b) ind (the_write client number count items) ack (some (view_entry b.m (entry_at b.log ind))))
  unfolding held_of serve_held entry_at
  serve_held_lem ind client number ack count items l ok =
      either ind (not (true && same_write_of (entry_at b.log ind) client number count items)) (not (same_write (view_entry b.m (entry_at b.log ind)).write (the_write client number count items)))
      (ap not shown) (λ t. refusing ind 8 tt)
      (λ t.
      let w : write_of (entry_at b.log ind) ≡ the_write client number count items
      = same_write_lem (write_of (entry_at b.log ind)) (the_write client number count items) (rw same at (yes_of (same_write_of (entry_at b.log ind) client number count items) t)) in
      let d : (entry_at b.log ind).client ≡ client = same_client (entry_at b.log ind) (the_write client number count items) w in
      taking ind _ _ refl (rw d at (served ind ack l)))
    where
      same : same_write_of (entry_at b.log ind) client number count items ≡ same_write (write_of (entry_at b.log ind)) (the_write client number count items)
      same = same_write_view (entry_at b.log ind) client number count items (entry_held ind l).items ok

      shown : same_write_of (entry_at b.log ind) client number count items ≡ same_write (view_entry b.m (entry_at b.log ind)).write (the_write client number count items)
      shown = unfold view_entry in same

  -- ---- A new one is appended

  module _ (client number ack count : ℕ) (items : List Item) (l : b.len < 256) (small : client < 16) (next : number ≡ next_number client (writes (view_log b.m (entries_of b))))
      (n : length items ≡ 4) (ok : T (ok_items count items)) (canon : Canon AnOperation count items) (rules : WriteRules (the_write client number count items) ack) where
    abbrev fresh : Entry
    fresh = new_entry_of b.m client number count items

    fresh_held : EntryHeld b.m fresh
    fresh_held = new_held b.m client number ack count items lo hi n ok canon rules

    abbrev longer : Board
    longer = board_after b b.len (new_verdict b c client number ack count items lo hi l small next fresh_held)

    longer_lies : Columns longer
    longer_lies = longer_columns b c client number ack count items lo hi l small next fresh_held

    longer_is : view_board longer ≡ append (the_write client number count items) (raise_floor client ack (view_board b))
    longer_is = longer_view b c client number ack count items lo hi l small next fresh_held

    at_its_end : at (entries_of longer) b.len ≡ some fresh
    at_its_end =
        ap (λ (x : List Entry). at x b.len) (entries_longer b c client number ack count items lo hi l small next fresh_held)
        ∙ (ap (at (snoc (entries_of b) fresh)) (sym (entries_length b c)) ∙ at_snoc_new (entries_of b) fresh)

    theirs : (j : ℕ) → T (has j (set_of fresh.remaining)) → T (touches b.m j (operations_of fresh.count fresh.items))
    unfolding new_entry_of
    theirs j t = rw (touched_set b.m count items lo hi) at t

    fresh_frames : Sends (frames_of true fresh b.n b.m b.own longer.floor b.len longer.touched room) (onward (view_board longer) b.len (view_entry b.m fresh))
    unfolding frames_of board_after If◌then◌else◌
    fresh_frames = sent_after longer longer_lies refl b.len fresh at_its_end fresh_held theirs

    onward_same : onward (view_board longer) b.len (view_entry b.m fresh)
        ≡ onward (append (the_write client number count items) (raise_floor client ack (view_board b))) (length (view_board b).log) (new_entry (view_board b).m (the_write client number count items))
    onward_same = λ i. onward (longer_is i) (long i) (is_new i)
      where
        long : b.len ≡ length (view_board b).log
        long = unfold view_board in (sym (view_length b c))

        is_new : view_entry b.m fresh ≡ new_entry (view_board b).m (the_write client number count items)
        is_new = unfold view_board in (new_view b.m client number count items lo hi)

    append_new : Judged b.len (record { answer = 0; entry = fresh; fresh = true; len = b.len + 1; shards = fresh.remaining; ack = ack; sends = true })
        (serve_new (view_board b) (the_write client number count items) ack)
    unfolding taken_step serve_new taken
    append_new =
        taking b.len (new_verdict b c client number ack count items lo hi l small next fresh_held) (serve_new (view_board b) (the_write client number count items) ack) refl
        (record { columns = longer_lies; answer = refl; state = longer_is; frames = rw (← onward_same) fresh_frames })

  serve_new_lem : (client number ack count : ℕ) (items : List Item) → client < 16 → number ≡ next_number client (writes (view_log b.m (entries_of b))) → length items ≡ 4
      → T (ok_items count items) → Canon AnOperation count items → WriteRules (the_write client number count items) ack → b.len < 256
      → Judged b.len (new_of b.m client number ack count items b.len) (serve_new (view_board b) (the_write client number count items) ack)
  unfolding new_of
  serve_new_lem client number ack count items small next n ok canon rules l =
      rw (if_no (leb log_size b.len) (refuse_of 5)
      (record { answer = 0; entry = new_entry_of b.m client number count items; fresh = true; len = b.len + 1; shards = (new_entry_of b.m client number count items).remaining; ack = ack; sends = true })
      (full l)) (append_new client number ack count items l small next n ok canon rules)
    where
      full : b.len < 256 → T (not (leb 256 b.len))
      full l = no_leb {a = 256} {b = b.len} l

  -- ---- Submit

  -- where the names say that a client's number is held
  abbrev place : ℕ → ℕ → ℕ
  place client number = position_of (name_of client number) (take b.len b.names)

  -- a new number, where the log may be full
  serve_next : (client number ack count : ℕ) (items : List Item) → client < 16 → number ≡ next_number client (writes (view_log b.m (entries_of b))) → length items ≡ 4
      → T (ok_items count items) → Canon AnOperation count items → WriteRules (the_write client number count items) ack
      → Judged b.len (new_of b.m client number ack count items b.len)
      (If leb log_size (length (view_board b).log) then refuse 5 (view_board b) else serve_new (view_board b) (the_write client number count items) ack)
  unfolding new_of
  serve_next client number ack count items small next n ok canon rules =
      either b.len (leb log_size b.len) (leb log_size (length (view_board b).log)) (ap (leb 256) long) (λ t. refusing b.len 5 tt)
      (λ t. append_new client number ack count items (nleb→lt 256 b.len t) small next n ok canon rules)
    where
      long : b.len ≡ length (view_board b).log
      long = unfold view_board in (sym (view_length b c))

  -- a held number is found by its name
  same_names : (xs : List Entry) → map N.name_in (writes (view_log b.m xs)) ≡ map name_in xs
  unfolding view_entry write_of
  same_names [] = refl
  same_names (x ∷ xs) = ap {B = List ℕ} (λ l. name_in x ∷ l) (same_names xs)

  small_numbers : (xs : List Entry) → ((i : ℕ) (e : Entry) → at xs i ≡ some e → EntryHeld b.m e) → N.Small (writes (view_log b.m xs))
  unfolding view_entry write_of
  small_numbers [] h = tt
  small_numbers (x ∷ xs) h = (let k = (h 0 x refl).kept.number in omega arith, small_numbers xs (λ i e a. h (suc i) e a))

  find_place : (client number : ℕ) → number < 65536
      → find client number (writes (view_log b.m (entries_of b))) ≡ place_in (place client number) (length (writes (view_log b.m (entries_of b))))
  find_place client number h =
      find_is client number (writes (view_log b.m (entries_of b))) h (small_numbers (entries_of b) c.entries)
      ∙ ap (λ (l : List ℕ). place_in (position_of (name_of client number) l) (length (writes (view_log b.m (entries_of b))))) (same_names (entries_of b) ∙ sym c.names)

  log_length : length (writes (view_log b.m (entries_of b))) ≡ b.len
  log_length = length-map (view_log b.m (entries_of b)) (λ (e : B.Entry). e.write) ∙ view_length b c

  inside_of : (p count ind : ℕ) → place_in p count ≡ some ind → p < count
  inside_of p count ind = by (λ (o : Option ℕ). o ≡ some ind → p < count) (ltb p count) (λ t e. ltb→lt p count t) (λ t e. nothing e)

  place_inside : (client number : ℕ) → number < 65536 → T (ltb number (next_of b.next client)) → place client number < b.len
  place_inside client number h late =
      let l : number < next_number client (writes (view_log b.m (entries_of b))) = let k = ltb→lt number (next_of b.next client) late in let z = c.next client in omega arith in
      let f = find_stands client number (writes (view_log b.m (entries_of b))) (counted client) l in
      let i = inside_of (place client number) (length (writes (view_log b.m (entries_of b)))) _ (sym (find_place client number h) ∙ f) in
      let z = log_length in
      omega arith
    where
      counted : (client : ℕ) → Counted 0 (of_client client (writes (view_log b.m (entries_of b))))
      counted client = unfold view_board in (held.numbers.counted client)

  serve_found_lem : (client number ack count : ℕ) (items : List Item) → number < 65536 → T (ok_items count items) → T (ltb number (next_of b.next client))
      → Judged (place client number) (held_of client number ack count items b.len (ltb (place client number) b.len) (entry_at b.log (place client number)))
      (serve_found (view_board b) (the_write client number count items) ack (find client number (writes (view_board b).log)))
  unfolding serve_found
  serve_found_lem client number ack count items h ok late =
      rw (T_true (ltb (place client number) b.len) (lt→ltb (place client number) b.len l), is_found, is_there) (serve_held_lem (place client number) client number ack count items l ok)
    where
      l : place client number < b.len
      l = place_inside client number h late

      is_found : find client number (writes (view_board b).log) ≡ some (place client number)
      is_found =
          unfold view_board in
          (find_place client number h
          ∙ if_yes (ltb (place client number) (length (writes (view_log b.m (entries_of b))))) (some (place client number)) none (lt→ltb (place client number) _ (let z = log_length in let y = l in omega arith)))

      is_there : at (view_board b).log (place client number) ≡ some (view_entry b.m (entry_at b.log (place client number)))
      is_there = unfold view_board in (log_at (place client number) l)

  pub submit_means : (ind client number ack count : ℕ) (items : List Item) → client < 16 → number < 65536 → length items ≡ 4 → T (ok_items count items) → Canon AnOperation count items
      → WriteRules (the_write client number count items) ack
      → (T (ltb number (next_of b.next client)) → ind ≡ place client number) → (T (not (ltb number (next_of b.next client))) → ind ≡ b.len)
      → Judged ind
      (judge_submit b.m client number ack count items (floor_of b.floor client) (next_of b.next client) b.len (ltb ind b.len) (entry_at b.log ind))
      (submit_step (view_board b) (the_write client number count items) ack)
  unfolding judge_submit submit_step
  submit_means ind client number ack count items small short n ok canon rules old-place new-place =
      either ind (ltb number (floor_of b.floor client)) (ltb number ((view_board b).floor client)) (unfold view_board in refl) (λ t. refusing ind 3 tt) λ low.
      either ind (ltb (next_of b.next client) number) (ltb (next_number client (writes (view_board b).log)) number) (ap (λ k. ltb k number) next) (λ t. refusing ind 4 tt) λ early.
      either ind (ltb number (next_of b.next client)) (ltb number (next_number client (writes (view_board b).log))) (ap (ltb number) next)
      (λ late. rw (old-place late) (serve_found_lem client number ack count items short ok late)) (λ late. rw (new-place late) (serve_next client number ack count items small (is_next early late) n ok canon rules))
    where
      next : next_of b.next client ≡ next_number client (writes (view_board b).log)
      next = unfold view_board in (c.next client)

      is_next : T (not (ltb (next_of b.next client) number)) → T (not (ltb number (next_of b.next client))) → number ≡ next_number client (writes (view_log b.m (entries_of b)))
      is_next s t = let x = nltb→le (next_of b.next client) number s in let y = nltb→le number (next_of b.next client) t in let z = c.next client in omega arith

  -- ---- Forward

  pub forward_means : (ind client number ack count : ℕ) (items : List Item) → ind ≤ 255 → client < 16 → length items ≡ 4 → T (ok_items count items) → Canon AnOperation count items
      → WriteRules (the_write client number count items) ack
      → Judged ind (judge_forward b.m ind client number ack count items (next_of b.next client) b.len (entry_at b.log ind))
      (forward_step (view_board b) ind (the_write client number count items) ack)
  unfolding judge_forward forward_step
  forward_means ind client number ack count items top small n ok canon rules =
      either ind (ltb b.len ind) (ltb (length (view_board b).log) ind) (ap (λ k. ltb k ind) long) (λ t. refusing ind 4 tt) λ early.
      either ind (ltb ind b.len) (ltb ind (length (view_board b).log)) (ap (ltb ind) long)
      (λ t. let l = ltb→lt ind b.len t in rw (is_there l) (serve_held_lem ind client number ack count items l ok)) λ late.
      either ind (not (eqb number (next_of b.next client))) (not (eqb number (next_number client (writes (view_board b).log)))) (ap (λ k. not (eqb number k)) next) (λ t. refusing ind 8 tt)
      (λ t. rw (is_next early late)
      (serve_new_lem client number ack count items small
      (eqb→eq number (next_of b.next client) (yes_of (eqb number (next_of b.next client)) t) ∙ c.next client) n ok canon rules (let e = is_next early late in omega arith)))
    where
      long : b.len ≡ length (view_board b).log
      long = unfold view_board in (sym (view_length b c))

      next : next_of b.next client ≡ next_number client (writes (view_board b).log)
      next = unfold view_board in (c.next client)

      is_there : ind < b.len → at (view_board b).log ind ≡ some (view_entry b.m (entry_at b.log ind))
      is_there l = unfold view_board in (log_at ind l)

      is_next : T (not (ltb b.len ind)) → T (not (ltb ind b.len)) → ind ≡ b.len
      is_next s t = let x = nltb→le b.len ind s in let y = nltb→le ind b.len t in omega arith

  -- ---- An entry that is in the log, or not

  -- refusal 6, or the rest
  in_log : (ind : ℕ) (v : Verdict) (q : Option B.Entry → O.Outcome B.Board) → q none ≡ refuse 6 (view_board b)
      → ((l : ind < b.len) → Judged ind v (q (some (view_entry b.m (entry_at b.log ind)))))
      → Judged ind (If not (ltb ind b.len) then refuse_of 6 else v) (q (at (view_board b).log ind))
  in_log ind v q e f =
      by (λ (w : Verdict). Judged ind w (q (at (view_board b).log ind))) (not (ltb ind b.len))
      (λ t. let o = is_none (nltb→le ind b.len t) in rw (o, e) (refusing ind 6 tt))
      (λ t. let l = ltb→lt ind b.len (yes_of (ltb ind b.len) t) in rw (is_there l) (f l))
    where
      is_none : b.len ≤ ind → at (view_board b).log ind ≡ none
      is_none l = unfold view_board in (log_none ind l)

      is_there : ind < b.len → at (view_board b).log ind ≡ some (view_entry b.m (entry_at b.log ind))
      is_there l = unfold view_board in (log_at ind l)

  -- an entry that is EXE is sent backward, whatever else the board has
  backward_only : (q : B.Board) (ind : ℕ) (e : B.Entry) → is_exe e.status ≡ true → q.own ≡ (view_board b).own → onward q ind e ≡ backward (view_board b) ind e ∷ []
  unfolding onward backward
  backward_only q ind e x o =
      rw (x, o) (unfold If◌then◌else◌ in refl)

  -- ---- ExecNotif

  module _ (j ind k : ℕ) (rs : List Item) (low : 1 ≤ j) (high : j ≤ 8) (carried : Carried k rs) (l : ind < b.len) where
    abbrev was : Entry
    was = entry_at b.log ind

    abbrev now_heard : Entry
    now_heard = heard_from_of was j k rs

    module _ (left : T (in_mask was.remaining j)) (fit : T (B.fits (reads_of k rs) (on_shard b.m j (operations_of was.count was.items)))) where
      heard_is : view_entry b.m now_heard ≡ heard_from j (reads_of k rs) (view_entry b.m was)
      heard_is = heard_view b.m was (entry_held ind l) j k rs carried left fit

      heard_kept : EntryHeld b.m now_heard
      heard_kept = heard_held b.m was (entry_held ind l) j k rs carried left fit

      heard_write : write_of now_heard ≡ write_of was
      unfolding heard_from_of write_of
      heard_write = refl

      heard_left : (i : ℕ) → T (has i (set_of now_heard.remaining)) → T (touches b.m i (operations_of now_heard.count now_heard.items))
      unfolding heard_from_of
      heard_left i t = left_touched ind l i (strike_sub i j (set_of was.remaining) (rw (strike_set was.remaining j) at t))

      one_shard : set_of (insert_of 0 j) ≡ j ∷ []
      one_shard = insert_set 0 j low high ∙ ap (insert j) empty
        where
          empty : set_of 0 ≡ []
          empty = unfold set_of in_mask If◌then◌else◌ in refl

      abbrev heard_after : Board
      heard_after = moved ind l now_heard heard_write heard_kept heard_left 0 (insert_of 0 j) now_heard.exe

      heard_board : view_board heard_after
          ≡ settle ind (heard_from j (reads_of k rs) (view_entry b.m was)) (j ∷ []) (view_board b)
      unfolding settle
      heard_board =
          sym (after ind l now_heard heard_write heard_kept heard_left 0 (insert_of 0 j) now_heard.exe)
          ∙ (λ i. holding (set (view_board b).log ind (heard_is i)) (floor_still (view_board b).floor now_heard.client i) (on_queues (one_shard i) (take_up_to ind) (view_board b).queue) (view_board b))

      heard_frames : (x : Bool) → now_heard.exe ≡ x
          → Sends (frames_of x now_heard b.n b.m b.own heard_after.floor ind
          heard_after.touched room)
          (If x then backward (view_board b) ind (heard_from j (reads_of k rs) (view_entry b.m was)) ∷ [] else [])
      unfolding frames_of If◌then◌else◌
      heard_frames true e =
          let same = backward_only (view_board heard_after) ind (view_entry b.m now_heard)
          (exe_view b.m now_heard ∙ e) own_stays in
          rw (← heard_is) (rw same at (frames_after ind l now_heard heard_write heard_kept heard_left 0 (insert_of 0 j) now_heard.exe))
        where
          own_stays : (view_board heard_after).own ≡ (view_board b).own
          own_stays = unfold view_board board_after in refl
      heard_frames false e = nothing_sent

      heard_lifts : Judged ind (record { answer = 0; entry = now_heard; fresh = false; len = b.len; shards = insert_of 0 j; ack = 0; sends = now_heard.exe })
          (taken (settle ind (heard_from j (reads_of k rs) (view_entry b.m was)) (j ∷ []) (view_board b))
          (If is_exe (heard_from j (reads_of k rs) (view_entry b.m was)).status then backward (view_board b) ind (heard_from j (reads_of k rs) (view_entry b.m was)) ∷ [] else []))
      unfolding taken_step taken
      heard_lifts =
          taking ind (record { answer = 0; entry = now_heard; fresh = false; len = b.len; shards = insert_of 0 j; ack = 0; sends = now_heard.exe }) _ refl
          (record {
            columns = columns ind l now_heard heard_write heard_kept heard_left 0 (insert_of 0 j) now_heard.exe;
            answer = refl;
            state = heard_board;
            frames = rw status (heard_frames now_heard.exe refl);
          })
        where
          status : is_exe (heard_from j (reads_of k rs) (view_entry b.m was)).status ≡ now_heard.exe
          status = ap (λ (e : B.Entry). is_exe e.status) (sym heard_is) ∙ exe_view b.m now_heard

  notif_there : (j ind k : ℕ) (rs : List Item) (low : 1 ≤ j) (high : j ≤ 8) (carried : Carried k rs) (l : ind < b.len)
      → in_mask (entry_at b.log ind).remaining j ≡ has j (view_entry b.m (entry_at b.log ind)).remaining
      → fits_of (part_on b.m j (entry_at b.log ind).count (entry_at b.log ind).items).count (part_on b.m j (entry_at b.log ind).count (entry_at b.log ind).items).items k rs
      ≡ B.fits (reads_of k rs) (on_shard b.m j (operations_of (entry_at b.log ind).count (entry_at b.log ind).items))
      → Judged ind
      (If not (in_mask (entry_at b.log ind).remaining j) then refuse_of 7 else
      If not (fits_of (part_on b.m j (entry_at b.log ind).count (entry_at b.log ind).items).count (part_on b.m j (entry_at b.log ind).count (entry_at b.log ind).items).items k rs) then refuse_of 8 else
      record { answer = 0; entry = heard_from_of (entry_at b.log ind) j k rs; fresh = false; len = b.len; shards = insert_of 0 j; ack = 0; sends = (heard_from_of (entry_at b.log ind) j k rs).exe })
      (exec_notif_step (view_board b) j ind (reads_of k rs) (some (view_entry b.m (entry_at b.log ind))))
  unfolding exec_notif_step
  notif_there j ind k rs low high carried l remains part_fits =
      either ind (not (in_mask (entry_at b.log ind).remaining j)) (not (has j (view_entry b.m (entry_at b.log ind)).remaining)) (ap not remains) (λ t. refusing ind 7 tt) λ t.
      either ind
      (not (fits_of (part_on b.m j (entry_at b.log ind).count (entry_at b.log ind).items).count (part_on b.m j (entry_at b.log ind).count (entry_at b.log ind).items).items k rs))
      (not (B.fits (reads_of k rs) (on_shard (view_board b).m j (view_entry b.m (entry_at b.log ind)).write.operations))) (ap not shown) (λ u. refusing ind 8 tt)
      (λ u.
      heard_lifts j ind k rs low high carried l (yes_of (in_mask (entry_at b.log ind).remaining j) t)
      (rw part_fits at (yes_of (fits_of (part_on b.m j (entry_at b.log ind).count (entry_at b.log ind).items).count (part_on b.m j (entry_at b.log ind).count (entry_at b.log ind).items).items k rs) u)))
    where
      shown : fits_of (part_on b.m j (entry_at b.log ind).count (entry_at b.log ind).items).count (part_on b.m j (entry_at b.log ind).count (entry_at b.log ind).items).items k rs
          ≡ B.fits (reads_of k rs) (on_shard (view_board b).m j (view_entry b.m (entry_at b.log ind)).write.operations)
      shown = unfold view_board view_entry write_of in part_fits

  pub exec_notif_means : (j ind k : ℕ) (rs : List Item) → 1 ≤ j → j ≤ 8 → Carried k rs
      → Judged ind (judge_exec_notif b.m j k rs b.len (ltb ind b.len) (entry_at b.log ind)) (exec_notif_step (view_board b) j ind (reads_of k rs) (at (view_board b).log ind))
  unfolding judge_exec_notif
  exec_notif_means j ind k rs low high carried =
      in_log ind _ (exec_notif_step (view_board b) j ind (reads_of k rs)) (unfold exec_notif_step in refl) (λ l. go l)
    where
      e : Entry
      e = entry_at b.log ind

      remains : ind < b.len → in_mask (entry_at b.log ind).remaining j ≡ has j (view_entry b.m (entry_at b.log ind)).remaining
      remains l = unfold view_entry in (sym (in_set (entry_at b.log ind).remaining j))

      part_fits : ind < b.len → fits_of (part_on b.m j (entry_at b.log ind).count (entry_at b.log ind).items).count (part_on b.m j (entry_at b.log ind).count (entry_at b.log ind).items).items k rs
          ≡ B.fits (reads_of k rs) (on_shard b.m j (operations_of (entry_at b.log ind).count (entry_at b.log ind).items))
      part_fits l =
          let h = entry_held ind l in
          let few = enough 0 (entry_at b.log ind).count (entry_at b.log ind).items h.items in
          fits_view _ _ k rs (part_slots_enough b.m j (entry_at b.log ind).count (entry_at b.log ind).items (let n = h.slots in omega arith))
          (let n = carried.slots in let m = enough 0 k rs carried.items in omega arith)
          ∙ ap (B.fits (reads_of k rs)) (part_view b.m j (entry_at b.log ind).count (entry_at b.log ind).items lo h.canon few)

      go : (l : ind < b.len)
          → Judged ind
          (If not (in_mask (entry_at b.log ind).remaining j) then refuse_of 7 else
          If not (fits_of (part_on b.m j (entry_at b.log ind).count (entry_at b.log ind).items).count (part_on b.m j (entry_at b.log ind).count (entry_at b.log ind).items).items k rs) then refuse_of 8 else
          record { answer = 0; entry = heard_from_of (entry_at b.log ind) j k rs; fresh = false; len = b.len; shards = insert_of 0 j; ack = 0; sends = (heard_from_of (entry_at b.log ind) j k rs).exe })
          (exec_notif_step (view_board b) j ind (reads_of k rs) (some (view_entry b.m (entry_at b.log ind))))
      go l = notif_there j ind k rs low high carried l (remains l) (part_fits l)

  -- ---- Executed

  module _ (ind k : ℕ) (rs : List Item) (carried : Carried k rs) (l : ind < b.len) where
    abbrev pre : Entry
    pre = entry_at b.log ind

    abbrev ended : Entry
    ended = finished_of pre k rs

    module _ (fit : T (B.fits (reads_of k rs) (placed 0 (operations_of pre.count pre.items)))) where
      ended_is : view_entry b.m ended ≡ finished (reads_of k rs) (view_entry b.m pre)
      ended_is = finished_view b.m pre (entry_held ind l) k rs carried fit

      ended_kept : EntryHeld b.m ended
      ended_kept = finished_held b.m pre (entry_held ind l) k rs carried fit

      ended_write : write_of ended ≡ write_of pre
      unfolding finished_of write_of
      ended_write = refl

      none_left : (i : ℕ) → T (has i (set_of ended.remaining)) → T (touches b.m i (operations_of ended.count ended.items))
      unfolding finished_of set_of in_mask If◌then◌else◌
      none_left i t = absurd t

      abbrev shards : ℕ
      shards = touched_of b.m pre.count pre.items

      abbrev ended_board : Board
      ended_board = moved ind l ended ended_write ended_kept none_left 0 shards true

      ended_view : view_board ended_board ≡ settle ind (finished (reads_of k rs) (view_entry b.m pre)) (touched (view_board b).m (view_entry b.m pre).write.operations) (view_board b)
      unfolding settle
      ended_view =
          sym (after ind l ended ended_write ended_kept none_left 0 shards true)
          ∙ (λ i. holding (set (view_board b).log ind (ended_is i)) (floor_still (view_board b).floor ended.client i) (on_queues (set_is i) (take_up_to ind) (view_board b).queue) (view_board b))
        where
          set_is : set_of shards ≡ touched (view_board b).m (view_entry b.m pre).write.operations
          set_is = unfold view_board view_entry write_of in (touched_set b.m pre.count pre.items lo hi)

      ended_frames : Sends (frames_of true ended b.n b.m b.own ended_board.floor ind ended_board.touched room)
          (backward (view_board b) ind (finished (reads_of k rs) (view_entry b.m pre)) ∷ [])
      ended_frames =
          let same = backward_only (view_board ended_board) ind (view_entry b.m ended) (exe_view b.m ended ∙ is_exe_lem) own_stays in
          rw (← ended_is) (rw same at (frames_after ind l ended ended_write ended_kept none_left 0 shards true))
        where
          own_stays : (view_board ended_board).own ≡ (view_board b).own
          own_stays = unfold view_board board_after in refl

          is_exe_lem : ended.exe ≡ true
          is_exe_lem = unfold finished_of in refl

      ended_lifts : Judged ind (record { answer = 0; entry = ended; fresh = false; len = b.len; shards = shards; ack = 0; sends = true })
          (taken (settle ind (finished (reads_of k rs) (view_entry b.m pre)) (touched (view_board b).m (view_entry b.m pre).write.operations) (view_board b))
          (backward (view_board b) ind (finished (reads_of k rs) (view_entry b.m pre)) ∷ []))
      unfolding taken_step taken
      ended_lifts =
          taking ind (record { answer = 0; entry = ended; fresh = false; len = b.len; shards = shards; ack = 0; sends = true }) _ refl
          (record {
            columns = columns ind l ended ended_write ended_kept none_left 0 shards true;
            answer = refl;
            state = ended_view;
            frames = ended_frames;
          })

  executed_there : (ind k : ℕ) (rs : List Item) (carried : Carried k rs) (l : ind < b.len) → (entry_at b.log ind).exe ≡ is_exe (view_entry b.m (entry_at b.log ind)).status
      → fits_of (entry_at b.log ind).count (entry_at b.log ind).items k rs ≡ B.fits (reads_of k rs) (placed 0 (operations_of (entry_at b.log ind).count (entry_at b.log ind).items))
      → Judged ind
      (If (entry_at b.log ind).exe then refuse_of 7 else
      If not (fits_of (entry_at b.log ind).count (entry_at b.log ind).items k rs) then refuse_of 8 else
      record { answer = 0; entry = finished_of (entry_at b.log ind) k rs; fresh = false; len = b.len; shards = touched_of b.m (entry_at b.log ind).count (entry_at b.log ind).items; ack = 0; sends = true })
      (executed_step (view_board b) ind (reads_of k rs) (some (view_entry b.m (entry_at b.log ind))))
  unfolding executed_step
  executed_there ind k rs carried l exe all_fit =
      either ind (entry_at b.log ind).exe (is_exe (view_entry b.m (entry_at b.log ind)).status) exe (λ t. refusing ind 7 tt) λ t.
      either ind (not (fits_of (entry_at b.log ind).count (entry_at b.log ind).items k rs))
      (not (B.fits (reads_of k rs) (placed 0 (view_entry b.m (entry_at b.log ind)).write.operations))) (ap not shown) (λ u. refusing ind 8 tt)
      (λ u. ended_lifts ind k rs carried l (rw all_fit at (yes_of (fits_of (entry_at b.log ind).count (entry_at b.log ind).items k rs) u)))
    where
      shown : fits_of (entry_at b.log ind).count (entry_at b.log ind).items k rs ≡ B.fits (reads_of k rs) (placed 0 (view_entry b.m (entry_at b.log ind)).write.operations)
      shown = unfold view_entry write_of in all_fit

  pub executed_means : (ind k : ℕ) (rs : List Item) → Carried k rs
      → Judged ind (judge_executed b.m k rs b.len (ltb ind b.len) (entry_at b.log ind)) (executed_step (view_board b) ind (reads_of k rs) (at (view_board b).log ind))
  unfolding judge_executed
  executed_means ind k rs carried =
      in_log ind _ (executed_step (view_board b) ind (reads_of k rs)) (unfold executed_step in refl)
      (λ l. executed_there ind k rs carried l (sym (exe_view b.m (entry_at b.log ind))) (all_fit l))
    where
      all_fit : (l : ind < b.len) → fits_of (entry_at b.log ind).count (entry_at b.log ind).items k rs
          ≡ B.fits (reads_of k rs) (placed 0 (operations_of (entry_at b.log ind).count (entry_at b.log ind).items))
      all_fit l =
          let h = entry_held ind l in
          let few = enough 0 (entry_at b.log ind).count (entry_at b.log ind).items h.items in
          fits_view (entry_at b.log ind).count (entry_at b.log ind).items k rs few (let n = carried.slots in let m = enough 0 k rs carried.items in omega arith)
          ∙ ap (B.fits (reads_of k rs)) (placed_view 0 (entry_at b.log ind).count (entry_at b.log ind).items h.canon few)
