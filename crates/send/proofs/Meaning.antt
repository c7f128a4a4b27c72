-- The frames that an entry makes a board send mean the rules' onward: one for one, in number and in every byte.
-- Assumes nothing.
use mathlib.Core.Path.{◌≡◌, refl, sym, ap, subst, ◌∙◌}
use mathlib.Core.Bool.{Bool, true, false}
use mathlib.Core.List.{List, [], ◌∷◌, ◌++◌, map, append_assoc, append-nil}
use mathlib.Core.Option.{some}
use Prim.Native.Nat.{ℕ, zero, suc, ◌+◌, ◌≤◌, min}
use native.Mathlib.Numerals.{add-one}
use native.Mathlib.Omega.{arith}
use lib.Dec.{T, ltb, eqb}
use lib.ListN.{length, take, drop, length-map}
use mir.Facts.{no_ltb}
use borrow.Author.Tests.{le-leb}
use Rattle.rules.specs.Lists.{If◌then◌else◌, has}
use Rattle.rules.specs.Transactions.{touches, on_shard}
use Rattle.rules.specs.Frames as F
use Rattle.rules.specs.Frames.{shard_append, executed, response}
use Rattle.rules.specs.Outcomes.{sent_bytes}
use Rattle.rules.specs.Board as B
use Rattle.rules.specs.Board.{writes, touching, forward_of, shard_append_of, backward, onward}
use Rattle.rules.proofs.Lists.{if_no}
use Rattle.rules.proofs.Sets.{part_some}
use Rattle.rules.proofs.Counts.{touching_cons}
use Rattle.frames.specs.declared.Item.{Item}
use Rattle.frames.specs.declared.Frame.{Frame}
use Rattle.frames.specs.declared.Head.TheVariants.{Executed, Response}
use Rattle.frames.specs.View.{as_placed, meaning}
use Rattle.frames.proofs.Meaning as M
use Rattle.frames.proofs.Meaning.{sent_bytes_lem}
use Rattle.frames.proofs.Round.{enough}
use Rattle.entry.specs.declared.Entry.{Entry}
use Rattle.entry.specs.Model.{in_mask, is_on, chosen, part_of, part_on, reads_held}
use Rattle.entry.proofs.Slots.{part_take}
use Rattle.entry.specs.View.{set_from, set_of, write_of, view_entry, EntryHeld}
use Rattle.entry.proofs.Sets.{in_set, touched_set}
use Rattle.entry.proofs.Meaning.{part_view}
use Rattle.entry.proofs.Held.{part_right, held_reads, held_right}
use Rattle.entry.proofs.Entries.{exe_view}
use Rattle.send.specs.Model.{bytes_of, laid, Sends, count_in, forward_frame, backward_of, append_frame, goes, append_at, appends_to, onward_of, send_parts}
use Rattle.send.specs.View.{mask_of, PartsOf, Means}
use Rattle.send.specs.declared.Sent.{Sent}

-- ---- sn

module _ (m : ℕ) (lo : 1 ≤ m) (hi : m ≤ 8) where
  touches_mask : (j : ℕ) (e : Entry) → touches m j (view_entry m e).write.operations ≡ in_mask (mask_of m e) j
  unfolding view_entry write_of
  touches_mask j e = ap (has j) (sym (touched_set m e.count e.items lo hi)) ∙ in_set (mask_of m e) j

  -- "sn for shard j counts the log's entries up to this one that touch j, gets included"
  count_means : (j : ℕ) (es : List Entry) (masks : List ℕ) (q : ℕ) → q ≤ length es → take (length es) masks ≡ map (mask_of m) es
      → touching m j (writes (map (view_entry m) es)) q ≡ count_in j (take q masks)
  count_means j es masks zero h e = refl
  count_means j [] masks (suc q) h e = absurd (omega arith)
  count_means j (x ∷ es) [] (suc q) h e = absurd (omega (arith, ap length e))
  count_means j (x ∷ es) (k ∷ masks) (suc q) h e =
      let first : k ≡ mask_of m x = cc in
      let rest : take (length es) masks ≡ map (mask_of m) es = cc in
      touching_cons m j (view_entry m x).write (writes (map (view_entry m) es)) q
      ∙ (λ i. (If (touches_mask j x ∙ ap (λ (z : ℕ). in_mask z j) (sym first)) i then 1 else 0) + count_means j es masks q (omega arith) rest i)

-- ---- The shards that remain, one by one

-- those up to one
abbrev set_to : ℕ → ℕ → List ℕ
set_to mask zero = []
set_to mask (suc last) = set_to mask last ++ (If in_mask mask (suc last) then suc last ∷ [] else [])

set_joins : (mask k j : ℕ) → set_to mask j ++ set_from k (suc j) mask ≡ set_to mask (j + k)
set_joins mask zero j = let e : j + 0 ≡ j = omega arith in rw e (append-nil (set_to mask j))
set_joins mask (suc k) j =
    let e : j + suc k ≡ suc j + k = omega arith in
    rw e (ap (λ (l : List ℕ). set_to mask j ++ l) (go (in_mask mask (suc j))) ∙ (sym (append_assoc (set_to mask j) (If in_mask mask (suc j) then suc j ∷ [] else []) (set_from k (suc (suc j)) mask)) ∙ set_joins mask k (suc j)))
  where
    go : (t : Bool) → (If t then suc j ∷ set_from k (suc (suc j)) mask else set_from k (suc (suc j)) mask) ≡ (If t then suc j ∷ [] else []) ++ set_from k (suc (suc j)) mask
    go true = unfold If◌then◌else◌ in refl
    go false = unfold If◌then◌else◌ in refl

set_to_lem : (mask : ℕ) → set_of mask ≡ set_to mask 8
unfolding set_of
set_to_lem mask = set_joins mask 8 0

-- ---- Frames sent in turn

sends_append : (fs hs : List Frame) (gs ks : List F.Frame) → M.Sends fs gs → M.Sends hs ks → M.Sends (fs ++ hs) (gs ++ ks)
sends_append [] hs [] ks a b = b
sends_append [] hs (g ∷ gs) ks a b = absurd a
sends_append (f ∷ fs) hs [] ks a b = absurd a
sends_append (f ∷ fs) hs (g ∷ gs) ks (a, r) b = (a, sends_append fs hs gs ks r b)

sends_count : (fs : List Frame) (gs : List F.Frame) → M.Sends fs gs → length fs ≡ length gs
sends_count [] [] a = refl
sends_count [] (g ∷ gs) a = absurd a
sends_count (f ∷ fs) [] a = absurd a
sends_count (f ∷ fs) (g ∷ gs) (a, r) = ap suc (sends_count fs gs r)

map-append : {A B : Type 0} (f : A → B) (xs ys : List A) → map f (xs ++ ys) ≡ map f xs ++ map f ys
map-append f [] ys = refl
map-append f (x ∷ xs) ys = ap (λ l. f x ∷ l) (map-append f xs ys)

-- ---- What goes back needs no more of the board than its own number

module _ (e : Entry) (m ind : ℕ) (lo : 1 ≤ m) (h : EntryHeld m e) where
  back_at : (t : Bool)
      → M.Sends
      ((If t then record { head = Response e.client e.number; list = reads_held m e }
      else record { head = Executed ind; list = reads_held m e })
      ∷ [])
      ((If t then response (view_entry m e).write.client (view_entry m e).write.number (view_entry m e).reads else executed ind (view_entry m e).reads) ∷ [])
  unfolding If◌then◌else◌ meaning view_entry write_of
  back_at true = ((held_right m e lo h, ap (λ rs. some (response e.client e.number rs)) (held_reads m e lo h)), tt)
  back_at false = ((held_right m e lo h, ap (λ rs. some (executed ind rs)) (held_reads m e lo h)), tt)

  -- "Executed to i−1, or from the head Response to the client"
  pub back_means : (b : B.Board) (own : ℕ) → b.own ≡ own → M.Sends (backward_of e m own ind ∷ []) (backward b ind (view_entry m e) ∷ [])
  unfolding backward_of backward
  back_means b own o = rw o (back_at (eqb own 1))

-- ---- What goes on

module _ (b : B.Board) (es : List Entry) (e : Entry) (n m own floor ind : ℕ) (masks : List ℕ) (p : PartsOf b es e n m own floor ind masks) where
  abbrev view : B.Entry
  view = view_entry m e

  few : e.count ≤ 4
  few = omega (arith, enough 0 e.count e.items p.held.items, p.held.slots)

  forward_means : M.Sends (forward_frame e floor ind ∷ []) (forward_of b ind view.write ∷ [])
  unfolding forward_frame forward_of meaning view_entry write_of
  forward_means =
      let c : min e.count 4 ≡ e.count = omega (arith, few) in
      rw (c, p.floor_is) ((p.held.items, refl), tt)

  -- the part has as many items as the rules' has operations
  part_count : (j : ℕ) → length (on_shard m j view.write.operations) ≡ (part_on m j e.count e.items).count
  unfolding part_on view_entry write_of
  part_count j =
      let xs : List Item = chosen (is_on m j) e.count e.items in
      ap length (sym (part_view m j e.count e.items p.low p.held.canon (enough 0 e.count e.items p.held.items)))
      ∙ (length-map (take (length xs) (part_of xs).items) as_placed ∙ ap length (part_take xs))

  -- a remaining shard has an operation, so its ShardAppend goes
  remains_goes : (j : ℕ) → in_mask e.remaining j ≡ true → goes e.remaining e.count e.items m j ≡ true
  unfolding goes
  remains_goes j h =
      let t : T (touches m j view.write.operations) = p.remains j (rw (in_set e.remaining j, h) tt) in
      let s = part_some m j 0 view.write.operations t in
      rw (h, le-leb 1 (part_on m j e.count e.items).count (omega (arith, part_count j)))

  struck_stays : (j : ℕ) → in_mask e.remaining j ≡ false → goes e.remaining e.count e.items m j ≡ false
  unfolding goes
  struck_stays j h = rw h

  append_means : (j : ℕ) → M.Sends (append_at e.count e.items m ind masks j ∷ []) (shard_append_of b ind view.write j ∷ [])
  unfolding append_at append_frame shard_append_of meaning view_entry write_of
  append_means j =
      let sn : touching m j (writes b.log) (suc ind) ≡ count_in j (take (ind + 1) masks) =
      ap (λ (log : List B.Entry). touching m j (writes log) (suc ind)) p.log_is ∙ rw (add-one ind) (count_means m p.low p.high j es masks (suc ind) p.inside p.masks_are) in
      let sent : some (shard_append_of b ind view.write j) ≡ some (shard_append j ind (count_in j (take (ind + 1) masks)) (on_shard m j view.write.operations)) =
      ap (λ (k : ℕ). some (shard_append j ind (touching k j (writes b.log) (suc ind)) (on_shard k j view.write.operations))) p.m_is
      ∙ ap (λ (n : ℕ). some (shard_append j ind n (on_shard m j view.write.operations))) sn in (
        (
          part_right m j e.count e.items p.held.items,
          ap (λ xs. some (shard_append j ind (count_in j (take (ind + 1) masks)) xs))
              (part_view m j e.count e.items p.low p.held.canon (enough 0 e.count e.items p.held.items)) ∙ sym sent,
        ),
        tt,
      )

  abbrev S : ℕ → List Frame
  S last = appends_to e.remaining e.count e.items m ind masks last

  appends_mean : (last : ℕ) → M.Sends (S last) (map (shard_append_of b ind view.write) (set_to e.remaining last))
  unfolding appends_to
  appends_mean zero = tt
  appends_mean (suc last) =
      rw (map-append (shard_append_of b ind view.write) (set_to e.remaining last) (If in_mask e.remaining (suc last) then suc last ∷ [] else []))
      (sends_append (S last) (If goes e.remaining e.count e.items m (suc last) then append_at e.count e.items m ind masks (suc last) ∷ [] else [])
      (map (shard_append_of b ind view.write) (set_to e.remaining last)) (map (shard_append_of b ind view.write) (If in_mask e.remaining (suc last) then suc last ∷ [] else []))
      (appends_mean last) (one (suc last) (in_mask e.remaining (suc last)) refl))
    where
      one : (j : ℕ) (t : Bool) → t ≡ in_mask e.remaining j
          → M.Sends (If goes e.remaining e.count e.items m j then append_at e.count e.items m ind masks j ∷ [] else [])
          (map (shard_append_of b ind view.write) (If t then j ∷ [] else []))
      one j true q = rw (remains_goes j (sym q)) (unfold If◌then◌else◌ in (append_means j))
      one j false q = rw (struck_stays j (sym q)) (unfold If◌then◌else◌ in tt)

  remaining_is : view.remaining ≡ set_to e.remaining 8
  unfolding view_entry
  remaining_is = set_to_lem e.remaining

  onward_at : (t u : Bool)
      → M.Sends (If t then backward_of e m own ind ∷ [] else If u then forward_frame e floor ind ∷ [] else S 8)
      (If t then backward b ind view ∷ [] else If u then forward_of b ind view.write ∷ [] else map (shard_append_of b ind view.write) view.remaining)
  unfolding If◌then◌else◌
  onward_at true u = back_means e m ind p.low p.held b own p.own_is
  onward_at false true = forward_means
  onward_at false false = rw remaining_is (appends_mean 8)

  -- "if EXE, send Executed to i−1; else if i < n, send Forward; else send ShardAppend for each remaining shard, rising"
  pub onward_means : M.Sends (onward_of e n m own floor ind masks) (onward b ind view)
  unfolding onward_of onward
  onward_means =
      subst (M.Sends (onward_of e n m own floor ind masks))
      (λ i.
      If sym (exe_view m e) i then backward b ind view ∷ [] else
      If ltb (sym p.own_is i) (sym p.n_is i) then forward_of b ind view.write ∷ [] else
      map (shard_append_of b ind view.write) view.remaining)
      (onward_at e.exe (ltb own n))

  -- as many frames, and every byte
  pub onward_count : length (onward_of e n m own floor ind masks) ≡ length (onward b ind view)
  onward_count = sends_count (onward_of e n m own floor ind masks) (onward b ind view) onward_means

  pub onward_bytes : bytes_of (onward_of e n m own floor ind masks) ≡ sent_bytes (onward b ind view)
  unfolding bytes_of
  onward_bytes = sent_bytes_lem (onward_of e n m own floor ind masks) (onward b ind view) onward_means

  -- what the function promises of its result and of the out area, in the rules' words
  pub send_means : (before after : List ℕ) (r : Sent) → 68 ≤ length before → Sends (send_parts e n m own floor ind masks (length before)) before after r
      → Means (onward b ind view) before after r
  unfolding send_parts laid
  send_means before after r room s =
      let all : (If ltb (length before) 68 then [] else onward_of e n m own floor ind masks) ≡ onward_of e n m own floor ind masks =
      if_no (ltb (length before) 68) [] (onward_of e n m own floor ind masks) (no_ltb {a = length before} {b = 68} room) in
      let t : Sends (onward_of e n m own floor ind masks) before after r = subst (λ (fs : List Frame). Sends fs before after r) all s in
      record {
        frames = t.frames ∙ onward_count;
        bytes = t.bytes ∙ ap length onward_bytes;
        out = t.out ∙ ap (λ (l : List ℕ). l ++ drop (length l) before) onward_bytes;
      }
