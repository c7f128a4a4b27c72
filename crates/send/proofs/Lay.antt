-- Frames laid one behind the other: a turn of the loop lays what is sent next behind what was sent.
-- Assumes nothing.
use mathlib.Core.Path.{◌≡◌, sym, ap, ◌∙◌}
use mathlib.Core.Bool.{true, false}
use mathlib.Core.List.{List, [], ◌∷◌, ◌++◌}
use Prim.Native.Nat.{ℕ, suc, ◌+◌, ◌≤◌, ◌<◌}
use native.Mathlib.Omega.{arith}
use lib.ListN.{length, drop, length-append, length-drop}
use borrow.Author.Tests.{lt-ltb, le-ltb}
use Rattle.rules.specs.Lists.{If◌then◌else◌}
use Rattle.frames.specs.declared.Item.{Item}
use Rattle.frames.specs.declared.Frame.{Frame}
use Rattle.frames.specs.Frames.{frame_bytes, written_of, laid_of, end_of, laid_behind}
use Rattle.frames.proofs.Puts.{writes, lays}
use Rattle.frames.proofs.Behind.{ends_behind, lays_behind}
use Rattle.entry.specs.declared.Entry.{Entry}
use Rattle.send.specs.declared.Sent.{Sent}
use Rattle.send.specs.Model.{Sends, bytes_of, laid, forward_frame, backward_of, append_frame, goes, append_at, appends_to, onward_of, send_parts}
use Rattle.send.proofs.Room.{Fits, bytes_one, to_yes, to_no, bytes_yes, appends_room, part_few}

-- ---- One frame

pub laid_length : (fs : List Frame) (l : List ℕ) → length (bytes_of fs) ≤ length l → length (laid fs l) ≡ length l
unfolding laid
laid_length fs l h = omega (arith, length-append (bytes_of fs) (drop (length (bytes_of fs)) l), length-drop (length (bytes_of fs)) l)

-- what the writer leaves is the frame laid alone
module _ (f : Frame) (l : List ℕ) (h : Fits f) (r : 68 ≤ length l) where
  pub wrote_bytes : written_of f (length l) ≡ length (bytes_of (f ∷ []))
  wrote_bytes = writes f (length l) h.few (omega (arith, h.short)) ∙ ap length (sym (bytes_one f))

  pub wrote_laid : laid_of f l ≡ laid (f ∷ []) l
  unfolding laid
  wrote_laid = lays f l h.few (omega (arith, h.short)) ∙ rw (bytes_one f)

-- ---- One behind the other

-- a turn: `sent` counts what was sent to the shards up to `last`, and `now` is the out area; then the frame to the next shard goes or not
module _ (left count : ℕ) (items : List Item) (m ind : ℕ) (masks : List ℕ) (last : ℕ) (before now : List ℕ) (sent : Sent)
    (four : length items ≡ 4) (room : 68 ≤ length before) (s : Sends (appends_to left count items m ind masks last) before now sent) where
  abbrev S : ℕ → List Frame
  S = appends_to left count items m ind masks

  abbrev next : Frame
  next = append_at count items m ind masks (suc last)

  next_few : next.list.count ≤ 4
  unfolding append_at append_frame
  next_few = part_few left count items m ind masks (suc last) four

  -- the out area is as long as it was
  pub same_room : length now ≡ length before
  same_room = ap length s.out ∙ laid_length (S last) before (omega (arith, appends_room left count items m ind masks last four))

  sends_next : goes left count items m (suc last) ≡ true → (f : Frame) → f ≡ next
      → Sends (S (suc last)) before (laid_behind f sent.bytes now) (record { frames = sent.frames + 1; bytes = end_of f sent.bytes (length now) })
  unfolding laid
  sends_next g f e =
      let b : List ℕ = bytes_of (S last) in
      let k : bytes_of (S (suc last)) ≡ b ++ frame_bytes next = bytes_yes left count items m ind masks last g in
      let r : length (b ++ frame_bytes next) ≤ length before = rw (← k) (omega (arith, appends_room left count items m ind masks (suc last) four)) in
      rw e
      (record {
        frames = omega (arith, s.frames, ap length (to_yes left count items m ind masks last g), length-append (S last) (next ∷ []));
        bytes = rw (same_room, s.bytes, k) (ends_behind next b before next_few r);
        out = rw (s.out, s.bytes, k) (lays_behind next b before next_few r);
      })

  pub turn_sends : (shard : ℕ) → shard ≡ suc last → goes left count items m shard ≡ true → (f : Frame) → f ≡ append_at count items m ind masks shard
      → Sends (S shard) before (laid_behind f sent.bytes now) (record { frames = sent.frames + 1; bytes = end_of f sent.bytes (length now) })
  turn_sends shard n g f e = rw n (sends_next (rw n at g) f (rw n at e))

  pub turn_skips : (shard : ℕ) → shard ≡ suc last → goes left count items m shard ≡ false → Sends (S shard) before now sent
  turn_skips shard n g = rw n (rw (to_no left count items m ind masks last (rw n at g)) s)

-- ---- The four ways out

module _ (e : Entry) (n m own floor ind : ℕ) (masks : List ℕ) (room : ℕ) where
  pub parts_none : room < 68 → send_parts e n m own floor ind masks room ≡ []
  unfolding send_parts If◌then◌else◌
  parts_none h = rw (lt-ltb room 68 h)

  pub parts_back : 68 ≤ room → e.exe ≡ true → (f : Frame) → f ≡ backward_of e m own ind → send_parts e n m own floor ind masks room ≡ f ∷ []
  unfolding send_parts onward_of If◌then◌else◌
  parts_back h t f q = simp (le-ltb room 68 h, t, q)

  pub parts_on : 68 ≤ room → e.exe ≡ false → own < n → (f : Frame) → f ≡ forward_frame e floor ind → send_parts e n m own floor ind masks room ≡ f ∷ []
  unfolding send_parts onward_of If◌then◌else◌
  parts_on h t l f q = simp (le-ltb room 68 h, t, lt-ltb own n l, q)

  pub parts_tail : 68 ≤ room → e.exe ≡ false → n ≤ own → send_parts e n m own floor ind masks room ≡ appends_to e.remaining e.count e.items m ind masks 8
  unfolding send_parts onward_of If◌then◌else◌
  parts_tail h t l = simp (le-ltb room 68 h, t, le-ltb own n l)
