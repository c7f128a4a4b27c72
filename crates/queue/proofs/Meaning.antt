-- Pushing onto a queue and taking from it mean the rules' enqueue and take_up_to, on one queue and on those of a set of shards.
-- Assumes nothing.
use mathlib.Core.Path.{◌≡◌, refl, sym, ap, ◌∙◌, fun_ext}
use mathlib.Core.Bool.{Bool, true, false, not, ◌&&◌}
use mathlib.Core.List.{List, [], ◌∷◌}
use mathlib.Core.Option.{Option, some}
use Prim.Native.Nat.{ℕ, zero, suc, ◌+◌, ◌-◌, ◌≤◌, ◌<◌}
use native.Mathlib.Omega.{arith}
use native.Mathlib.Numerals.{add-one}
use lib.Dec.{T, leb, ltb, eqb, leb→le, le→leb, ltb→lt, lt→ltb}
use lib.ListN.{length, get_or, set, take, drop, replicate, length-append, length-set, length-replicate, length-drop, length-take}
use lib.Seq.{take-suc-set, take-append_seam}
use mir.Facts.{no_eqb}
use Rattle.rules.specs.Lists.{If◌then◌else◌, within, below, snoc, has}
use Rattle.rules.specs.Queue as Q
use Rattle.rules.specs.Queue.{empty_queue, enqueue, take_from, take_up_to}
use Rattle.rules.specs.Board.{on_queues}
use Rattle.rules.proofs.Lists.{by, if_yes, if_no, and_l, and_r, T_true}
use Rattle.entry.specs.Model.{in_mask}
use Rattle.frames.specs.View.{view_last}
use Rattle.entry.specs.View.{set_of}
use Rattle.entry.proofs.Sets.{iff, in_set}
use Rattle.queue.specs.declared.Queue.{Queue}
use Rattle.queue.specs.Model.{slots_of, waiting, pushed_of, up_to, last_of, left_of, without, taken_of, change_from, changed_all}
use Rattle.queue.specs.View.{view_queue, blank_queue, view_queues, QueueHeld, QueuesHeld}
use Rattle.queue.proofs.Loops.{up_to_few, change_length, change_at}

-- ---- Pushed

pub push_view : (q : Queue) (ind : ℕ) → length q.numbers ≡ 256 → q.len < 256 → view_queue (pushed_of q ind) ≡ enqueue ind (view_queue q)
unfolding view_queue enqueue pushed_of
push_view q ind n h =
    let e : take (q.len + 1) (set q.numbers q.len ind) ≡ snoc (waiting q) ind = rw (add-one q.len) (take-suc-set q.numbers q.len ind (omega arith)) in
    rw (if_yes (ltb q.len 256) (record { numbers = set q.numbers q.len ind; len = q.len + 1; taken = q.taken }) q (lt→ltb q.len 256 h))
    (λ i. record { waiting = e i; last_taken = view_last q.taken })

pub push_held : (q : Queue) (ind most : ℕ) → QueueHeld most q → QueueHeld (suc most) (pushed_of q ind)
unfolding pushed_of
push_held q ind most h =
    by (QueueHeld (suc most)) (ltb q.len 256) (λ t. record { slots = rw length-set h.slots; few = let f = h.few in omega arith })
    (λ t. record { slots = h.slots; few = let f = h.few in omega arith })

-- ---- Taken

-- the last of the first count, or the former one
abbrev last_in : List ℕ → ℕ → Option ℕ → Option ℕ
last_in xs zero last = last
last_in xs (suc k) last = some (get_or xs k 0)

take_from_lem : (xs : List ℕ) (last : Option ℕ) (ind : ℕ) → take_from xs last ind ≡ record { waiting = drop (up_to ind xs) xs; last_taken = last_in xs (up_to ind xs) last }
unfolding up_to If◌then◌else◌
take_from_lem [] last ind = refl
take_from_lem (x ∷ xs) last ind = go (eqb x ind) (take_from_lem xs (some x) ind)
  where
    shift : (k : ℕ) → last_in xs k (some x) ≡ some (get_or (x ∷ xs) k 0)
    shift zero = refl
    shift (suc k) = refl

    go : (t : Bool) → take_from xs (some x) ind ≡ record { waiting = drop (up_to ind xs) xs; last_taken = last_in xs (up_to ind xs) (some x) }
        → (If t then record { waiting = xs; last_taken = some x } else take_from xs (some x) ind)
        ≡ record { waiting = drop (If t then 1 else suc (up_to ind xs)) (x ∷ xs); last_taken = last_in (x ∷ xs) (If t then 1 else suc (up_to ind xs)) last }
    go true e = refl
    go false e = e ∙ (λ i. record { waiting = drop (up_to ind xs) xs; last_taken = shift (up_to ind xs) i })

-- "if the last taken is none or below p"
below_view : (taken ind : ℕ) → below (view_last taken) ind ≡ leb taken ind
below_view zero ind = sym (T_true (leb 0 ind) (le→leb 0 ind (omega arith)))
below_view (suc l) ind =
    iff (ltb l ind) (leb (suc l) ind) (λ t. let h = ltb→lt l ind t in le→leb (suc l) ind (omega arith)) (λ t. let h = leb→le (suc l) ind t in lt→ltb l ind (omega arith))

get_d_take : (n k : ℕ) (xs : List ℕ) → k < n → get_or (take n xs) k 0 ≡ get_or xs k 0
get_d_take zero k xs h = absurd (omega arith)
get_d_take (suc n) k [] h = refl
get_d_take (suc n) zero (x ∷ xs) h = refl
get_d_take (suc n) (suc k) (x ∷ xs) h = get_d_take n k xs (omega arith)

waiting_length : (q : Queue) → length q.numbers ≡ 256 → q.len ≤ 256 → length (waiting q) ≡ q.len
waiting_length q n h = let e = length-take q.len q.numbers in omega arith

last_view : (q : Queue) (count : ℕ) → count ≤ q.len → view_last (last_of q count) ≡ last_in (waiting q) count (view_last q.taken)
unfolding last_of
last_view q zero h = unfold If◌then◌else◌ in refl
last_view q (suc k) h =
    let one : suc k - 1 ≡ k = omega arith in
    let e : get_or q.numbers (suc k - 1) 0 + 1 ≡ suc (get_or (waiting q) k 0) = rw (one, get_d_take q.len k q.numbers (omega arith)) (add-one (get_or q.numbers k 0)) in
    ap view_last (if_no (eqb (suc k) 0) q.taken (get_or q.numbers (suc k - 1) 0 + 1) (no_eqb {a = suc k} {b = 0} (omega arith)) ∙ e)

without_view : (q : Queue) (count : ℕ) → length q.numbers ≡ 256 → q.len ≤ 256 → count ≤ q.len
    → view_queue (without q count) ≡ record { waiting = drop count (waiting q); last_taken = last_in (waiting q) count (view_last q.taken) }
unfolding view_queue without left_of
without_view q count n h c =
    let l = waiting_length q n h in
    let d = length-drop count (waiting q) in
    let k : q.len - count ≡ length (drop count (waiting q)) = omega arith in
    let e : take (q.len - count) (slots_of (drop count (waiting q))) ≡ drop count (waiting q)
    = rw k (take-append_seam (drop count (waiting q)) (replicate (256 - length (drop count (waiting q))) 0)) in
    λ i. record { waiting = e i; last_taken = last_view q count c i }

pub take_view : (q : Queue) (ind : ℕ) → length q.numbers ≡ 256 → q.len ≤ 256 → view_queue (taken_of q ind) ≡ take_up_to ind (view_queue q)
unfolding taken_of take_up_to view_queue
take_view q ind n h =
    let l = waiting_length q n h in
    let c = up_to_few ind (waiting q) in
    let w = without_view q (up_to ind (waiting q)) n h (omega arith) ∙ sym (take_from_lem (waiting q) (view_last q.taken) ind) in
    rw (T_true (leb q.len 256) (le→leb q.len 256 h)) (go (leb q.taken ind) (below (view_last q.taken) ind) (sym (below_view q.taken ind)) w)
  where
    go : (a b : Bool) → a ≡ b → view_queue (without q (up_to ind (waiting q))) ≡ take_from (waiting q) (view_last q.taken) ind
        → view_queue (If a then without q (up_to ind (waiting q)) else q) ≡ (If b then take_from (waiting q) (view_last q.taken) ind else view_queue q)
    go true b e w = rw (← e) (unfold If◌then◌else◌ in w)
    go false b e w = rw (← e) (unfold If◌then◌else◌ in refl)

pub take_held : (q : Queue) (ind most : ℕ) → most ≤ 256 → QueueHeld most q → QueueHeld most (taken_of q ind)
unfolding taken_of without left_of
take_held q ind most m h =
    by (QueueHeld most) _
    (λ t.
    let f = h.few in
    let l = waiting_length q h.slots (omega arith) in
    let d = length-drop (up_to ind (waiting q)) (waiting q) in
    let a : length (slots_of (drop (up_to ind (waiting q)) (waiting q))) ≡ length (drop (up_to ind (waiting q)) (waiting q)) + (256 - length (drop (up_to ind (waiting q)) (waiting q)))
    = length-append (drop (up_to ind (waiting q)) (waiting q)) (replicate (256 - length (drop (up_to ind (waiting q)) (waiting q))) 0)
    ∙ ap (λ (k : ℕ). length (drop (up_to ind (waiting q)) (waiting q)) + k) (length-replicate (256 - length (drop (up_to ind (waiting q)) (waiting q))) 0) in
    let full : length (drop (up_to ind (waiting q)) (waiting q)) + (256 - length (drop (up_to ind (waiting q)) (waiting q))) ≡ 256 = omega arith in
    record { slots = a ∙ full; few = omega arith })
    (λ t. h)

-- ---- The queues of a set of shards

module _ (change : Queue → Queue) (means : Q.Queue → Q.Queue) (mask : ℕ) (qs : List Queue) (eight : length qs ≡ 8)
    (view : (i : ℕ) → i < 8 → view_queue (change (get_or qs i blank_queue)) ≡ means (view_queue (get_or qs i blank_queue))) where
  pub changed_view : view_queues (change_from change mask 1 qs) ≡ on_queues (set_of mask) means (view_queues qs)
  unfolding view_queues on_queues
  changed_view = fun_ext each
    where
      outside : (j : ℕ) → T (not (within 1 8 j)) → in_mask mask j ≡ false
      outside j t = unfold in_mask in (go (within 1 8 j) _ t)
        where
          go : (a b : Bool) → T (not a) → (a && b) ≡ false
          go true b t = absurd t
          go false b t = refl

      inside : (j : ℕ) → T (within 1 8 j) → (t : Bool) → in_mask mask j ≡ t
          → view_queue (get_or (change_from change mask 1 qs) (j - 1) blank_queue)
          ≡ (If t then means (view_queue (get_or qs (j - 1) blank_queue)) else view_queue (get_or qs (j - 1) blank_queue))
      inside j w t e =
          let lo = leb→le 1 j (and_l (leb 1 j) (leb j 8) w) in
          let hi = leb→le j 8 (and_r (leb 1 j) (leb j 8) w) in
          let s : 1 + (j - 1) ≡ j = omega arith in
          let c = change_at change mask 1 qs (j - 1) blank_queue (omega arith) in
          let v = view (j - 1) (omega arith) in
          rw c (rw (s, e) (go t v))
        where
          go : (t : Bool) → view_queue (change (get_or qs (j - 1) blank_queue)) ≡ means (view_queue (get_or qs (j - 1) blank_queue))
              → view_queue (If t then change (get_or qs (j - 1) blank_queue) else get_or qs (j - 1) blank_queue)
              ≡ (If t then means (view_queue (get_or qs (j - 1) blank_queue)) else view_queue (get_or qs (j - 1) blank_queue))
          go true v = unfold If◌then◌else◌ in v
          go false v = unfold If◌then◌else◌ in refl

      each : (j : ℕ) → (If within 1 8 j then view_queue (get_or (change_from change mask 1 qs) (j - 1) blank_queue) else empty_queue)
          ≡ (If has j (set_of mask) then means (If within 1 8 j then view_queue (get_or qs (j - 1) blank_queue) else empty_queue)
          else (If within 1 8 j then view_queue (get_or qs (j - 1) blank_queue) else empty_queue))
      each j = rw (in_set mask j) (go (within 1 8 j) refl)
        where
          go : (w : Bool) → within 1 8 j ≡ w → (If w then view_queue (get_or (change_from change mask 1 qs) (j - 1) blank_queue) else empty_queue)
              ≡ (If in_mask mask j then means (If w then view_queue (get_or qs (j - 1) blank_queue) else empty_queue)
              else (If w then view_queue (get_or qs (j - 1) blank_queue) else empty_queue))
          go true e = unfold If◌then◌else◌ in (inside j (rw e tt) (in_mask mask j) refl)
          go false e = rw (outside j (rw e tt)) (unfold If◌then◌else◌ in refl)

pub pushed_view : (qs : List Queue) (mask ind most : ℕ) → QueuesHeld most qs → most < 256 → view_queues (changed_all qs true mask ind) ≡ on_queues (set_of mask) (enqueue ind) (view_queues qs)
unfolding changed_all If◌then◌else◌
pushed_view qs mask ind most h m =
    changed_view (λ q. pushed_of q ind) (enqueue ind) mask qs h.eight
    (λ i l. let k = h.each i l in push_view (get_or qs i blank_queue) ind k.slots (let f = k.few in omega arith))

pub taken_view : (qs : List Queue) (mask ind most : ℕ) → QueuesHeld most qs → most ≤ 256 → view_queues (changed_all qs false mask ind) ≡ on_queues (set_of mask) (take_up_to ind) (view_queues qs)
unfolding changed_all If◌then◌else◌
taken_view qs mask ind most h m =
    changed_view (λ q. taken_of q ind) (take_up_to ind) mask qs h.eight
    (λ i l. let k = h.each i l in take_view (get_or qs i blank_queue) ind k.slots (let f = k.few in omega arith))

-- ---- What holds of them

change_held : (change : Queue → Queue) (mask most more : ℕ) (qs : List Queue) → QueuesHeld most qs → most ≤ more → ((q : Queue) → QueueHeld most q → QueueHeld more (change q))
    → QueuesHeld more (change_from change mask 1 qs)
change_held change mask most more qs h m f =
    record {
      eight = change_length change mask 1 qs ∙ h.eight;
      each = λ i l. rw (change_at change mask 1 qs i blank_queue (let e = h.eight in omega arith))
          (by (QueueHeld more) (in_mask mask (1 + i)) (λ t. f (get_or qs i blank_queue) (h.each i l))
          (λ t. let k = h.each i l in record { slots = k.slots; few = let g = k.few in omega arith }));
    }

pub pushed_held : (qs : List Queue) (mask ind most : ℕ) → QueuesHeld most qs → QueuesHeld (suc most) (changed_all qs true mask ind)
unfolding changed_all If◌then◌else◌
pushed_held qs mask ind most h = change_held (λ q. pushed_of q ind) mask most (suc most) qs h (omega arith) (λ q k. push_held q ind most k)

pub taken_held : (qs : List Queue) (mask ind most : ℕ) → most ≤ 256 → QueuesHeld most qs → QueuesHeld most (changed_all qs false mask ind)
unfolding changed_all If◌then◌else◌
taken_held qs mask ind most m h = change_held (λ q. taken_of q ind) mask most most qs h (omega arith) (λ q k. take_held q ind most m k)
