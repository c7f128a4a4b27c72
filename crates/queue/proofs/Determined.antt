-- A queue whose free slots are zero is determined by what it means; and an empty queue is so, and every push and every taking keeps it.
-- Assumes nothing.
use mathlib.Core.Path.{◌≡◌, refl, sym, ap, ◌∙◌}
use mathlib.Core.Bool.{Bool}
use mathlib.Core.List.{List, [], ◌∷◌, ◌++◌}
use Prim.Native.Nat.{ℕ, zero, suc, ◌+◌, ◌-◌, ◌≤◌, ◌<◌}
use native.Mathlib.Numerals.{add-one}
use native.Mathlib.Omega.{arith}
use lib.Dec.{T, leb, ltb, le→leb, ltb→lt}
use lib.ListN.{length, get_or, set, take, drop, replicate, length-append, length-replicate, length-take, length-drop}
use lib.Seq.{ext_get_or, set_at, append_snoc, take-suc-set, take-append_seam}
use Rattle.rules.specs.Lists.{within, snoc}
use Rattle.rules.specs.Queue as Q
use Rattle.rules.proofs.Lists.{by, if_yes, and}
use Rattle.entry.specs.Model.{in_mask}
use Rattle.queue.specs.declared.Queue.{Queue}
use Rattle.frames.proofs.Meaning.{last_one}
use Rattle.queue.specs.Model.{slots_of, no_queue, waiting, pushed_of, up_to, left_of, without, taken_of, change_from, changed_of, changed_all}
use Rattle.queue.specs.View.{view_queue, blank_queue, view_queues, Tidy, AllTidy}

slots_length : (xs : List ℕ) → length xs ≤ 256 → length (slots_of xs) ≡ 256
slots_length xs h =
    let a = length-append xs (replicate {A = ℕ} (256 - length xs) 0) in
    let b = length-replicate {A = ℕ} (256 - length xs) 0 in
    omega arith

-- as many wait as the record says
tidy_length : (q : Queue) → Tidy q → length (waiting q) ≡ q.len
tidy_length q h =
    let t = length-take q.len q.numbers in
    let few = h.few in
    let n : length q.numbers ≡ length (slots_of (waiting q)) = ap length h.zeros in
    let a = length-append (waiting q) (replicate {A = ℕ} (256 - length (waiting q)) 0) in
    let b = length-replicate {A = ℕ} (256 - length (waiting q)) 0 in
    omega arith

pub determined : (q r : Queue) → Tidy q → Tidy r → view_queue q ≡ view_queue r → q ≡ r
unfolding view_queue
determined q r h k e =
    let same : waiting q ≡ waiting r = ap (λ (x : Q.Queue). x.waiting) e in
    let numbers : q.numbers ≡ r.numbers = h.zeros ∙ ap slots_of same ∙ sym k.zeros in
    let len : q.len ≡ r.len = sym (tidy_length q h) ∙ ap length same ∙ tidy_length r k in
    let taken : q.taken ≡ r.taken = last_one q.taken r.taken (ap (λ (x : Q.Queue). x.last_taken) e) in
    λ i. record { numbers = numbers i; len = len i; taken = taken i }

-- ---- Every queue that a board makes is so

pub empty_tidy : Tidy no_queue
empty_tidy = record { few = omega arith; zeros = refl }

-- one more in the first free slot
slots_snoc : (xs : List ℕ) (ind : ℕ) → length xs < 256 → set (slots_of xs) (length xs) ind ≡ slots_of (snoc xs ind)
slots_snoc xs ind h =
    let n : length (snoc xs ind) ≡ length xs + 1 = length-append xs (ind ∷ []) in
    let m : 256 - length xs ≡ suc (256 - length (snoc xs ind)) = omega arith in
    let rest : List ℕ = replicate (256 - length (snoc xs ind)) 0 in
    ap (λ (k : ℕ). set (xs ++ replicate k 0) (length xs) ind) m ∙ set_at xs 0 rest ind (length xs) refl ∙ sym (append_snoc xs ind rest)

pub push_tidy : (q : Queue) (ind : ℕ) → Tidy q → Tidy (pushed_of q ind)
unfolding pushed_of
push_tidy q ind h =
    by Tidy (ltb q.len 256)
    (λ t.
    let few : q.len < 256 = ltb→lt q.len 256 t in
    let l = tidy_length q h in
    let n : length q.numbers ≡ 256 = ap length h.zeros ∙ slots_length (waiting q) (omega arith) in
    let here : take (q.len + 1) (set q.numbers q.len ind) ≡ snoc (waiting q) ind = rw (add-one q.len) (take-suc-set q.numbers q.len ind (omega arith)) in
    record { few = omega arith; zeros = (λ i. set (h.zeros i) (sym l i) ind) ∙ slots_snoc (waiting q) ind (omega arith) ∙ ap slots_of (sym here) })
    (λ t. h)

pub take_tidy : (q : Queue) (ind : ℕ) → Tidy q → Tidy (taken_of q ind)
unfolding taken_of without left_of
take_tidy q ind h =
    by Tidy _
    (λ t.
    let count : ℕ = up_to ind (waiting q) in
    let l = tidy_length q h in
    let d = length-drop count (waiting q) in
    let few = h.few in
    let k : q.len - count ≡ length (drop count (waiting q)) = omega arith in
    let e : take (q.len - count) (slots_of (drop count (waiting q))) ≡ drop count (waiting q) = rw k (take-append_seam (drop count (waiting q)) (replicate (256 - length (drop count (waiting q))) 0)) in
    record { few = omega arith; zeros = ap slots_of (sym e) })
    (λ t. h)

-- ---- The queues of the shards

pub none_tidy : (n : ℕ) → AllTidy (replicate n no_queue)
none_tidy zero = tt
none_tidy (suc n) = (empty_tidy, none_tidy n)

change_tidy : (change : Queue → Queue) → ((q : Queue) → Tidy q → Tidy (change q)) → (mask shard : ℕ) (qs : List Queue) → AllTidy qs → AllTidy (change_from change mask shard qs)
change_tidy change keeps mask shard [] h = tt
change_tidy change keeps mask shard (q ∷ qs) h = (by Tidy (in_mask mask shard) (λ t. keeps q h.0) (λ t. h.0), change_tidy change keeps mask (suc shard) qs h.1)

pub changed_tidy : (qs : List Queue) (fresh : Bool) (mask ind : ℕ) → AllTidy qs → AllTidy (changed_all qs fresh mask ind)
unfolding changed_all
changed_tidy qs fresh mask ind h =
    change_tidy (changed_of fresh ind) (λ q k. by Tidy fresh (λ t. push_tidy q ind k) (λ t. take_tidy q ind k)) mask 1 qs h

each_tidy : (qs : List Queue) (i : ℕ) → i < length qs → AllTidy qs → Tidy (get_or qs i blank_queue)
each_tidy [] i l h = absurd (omega arith)
each_tidy (q ∷ qs) zero l h = h.0
each_tidy (q ∷ qs) (suc i) l h = each_tidy qs i (omega arith) h.1

pub all_determined : (qs rs : List Queue) → length qs ≡ 8 → length rs ≡ 8 → AllTidy qs → AllTidy rs → view_queues qs ≡ view_queues rs → qs ≡ rs
unfolding view_queues
all_determined qs rs n k h g e =
    ext_get_or blank_queue qs rs (n ∙ sym k)
    (λ i l.
    let few : i < 8 = omega (arith, n, l) in
    let one : suc i - 1 ≡ i = omega arith in
    let there : T (within 1 8 (suc i)) = and (leb 1 (suc i)) (leb (suc i) 8) (le→leb 1 (suc i) (omega arith)) (le→leb (suc i) 8 (omega arith)) in
    let seen : (xs : List Queue) → view_queue (get_or xs i blank_queue) ≡ view_queues xs (suc i)
    = λ xs. ap (λ (j : ℕ). view_queue (get_or xs j blank_queue)) (sym one) ∙ sym (if_yes (within 1 8 (suc i)) _ _ there) in
    determined (get_or qs i blank_queue) (get_or rs i blank_queue) (each_tidy qs i (omega (arith, n)) h) (each_tidy rs i (omega (arith, k)) g)
    (seen qs ∙ ap (λ (f : ℕ → Q.Queue). f (suc i)) e ∙ sym (seen rs)))
