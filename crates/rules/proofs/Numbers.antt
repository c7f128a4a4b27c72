-- A client's numbers in a log are 0, 1, 2, .., high, each once; so high + 1 counts its entries, and every number up to high is found.
-- Assumes nothing.
use mathlib.Core.Path.{◌≡◌, refl, sym, ap, ◌∙◌}
use mathlib.Core.Bool.{Bool, true, false, not, ◌&&◌}
use mathlib.Core.List.{List, [], ◌∷◌}
use mathlib.Core.Option.{Option, none, some}
use Prim.Native.Nat.{ℕ, zero, suc, pred, ◌+◌, ◌≤◌, ◌<◌, max}
use native.Mathlib.Omega.{arith}
use lib.Dec.{T, eqb, eqb→eq, eqb_refl, T_not}
use lib.ListN.{length}
use mir.Facts.{yes_eqb, no_eqb, eqb_no}
use Rattle.rules.specs.Lists.{If◌then◌else◌, at, snoc, changed}
use Rattle.rules.specs.Transactions.{Write}
use Rattle.rules.specs.Outcomes.{Outcome, taken, refuse}
use Rattle.rules.specs.Board.{Entry, Board, empty_board, start, writes, next_number, one_further, find, holding, raise_floor, new_entry, append, settle, serve_new, heard_from, finished, step}
use Rattle.rules.specs.Kept.{of_client, Counted, NumbersKept}
use Rattle.rules.proofs.Lists.{by, if_yes, if_no, and, nothing, at_snoc_new}
use Rattle.rules.proofs.Steps.{Deed, refused, held, new, heard, done, step_deed}
use Rattle.rules.proofs.Kept.{writes_snoc, writes_set, at_writes}

-- ---- high + 1 counts a client's entries

next_from : (c k : ℕ) (ws : List Write) → Counted k (of_client c ws) → max k (next_number c ws) ≡ k + length (of_client c ws)
unfolding If◌then◌else◌
next_from c k [] = λ h. omega arith
next_from c k (w ∷ ws) = go (eqb w.client c) (next_from c (suc k) ws) (next_from c k ws)
  where
    go : (t : Bool) → (Counted (suc k) (of_client c ws) → max (suc k) (next_number c ws) ≡ suc k + length (of_client c ws))
        → (Counted k (of_client c ws) → max k (next_number c ws) ≡ k + length (of_client c ws))
        → Counted k (If t then w ∷ of_client c ws else of_client c ws)
        → max k (If t then max (suc w.number) (next_number c ws) else next_number c ws) ≡ k + length (If t then w ∷ of_client c ws else of_client c ws)
    go true own other h = let e = own h.1 in rw h.0 (omega arith)
    go false own other h = other h

pub next_counts : (c : ℕ) (ws : List Write) → Counted 0 (of_client c ws) → next_number c ws ≡ length (of_client c ws)
next_counts c ws h = let e = next_from c 0 ws h in omega arith

-- an entry's number is below high + 1
pub below_next : (ws : List Write) (ind : ℕ) (w : Write) → at ws ind ≡ some w → w.number < next_number w.client ws
below_next [] ind w a = nothing a
below_next (v ∷ ws) zero w a =
    let d : v ≡ w = cc in
    rw (← d) (by (λ (x : ℕ). v.number < x) (eqb v.client v.client) (λ t. omega arith) (λ t. absurd (T_not (eqb v.client v.client) t (eqb_refl v.client))))
below_next (v ∷ ws) (suc ind) w a =
    let h = below_next ws ind w a in by (λ (x : ℕ). w.number < x) (eqb v.client w.client) (λ t. omega arith) (λ t. h)

-- ---- A client's number is found, and it is found where it stands

shifted : (o : Option ℕ) (ind : ℕ) → o ≡ some ind → one_further o ≡ some (suc ind)
shifted none ind e = nothing e
shifted (some q) ind e = let d : q ≡ ind = cc in cc

-- a client's entries in a log numbered from k on have numbers from k on
from_on : (c k : ℕ) (ws : List Write) (ind : ℕ) (w : Write) → Counted k (of_client c ws) → at ws ind ≡ some w → w.client ≡ c → k ≤ w.number
from_on c k [] ind w = λ h a e. nothing a
from_on c k (v ∷ ws) zero w =
    λ h a e.
    let d : v ≡ w = cc in
    let own : v.client ≡ c = ap (λ (x : Write). x.client) d ∙ e in
    let first = rw (if_yes (eqb v.client c) (v ∷ of_client c ws) (of_client c ws) (yes_eqb own)) at h in
    let n = first.0 in
    rw (← d) (omega arith)
from_on c k (v ∷ ws) (suc ind) w =
    by (λ (l : List Write). Counted k l → at ws ind ≡ some w → w.client ≡ c → k ≤ w.number) (eqb v.client c)
    (λ t h a e. let r = from_on c (suc k) ws ind w h.1 a e in omega arith) (λ t h a e. from_on c k ws ind w h a e)

pub found_where : (c k : ℕ) (ws : List Write) (ind : ℕ) (w : Write) → Counted k (of_client c ws) → at ws ind ≡ some w → w.client ≡ c
    → find c w.number ws ≡ some ind
found_where c k [] ind w = λ h a e. nothing a
found_where c k (v ∷ ws) zero w =
    λ h a e.
    let d : v ≡ w = cc in
    let own : v.client ≡ c = ap (λ (x : Write). x.client) d ∙ e in
    let number : v.number ≡ w.number = ap (λ (x : Write). x.number) d in
    if_yes (eqb v.client c && eqb v.number w.number) (some 0) (one_further (find c w.number ws))
    (and (eqb v.client c) (eqb v.number w.number) (yes_eqb own) (yes_eqb number))
found_where c k (v ∷ ws) (suc ind) w =
    by (λ (l : List Write). Counted k l → at ws ind ≡ some w → w.client ≡ c → find c w.number (v ∷ ws) ≡ some (suc ind)) (eqb v.client c)
    (λ t h a e. let above = from_on c (suc k) ws ind w h.1 a e in let n = h.0 in further (no_eqb {a = v.number} {b = w.number} (omega arith)) (found_where c (suc k) ws ind w h.1 a e))
    (λ t h a e. other t (found_where c k ws ind w h a e))
  where
    step_over : T (not (eqb v.client c && eqb v.number w.number)) → find c w.number ws ≡ some ind → find c w.number (v ∷ ws) ≡ some (suc ind)
    step_over t r =
        if_no (eqb v.client c && eqb v.number w.number) (some 0) (one_further (find c w.number ws)) t ∙ shifted (find c w.number ws) ind r

    nor_right : (a b : Bool) → T (not b) → T (not (a && b))
    nor_right true b t = t
    nor_right false b t = tt

    nor_left : (a b : Bool) → T (not a) → T (not (a && b))
    nor_left true b t = absurd t
    nor_left false b t = tt

    further : T (not (eqb v.number w.number)) → find c w.number ws ≡ some ind → find c w.number (v ∷ ws) ≡ some (suc ind)
    further t r = step_over (nor_right (eqb v.client c) (eqb v.number w.number) t) r

    other : T (not (eqb v.client c)) → find c w.number ws ≡ some ind → find c w.number (v ∷ ws) ≡ some (suc ind)
    other t r = step_over (nor_left (eqb v.client c) (eqb v.number w.number) t) r

-- a client's number stands at one place at the most
pub only_once : (ws : List Write) (p q : ℕ) (v w : Write) → Counted 0 (of_client v.client ws) → at ws p ≡ some v → at ws q ≡ some w → v.client ≡ w.client
    → v.number ≡ w.number → p ≡ q
only_once ws p q v w h a b c n =
    let first = found_where v.client 0 ws p v h a refl in
    let second = found_where v.client 0 ws q w h b (sym c) in
    let e : some p ≡ some q = sym first ∙ (ap (λ k. find v.client k ws) n ∙ second) in
    cc

-- where a client's number stands
pub record Stands (ws : List Write) (c k : ℕ) : Type 0 where
  pub ind : ℕ
  pub write : Write
  pub there : at ws ind ≡ some write
  pub client : write.client ≡ c
  pub number : write.number ≡ k

later : (v : Write) (ws : List Write) (c k : ℕ) → Stands ws c k → Stands (v ∷ ws) c k
later v ws c k s = record { ind = suc s.ind; write = s.write; there = s.there; client = s.client; number = s.number }

stands_from : (c j k : ℕ) (ws : List Write) → Counted j (of_client c ws) → j ≤ k → k < j + length (of_client c ws) → Stands ws c k
stands_from c j k [] = λ h l m. absurd (omega arith)
stands_from c j k (v ∷ ws) =
    by (λ (l : List Write). Counted j l → j ≤ k → k < j + length l → Stands (v ∷ ws) c k) (eqb v.client c)
    (λ t h low high. own t h.0 low high (stands_from c (suc j) k ws h.1) (eqb j k) refl) (λ t h low high. later v ws c k (stands_from c j k ws h low high))
  where
    own : T (eqb v.client c) → v.number ≡ j → j ≤ k → k < j + suc (length (of_client c ws)) → (suc j ≤ k → k < suc j + length (of_client c ws) → Stands ws c k)
        → (b : Bool) → b ≡ eqb j k → Stands (v ∷ ws) c k
    own t n low high rest true e =
        let d : j ≡ k = eqb→eq j k (rw (← e) tt) in
        record { ind = 0; write = v; there = refl; client = eqb→eq v.client c t; number = omega arith }
    own t n low high rest false e = let d = eqb_no {a = j} {b = k} (rw (← e) tt) in later v ws c k (rest (omega arith) (omega arith))

-- every number up to high is held, and found
pub found : (c k : ℕ) (ws : List Write) → Counted 0 (of_client c ws) → k < next_number c ws → Stands ws c k
found c k ws h l = let e = next_counts c ws h in stands_from c 0 k ws h (omega arith) (omega arith)

pub find_stands : (c k : ℕ) (ws : List Write) (h : Counted 0 (of_client c ws)) (l : k < next_number c ws) → find c k ws ≡ some (found c k ws h l).ind
find_stands c k ws h l =
    let s = found c k ws h l in
    rw s.number at (found_where c 0 ws s.ind s.write h s.there s.client)

-- ---- Every start gives it and every step keeps it

client_snoc : (c : ℕ) (ws : List Write) (w : Write) → of_client c (snoc ws w) ≡ (If eqb w.client c then snoc (of_client c ws) w else of_client c ws)
unfolding If◌then◌else◌
client_snoc c [] w = refl
client_snoc c (v ∷ ws) w = go (eqb v.client c) (eqb w.client c) (client_snoc c ws w)
  where
    go : (s t : Bool) → of_client c (snoc ws w) ≡ (If t then snoc (of_client c ws) w else of_client c ws)
        → (If s then v ∷ of_client c (snoc ws w) else of_client c (snoc ws w))
        ≡ (If t then snoc (If s then v ∷ of_client c ws else of_client c ws) w else (If s then v ∷ of_client c ws else of_client c ws))
    go true true e = ap {B = List Write} (λ l. v ∷ l) e
    go true false e = ap {B = List Write} (λ l. v ∷ l) e
    go false true e = e
    go false false e = e

counted_snoc : (k : ℕ) (l : List Write) (w : Write) → Counted k l → w.number ≡ k + length l → Counted k (snoc l w)
counted_snoc k [] w h e = (omega arith, tt)
counted_snoc k (v ∷ l) w h e = (h.0, counted_snoc (suc k) l w h.1 (omega arith))

next_snoc : (c : ℕ) (ws : List Write) (w : Write) → next_number c ws ≤ next_number c (snoc ws w)
unfolding If◌then◌else◌
next_snoc c [] w = omega arith
next_snoc c (v ∷ ws) w = go (eqb v.client c) (next_snoc c ws w)
  where
    go : (s : Bool) → next_number c ws ≤ next_number c (snoc ws w)
        → (If s then max (suc v.number) (next_number c ws) else next_number c ws) ≤ (If s then max (suc v.number) (next_number c (snoc ws w)) else next_number c (snoc ws w))
    go true h = omega arith
    go false h = h

empty_numbers : (started : Bool) (n m own : ℕ) → NumbersKept (empty_board started n m own)
unfolding empty_board
empty_numbers started n m own = record { counted = λ c. tt; floors = λ c. omega arith }

raise_numbers : (b : Board) (client ack : ℕ) → ack ≤ pred (next_number client (writes b.log)) → NumbersKept b → NumbersKept (raise_floor client ack b)
unfolding raise_floor holding changed
raise_numbers b client ack l k =
    record {
      counted = k.counted;
      floors = λ c. by (λ (x : ℕ). x ≤ pred (next_number c (writes b.log))) (eqb c client)
          (λ t. let e : c ≡ client = eqb→eq c client t in let f = k.floors client in rw e (omega arith)) (λ t. k.floors c);
    }

append_numbers : (b : Board) (w : Write) (ack : ℕ) → ack ≤ w.number → w.number ≡ next_number w.client (writes b.log) → NumbersKept b
    → NumbersKept (append w (raise_floor w.client ack b))
unfolding append raise_floor holding new_entry changed
append_numbers b w ack l n k =
    let e = writes_snoc b.log (new_entry b.m w) in record { counted = λ c. rw e (counted c); floors = λ c. rw e (floors c) }
  where
    counted : (c : ℕ) → Counted 0 (of_client c (snoc (writes b.log) w))
    counted c =
        rw (client_snoc c (writes b.log) w)
        (by (Counted 0) (eqb w.client c)
        (λ t.
        let e : w.client ≡ c = eqb→eq w.client c t in
        let count = n ∙ (ap (λ d. next_number d (writes b.log)) e ∙ next_counts c (writes b.log) (k.counted c)) in
        counted_snoc 0 (of_client c (writes b.log)) w (k.counted c) (omega arith))
        (λ t. k.counted c))

    floors : (c : ℕ) → changed b.floor w.client (max (b.floor w.client) ack) c ≤ pred (next_number c (snoc (writes b.log) w))
    floors c =
        let more = next_snoc c (writes b.log) w in
        by (λ (x : ℕ). x ≤ pred (next_number c (snoc (writes b.log) w))) (eqb c w.client)
        (λ t.
        let e : c ≡ w.client = eqb→eq c w.client t in
        let f = k.floors w.client in
        let up = below_next (snoc (writes b.log) w) (length (writes b.log)) w (at_snoc_new (writes b.log) w) in
        rw e (omega arith))
        (λ t. let f = k.floors c in omega arith)

settle_numbers : (b : Board) (ind : ℕ) (d e : Entry) (shards : List ℕ) → at b.log ind ≡ some d → e.write ≡ d.write → NumbersKept b → NumbersKept (settle ind e shards b)
unfolding settle holding
settle_numbers b ind d e shards a w k =
    record {
      counted = λ c. rw (writes_set b.log ind d e a w) (k.counted c);
      floors = λ c. rw (writes_set b.log ind d e a w) (k.floors c);
    }

deed_numbers : (b : Board) (o : Outcome Board) → NumbersKept b → Deed b o → NumbersKept o.state
unfolding taken refuse serve_new heard_from finished
deed_numbers b _ k (refused number) = k
deed_numbers b _ k (held ind ack e s a r) =
    let l = below_next (writes b.log) ind e.write (at_writes b.log ind e a) in
    raise_numbers b e.write.client ack (omega (arith, r.ack_low)) k
deed_numbers b _ k (new w ack s r n l) = append_numbers b w ack r.ack_low n k
deed_numbers b _ k (heard j ind rs e s a h t f) = settle_numbers b ind e (heard_from j rs e) (j ∷ []) a refl k
deed_numbers b _ k (done ind rs e s a t f) = settle_numbers b ind e (finished rs e) _ a refl k

pub step_numbers : (b : Board) (bytes : List ℕ) (out : ℕ) → NumbersKept b → NumbersKept (step b bytes out).state
step_numbers b bytes out k = deed_numbers b (step b bytes out) k (step_deed b bytes out)

pub start_numbers : (n m own : ℕ) → NumbersKept (start n m own).state
unfolding start taken refuse
start_numbers n m own = by (λ (o : Outcome Board). NumbersKept o.state) _ (λ t. empty_numbers true n m own) (λ t. unfold refuse in (empty_numbers false 0 0 0))
