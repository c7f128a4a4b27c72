-- Every start gives and every step keeps what 01 says of a board at every moment.
-- Assumes nothing.
use mathlib.Core.Path.{◌≡◌, refl, sym, ap, ◌∙◌}
use mathlib.Core.Logic.{◌⊎◌, inl, inr}
use mathlib.Core.Bool.{Bool, true, false}
use mathlib.Core.List.{List, [], ◌∷◌}
use mathlib.Core.Option.{Option, none, some}
use Prim.Native.Nat.{ℕ, zero, suc, ◌<◌}
use native.Mathlib.Omega.{arith}
use lib.Dec.{T, eqb, lt→ltb, eqb→eq}
use lib.ListN.{length, set, length-append, length-set, length-map}
use Rattle.rules.specs.Lists.{If◌then◌else◌, at, snoc, below, has}
use Rattle.rules.specs.Transactions.{Write, touched, touches}
use Rattle.rules.specs.Outcomes.{Outcome, taken, refuse}
use Rattle.rules.specs.Queue.{Queue, enqueue}
use Rattle.rules.specs.Board.{Entry, Board, empty_board, start, writes, holding, raise_floor, on_queues, new_entry, append, settle, serve_new, heard_from, finished, step}
use Rattle.rules.specs.Kept.{QueueRule, Kept}
use Rattle.rules.proofs.Lists.{by, nothing, at_lt, at_snoc_cases, at_set_cases, strike_sub, or_cases}
use Rattle.rules.proofs.Queue.{take_kept, take_last, queued_kept}
use Rattle.rules.proofs.Steps.{Deed, refused, held, new, heard, done, step_deed}

-- ---- The writes of a log

pub writes_snoc : (log : List Entry) (e : Entry) → writes (snoc log e) ≡ snoc (writes log) e.write
writes_snoc [] e = refl
writes_snoc (x ∷ log) e = ap {B = List Write} (λ ws. x.write ∷ ws) (writes_snoc log e)

pub at_writes : (log : List Entry) (ind : ℕ) (e : Entry) → at log ind ≡ some e → at (writes log) ind ≡ some e.write
at_writes [] ind e h = nothing h
at_writes (x ∷ log) zero e h = let d : x ≡ e = cc in cc
at_writes (x ∷ log) (suc ind) e h = at_writes log ind e h

-- an entry replaced by one with the same write
pub writes_set : (log : List Entry) (ind : ℕ) (d e : Entry) → at log ind ≡ some d → e.write ≡ d.write → writes (set log ind e) ≡ writes log
writes_set [] ind d e h w = refl
writes_set (x ∷ log) zero d e h w = let k : x ≡ d = cc in λ i. (w ∙ ap (λ (z : Entry). z.write) (sym k)) i ∷ writes log
writes_set (x ∷ log) (suc ind) d e h w = ap {B = List Write} (λ ws. x.write ∷ ws) (writes_set log ind d e h w)

-- ---- The changes

empty_kept : (started : Bool) (n m own : ℕ) → Kept (empty_board started n m own)
unfolding empty_board
empty_kept started n m own = record { queues = λ j. refl; lasts = λ j ind e. nothing e; remains = λ ind e j h t. nothing h }

raise_kept : (client ack : ℕ) (b : Board) → Kept b → Kept (raise_floor client ack b)
unfolding raise_floor holding
raise_kept client ack b k = record { queues = k.queues; lasts = k.lasts; remains = k.remains }

below_length : (o : Option ℕ) (n : ℕ) → ((ind : ℕ) → o ≡ some ind → ind < n) → T (below o n)
below_length none n h = tt
below_length (some l) n h = lt→ltb l n (h l refl)

append_kept : (w : Write) (b : Board) → Kept b → Kept (append w b)
unfolding append holding on_queues new_entry
append_kept w b k =
    record {
      queues = λ j. rw (writes_snoc b.log (new_entry b.m w)) (rw (length-map b.log (λ (e : Entry). e.write)) at (queued j));
      lasts = λ j ind. by (λ (q : Queue). q.last_taken ≡ some ind → ind < length (snoc b.log (new_entry b.m w))) (has j (touched b.m w.operations))
          (λ t. unfold enqueue in (longer j ind)) (λ t. longer j ind);
      remains = λ ind e j h t. old ind e j t (at_snoc_cases b.log (new_entry b.m w) ind e h);
    }
  where
    queued : (j : ℕ) → QueueRule b.m j (snoc (writes b.log) w)
        (If touches b.m j w.operations then enqueue (length (writes b.log)) (b.queue j) else b.queue j)
    queued j =
        queued_kept b.m j (writes b.log) (b.queue j) w (k.queues j)
        (rw (length-map b.log (λ (e : Entry). e.write)) (below_length (b.queue j).last_taken (length b.log) (k.lasts j)))

    longer : (j ind : ℕ) → (b.queue j).last_taken ≡ some ind → ind < length (snoc b.log (new_entry b.m w))
    longer j ind e = let h = k.lasts j ind e in simp length-append (omega arith)

    old : (ind : ℕ) (e : Entry) (j : ℕ) → T (has j e.remaining) → (at b.log ind ≡ some e) ⊎ ((ind ≡ length b.log) × (e ≡ new_entry b.m w))
        → T (touches b.m j e.write.operations)
    old ind e j t (inl h) = k.remains ind e j h t
    old ind e j t (inr h) = rw h.1 (rw h.1 at t)

settle_kept : (ind : ℕ) (d e : Entry) (shards : List ℕ) (b : Board) → Kept b → at b.log ind ≡ some d → e.write ≡ d.write
    → ((j : ℕ) → T (has j shards) → T (touches b.m j d.write.operations)) → ((j : ℕ) → T (has j e.remaining) → T (has j d.remaining))
    → Kept (settle ind e shards b)
unfolding settle holding on_queues
settle_kept ind d e shards b k h w s r =
    record {
      queues = λ j. rw (writes_set b.log ind d e h w)
          (by (QueueRule b.m j (writes b.log)) (has j shards)
          (λ t. take_kept b.m j (writes b.log) (b.queue j) ind d.write (k.queues j) (at_writes b.log ind d h) (s j t)) (λ t. k.queues j));
      lasts = λ j x. by (λ (q : Queue). q.last_taken ≡ some x → x < length (set b.log ind e)) (has j shards)
          (λ t z. longer j x (take_last b.m j (writes b.log) (b.queue j) ind d.write (k.queues j) (at_writes b.log ind d h) (s j t) x z))
          (λ t z. longer j x (inr z));
      remains = λ q x j z t. old q x j t (at_set_cases b.log ind e q x z);
    }
  where
    longer : (j x : ℕ) → (x ≡ ind) ⊎ ((b.queue j).last_taken ≡ some x) → x < length (set b.log ind e)
    longer j x (inl z) = let l = at_lt b.log ind d h in rw length-set (omega arith)
    longer j x (inr z) = let l = k.lasts j x z in rw length-set l

    old : (q : ℕ) (x : Entry) (j : ℕ) → T (has j x.remaining) → (at b.log q ≡ some x) ⊎ ((q ≡ ind) × (x ≡ e)) → T (touches b.m j x.write.operations)
    old q x j t (inl z) = k.remains q x j z t
    old q x j t (inr z) = rw (z.1, w) (k.remains ind d j h (r j (rw z.1 at t)))

-- ---- The steps

deed_kept : (b : Board) (o : Outcome Board) → Kept b → Deed b o → Kept o.state
unfolding taken refuse serve_new heard_from finished
deed_kept b _ k (refused number) = k
deed_kept b _ k (held ind ack e s a r) = raise_kept e.write.client ack b k
deed_kept b _ k (new w ack s r n l) = append_kept w (raise_floor w.client ack b) (raise_kept w.client ack b k)
deed_kept b _ k (heard j ind rs e s a h t f) =
    settle_kept ind e (heard_from j rs e) (j ∷ []) b k a refl
    (λ i x. or_cases (eqb i j) false x (λ y. let z : i ≡ j = eqb→eq i j y in rw z (k.remains ind e j a h)) (λ y. absurd y)) (λ i x. strike_sub i j e.remaining x)
deed_kept b _ k (done ind rs e s a t f) = settle_kept ind e (finished rs e) (touched b.m e.write.operations) b k a refl (λ j x. x) (λ j x. absurd x)

pub step_kept : (b : Board) (bytes : List ℕ) (out : ℕ) → Kept b → Kept (step b bytes out).state
step_kept b bytes out k = deed_kept b (step b bytes out) k (step_deed b bytes out)

pub start_kept : (n m own : ℕ) → Kept (start n m own).state
unfolding start taken refuse
start_kept n m own = by (λ (o : Outcome Board). Kept o.state) _ (λ t. empty_kept true n m own) (λ t. unfold refuse in (empty_kept false 0 0 0))
