-- The ways out of a start, of the judging and of a step, one law for each; the laws take what the callees ensure.
-- Assumes nothing.
use mathlib.Core.Path.{◌≡◌, refl, sym, ap, ◌∙◌}
use mathlib.Core.Bool.{Bool, true, false, ◌&&◌}
use mathlib.Core.List.{List, [], ◌∷◌, ◌++◌, append-nil}
use Prim.Native.Nat.{ℕ, ◌+◌, ◌≤◌, ◌<◌}
use native.Mathlib.Omega.{arith}
use lib.ListN.{length, get_or, drop, set, length-set}
use borrow.Author.Tests.{ne_eqb}
use Rattle.std.specs.Prelude.{Ok, Err}
use Rattle.rules.specs.Lists.{within, If◌then◌else◌}
use Rattle.frames.specs.declared.Item.{Item}
use Rattle.frames.specs.declared.Head.{Head}
use Rattle.frames.specs.declared.Head.TheVariants.{Bad, Submit, Forward, ShardAppend, ExecNotif, Executed, Response}
use Rattle.frames.specs.declared.Frame.{Frame}
use Rattle.frames.specs.Frames.{no_item, frame_bytes, read_frame, written_of, laid_of}
use Rattle.frames.proofs.Puts.{writes, lays}
use Rattle.shard.proofs.Fits.{FewReads, ran_few, no_reads_few, taken_room, notif_room}
use Rattle.frames.specs.contracts.Head.{the_type}
use Rattle.rules.specs.Answers.{not_for_me}
use Rattle.refusal.specs.declared.Refusal.{Refusal}
use Rattle.refusal.specs.declared.Refusal.TheVariants.{NotUsable}
use Rattle.refusal.specs.Number.{number_of}
use Rattle.refusal.proofs.Tells.{number_not_done}
use Rattle.shard.specs.declared.Append.{Append}
use Rattle.shard.specs.declared.Cell.{Cell}
use Rattle.shard.specs.declared.Shard.{Shard}
use Rattle.frames.specs.declared.Items.{Items}
use Rattle.shard.specs.Model.{Stepped, Verdict, shown_start, shown_verdict, shown, empty_shard, start_of, refused, judge_head, judge, cell_at, cell_after, no_reads, noted, Running, turn, ran, exec_notif, Outcome, after, settled, items_of, outcome, stepped, laid, step_of, out_of}
use denote.Enum.Declared.{tag_of}
use types.Run.{OneOf, miss}
use Rattle.shard.proofs.Walk.{ran_on, ran_end}

-- ---- The ways out of a start

module _ (m own : ℕ) (s : Shard) (e : s ≡ empty_shard 0 0 false) (usable : Bool) (d : usable ≡ (within 1 8 m && within 1 m own)) where
  pub start_not : usable ≡ false → shown_start s (Err NotUsable) ≡ start_of m own
  unfolding start_of If◌then◌else◌
  start_not t = rw (← d, t, e)

  pub start_taken : usable ≡ true
      → shown_start (record { cells = s.cells; ssn = s.ssn; last_run = s.last_run; m = m; own = own; started = true }) (Ok tt) ≡ start_of m own
  unfolding start_of empty_shard If◌then◌else◌
  start_taken t = rw (← d, t, e)

-- ---- A head that is neither Bad nor a ShardAppend is for somebody else

abbrev tag : Head → ℕ
tag h = tag_of the_type h

pub others : (m own ssn last : ℕ) (xs : List Item) (h : Head) → OneOf (1 ∷ 2 ∷ 3 ∷ 4 ∷ 5 ∷ 6 ∷ []) (tag h) → OneOf (0 ∷ 1 ∷ 2 ∷ 4 ∷ 5 ∷ 6 ∷ []) (tag h)
    → judge_head m own ssn last xs h ≡ refused not_for_me
unfolding judge_head
others m own ssn last xs Bad p q = absurd (miss (1 ∷ 2 ∷ 3 ∷ 4 ∷ 5 ∷ 6 ∷ []) 0 tt p)
others m own ssn last xs (Submit client number ack) p q = refl
others m own ssn last xs (Forward ind client number ack) p q = refl
others m own ssn last xs (ShardAppend shard ind sn) p q = absurd (miss (0 ∷ 1 ∷ 2 ∷ 4 ∷ 5 ∷ 6 ∷ []) 3 tt q)
others m own ssn last xs (ExecNotif shard ind) p q = refl
others m own ssn last xs (Executed ind) p q = refl
others m own ssn last xs (Response client number) p q = refl

-- the second half of a test
pub and_second : (a b : Bool) → a && b ≡ true → b ≡ true
and_second true b e = e
and_second false b e = let z : ◌≡◌ {A = ℕ} 0 1 = cc in absurd (omega arith)

-- ---- The loop of a step

-- so far so many operations have run, and what is left leads where the whole list leads
pub record Along (ind : ℕ) (xs : List Item) (s₀ s : Shard) (rs₀ rs : Items) (i : ℕ) : Type 0 where
  pub size : length s.cells ≡ 256
  pub run : ran ind (drop i xs) (record { cells = s.cells; reads = rs }) ≡ ran ind xs (record { cells = s₀.cells; reads = rs₀ })
  pub m : s.m ≡ s₀.m
  pub own : s.own ≡ s₀.own
  pub started : s.started ≡ s₀.started

module _ (ind : ℕ) (xs : List Item) (s₀ s : Shard) (rs₀ rs : Items) (i : ℕ) (a : Along ind xs s₀ s rs₀ rs i) where
  abbrev turn_at : ℕ → Running
  turn_at key =
      record {
        cells = set s.cells key (cell_after ind (get_or xs i no_item) (cell_at s.cells key));
        reads = noted rs (get_or xs i no_item) (cell_at s.cells key);
      }

  -- key is what becomes of the item's key in a wider word
  pub along_on : (key : ℕ) (c : Cell) (rs' : Items) → i < length xs → key ≡ (get_or xs i no_item).key
      → rs' ≡ noted rs (get_or xs i no_item) (cell_at s.cells key)
      → c ≡ cell_after ind (get_or xs i no_item) (cell_at s.cells key)
      → Along ind xs s₀
      (record { cells = set s.cells key c; ssn = s.ssn; last_run = s.last_run; m = s.m; own = s.own; started = s.started })
      rs₀ rs' (i + 1)
  unfolding turn
  along_on key c rs' k q e d =
      record {
        size = length-set s.cells key c ∙ a.size;
        run =
            (λ j. ran ind (drop (i + 1) xs) (record { cells = set s.cells key (d j); reads = e j }))
            ∙ (λ j. ran ind (drop (i + 1) xs) (turn_at (q j))) ∙ ran_on xs ind i no_item (record { cells = s.cells; reads = rs }) k ∙ a.run;
        m = a.m;
        own = a.own;
        started = a.started;
      }

  pub along_end : length xs ≤ i → ran ind xs (record { cells = s₀.cells; reads = rs₀ }) ≡ record { cells = s.cells; reads = rs }
  along_end k = sym a.run ∙ ran_end xs ind i (record { cells = s.cells; reads = rs }) k

-- ---- The ways out of a step

module _ (s : Shard) (bytes out : List ℕ) where
  abbrev pub Given : Stepped → List ℕ → Type 0
  Given r left = (r ≡ step_of s bytes (length out)) × (left ≡ out_of s bytes out)

  given : (o : Outcome) → outcome s bytes (length out) ≡ o → Given (stepped o) (laid o.frames out)
  unfolding step_of out_of
  given o e = (ap stepped (sym e), ap (λ (x : Outcome). laid x.frames out) (sym e))

  module _ (f : Frame) (e : f ≡ read_frame bytes) where
    is_settled : (v : Verdict) → v ≡ judge s.started (length out) s.m s.own s.ssn s.last_run f → outcome s bytes (length out) ≡ settled s (items_of f) v
    unfolding outcome
    is_settled v d = rw (← e, ← d)

    pub out_refused : (refusal : Refusal) → shown_verdict (Err refusal) ≡ judge s.started (length out) s.m s.own s.ssn s.last_run f → Given (shown s (Err refusal)) out
    unfolding stepped laid
    out_refused refusal d =
        given (record { shard = s; answer = number_of refusal; frames = [] })
        (is_settled (shown_verdict (Err refusal)) d ∙ unfold settled If◌then◌else◌ in (simp (ne_eqb (number_of refusal) 0 (number_not_done refusal))))

    module _ (a : Append) (d : shown_verdict (Ok a) ≡ judge s.started (length out) s.m s.own s.ssn s.last_run f) where
      pub out_taken : (r : Running) → ran a.log_number (items_of f) (record { cells = s.cells; reads = no_reads }) ≡ r
          → (k : ℕ) (left : List ℕ) → let n : List ℕ = frame_bytes (exec_notif s.own a.log_number r.reads) in k ≡ length n → left ≡ n ++ drop (length n) out
          → Given (shown (record { cells = r.cells; ssn = a.sn; last_run = a.log_number + 1; m = s.m; own = s.own; started = s.started }) (Ok k)) left
      unfolding stepped laid after
      out_taken r p k left u w =
          let o = given (after s a.log_number a.sn r) (is_settled (shown_verdict (Ok a)) d ∙ unfold settled If◌then◌else◌ in (simp p)) in
          let n : List ℕ = frame_bytes (exec_notif s.own a.log_number r.reads) in
          let c : k ≡ length (n ++ []) = u ∙ ap length (sym (append-nil n)) in
          let l : left ≡ (n ++ []) ++ drop (length (n ++ [])) out = w ∙ ap (λ (y : List ℕ). y ++ drop (length y) out) (sym (append-nil n)) in (
            (λ i. shown (record { cells = r.cells; ssn = a.sn; last_run = a.log_number + 1; m = s.m; own = s.own; started = s.started }) (Ok (c i))) ∙ o.0,
            l ∙ o.1,
          )

      -- last is what becomes of the log number in a wider word
      pub out_ran : (z rs : Items) (t : Shard) (xs : List Item) (i last : ℕ) → xs ≡ items_of f → z ≡ no_reads → Along a.log_number xs s t z rs i → length xs ≤ i
          → last ≡ a.log_number → (k : ℕ) (left : List ℕ) → let n : Frame = record { head = ExecNotif t.own a.log_number; list = rs } in k ≡ written_of n (length out) → left ≡ laid_of n out
          → Given (shown (record { cells = t.cells; ssn = a.sn; last_run = last + 1; m = t.m; own = t.own; started = t.started }) (Ok k)) left
      unfolding exec_notif
      out_ran z rs t xs i last q x h g e k left u w =
          let r = rw (q, x) at (along_end a.log_number xs s t z rs i h g) in
          let few : FewReads rs = rw r at (ran_few a.log_number (items_of f) (record { cells = s.cells; reads = no_reads }) no_reads_few) in
          let fits = notif_room t.own a.log_number rs few in
          let wide = taken_room s.started (length out) s.m s.own s.ssn s.last_run f (ap (λ (v : Verdict). v.answer) (sym d)) in
          let short : length (frame_bytes (exec_notif t.own a.log_number rs)) ≤ length out = omega (arith, fits.1, wide) in
          let own : exec_notif t.own a.log_number rs ≡ exec_notif s.own a.log_number rs = ap (λ (j : ℕ). exec_notif j a.log_number rs) h.own in
          let o =
          out_taken (record { cells = t.cells; reads = rs }) r k left
          (u ∙ writes (exec_notif t.own a.log_number rs) (length out) fits.0 short ∙ ap (λ (n : Frame). length (frame_bytes n)) own)
          (w ∙ lays (exec_notif t.own a.log_number rs) out fits.0 short ∙ ap (λ (n : Frame). frame_bytes n ++ drop (length (frame_bytes n)) out) own) in (
            (λ j. shown (record { cells = t.cells; ssn = a.sn; last_run = e j + 1; m = h.m j; own = h.own j; started = h.started j }) (Ok k)) ∙ o.0,
            o.1,
          )
