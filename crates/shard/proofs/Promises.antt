-- What the promises of start and step come to: every start gives what is held, every step keeps it and means the rules' step; a refusal
-- changes nothing; a promise admits one outcome; and a group is determined by what it means.
-- Assumes nothing.
use mathlib.Core.Path.{◌≡◌, refl, sym, ap, ◌∙◌}
use mathlib.Core.Bool.{Bool, true, false, ◌&&◌}
use mathlib.Core.List.{List, [], ◌∷◌, ◌++◌, map}
use mathlib.Core.Option.{none}
use Prim.Native.Nat.{ℕ, zero, suc, ◌≤◌}
use native.Mathlib.Omega.{arith}
use lib.Dec.{T, leb→le}
use lib.ListN.{length, get_or, drop, set, replicate, length-set, length-map}
use lib.Seq.{ext_get_or}
use Rattle.rules.specs.Lists.{If◌then◌else◌, ◌<?◌, ◌≤?◌, ◌=?◌, within, every}
use Rattle.rules.specs.Answers.{not_usable}
use Rattle.rules.specs.Transactions as R
use Rattle.rules.specs.Frames as F
use Rattle.rules.specs.Frames.{obeys, decode}
use Rattle.rules.specs.Outcomes.{taken, refuse, unusable, least_out, sent_bytes}
use Rattle.rules.specs.Outcomes as O
use Rattle.rules.specs.Shard as S
use Rattle.rules.specs.Kept.{ShardKept}
use Rattle.rules.proofs.Lists.{by, and_l, and_r, nothing}
use Rattle.rules.proofs.Frames.{decode_spells}
use Rattle.rules.proofs.Shard.{start_good, step_good}
use Rattle.rules.proofs.Steps.{ready}
use Rattle.std.specs.Prelude.{Result, Ok, Err}
use Rattle.refusal.specs.declared.Refusal.{Refusal}
use Rattle.refusal.proofs.Tells.{number_tells, number_not_done}
use Rattle.frames.specs.declared.Item.{Item}
use Rattle.frames.specs.Frames.{read_frame, frames_bytes}
use Rattle.frames.specs.View.{meaning, record_of, Bytes}
use Rattle.shard.specs.declared.Cell.{Cell}
use Rattle.shard.specs.declared.Shard.{Shard}
use Rattle.shard.specs.Model.{shown_start, shown, Started, Stepped, Verdict, absent, empty_shard, start_of, judge, cell_at, cell_after, Running, turn, ran, Outcome, after, settled, items_of, outcome, stepped, laid, step_of, out_of}
use Rattle.shard.specs.View.{view_cell, view_store, view_shard, Held, StartMeans, StepMeans}
use Rattle.shard.proofs.Meaning.{Meant, Says, both, refused_means, head_means}
use Rattle.frames.proofs.Meaning.{last_one, reads_mean, record-bytes}

-- ---- Start

each_absent : (n key : ℕ) → cell_at (replicate n absent) key ≡ absent
each_absent zero key = refl
each_absent (suc n) zero = refl
each_absent (suc n) (suc key) = each_absent n key

module _ (m own : ℕ) (started : Bool) where
  -- a fresh group knows no key
  pub empty_store : (key : ℕ) → view_store (empty_shard m own started).cells key ≡ none
  unfolding view_store empty_shard view_cell If◌then◌else◌
  empty_store key = ap view_cell (each_absent 256 key)

  empty_means : view_shard (empty_shard m own started) ≡ S.empty_shard started m own
  unfolding view_shard empty_shard S.empty_shard
  empty_means = λ i. record { started = started; m = m; own = own; store = λ key. empty_store key i; ssn = 0; last_run = none }

pub fresh : (m own key : ℕ) → view_store (start_of m own).shard.cells key ≡ none
unfolding start_of
fresh m own key =
    by (λ (r : Started). view_store r.shard.cells key ≡ none) (within 1 8 m && within 1 m own) (λ t. empty_store m own true key) (λ t. empty_store 0 0 false key)

-- what a refused start leaves, and that each step of it is refused
pub refused_start : (m own : ℕ) → ((start_of m own).answer ≡ 0 → ⊥) → (start_of m own).shard ≡ empty_shard 0 0 false
unfolding start_of
refused_start m own =
    by (λ (r : Started). (r.answer ≡ 0 → ⊥) → r.shard ≡ empty_shard 0 0 false) (within 1 8 m && within 1 m own) (λ t d. absurd (d refl)) (λ t d. refl)

pub unstarted_refuses : (bytes : List ℕ) (room : ℕ) → (step_of (empty_shard 0 0 false) bytes room).answer ≡ not_usable
unfolding step_of stepped outcome settled judge empty_shard If◌then◌else◌
unstarted_refuses bytes room = refl

start_agrees : (m own : ℕ) → ((start_of m own).answer ≡ (S.start m own).answer) × (view_shard (start_of m own).shard ≡ (S.start m own).state)
unfolding start_of S.start taken refuse
start_agrees m own =
    both (λ (r : Started) (o : O.Outcome S.Shard). (r.answer ≡ o.answer) × (view_shard r.shard ≡ o.state)) (within 1 8 m && within 1 m own)
    (λ t. (refl, empty_means m own true)) (λ t. (refl, empty_means 0 0 false))

-- ---- What is absent stays zero

-- what holds of every element, and of what is stored, holds of every element afterwards
set_each : {A : Type 0} (P : A → Type 0) (l : List A) (d : A) (k : ℕ) (a : A) → P a → ((i : ℕ) → P (get_or l i d)) → (i : ℕ) → P (get_or (set l k a) i d)
set_each P [] d k a p h i = h i
set_each P (x ∷ l) d zero a p h zero = p
set_each P (x ∷ l) d zero a p h (suc i) = h (suc i)
set_each P (x ∷ l) d (suc k) a p h zero = h zero
set_each P (x ∷ l) d (suc k) a p h (suc i) = set_each P l d k a p (λ j. h (suc j)) i

abbrev Blank : Cell → Type 0
Blank c = c.present ≡ false → c ≡ absent

record Tidy (cells : List Cell) : Type 0 where
  size : length cells ≡ 256
  blank : (key : ℕ) → Blank (cell_at cells key)

never : {A : Type 0} → true ≡ false → A
never e = let z : ◌≡◌ {A = ℕ} 0 1 = cc in absurd (omega arith)

after_blank : (ind : ℕ) (x : Item) (c : Cell) → Blank c → Blank (cell_after ind x c)
unfolding cell_after
after_blank ind x c h = by Blank (x.code =? 0) (λ t. h) (λ t e. never e)

ran_tidy : (ind : ℕ) (xs : List Item) (r : Running) → Tidy r.cells → Tidy (ran ind xs r).cells
unfolding ran turn
ran_tidy ind [] r h = h
ran_tidy ind (x ∷ xs) r h =
    ran_tidy ind xs (turn ind x r)
    (record {
      size = length-set r.cells x.key (cell_after ind x (cell_at r.cells x.key)) ∙ h.size;
      blank =
          set_each Blank r.cells absent x.key (cell_after ind x (cell_at r.cells x.key))
          (after_blank ind x (cell_at r.cells x.key) (h.blank x.key)) h.blank;
    })

-- ---- What is held

abbrev Sound : Shard → Type 0
Sound s = T s.started → T (within 1 8 s.m && within 1 s.m s.own)

record Steady (s : Shard) : Type 0 where
  tidy : Tidy s.cells
  sound : Sound s

steady : (s : Shard) → Held s → Steady s
steady s h = record { tidy = record { size = h.size; blank = h.blank }; sound = h.setup }

held : (s : Shard) → Steady s → ShardKept (view_shard s) → Held s
held s h k = record { size = h.tidy.size; setup = h.sound; blank = h.tidy.blank; kept = k }

settled_steady : (s : Shard) (xs : List Item) (v : Verdict) → Steady s → Steady (settled s xs v).shard
unfolding settled after
settled_steady s xs v h =
    by (λ (o : Outcome). Steady o.shard) (v.answer =? 0)
    (λ t. record { tidy = ran_tidy _ _ _ h.tidy; sound = h.sound }) (λ t. h)

empty_steady : (m own : ℕ) (started : Bool) → (T started → T (within 1 8 m && within 1 m own)) → Steady (empty_shard m own started)
unfolding empty_shard
empty_steady m own started h = record { tidy = record { size = refl; blank = λ key e. each_absent 256 key }; sound = h }

pub start_held : (m own : ℕ) → Held (start_of m own).shard
start_held m own = held (start_of m own).shard start_steady (rw (start_agrees m own).1 (start_good m own))
  where
    start_steady : Steady (start_of m own).shard
    start_steady =
        unfold start_of in
        (by (λ (r : Started). Steady r.shard) (within 1 8 m && within 1 m own) (λ t. empty_steady m own true (λ u. t)) (λ t. empty_steady 0 0 false (λ u. absurd u)))

pub start_means : (m own : ℕ) (r : Started) → r ≡ start_of m own → StartMeans m own r
start_means m own r e = rw e (record { held = start_held m own; answer = (start_agrees m own).0; state = (start_agrees m own).1 })

-- ---- Step

-- the bytes of the records of frames are the frames' bytes
sent_bytes_lem : (gs : List F.Frame) → T (every obeys gs) → frames_bytes (map record_of gs) ≡ sent_bytes gs
sent_bytes_lem [] t = refl
sent_bytes_lem (g ∷ gs) t = λ i. record-bytes g (and_l (obeys g) (every obeys gs) t) i ++ sent_bytes_lem gs (and_r (obeys g) (every obeys gs) t) i

-- a group that is held, and bytes that are read as the rules read them
module _ (s : Shard) (h : Held s) (bytes : List ℕ) (read : meaning (read_frame bytes) ≡ decode bytes) where
  groups : T s.started → 1 ≤ s.m
  groups t = leb→le 1 s.m (and_l (1 ≤? s.m) (s.m ≤? 8) (and_l (within 1 8 s.m) (within 1 s.m s.own) (h.setup t)))

  outcome_means : (room : ℕ) → Meant (outcome s bytes room) (S.step (view_shard s) bytes room)
  unfolding outcome judge S.step view_shard meaning
  outcome_means room =
      let xs : List Item = items_of (read_frame bytes) in
      both (Says s xs) (unusable s.started room) (λ t. refused_means s xs not_usable refl)
      (λ t.
      rw (← read)
      (head_means s h (groups (ready s.started (room <? least_out) t)) (read_frame bytes).head (read_frame bytes).list.count (read_frame bytes).list.items
      (λ g d. (decode_spells bytes g (sym read ∙ d)).rules)))

  held_after : (room : ℕ) → Held (outcome s bytes room).shard
  held_after room =
      held (outcome s bytes room).shard (unfold outcome in (settled_steady s _ _ (steady s h)))
      (rw (outcome_means room).state (step_good (view_shard s) h.kept bytes room).state)

  -- the promise of a step, and its meaning
  pub step_means : (out : List ℕ) (r : Stepped) (left : List ℕ) → (r ≡ step_of s bytes (length out)) × (left ≡ out_of s bytes out) → StepMeans s bytes out r left
  unfolding step_of stepped out_of laid
  step_means out r left p =
      let o = outcome_means (length out) in
      let gs : List F.Frame = (S.step (view_shard s) bytes (length out)).frames in
      let k : frames_bytes (outcome s bytes (length out)).frames ≡ sent_bytes gs =
      ap frames_bytes o.frames ∙ sent_bytes_lem gs (step_good (view_shard s) h.kept bytes (length out)).frames.rules in
      rw (p.0, p.1)
      (record {
        held = held_after (length out);
        answer = o.answer;
        state = o.state;
        frames = ap length o.frames ∙ length-map gs record_of;
        bytes = ap length k;
        written = ap (λ (l : List ℕ). l ++ drop (length l) out) k;
      })

-- for bytes, what the rules read is what the code reads: so every step keeps what is held
pub step_held : (s : Shard) → Held s → (bytes : List ℕ) → Bytes bytes → (room : ℕ) → Held (step_of s bytes room).shard
unfolding step_of stepped
step_held s h bytes b room = held_after s h bytes (reads_mean bytes b) room

-- ---- A refusal changes nothing, whatever the group's bits

pub record Still (s : Shard) (out : List ℕ) (r : Stepped) (left : List ℕ) : Type 0 where
  pub shard : r.shard ≡ s
  pub frames : r.frames ≡ 0
  pub bytes : r.bytes ≡ 0
  pub written : left ≡ out

pub refused_still : (s : Shard) (bytes out : List ℕ) → ((step_of s bytes (length out)).answer ≡ 0 → ⊥)
    → Still s out (step_of s bytes (length out)) (out_of s bytes out)
unfolding step_of stepped out_of laid outcome settled after
refused_still s bytes out =
    by (λ (o : Outcome). (o.answer ≡ 0 → ⊥) → Still s out (stepped o) (laid o.frames out)) _
    (λ t d. absurd (d refl)) (λ t d. record { shard = refl; frames = refl; bytes = refl; written = refl })

-- ---- A promise admits one outcome

pub one_start : (m own : ℕ) (r t : Started) → r ≡ start_of m own → t ≡ start_of m own → r ≡ t
one_start m own r t p q = p ∙ sym q

pub one_step : (s : Shard) (bytes out : List ℕ) (r t : Stepped) (left rest : List ℕ)
    → (r ≡ step_of s bytes (length out)) × (left ≡ out_of s bytes out) → (t ≡ step_of s bytes (length out)) × (rest ≡ out_of s bytes out)
    → (r ≡ t) × (left ≡ rest)
one_step s bytes out r t left rest p q = (p.0 ∙ sym q.0, p.1 ∙ sym q.1)

-- what a result shows tells it, and the group beside it
pub start_tells : (s t : Shard) (r u : Result (Unit {0}) Refusal) → shown_start s r ≡ shown_start t u → (s ≡ t) × (r ≡ u)
start_tells s t (Ok x) (Ok y) e = (λ i. (e i).shard, refl)
start_tells s t (Ok x) (Err f) e = absurd (number_not_done f (ap (λ (r : Started). r.answer) (sym e)))
start_tells s t (Err f) (Ok y) e = absurd (number_not_done f (ap (λ (r : Started). r.answer) e))
start_tells s t (Err f) (Err g) e = (λ i. (e i).shard, λ i. Err (number_tells f g (ap (λ (r : Started). r.answer) e) i))

pub step_tells : (s t : Shard) (r u : Result ℕ Refusal) → shown s r ≡ shown t u → (s ≡ t) × (r ≡ u)
step_tells s t (Ok x) (Ok y) e = (λ i. (e i).shard, λ i. Ok (e i).bytes)
step_tells s t (Ok x) (Err f) e = absurd (number_not_done f (ap (λ (r : Stepped). r.answer) (sym e)))
step_tells s t (Err f) (Ok y) e = absurd (number_not_done f (ap (λ (r : Stepped). r.answer) e))
step_tells s t (Err f) (Err g) e = (λ i. (e i).shard, λ i. Err (number_tells f g (ap (λ (r : Stepped). r.answer) e) i))

-- so the contracts of start and of step, in their own words, admit one outcome
pub start_once : (m own : ℕ) (s t : Shard) (r u : Result (Unit {0}) Refusal) → shown_start s r ≡ start_of m own → shown_start t u ≡ start_of m own → (s ≡ t) × (r ≡ u)
start_once m own s t r u e d = start_tells s t r u (e ∙ sym d)

pub step_once : (s : Shard) (bytes out : List ℕ) (a b : Shard) (r u : Result ℕ Refusal) (left rest : List ℕ)
    → (shown a r ≡ step_of s bytes (length out)) × (left ≡ out_of s bytes out) → (shown b u ≡ step_of s bytes (length out)) × (rest ≡ out_of s bytes out)
    → (a ≡ b) × (r ≡ u) × (left ≡ rest)
step_once s bytes out a b r u left rest e d = let told = step_tells a b r u (e.0 ∙ sym d.0) in (told.0, told.1, e.1 ∙ sym d.1)

-- ---- A group is determined by what it means

cell_one : (c d : Cell) → Blank c → Blank d → view_cell c ≡ view_cell d → c ≡ d
unfolding view_cell If◌then◌else◌
cell_one c d h k e = at c.present d.present refl refl
  where
    at : (p q : Bool) → p ≡ c.present → q ≡ d.present → c ≡ d
    at true true p q =
        let f = rw (← p, ← q) at e in
        let g : ◌≡◌ {A = R.Cell} (record { value = c.value; ind = c.log_number }) (record { value = d.value; ind = d.log_number }) = cc in
        λ i. record { value = (g i).value; log_number = (g i).ind; present = (sym p ∙ q) i }
    at true false p q = nothing (sym (rw (← p, ← q) at e))
    at false true p q = nothing (rw (← p, ← q) at e)
    at false false p q = h (sym p) ∙ sym (k (sym q))

pub determined : (s t : Shard) → Held s → Held t → view_shard s ≡ view_shard t → s ≡ t
unfolding view_shard view_store
determined s t h k e =
    let cells : s.cells ≡ t.cells =
    ext_get_or absent s.cells t.cells (h.size ∙ sym k.size)
    (λ key u. cell_one (cell_at s.cells key) (cell_at t.cells key) (h.blank key) (k.blank key) (ap (λ (x : S.Shard). x.store key) e)) in
    let last : s.last_run ≡ t.last_run = last_one s.last_run t.last_run (ap (λ (x : S.Shard). x.last_run) e) in
    λ i.
    record {
      cells = cells i;
      ssn = (e i).ssn;
      last_run = last i;
      m = (e i).m;
      own = (e i).own;
      started = (e i).started;
    }
