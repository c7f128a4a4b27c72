-- What a step reads and what it sends fits: a frame that was read has at most four items, a list makes at most four reads, and a step that is
-- taken has room for its ExecNotif.
-- Assumes nothing.
use mathlib.Core.Path.{◌≡◌, refl, ◌∙◌}
use mathlib.Core.Bool.{Bool, true, false, not, ◌&&◌, ◌||◌}
use mathlib.Core.List.{List, [], ◌∷◌}
use Prim.Native.Nat.{ℕ, ◌≤◌}
use native.Mathlib.Omega.{arith}
use lib.Dec.{T, nltb→le, ltb→lt}
use lib.ListN.{length, length-set}
use Rattle.rules.specs.Lists.{◌<?◌, ◌=?◌}
use Rattle.rules.specs.Outcomes.{unusable}
use Rattle.rules.proofs.Lists.{by, and_r}
use Rattle.frames.specs.declared.Item.{Item}
use Rattle.frames.specs.declared.Frame.{Frame}
use Rattle.frames.specs.Frames.{read_frame, frame_bytes}
use Rattle.frames.proofs.Puts.{length_frame}
use Rattle.frames.proofs.Round.{Few, frame_few}
use Rattle.shard.specs.declared.Cell.{Cell}
use Rattle.frames.specs.declared.Items.{Items}
use Rattle.shard.specs.Model.{Verdict, read_of, noted, no_reads, Running, turn, ran, judge, exec_notif}

pub few_of : (f : Frame) (s : List ℕ) → f ≡ read_frame s → Few f
few_of f s e = rw e (frame_few s)

-- ---- The reads of a run are at most four

pub record FewReads (rs : Items) : Type 0 where
  pub count : rs.count ≤ 4
  pub items : length rs.items ≡ 4

pub noted_few : (rs : Items) (x : Item) (c : Cell) → FewReads rs → FewReads (noted rs x c)
unfolding noted
noted_few rs x c h =
    by FewReads (x.code =? 0 && rs.count <? 4)
    (λ t.
    let k = ltb→lt rs.count 4 (and_r (x.code =? 0) (rs.count <? 4) t) in
    record { count = omega arith; items = length-set rs.items rs.count (read_of x c) ∙ h.items })
    (λ t. h)

pub ran_few : (ind : ℕ) (xs : List Item) (r : Running) → FewReads r.reads → FewReads (ran ind xs r).reads
unfolding ran turn
ran_few ind [] r h = h
ran_few ind (x ∷ xs) r h = ran_few ind xs (turn ind x r) (noted_few r.reads x _ h)

pub no_reads_few : FewReads no_reads
no_reads_few = record { count = omega arith; items = refl }

-- ---- A step that is taken has its room

pub taken_room : (started : Bool) (room m own ssn last : ℕ) (f : Frame) → (judge started room m own ssn last f).answer ≡ 0 → 68 ≤ room
unfolding judge
taken_room started room m own ssn last f =
    by (λ (v : Verdict). v.answer ≡ 0 → 68 ≤ room) (unusable started room)
    (λ t e. absurd (omega arith))
    (λ t e. nltb→le room 68 (second (not started) (room <? 68) t))
  where
    second : (a b : Bool) → T (not (a || b)) → T (not b)
    second true b t = absurd t
    second false b t = t

-- ---- ExecNotif fits

pub notif_room : (own ind : ℕ) (rs : Items) → FewReads rs → ((exec_notif own ind rs).list.count ≤ 4) × (length (frame_bytes (exec_notif own ind rs)) ≤ 68)
unfolding exec_notif
notif_room own ind rs h =
    let k : rs.count ≤ length rs.items = omega (arith, h.items, h.count) in
    let e = length_frame (exec_notif own ind rs) refl k in
    (h.count, omega (arith, e, h.count))
