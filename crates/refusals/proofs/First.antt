-- Each answer is the number of the first cause that applies in 01's order, and 0 where none does: "given exactly when".
-- Assumes nothing.
use mathlib.Core.Path.{◌≡◌, refl}
use mathlib.Core.Bool.{Bool, true, false, not, ◌&&◌}
use mathlib.Core.List.{List, [], ◌∷◌}
use mathlib.Core.Option.{Option, none, some}
use Prim.Native.Nat.{ℕ, ◌+◌}
use lib.ListN.{length}
use Rattle.rules.specs.Lists.{If◌then◌else◌, ◌<?◌, ◌≤?◌, ◌=?◌, at, below, has}
use Rattle.rules.specs.Answers.{done, breaks_rule, not_for_me, not_in_log, too_late, does_not_fit, window_full, numbers_used_up}
use Rattle.rules.specs.Transactions.{Operation, Write, Read, placed, on_shard, same_write}
use Rattle.rules.specs.Frames.{Frame, submit, forward, shard_append, exec_notif, executed, response, ok_operations, decode}
use Rattle.rules.specs.Outcomes.{Outcome, taken, refuse, unusable}
use Rattle.rules.specs.Board as B
use Rattle.rules.specs.Board.{Board, Entry}
use Rattle.rules.specs.Shard as S
use Rattle.rules.specs.Session as C
use Rattle.refusals.specs.Causes.{◌when◌, first, such, there, holds, of_frame, board_kind, board_causes, shard_kind, shard_causes, invoke_causes, retry_causes, session_kind, response_causes}

-- ---- Tests that decide between outcomes decide between their answers

module _ {A : Type 0} (answer : A → ℕ) where
  yes_no : (t : Bool) (x y : A) (p q : ℕ) → answer x ≡ p → answer y ≡ q → answer (If t then x else y) ≡ (If t then p else q)
  unfolding If◌then◌else◌
  yes_no true x y p q h k = h
  yes_no false x y p q h k = k

  -- taken only if a test holds
  only_if : (t : Bool) (x y : A) (p q : ℕ) → answer x ≡ p → answer y ≡ q → answer (If t then x else y) ≡ (If not t then q else p)
  unfolding If◌then◌else◌
  only_if true x y p q h k = h
  only_if false x y p q h k = k

  -- what is held is compared, what is new has a cause of its own
  held_or_new : (held same bad : Bool) (x y z : A) (p : ℕ) → answer x ≡ (If not same then does_not_fit else done) → answer y ≡ p → answer z ≡ done
      → answer (If held then x else If bad then y else z) ≡ (If held && not same then does_not_fit else If not held && bad then p else done)
  unfolding If◌then◌else◌
  held_or_new true true bad x y z p h k l = h
  held_or_new true false bad x y z p h k l = h
  held_or_new false same true x y z p h k l = k
  held_or_new false same false x y z p h k l = l

said : {S : Type 0} → Outcome S → ℕ
said o = o.answer

-- ---- A board

held_first : (b : Board) (ind : ℕ) (w : Write) (ack : ℕ) (o : Option Entry)
    → said (B.serve_held b ind w ack o) ≡ (If not (such (λ (e : Entry). same_write e.write w) o) then does_not_fit else done)
unfolding said B.serve_held refuse taken If◌then◌else◌
held_first b ind w ack none = refl
held_first b ind w ack (some e) = yes_no said (not (same_write e.write w)) _ _ does_not_fit done refl refl

found_first : (b : Board) (w : Write) (ack : ℕ) (o : Option ℕ) → said (B.serve_found b w ack o) ≡ (If not (such (holds b w) o) then does_not_fit else done)
unfolding said B.serve_found refuse If◌then◌else◌
found_first b w ack none = refl
found_first b w ack (some ind) = held_first b ind w ack (at b.log ind)

exec_notif_first : (b : Board) (j ind : ℕ) (rs : List Read) (o : Option Entry)
    → said (B.exec_notif_step b j ind rs o)
    ≡ first ((not_in_log when not (there o)) ∷ (too_late when not (such (λ (e : Entry). has j e.remaining) o))
    ∷ (does_not_fit when not (such (λ (e : Entry). B.fits rs (on_shard b.m j e.write.operations)) o)) ∷ [])
unfolding said B.exec_notif_step refuse taken If◌then◌else◌
exec_notif_first b j ind rs none = refl
exec_notif_first b j ind rs (some e) =
    yes_no said (not (has j e.remaining)) _ _ _ _ refl (yes_no said (not (B.fits rs (on_shard b.m j e.write.operations))) _ _ _ _ refl refl)

executed_first : (b : Board) (ind : ℕ) (rs : List Read) (o : Option Entry)
    → said (B.executed_step b ind rs o)
    ≡ first ((not_in_log when not (there o)) ∷ (too_late when such (λ (e : Entry). B.is_exe e.status) o)
    ∷ (does_not_fit when not (such (λ (e : Entry). B.fits rs (placed 0 e.write.operations)) o)) ∷ [])
unfolding said B.executed_step refuse taken If◌then◌else◌
executed_first b ind rs none = refl
executed_first b ind rs (some e) =
    yes_no said (B.is_exe e.status) _ _ _ _ refl (yes_no said (not (B.fits rs (placed 0 e.write.operations))) _ _ _ _ refl refl)

board_kind_lem : (b : Board) (f : Frame) → said (B.frame_step b f) ≡ first (board_kind b f)
unfolding said B.frame_step B.submit_step B.forward_step B.serve_new refuse taken If◌then◌else◌
board_kind_lem b (submit w ack) =
    only_if said (b.own =? 1) _ _ _ not_for_me
    (yes_no said (w.number <? b.floor w.client) _ _ _ _ refl
    (yes_no said (B.next_number w.client (B.writes b.log) <? w.number) _ _ _ _ refl
    (held_or_new said (w.number <? B.next_number w.client (B.writes b.log)) (such (holds b w) (B.find w.client w.number (B.writes b.log)))
    (B.log_size ≤? length b.log) _ _ _ _ (found_first b w ack (B.find w.client w.number (B.writes b.log))) refl refl))) refl
board_kind_lem b (forward ind w ack) =
    only_if said (2 ≤? b.own) _ _ _ not_for_me
    (yes_no said (length b.log <? ind) _ _ _ _ refl
    (held_or_new said (ind <? length b.log) (holds b w ind) (not (w.number =? B.next_number w.client (B.writes b.log))) _ _ _ _
    (held_first b ind w ack (at b.log ind)) refl refl)) refl
board_kind_lem b (shard_append j ind sn xs) = refl
board_kind_lem b (exec_notif j ind rs) = only_if said (b.own =? b.n && j ≤? b.m) _ _ _ not_for_me (exec_notif_first b j ind rs (at b.log ind)) refl
board_kind_lem b (executed ind rs) = only_if said (b.own <? b.n) _ _ _ not_for_me (executed_first b ind rs (at b.log ind)) refl
board_kind_lem b (response client number rs) = refl

-- what the bytes are decides between refusal 1 and the kind's causes
board_read : (b : Board) (o : Option Frame) → said (B.read_step b o) ≡ first ((breaks_rule when not (there o)) ∷ of_frame (board_kind b) o)
unfolding said B.read_step refuse If◌then◌else◌
board_read b none = refl
board_read b (some f) = board_kind_lem b f

pub board_first : (b : Board) (bytes : List ℕ) (out : ℕ) → (B.step b bytes out).answer ≡ first (board_causes b bytes out)
unfolding said B.step refuse
board_first b bytes out = yes_no said (unusable b.started out) _ _ _ _ refl (board_read b (decode bytes))

-- ---- A shard group

shard_kind_lem : (s : S.Shard) (f : Frame) → said (S.frame_step s f) ≡ first (shard_kind s f)
unfolding said S.frame_step S.append_step refuse taken If◌then◌else◌
shard_kind_lem s (submit w ack) = refl
shard_kind_lem s (forward ind w ack) = refl
shard_kind_lem s (shard_append j ind sn xs) =
    only_if said (j =? s.own) _ _ _ not_for_me
    (yes_no said (sn ≤? s.ssn) _ _ _ _ refl
    (yes_no said (s.ssn + 1 <? sn) _ _ _ _ refl
    (yes_no said (not (S.all_mine s xs)) _ _ _ _ refl (yes_no said (not (below s.last_run ind)) _ _ _ _ refl refl)))) refl
shard_kind_lem s (exec_notif j ind rs) = refl
shard_kind_lem s (executed ind rs) = refl
shard_kind_lem s (response client number rs) = refl

shard_read : (s : S.Shard) (o : Option Frame) → said (S.read_step s o) ≡ first ((breaks_rule when not (there o)) ∷ of_frame (shard_kind s) o)
unfolding said S.read_step refuse If◌then◌else◌
shard_read s none = refl
shard_read s (some f) = shard_kind_lem s f

pub shard_first : (s : S.Shard) (bytes : List ℕ) (out : ℕ) → (S.step s bytes out).answer ≡ first (shard_causes s bytes out)
unfolding said S.step refuse
shard_first s bytes out = yes_no said (unusable s.started out) _ _ _ _ refl (shard_read s (decode bytes))

-- ---- A client session

invoke_list : (s : C.Session) (o : Option (List Operation))
    → said (C.invoke_step s o)
    ≡ first ((breaks_rule when not (such ok_operations o)) ∷ (numbers_used_up when 65535 ≤? s.window.next)
    ∷ (window_full when C.smallest s.window + C.window_size ≤? s.window.next) ∷ [])
unfolding said C.invoke_step refuse taken If◌then◌else◌
invoke_list s none = refl
invoke_list s (some os) =
    yes_no said (not (ok_operations os)) _ _ _ _ refl
    (yes_no said (65535 ≤? s.window.next) _ _ _ _ refl (yes_no said (C.smallest s.window + C.window_size ≤? s.window.next) _ _ _ _ refl refl))

pub invoke_first : (s : C.Session) (asked : List C.Asked) (out : ℕ) → (C.invoke s asked out).answer ≡ first (invoke_causes s asked out)
unfolding said C.invoke refuse
invoke_first s asked out = yes_no said (unusable s.started out) _ _ _ _ refl (invoke_list s (C.all_meant asked))

again_first : (s : C.Session) (number : ℕ) (o : Option (List Operation)) → said (C.send_again s number o) ≡ first ((too_late when not (there o)) ∷ [])
unfolding said C.send_again refuse taken If◌then◌else◌
again_first s number none = refl
again_first s number (some os) = refl

pub retry_first : (s : C.Session) (number out : ℕ) → (C.retry s number out).answer ≡ first (retry_causes s number out)
unfolding said C.retry refuse
retry_first s number out = yes_no said (unusable s.started out) _ _ _ _ refl (again_first s number (C.operations_of number s.window.outstanding))

replied : C.Reply → ℕ
replied r = r.answer

hand_over_lem : (s : C.Session) (number : ℕ) (rs : List Read) (o : Option (List Operation))
    → replied (C.hand_over s number rs o)
    ≡ first ((too_late when not (there o)) ∷ (does_not_fit when not (such (λ (os : List Operation). B.fits rs (placed 0 os)) o)) ∷ [])
unfolding replied C.hand_over C.decline If◌then◌else◌
hand_over_lem s number rs none = refl
hand_over_lem s number rs (some os) = yes_no replied (not (B.fits rs (placed 0 os))) _ _ _ _ refl refl

session_kind_lem : (s : C.Session) (f : Frame) → replied (C.frame_step s f) ≡ first (session_kind s f)
unfolding replied C.frame_step C.decline If◌then◌else◌
session_kind_lem s (submit w ack) = refl
session_kind_lem s (forward ind w ack) = refl
session_kind_lem s (shard_append j ind sn xs) = refl
session_kind_lem s (exec_notif j ind rs) = refl
session_kind_lem s (executed ind rs) = refl
session_kind_lem s (response client number rs) =
    only_if replied (client =? s.client) _ _ _ not_for_me (hand_over_lem s number rs (C.operations_of number s.window.outstanding)) refl

session_read : (s : C.Session) (o : Option Frame) → replied (C.read_step s o) ≡ first ((breaks_rule when not (there o)) ∷ of_frame (session_kind s) o)
unfolding replied C.read_step C.decline If◌then◌else◌
session_read s none = refl
session_read s (some f) = session_kind_lem s f

pub response_first : (s : C.Session) (bytes : List ℕ) → (C.step s bytes).answer ≡ first (response_causes s bytes)
unfolding replied C.step C.decline
response_first s bytes = yes_no replied (not s.started) _ _ _ _ refl (session_read s (decode bytes))
