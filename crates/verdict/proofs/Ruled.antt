-- Wrong answers that the promises of this crate rule out: another client's number, a refusal that carries something, a number that skips one. Each is
-- shown of the definition that the contract cites, for every input.
-- Assumes nothing.
use mathlib.Core.Path.{◌≡◌, refl}
use mathlib.Core.Logic.{◌≢◌}
use mathlib.Core.Bool.{Bool, true}
use mathlib.Core.List.{List}
use Prim.Native.Nat.{ℕ, ◌≤◌, ◌<◌}
use lib.ListN.{length, set}
use lib.Seq.{get_or-set_same, get_or-set_other}
use borrow.Author.Tests.{lt-ltb, le-ltb}
use Rattle.rules.specs.Lists.{If◌then◌else◌}
use Rattle.rules.specs.Answers.{too_early}
use Rattle.rules.proofs.Lists.{by}
use Rattle.frames.specs.declared.Item.{Item}
use Rattle.frames.specs.declared.Head.{Head}
use Rattle.frames.specs.declared.Head.TheVariants.{Bad, Submit, Forward, ShardAppend, ExecNotif, Executed, Response}
use Rattle.entry.specs.declared.Entry.{Entry}
use Rattle.verdict.specs.Model.{Verdict, next_of, floor_of, refuse_of, new_of, held_of, judge_submit, judge_forward, judge_exec_notif, judge_executed, judge_of}

-- ---- next_of, floor_of: one law each, of the element that both contracts cite

-- what is stored for a client is what its own element gives
pub next_own : (next : List ℕ) (client x : ℕ) → client < length next → next_of (set next client x) client ≡ x
next_own next client x h = get_or-set_same next client x 0 h

-- what is stored for another client does not show
pub next_others : (next : List ℕ) (client other x : ℕ) → client ≢ other → next_of (set next other x) client ≡ next_of next client
next_others next client other x h = get_or-set_other next other client x 0 h

pub floor_own : (floor : List ℕ) (client x : ℕ) → client < length floor → floor_of (set floor client x) client ≡ x
floor_own floor client x h = next_own floor client x h

pub floor_others : (floor : List ℕ) (client other x : ℕ) → client ≢ other → floor_of (set floor other x) client ≡ floor_of floor client
floor_others floor client other x h = next_others floor client other x h

-- ---- judge

abbrev Refused : Verdict → Type 0
Refused v = (v.answer ≡ 0 → ⊥) → v ≡ refuse_of v.answer

refuses : (answer : ℕ) → Refused (refuse_of answer)
unfolding refuse_of
refuses answer d = refl

new_refused : (m client number ack count : ℕ) (items : List Item) (len : ℕ) → Refused (new_of m client number ack count items len)
unfolding new_of
new_refused m client number ack count items len = by Refused _ (λ t. refuses 5) (λ t d. absurd (d refl))

held_refused : (client number ack count : ℕ) (items : List Item) (len : ℕ) (held : Bool) (e : Entry) → Refused (held_of client number ack count items len held e)
unfolding held_of
held_refused client number ack count items len held e = by Refused _ (λ t. refuses 8) (λ t d. absurd (d refl))

submit_refused : (m client number ack count : ℕ) (items : List Item) (low next len : ℕ) (held : Bool) (e : Entry)
    → Refused (judge_submit m client number ack count items low next len held e)
unfolding judge_submit
submit_refused m client number ack count items low next len held e =
    by Refused _ (λ t. refuses 3) λ t.
    by Refused _ (λ t. refuses 4) λ t.
    by Refused _ (λ t. held_refused client number ack count items len held e) λ t. new_refused m client number ack count items len

forward_refused : (m ind client number ack count : ℕ) (items : List Item) (next len : ℕ) (e : Entry)
    → Refused (judge_forward m ind client number ack count items next len e)
unfolding judge_forward
forward_refused m ind client number ack count items next len e =
    by Refused _ (λ t. refuses 4) λ t.
    by Refused _ (λ t. held_refused client number ack count items len true e) λ t.
    by Refused _ (λ t. refuses 8) λ t. new_refused m client number ack count items len

notif_refused : (m shard count : ℕ) (reads : List Item) (len : ℕ) (held : Bool) (e : Entry) → Refused (judge_exec_notif m shard count reads len held e)
unfolding judge_exec_notif
notif_refused m shard count reads len held e =
    by Refused _ (λ t. refuses 6) λ t. by Refused _ (λ t. refuses 7) λ t. by Refused _ (λ t. refuses 8) (λ t d. absurd (d refl))

executed_refused : (m count : ℕ) (reads : List Item) (len : ℕ) (held : Bool) (e : Entry) → Refused (judge_executed m count reads len held e)
unfolding judge_executed
executed_refused m count reads len held e =
    by Refused _ (λ t. refuses 6) λ t. by Refused _ (λ t. refuses 7) λ t. by Refused _ (λ t. refuses 8) (λ t d. absurd (d refl))

module _ (count : ℕ) (items : List Item) (n m own : ℕ) (floor next : List ℕ) (len : ℕ) (held : Bool) (e : Entry) where
  -- a refusal with an entry, a shard, an ack or something to send
  pub refusal_carries_nothing : (h : Head) → ((judge_of h count items n m own floor next len held e).answer ≡ 0 → ⊥)
      → judge_of h count items n m own floor next len held e ≡ refuse_of (judge_of h count items n m own floor next len held e).answer
  unfolding judge_of
  refusal_carries_nothing Bad = refuses 1
  refusal_carries_nothing (Submit client number ack) =
      by Refused _ (λ t. submit_refused m client number ack count items (floor_of floor client) (next_of next client) len held e) (λ t. refuses 2)
  refusal_carries_nothing (Forward ind client number ack) =
      by Refused _ (λ t. forward_refused m ind client number ack count items (next_of next client) len e) (λ t. refuses 2)
  refusal_carries_nothing (ShardAppend shard ind sn) = refuses 2
  refusal_carries_nothing (ExecNotif shard ind) = by Refused _ (λ t. notif_refused m shard count items len held e) (λ t. refuses 2)
  refusal_carries_nothing (Executed ind) = by Refused _ (λ t. executed_refused m count items len held e) (λ t. refuses 2)
  refusal_carries_nothing (Response client number) = refuses 2

  -- a number above high + 1 appended: a number would be skipped for good
  pub early_refused : (client number ack : ℕ) → own ≡ 1 → floor_of floor client ≤ number → next_of next client < number
      → judge_of (Submit client number ack) count items n m own floor next len held e ≡ refuse_of too_early
  unfolding judge_of judge_submit If◌then◌else◌
  early_refused client number ack head low early = rw (head, le-ltb number (floor_of floor client) low, lt-ltb (next_of next client) number early)
