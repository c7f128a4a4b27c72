-- `take_up_to` meets its contract: what its callees give, and what the moved slots then hold, is put together as the definition says.
-- Assumes nothing.
use Rattle.std.proofs.Common.{rules, arith, ap, sym, ◌∙◌, ◌≡◌, ℕ, ◌-◌, ◌≤◌, length, replicate}
use borrow.Author.Tests.{le-leb}
use Rattle.queue.specs.declared.Queue.{Queue}
use Rattle.rules.specs.Lists.{If◌then◌else◌}
use Rattle.queue.specs.Model.{left_of, last_of, taken_of, without}
use Rattle.queue.proofs.Loops.{last_some, left_moved}
use borrow.Rule.Slice.PartMut.{put_mid, mid_of, mid_len}
use Rattle.std.specs.List.{copy_within}
use Rattle.queue.proofs.Queue.take_up_to.Goals as goal
use Rattle.queue.proofs.Queue.take_up_to.Goals.{then-count-gt0, else-count-gt0}

pub returns : goal.returns
unfolding taken_of without left_of last_of If◌then◌else◌
returns c =
    let q = c.args.self.now in
    let count = c.up_to-count.result in
    let s = c.if-count-gt0.self in
    let last : s ≡ record { numbers = q.numbers; len = q.len; taken = last_of q count } = elim c.if-count-gt0.branch [
      | then-count-gt0 w ↦
          let some : w.after-self.result ≡ last_of q count = w.after-self.ensures ∙ sym (last_some q count w.if-count-gt0.true) in
          w.self-is ∙ ap (λ (t : ℕ). record { numbers = q.numbers; len = q.len; taken = t }) some
      | else-count-gt0 w ↦
          let none : count ≡ 0 = omega (arith, w.if-count-gt0.false) in
          let same : c.if-count-gt0.self ≡ q = w.self-is in
          same ∙ rw none
    ] in
    let numbers : s.numbers ≡ q.numbers = ap (λ (x : Queue). x.numbers) last in
    let len : s.len ≡ q.len = ap (λ (x : Queue). x.len) last in
    let taken : s.taken ≡ last_of q count = ap (λ (x : Queue). x.taken) last in
    let left : s.len - count ≡ q.len - count = ap (λ (n : ℕ). n - count) len in
    let full : length q.numbers ≡ 256 = search rules in
    let long : length c.copy_within.new.self ≡ 256 = c.copy_within.ensures.len ∙ ap length numbers ∙ full in
    let behind : length (mid_of (s.len - count) (256 - (s.len - count)) c.copy_within.new.self) ≡ 256 - (q.len - count)
    = mid_len (s.len - count) 256 c.copy_within.new.self (omega arith) ∙ ap (λ (n : ℕ). 256 - n) left in
    let zeros : c.fill.new.self ≡ replicate (256 - (q.len - count)) 0 = c.fill.ensures.after (λ y e. e) ∙ ap (λ (n : ℕ). replicate n 0) behind in
    let there : c.copy_within.new.self ≡ copy_within q.numbers count q.len 0 = c.copy_within.ensures.after ∙ (λ i. copy_within (numbers i) count (len i) 0) in
    let moved : put_mid (s.len - count) (256 - (s.len - count)) c.copy_within.new.self c.fill.new.self ≡ left_of q count
    = rw left (left_moved q.len count q.numbers c.copy_within.new.self c.fill.new.self full c.if-self-gt256.false c.up_to-count.ensures.few long there zeros) in
    let low : q.taken ≤ c.args.log_number = omega (arith, c.from.ensures, c.if-from-self.false) in
    let whole : taken_of q c.args.log_number ≡ without q count = rw (le-leb _ 256 c.if-self-gt256.false, le-leb _ _ low, ← c.up_to-count.ensures.value) in
    (λ i. record { numbers = moved i; len = left i; taken = taken i }) ∙ sym whole
