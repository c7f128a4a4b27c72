-- Each form of promise is tight: both outcomes equal the same right-hand side, so they equal each other.
-- Assumes nothing.
use mathlib.Core.Path.{◌≡◌, sym, ◌∙◌}
use Rattle.tight.specs.Promise.{Promise, Tight, ByEquation, ByShown, Both, WithLent, ShownWithLent, WithTwoLent, Also}

-- ---- The forms of the contracts

pub by_equation : {Given Came : Type 0} (came-of : Given → Came) → Tight (ByEquation came-of)
by_equation came-of = record { one = λ given this that p q. p ∙ sym q }

-- where what is shown tells one that came from any other
pub by_shown : {Given Came Shown : Type 0} (shown : Came → Shown) (shown-of : Given → Shown)
    → ((this that : Came) → shown this ≡ shown that → this ≡ that) → Tight (ByShown shown shown-of)
by_shown shown shown-of tells = record { one = λ given this that p q. tells this that (p ∙ sym q) }

pub both : {Given A B : Type 0} {P : Promise Given A} {Q : Promise Given B} → Tight P → Tight Q → Tight (Both P Q)
both s t = record { one = λ given this that p q. λ i. (s.one given this.0 that.0 p.0 q.0 i, t.one given this.1 that.1 p.1 q.1 i) }

pub with_lent : {Given Result Lent : Type 0} (result : Given → Result) (lent : Given → Lent) → Tight (WithLent result lent)
with_lent result lent = both (by_equation result) (by_equation lent)

-- where what is shown tells what came, the lent record in it, and the lent area stands beside
pub shown_with_lent : {Given Came Shown Lent : Type 0} (shown : Came → Shown) (shown-of : Given → Shown) (lent : Given → Lent)
    → ((this that : Came) → shown this ≡ shown that → this ≡ that) → Tight (ShownWithLent shown shown-of lent)
shown_with_lent shown shown-of lent tells = both (by_shown shown shown-of tells) (by_equation lent)

pub with_two_lent : {Given Result Record Area : Type 0} (result : Given → Result) (lent : Given → Record) (out : Given → Area)
    → Tight (WithTwoLent result lent out)
with_two_lent result lent out = both (by_equation result) (with_lent lent out)

-- ---- What is said beside

-- what implies a tight promise is tight; so a clause beside a tight promise leaves it tight
pub narrower : {Given Came : Type 0} {P Q : Promise Given Came} → Tight P → ((given : Given) (came : Came) → Q given came → P given came) → Tight Q
narrower t implies = record { one = λ given this that p q. t.one given this that (implies given this p) (implies given that q) }

pub also : {Given Came : Type 0} {P : Promise Given Came} (more : Promise Given Came) → Tight P → Tight (Also P more)
also more t = narrower t (λ given came p. p.0)

-- ---- What a tight promise rules out: every outcome that differs from one that it admits

pub rules_out : {Given Came : Type 0} {P : Promise Given Came} → Tight P → (given : Given) (this that : Came) → P given this → (this ≡ that → ⊥) → P given that → ⊥
rules_out t given this that p differ q = differ (t.one given this that p q)
