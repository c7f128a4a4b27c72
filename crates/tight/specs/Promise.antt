-- A promise, when it is tight, and the forms that promises have here.
-- Assumes nothing.
use Rattle.std.specs.Prelude.{◌≡◌}

-- A promise says of what was given to a call, and of what came of it, whether it admits this. What was given: every argument, and what each lent
-- thing held at entry. What came of it: the result, and what each lent thing holds at exit.
abbrev pub Promise : (Given Came : Type 0) → Type 1
Promise Given Came = Given → Came → Type 0

-- "Any pair of outcomes that its promise admits is proved to be one outcome"
pub record Tight {Given Came : Type 0} (P : Promise Given Came) : Type 0 where
  pub one : (given : Given) (this that : Came) → P given this → P given that → this ≡ that

-- ---- The forms

-- what came by an equation: r ≡ result ..
abbrev pub ByEquation : {Given Came : Type 0} → (Given → Came) → Promise Given Came
ByEquation came-of given came = came ≡ came-of given

-- what came by an equation for what it shows: shown r ≡ result ..
abbrev pub ByShown : {Given Came Shown : Type 0} → (Came → Shown) → (Given → Shown) → Promise Given Came
ByShown shown shown-of given came = shown came ≡ shown-of given

-- one promise of the first part of what came, another of the second
abbrev pub Both : {Given A B : Type 0} → Promise Given A → Promise Given B → Promise Given (A × B)
Both P Q given came = P given came.0 × Q given came.1

-- the result and one lent thing, a record or an area, each by an equation: (r ≡ result ..) × (out.new ≡ out ..)
abbrev pub WithLent : {Given Result Lent : Type 0} → (Given → Result) → (Given → Lent) → Promise Given (Result × Lent)
WithLent result lent = Both (ByEquation result) (ByEquation lent)

-- what a result and a lent record show, and a lent area, each by an equation: (shown s.new r ≡ result ..) × (out.new ≡ out ..)
abbrev pub ShownWithLent : {Given Came Shown Lent : Type 0} → (Came → Shown) → (Given → Shown) → (Given → Lent) → Promise Given (Came × Lent)
ShownWithLent shown shown-of lent = Both (ByShown shown shown-of) (ByEquation lent)

-- the result, a lent record and a lent area, each by an equation
abbrev pub WithTwoLent : {Given Result Record Area : Type 0} → (Given → Result) → (Given → Record) → (Given → Area) → Promise Given (Result × (Record × Area))
WithTwoLent result lent out = Both (ByEquation result) (WithLent lent out)

-- a promise that says something more beside, as what the outcome means
abbrev pub Also : {Given Came : Type 0} → Promise Given Came → Promise Given Came → Promise Given Came
Also P more given came = P given came × more given came
