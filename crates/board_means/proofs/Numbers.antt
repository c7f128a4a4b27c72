-- The search along the names finds what the rules find, and a new entry's number is what its client's next number follows.
-- Assumes nothing.
use mathlib.Core.Path.{◌≡◌, refl, sym, ap, ◌∙◌}
use mathlib.Core.Bool.{Bool, true, false, ◌&&◌}
use mathlib.Core.List.{List, [], ◌∷◌, map}
use mathlib.Core.Option.{Option, none, some}
use Prim.Native.Nat.{ℕ, suc, ◌+◌, ◌*◌, ◌<◌, max}
use native.Mathlib.Omega.{arith}
use lib.Dec.{T, ltb, eqb, ltb→lt, lt→ltb}
use lib.ListN.{length}
use borrow.Author.Tests.{eq-eqb, ne_eqb, eqb-true, eqb-false}
use Rattle.rules.specs.Lists.{If◌then◌else◌, ◌<?◌, ◌=?◌, snoc}
use Rattle.rules.specs.Transactions.{Write}
use Rattle.rules.specs.Board.{next_number, one_further, find}
use Rattle.rules.proofs.Lists.{T_true}
use Rattle.entry.proofs.Sets.{iff}
use Rattle.board.specs.Model.{name_of, position_of}

-- a write's client and number in one word
abbrev pub name_in : Write → ℕ
name_in w = name_of w.client w.number

-- each number has two bytes
abbrev pub Small : List Write → Type 0
Small [] = Unit {0}
Small (w ∷ ws) = (w.number < 65536) × Small ws

-- two names are the same exactly where client and number are
same_name : (a j c k : ℕ) → j < 65536 → k < 65536 → eqb (name_of a j) (name_of c k) ≡ (eqb a c && eqb j k)
unfolding name_of
same_name a j c k h l = go (eqb a c) refl (eqb j k) refl
  where
    go : (s : Bool) → s ≡ eqb a c → (t : Bool) → t ≡ eqb j k → eqb (a * 65536 + j) (c * 65536 + k) ≡ (s && t)
    go true e true f =
        let p = eqb-true a c (sym e) in
        let q = eqb-true j k (sym f) in
        eq-eqb (a * 65536 + j) (c * 65536 + k) (omega arith)
    go true e false f =
        let p = eqb-true a c (sym e) in
        let q = eqb-false j k (sym f) in
        ne_eqb _ _ (λ (r : a * 65536 + j ≡ c * 65536 + k). q (omega arith))
    go false e t f =
        let p = eqb-false a c (sym e) in
        ne_eqb _ _ (λ (r : a * 65536 + j ≡ c * 65536 + k). p (omega arith))

-- a place in a list of so many, or none past its end
abbrev pub place_in : ℕ → ℕ → Option ℕ
place_in p count = If p <? count then some p else none

further : (p count : ℕ) → one_further (place_in p count) ≡ place_in (suc p) (suc count)
further p count = go (ltb p count) (ltb (suc p) (suc count)) (iff (ltb p count) (ltb (suc p) (suc count)) up down)
  where
    up : T (ltb p count) → T (ltb (suc p) (suc count))
    up t = let h = ltb→lt p count t in lt→ltb (suc p) (suc count) (omega arith)

    down : T (ltb (suc p) (suc count)) → T (ltb p count)
    down t = let h = ltb→lt (suc p) (suc count) t in lt→ltb p count (omega arith)

    go : (s t : Bool) → s ≡ t → one_further (If s then some p else none) ≡ (If t then some (suc p) else none)
    go true t e = rw (← e) (unfold If◌then◌else◌ in refl)
    go false t e = rw (← e) (unfold If◌then◌else◌ in refl)

pub find_is : (c k : ℕ) (ws : List Write) → k < 65536 → Small ws → find c k ws ≡ place_in (position_of (name_of c k) (map name_in ws)) (length ws)
unfolding position_of If◌then◌else◌
find_is c k [] h s = refl
find_is c k (w ∷ ws) h s = go (find_is c k ws h s.1) (eqb w.client c && eqb w.number k) refl
  where
    go : find c k ws ≡ place_in (position_of (name_of c k) (map name_in ws)) (length ws) → (t : Bool) → t ≡ (eqb w.client c && eqb w.number k)
        → find c k (w ∷ ws) ≡ place_in (position_of (name_of c k) (map name_in (w ∷ ws))) (suc (length ws))
    go rest true e = rw (same_name w.client w.number c k s.0 h, ← e, T_true (ltb 0 (suc (length ws))) (lt→ltb 0 (suc (length ws)) (omega arith))) refl
    go rest false e = rw (same_name w.client w.number c k s.0 h, ← e) (ap one_further rest ∙ further (position_of (name_of c k) (map name_in ws)) (length ws))

pub next_snoc : (c : ℕ) (ws : List Write) (w : Write) → next_number c (snoc ws w) ≡ (If w.client =? c then max (next_number c ws) (suc w.number) else next_number c ws)
unfolding If◌then◌else◌
next_snoc c [] w = go (eqb w.client c)
  where
    go : (t : Bool) → (If t then max (suc w.number) 0 else 0) ≡ (If t then max 0 (suc w.number) else 0)
    go true = omega arith
    go false = refl
next_snoc c (v ∷ ws) w = go (eqb v.client c) (eqb w.client c) (next_snoc c ws w)
  where
    go : (s t : Bool) → next_number c (snoc ws w) ≡ (If t then max (next_number c ws) (suc w.number) else next_number c ws)
        → (If s then max (suc v.number) (next_number c (snoc ws w)) else next_number c (snoc ws w))
        ≡ (If t then max (If s then max (suc v.number) (next_number c ws) else next_number c ws) (suc w.number) else (If s then max (suc v.number) (next_number c ws) else next_number c ws))
    go true true e = omega arith
    go true false e = omega arith
    go false true e = e
    go false false e = e
