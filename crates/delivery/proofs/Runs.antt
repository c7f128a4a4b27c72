-- A run goes on by one record or stops: what the loop of `deliver` keeps from turn to turn.
-- Assumes nothing.
use mathlib.Core.Bool.{Bool, true, false, ◌||◌}
use mathlib.Core.List.{List, [], ◌∷◌}
use mathlib.Core.Path.{◌≡◌, refl, ap, sym, ◌∙◌}
use Prim.Native.Nat.{ℕ, zero, suc, ◌+◌, ◌-◌, ◌≤◌, ◌<◌}
use native.Mathlib.Omega.{arith}
use lib.Dec.{leb, ltb}
use lib.ListN.{length, take, drop, length-drop}
use lib.Seq.{length-take-le, take_all}
use mathlib.Core.Logic.{⊎_elim}
use types.Run.{OneOf}
use denote.Enum.Declared.{tag_of}
use borrow.Author.Tests.{lt-ltb, le-ltb, le-leb, lt-leb}
use Rattle.rules.specs.Lists.{If◌then◌else◌}
use Rattle.lines.specs.Text.{d_line}
use Rattle.lines.proofs.Short.{d_short}
use Rattle.delivery.specs.declared.Register.{Register}
use Rattle.records.specs.declared.Next.{Next}
use Rattle.records.specs.declared.Next.TheVariants.{Record, Need, Cut}
use Rattle.records.specs.Records.{next_of}
use Rattle.delivery.specs.Register.{Turn, turn_of}
use Rattle.delivery.specs.Delivery.{Run, frame_at, after, onward, full, runs, delivered, delivered_of, standing}
use Rattle.records.specs.contracts.Next.{the_type}
use Rattle.records.proofs.Records.{record-inside}
use Rattle.delivery.proofs.Area.{Grown, lined, more_text, grows, stands}

-- the index is the last that 64 bits hold
abbrev pub last : ℕ
last = 18446744073709551615

goes_on :
    (most : ℕ) (input : List ℕ) (room : ℕ) (run : Run) (address end : ℕ) →
    run.index < last → length run.text + 128 ≤ room → next_of (drop run.taken input) ≡ Record address end →
    runs (suc most) input room run ≡ runs most input room (after run end (turn_of run.register address (frame_at input run.taken end)))
unfolding runs onward If◌then◌else◌
goes_on most input room run address end i r e =
    rw (lt-leb last run.index i, le-ltb (room - length run.text) 128 (omega arith), e)

stops_full : (most : ℕ) (input : List ℕ) (room : ℕ) (run : Run) → full room run ≡ true → runs most input room run ≡ run
unfolding runs If◌then◌else◌
stops_full zero input room run e = refl
stops_full (suc most) input room run e = rw e

-- a record is no end
abbrev pub Ended : Next → Type 0
Ended (Record address end) = ⊥
Ended Need = Unit {0}
Ended Cut = Unit {0}

onward_ended : (input : List ℕ) (run : Run) (next : Next) (more : Run → Run) → Ended next → onward input run next more ≡ run
unfolding onward
onward_ended input run (Record address end) more e = absurd e
onward_ended input run Need more e = refl
onward_ended input run Cut more e = refl

stops_ended : (most : ℕ) (input : List ℕ) (room : ℕ) (run : Run) → Ended (next_of (drop run.taken input)) → runs most input room run ≡ run
unfolding runs If◌then◌else◌
stops_ended zero input room run e = refl
stops_ended (suc most) input room run e = by (full room run)
  where
    by : (t : Bool) → (If t then run else onward input run (next_of (drop run.taken input)) (runs most input room)) ≡ run
    by true = refl
    by false = onward_ended input run (next_of (drop run.taken input)) (runs most input room) e

-- the two ways in which a run is full
full_index : (room : ℕ) (run : Run) → last ≤ run.index → full room run ≡ true
full_index room run h = rw (le-leb last run.index h)

full_room : (room : ℕ) (run : Run) → room < length run.text + 128 → full room run ≡ true
full_room room run h = by (leb last run.index)
  where
    by : (t : Bool) → t || ltb (room - length run.text) 128 ≡ true
    by true = refl
    by false = lt-ltb (room - length run.text) 128 (omega arith)

-- what the loop keeps: so many records of the input were delivered, the area has their lines, and the run that is ahead is the whole run
pub record Kept (r₀ : Register) (first : ℕ) (input l₀ : List ℕ) (r : Register) (index taken : ℕ) (l : List ℕ) (written : ℕ) : Type 0 where
  pub counted : first ≤ index
  pub fewer : index ≤ first + taken
  pub inside : taken ≤ length input
  pub grown : Grown l₀ l written
  pub ahead :
      runs (length input - (index - first)) input (length l₀) (record { register = r; index = index; taken = taken; text = take written l }) ≡
      delivered r₀ first input (length l₀)

-- a record was found: it lies in the input, and there is room for its line
pub record Ready {r₀ : Register} {first : ℕ} {input l₀ : List ℕ} {r : Register} {index taken : ℕ} {l : List ℕ} {written : ℕ}
    (k : Kept r₀ first input l₀ r index taken l written) : Type 0 where
  pub address : ℕ
  pub end : ℕ
  pub is : next_of (drop taken input) ≡ Record address end
  pub long : 3 ≤ end
  pub within : taken + end ≤ length input
  pub low : index < last
  pub room : written + 128 ≤ length l₀

module _ {r₀ : Register} {first : ℕ} {input l₀ : List ℕ} {r : Register} {index taken : ℕ} {l : List ℕ} {written : ℕ} (k : Kept r₀ first input l₀ r index taken l written) where
  pub has : length (take written l) ≡ written
  has = length-take-le written l (omega (arith, k.grown.within, k.grown.as_long))

  -- how far the run has come
  abbrev sofar : Run
  sofar = record { register = r; index = index; taken = taken; text = take written l }

  -- one record more, whoever takes it
  pub kept_on :
      (g : Ready k) (t : Turn) (l' : List ℕ) (written' : ℕ) → turn_of r g.address (frame_at input taken g.end) ≡ t →
      written' ≡ written + length (d_line index t.answer t.frames) →
      l' ≡ lined l written (d_line index t.answer t.frames) →
      Kept r₀ first input l₀ t.register (index + 1) (taken + g.end) l' written'
  kept_on g t l' written' turned w a =
      let line : List ℕ = d_line index t.answer t.frames in
      let short : length line ≤ 128 = d_short index t.answer t.frames in
      let most : ℕ = length input - (index + 1 - first) in
      let more : length input - (index - first) ≡ suc most = omega (arith, k.counted, k.fewer, k.inside, g.long, g.within) in
      record {
        counted = omega (arith, k.counted);
        fewer = omega (arith, k.fewer, g.long);
        inside = g.within;
        grown = rw (w, a) (grows l₀ l line written k.grown g.room short);
        ahead =
            ap (λ (x : List ℕ). runs most input (length l₀) (record { register = t.register; index = index + 1; taken = taken + g.end; text = x }))
            (rw (w, a) (more_text l₀ l line written k.grown g.room short))
            ∙ ap (λ (y : Turn). runs most input (length l₀) (after sofar g.end y)) (sym turned)
            ∙ sym (goes_on most input (length l₀) sofar g.address g.end g.low (rw has g.room) g.is)
            ∙ ap (λ (x : ℕ). runs x input (length l₀) sofar) (sym more)
            ∙ k.ahead;
      }

  -- no record more: the run stops here, wherever the loop is left
  abbrev Stopped : Type 0
  Stopped =
      (record { register = r; index = index; taken = taken; written = written } ≡ delivered_of (delivered r₀ first input (length l₀)))
      × (l ≡ standing (delivered r₀ first input (length l₀)).text l₀)
      × (taken ≤ length input)
      × (written ≤ length l₀)

  stopped : ((most : ℕ) → runs most input (length l₀) sofar ≡ sofar) → Stopped
  stopped s =
      let e : sofar ≡ delivered r₀ first input (length l₀) = sym (s (length input - (index - first))) ∙ k.ahead in (
        ap (λ (x : ℕ). record { register = r; index = index; taken = taken; written = x }) (sym has) ∙ ap delivered_of e,
        stands l₀ l written k.grown ∙ ap (λ (x : Run). standing x.text l₀) e,
        k.inside,
        k.grown.within,
      )

  pub stopped_index : last ≤ index → Stopped
  stopped_index h = stopped (λ most. stops_full most input (length l₀) sofar (full_index (length l₀) sofar h))

  pub stopped_room : length l - written < 128 → Stopped
  stopped_room h = stopped (λ most. stops_full most input (length l₀) sofar (full_room (length l₀) sofar (omega (arith, has, k.grown.as_long, k.grown.within))))

  pub stopped_ended : Ended (next_of (drop taken input)) → Stopped
  stopped_ended e = stopped (λ most. stops_ended most input (length l₀) sofar e)

-- what stands at the front of the part of the input that is left
module _ (input : List ℕ) (taken : ℕ) (next : Next) (inside : taken ≤ length input) (read : next ≡ next_of (take (length input - taken) (drop taken input))) where
  pub left : next ≡ next_of (drop taken input)
  left = read ∙ ap next_of (take_all (length input - taken) (drop taken input) (rw (length-drop taken input) (omega arith)))

  pub none_left : OneOf (1 ∷ 2 ∷ []) (tag_of the_type next) → Ended (next_of (drop taken input))
  none_left o = rw left at (ended next o)
    where
      ended : (x : Next) → OneOf (1 ∷ 2 ∷ []) (tag_of the_type x) → Ended x
      ended (Record address end) p = ⊎_elim (λ q. absurd (omega arith)) (λ q. absurd (omega arith)) p
      ended Need p = tt
      ended Cut p = tt

  -- the same of a value that is told to be no record
  pub none_left_by : ((address end : ℕ) → next ≡ Record address end → ⊥) → Ended (next_of (drop taken input))
  none_left_by o = rw left at (ended next o)
    where
      ended : (x : Next) → ((address end : ℕ) → x ≡ Record address end → ⊥) → Ended x
      ended (Record address end) p = p address end refl
      ended Need p = tt
      ended Cut p = tt

module _ {r₀ : Register} {first : ℕ} {input l₀ : List ℕ} {r : Register} {index taken : ℕ} {l : List ℕ} {written : ℕ} (k : Kept r₀ first input l₀ r index taken l written) where
  abbrev pub ready :
      (next : Next) → next ≡ next_of (take (length input - taken) (drop taken input)) → (address end : ℕ) → next ≡ Record address end →
      index < last → 128 ≤ length l - written → Ready k
  ready next read address end e low space =
      let is : next_of (drop taken input) ≡ Record address end = sym (left input taken next k.inside read) ∙ e in
      let b = record-inside (drop taken input) address end is in
      record {
        address = address;
        end = end;
        is = is;
        long = b.0;
        within = omega (arith, b.1, length-drop taken input, k.inside);
        low = low;
        room = omega (arith, k.grown.within, k.grown.as_long);
      }
