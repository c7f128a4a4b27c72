-- What `deliver` gives is what the rules say of the records that stand at the front of its bytes: their d lines, and the park after them, whatever follows
-- the bytes. And where it stops: no whole record is left, or the text area has less than 128 bytes left, or no index is.
-- Assumes nothing.
use mathlib.Core.List.{List, [], ◌∷◌, ◌++◌, append_assoc, append-nil}
use mathlib.Core.Path.{◌≡◌, refl, ap, sym, ◌∙◌}
use Prim.Native.Nat.{ℕ, zero, suc, ◌+◌, ◌*◌, ◌-◌, ◌≤◌, ◌<◌}
use native.Mathlib.Omega.{arith}
use lib.Dec.{T, leb, ltb, leb→le, ltb→lt}
use lib.ListN.{length, take, drop, length-append, length-drop}
use lib.Seq.{take-append-le, drop-append-le, drop-drop, get_or-drop}
use borrow.Author.Tests.{lt-leb, le-ltb}
use Rattle.rules.specs.Lists.{If◌then◌else◌}
use Rattle.rules.proofs.Lists.{by, or_cases}
use Rattle.frames.specs.View.{Bytes}
use Rattle.frames.proofs.Meaning.{bytes_take}
use Rattle.lines.specs.Text.{d_line}
use Rattle.lines.proofs.Short.{d_short}
use Rattle.records.specs.declared.Next.{Next}
use Rattle.records.specs.declared.Next.TheVariants.{Record, Need, Cut}
use Rattle.records.specs.Records.{next_of}
use Rattle.records.proofs.Records.{record-inside, next_short}
use Rattle.delivery.specs.declared.Register.{Register}
use Rattle.delivery.specs.Register.{turn_of}
use Rattle.delivery.specs.Delivery as D
use Rattle.delivery.specs.Delivery.{Run, frame_at, onward, full, runs, begun, delivered}
use Rattle.bench_means.specs.Transcript.{Park, Addressed, Parts, parts, turn, after, d_lines}
use Rattle.bench_means.specs.View.{Means, NoRecord, before, register_after, Done, last_index, Stopped, no_record, no_room, no_index}
use Rattle.bench_means.proofs.Turns.{turn_means}
use Rattle.bench_means.proofs.Parts.{record-firm, first_of, parts_record, parts_none}

-- ---- Bytes

pub bytes_drop : (n : ℕ) (s : List ℕ) → Bytes s → Bytes (drop n s)
bytes_drop n s b i = rw (get_or-drop n s i 0) (b (n + i))

-- those before others
pub bytes_front : (s t : List ℕ) → Bytes (s ++ t) → Bytes s
bytes_front [] t b i = omega arith
bytes_front (x ∷ s) t b zero = b zero
bytes_front (x ∷ s) t b (suc i) = bytes_front s t (λ j. b (suc j)) i

-- ---- Some records and then others

pub after_both : (p : Park) (rs qs : List Addressed) → after p (rs ++ qs) ≡ after (after p rs) qs
after_both p [] qs = refl
after_both p (r ∷ rs) qs = after_both (turn p r).park rs qs

pub register_both : (r : Register) (xs ys : List Addressed) → register_after r (xs ++ ys) ≡ register_after (register_after r xs) ys
register_both r [] ys = refl
register_both r (x ∷ xs) ys = register_both (turn_of r x.address x.frame).register xs ys

pub lines_both : (p : Park) (index : ℕ) (rs qs : List Addressed) → d_lines p index (rs ++ qs) ≡ d_lines p index rs ++ d_lines (after p rs) (index + length rs) qs
lines_both p index [] qs = let e : index ≡ index + 0 = omega arith in ap (λ (k : ℕ). d_lines p k qs) e
lines_both p index (r ∷ rs) qs =
    let e : index + 1 + length rs ≡ index + suc (length rs) = omega arith in
    let line : List ℕ = d_line index (turn p r).answer (turn p r).frames in
    ap (λ (t : List ℕ). line ++ t) (lines_both (turn p r).park (index + 1) rs qs)
    ∙ sym (append_assoc line (d_lines (turn p r).park (index + 1) rs) (d_lines (after p (r ∷ rs)) (index + 1 + length rs) qs))
    ∙ ap (λ (k : ℕ). (line ++ d_lines (turn p r).park (index + 1) rs) ++ d_lines (after p (r ∷ rs)) k qs) e

pub before_both : (rs qs : List Addressed) (x : Parts) → before rs (before qs x) ≡ before (rs ++ qs) x
unfolding before
before_both rs qs x = ap (λ (t : List Addressed). record { records = t; left = x.left }) (sym (append_assoc rs qs x.records))

-- ---- One record more

module _ (input : List ℕ) (taken end address : ℕ) (next : next_of (drop taken input) ≡ Record address end) where
  one : Addressed
  one = record { address = address; frame = frame_at input taken end }

  -- its frame is the same wherever the bytes are cut
  frame_there : (later : List ℕ) → take (end - 1) (drop 1 (drop taken input ++ later)) ≡ frame_at input taken end
  frame_there later =
      let i = record-inside (drop taken input) address end next in
      let d = length-drop 1 (drop taken input) in
      let e : end - 1 ≡ taken + end - (taken + 1) = omega arith in
      ap (λ (t : List ℕ). take (end - 1) t) (drop-append-le 1 (drop taken input) later (omega arith))
      ∙ take-append-le (end - 1) (drop 1 (drop taken input)) later (omega arith)
      ∙ ap (λ (t : List ℕ). take (end - 1) t) (drop-drop 1 taken input)
      ∙ ap (λ (k : ℕ). take k (drop (taken + 1) input)) e

  one_there : (later : List ℕ) → parts (drop taken input ++ later) ≡ before (one ∷ []) (parts (drop (taken + end) input ++ later))
  unfolding one
  one_there later =
      let i = record-inside (drop taken input) address end next in
      parts_record (drop taken input ++ later) address end (record-firm (drop taken input) later address end next)
      ∙ ap (λ (f : List ℕ). before (record { address = address; frame = f } ∷ []) (parts (drop end (drop taken input ++ later)))) (frame_there later)
      ∙ ap (λ (t : List ℕ). before (one ∷ []) (parts t)) (drop-append-le end (drop taken input) later i.1 ∙ ap (λ (t : List ℕ). t ++ later) (drop-drop end taken input))

module _ (r : Register) (p : Park) (first : ℕ) (input : List ℕ) (bytes : Bytes input) where
  one_more_lem : (run : Run) → Done r p first input run → (address end : ℕ) → next_of (drop run.taken input) ≡ Record address end
      → Done r p first input (D.after run end (turn_of run.register address (frame_at input run.taken end)))
  unfolding one
  one_more_lem run d address end next =
      let i = record-inside (drop run.taken input) address end next in
      let l = length-drop run.taken input in
      let x : Addressed = one input run.taken end address next in
      let m = turn_means run.register (after p d.done) d.means (frame_at input run.taken end)
      (bytes_take (run.taken + end - (run.taken + 1)) (drop (run.taken + 1) input) (bytes_drop (run.taken + 1) input bytes)) address in
      let n = length-append d.done (x ∷ []) in
      record {
        done = d.done ++ x ∷ [];
        inside = omega (arith, d.inside, i.1);
        front = λ later.
            d.front later ∙ ap (before d.done) (one_there input run.taken end address next later)
            ∙ before_both d.done (x ∷ []) (parts (drop (run.taken + end) input ++ later));
        text =
            (λ j. d.text j ++ d_line (d.index j) (m.answer j) (m.frames j))
            ∙ ap (λ (t : List ℕ). d_lines p first d.done ++ t) (sym (append-nil (d_line (first + length d.done) (turn (after p d.done) x).answer (turn (after p d.done) x).frames)))
            ∙ sym (lines_both p first d.done (x ∷ []));
        register =
            ap (λ (now : Register). (turn_of now address (frame_at input run.taken end)).register) d.register
            ∙ sym (register_both r d.done (x ∷ []));
        means = rw (after_both p d.done (x ∷ [])) m.register;
        index = omega (arith, d.index);
        fewer = omega (arith, d.fewer, i.0);
      }

  more_by : (run : Run) → Done r p first input run → (x : Next) → next_of (drop run.taken input) ≡ x → (more : Run → Run)
      → ((now : Run) → Done r p first input now → Done r p first input (more now)) → Done r p first input (onward input run x more)
  unfolding onward
  more_by run d (Record address end) e more keeps = keeps _ (one_more_lem run d address end e)
  more_by run d Need e more keeps = d
  more_by run d Cut e more keeps = d

  runs_done : (most room : ℕ) (run : Run) → Done r p first input run → Done r p first input (runs most input room run)
  unfolding runs
  runs_done zero room run d = d
  runs_done (suc most) room run d =
      by (Done r p first input) (full room run) (λ t. d)
      (λ t. more_by run d (next_of (drop run.taken input)) refl (runs most input room) (λ now. runs_done most room now))

-- what a delivery gives means what the rules say of the records that it did
pub delivered_means : (r : Register) (p : Park) (first : ℕ) (input : List ℕ) (room : ℕ) → Means r p → Bytes input → Done r p first input (delivered r first input room)
delivered_means r p first input room h bytes =
    runs_done r p first input bytes (length input) room (begun r first)
    (record { done = []; inside = omega arith; front = λ later. unfold before in refl; text = refl; register = refl; means = h; index = omega arith; fewer = omega arith })

-- ---- Where it stops

full_stops : (input : List ℕ) (room : ℕ) (run : Run) → T (full room run) → Stopped input room run
full_stops input room run t =
    or_cases (leb last_index run.index) (ltb (room - length run.text) 128) t (λ u. no_index (leb→le last_index run.index u))
    (λ u. let l = ltb→lt (room - length run.text) 128 u in no_room (omega arith))

stops_by :
    (input : List ℕ) (room : ℕ) (run : Run) (x : Next) → next_of (drop run.taken input) ≡ x → (more : Run → Run) →
    ((now : Run) → run.taken + 3 ≤ now.taken → now.taken ≤ length input → Stopped input room (more now)) → run.taken ≤ length input → Stopped input room (onward input run x more)
unfolding onward
stops_by input room run (Record address end) e more ih inside =
    let i = record-inside (drop run.taken input) address end e in
    let l = length-drop run.taken input in
    ih _ (omega (arith, i.0)) (omega (arith, i.1))
stops_by input room run Need e more ih inside = no_record (rw e tt)
stops_by input room run Cut e more ih inside = no_record (rw e tt)

runs_stop : (input : List ℕ) (room most : ℕ) (run : Run) → run.taken ≤ length input → length input ≤ run.taken + most → Stopped input room (runs most input room run)
unfolding runs
runs_stop input room zero run inside l =
    let d = length-drop run.taken input in
    no_record (rw (next_short (drop run.taken input) (omega arith)) tt)
runs_stop input room (suc most) run inside l =
    by (Stopped input room) (full room run) (full_stops input room run)
    (λ t. stops_by input room run (next_of (drop run.taken input)) refl (runs most input room) (λ now on in-it. runs_stop input room most now in-it (omega arith)) inside)

pub delivered_stops : (r : Register) (first : ℕ) (input : List ℕ) (room : ℕ) → Stopped input room (delivered r first input room)
delivered_stops r first input room = runs_stop input room (length input) (begun r first) (omega arith) (omega arith)

-- where no whole record is left, all of them were done
pub all_done : (r : Register) (p : Park) (first : ℕ) (input : List ℕ) (run : Run) (d : Done r p first input run) → NoRecord (next_of (drop run.taken input))
    → parts input ≡ record { records = d.done; left = drop run.taken input }
unfolding before
all_done r p first input run d none =
    ap parts (sym (append-nil input))
    ∙ d.front []
    ∙ ap (λ (t : List ℕ). before d.done (parts t)) (append-nil (drop run.taken input))
    ∙ ap (before d.done) (parts_none (drop run.taken input) none)
    ∙ ap (λ (rs : List Addressed). record { records = rs; left = drop run.taken input }) (append-nil d.done)

-- ---- When the lines of all records find room

lines_short : (p : Park) (index : ℕ) (rs : List Addressed) → length (d_lines p index rs) ≤ 128 * length rs
lines_short p index [] = omega arith
lines_short p index (r ∷ rs) =
    let line : List ℕ = d_line index (turn p r).answer (turn p r).frames in
    omega (arith, length-append line (d_lines (turn p r).park (index + 1) rs), d_short index (turn p r).answer (turn p r).frames, lines_short (turn p r).park (index + 1) rs)

module _ (r : Register) (p : Park) (first : ℕ) (input : List ℕ) (run : Run) (d : Done r p first input run) where
  -- a record that is left is one that was not done
  one_left : (address end : ℕ) → next_of (drop run.taken input) ≡ Record address end → length d.done + 1 ≤ length (parts input).records
  unfolding before
  one_left address end next =
      let rest : Parts = parts (drop end (drop run.taken input)) in
      let e : parts input ≡ before d.done (before (first_of (drop run.taken input) address end ∷ []) rest)
      = ap parts (sym (append-nil input)) ∙ d.front []
      ∙ ap (λ (t : List ℕ). before d.done (parts t)) (append-nil (drop run.taken input))
      ∙ ap (before d.done) (parts_record (drop run.taken input) address end next) in
      rw e (omega (arith, length-append d.done (first_of (drop run.taken input) address end ∷ rest.records)))

  none_but : (x : Next) → next_of (drop run.taken input) ≡ x → (length d.done + 1 ≤ length (parts input).records → ⊥) → NoRecord x
  none_but (Record address end) e not-one = not-one (one_left address end e)
  none_but Need e not-one = tt
  none_but Cut e not-one = tt

  no_more : (room : ℕ) → 128 * length (parts input).records ≤ room → first + length (parts input).records ≤ last_index → Stopped input room run
      → NoRecord (next_of (drop run.taken input))
  no_more room wide few (no_record none) = none
  no_more room wide few (no_room l) = none_but (next_of (drop run.taken input)) refl (λ one. omega (arith, ap length d.text, lines_short p first d.done))
  no_more room wide few (no_index l) = none_but (next_of (drop run.taken input)) refl (λ one. omega (arith, d.index))

-- with 128 bytes of text area for each record, and an index for each, all records are done
pub all_fit : (r : Register) (p : Park) (first : ℕ) (input : List ℕ) (room : ℕ) → Means r p → Bytes input
    → 128 * length (parts input).records ≤ room → first + length (parts input).records ≤ last_index
    → NoRecord (next_of (drop (delivered r first input room).taken input))
all_fit r p first input room h bytes wide few =
    no_more r p first input (delivered r first input room) (delivered_means r p first input room h bytes) room wide few (delivered_stops r first input room)

-- ---- A delivery that stops because its text area is full has done one record at least

taken_by : (input : List ℕ) (run : Run) (x : Next) (more : Run → Run) → ((now : Run) → now.taken ≤ (more now).taken) → run.taken ≤ (onward input run x more).taken
unfolding onward
taken_by input run (Record address end) more grows = let g = grows (D.after run end (turn_of run.register address (frame_at input run.taken end))) in omega arith
taken_by input run Need more grows = omega arith
taken_by input run Cut more grows = omega arith

runs_take : (input : List ℕ) (room most : ℕ) (run : Run) → run.taken ≤ (runs most input room run).taken
unfolding runs
runs_take input room zero run = omega arith
runs_take input room (suc most) run =
    by (λ (now : Run). run.taken ≤ now.taken) (full room run) (λ t. omega arith)
    (λ t. taken_by input run (next_of (drop run.taken input)) (runs most input room) (runs_take input room most))

pub goes_on : (r : Register) (first : ℕ) (input : List ℕ) (room address end : ℕ) → next_of input ≡ Record address end → 128 ≤ room → first < last_index
    → 3 ≤ (delivered r first input room).taken
unfolding runs onward If◌then◌else◌
goes_on r first [] room address end next wide few = let i = record-inside [] address end next in absurd (omega arith)
goes_on r first (x ∷ s) room address end next wide few =
    let i = record-inside (x ∷ s) address end next in
    let g = runs_take (x ∷ s) room (length s) (D.after (begun r first) end (turn_of r address (frame_at (x ∷ s) 0 end))) in
    rw (lt-leb last_index first few, le-ltb (room - 0) 128 (omega arith), next) (omega arith)
