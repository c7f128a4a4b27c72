-- The transcript does not depend on how the input is cut into pieces: what a delivery did of some bytes, and the rest put before what follows, give the
-- lines, and the register, of all the bytes at once.
-- Assumes nothing.
use mathlib.Core.List.{List, ◌++◌, append_assoc}
use mathlib.Core.Path.{◌≡◌, ap, sym, ◌∙◌}
use Prim.Native.Nat.{ℕ, ◌+◌}
use native.Mathlib.Omega.{arith}
use lib.ListN.{length, drop, length-append}
use lib.Seq.{drop-append-le}
use Rattle.frames.specs.View.{Bytes}
use Rattle.records.specs.Records.{next_of}
use Rattle.delivery.specs.declared.Register.{Register}
use Rattle.delivery.specs.Delivery.{Run, delivered}
use Rattle.bench_means.specs.Transcript.{Park, Parts, parts, after, d_lines, l_lines, cut_before, lines}
use Rattle.bench_means.specs.View.{Means, NoRecord, before, register_after, Done, Same}
use Rattle.bench_means.proofs.Deliveries.{bytes_drop, bytes_front, after_both, register_both, lines_both, delivered_means, all_done}

-- PIECES: the lines of some bytes and of what follows are the lines that a delivery of the bytes gave, and those of the bytes that it left and of what follows
pub pieces : (r : Register) (p : Park) (index : ℕ) (input : List ℕ) (run : Run) (d : Done r p index input run) (later : List ℕ)
    → lines p index (input ++ later) ≡ run.text ++ lines (after p d.done) run.index (drop run.taken input ++ later)
unfolding lines before
pieces r p index input run d later =
    let x : Parts = parts (drop run.taken input ++ later) in
    let tail : List ℕ = cut_before x.left ++ l_lines (after (after p d.done) x.records) in
    ap (λ (y : Parts). d_lines p index y.records ++ (cut_before y.left ++ l_lines (after p y.records))) (d.front later)
    ∙ (λ i. lines_both p index d.done x.records i ++ (cut_before x.left ++ l_lines (after_both p d.done x.records i)))
    ∙ append_assoc (d_lines p index d.done) (d_lines (after p d.done) (index + length d.done) x.records) tail
    ∙ (λ i. sym d.text i ++ (d_lines (after p d.done) (sym d.index i) x.records ++ tail))

-- AT ONCE: some bytes delivered, and what is left of them put before others and delivered, give what all the bytes give, delivered at once: register, lines,
-- index and rest. Where all their records find room (`all_fit`).
module _ (r : Register) (p : Park) (first : ℕ) (a b : List ℕ) (h : Means r p) (bytes : Bytes (a ++ b)) (room₁ room₂ room : ℕ) where
  abbrev one : Run
  one = delivered r first a room₁

  abbrev both : List ℕ
  both = drop one.taken a ++ b

  abbrev two : Run
  two = delivered one.register one.index both room₂

  abbrev all : Run
  all = delivered r first (a ++ b) room

  pub at_once : NoRecord (next_of (drop two.taken both)) → NoRecord (next_of (drop all.taken (a ++ b))) → Same one two all (drop two.taken both) (drop all.taken (a ++ b))
  unfolding before
  at_once none₂ none =
      let d₁ = delivered_means r p first a room₁ h (bytes_front a b bytes) in
      let here : Bytes both = rw (drop-append-le one.taken a b d₁.inside) at (bytes_drop one.taken (a ++ b) bytes) in
      let d₂ = delivered_means one.register (after p d₁.done) one.index both room₂ d₁.means here in
      let d = delivered_means r p first (a ++ b) room h bytes in
      let e : ◌≡◌ {A = Parts} (record { records = d.done; left = drop all.taken (a ++ b) }) (record { records = d₁.done ++ d₂.done; left = drop two.taken both })
      = sym (all_done r p first (a ++ b) all d none) ∙ d₁.front b
      ∙ ap (before d₁.done) (all_done one.register (after p d₁.done) one.index both two d₂ none₂) in
      let records : d.done ≡ d₁.done ++ d₂.done = ap (λ (x : Parts). x.records) e in
      record {
        text =
            d.text ∙ ap (d_lines p first) records ∙ lines_both p first d₁.done d₂.done
            ∙ (λ i. sym d₁.text i ++ d_lines (after p d₁.done) (sym d₁.index i) d₂.done)
            ∙ ap (λ (t : List ℕ). one.text ++ t) (sym d₂.text);
        register =
            d.register ∙ ap (register_after r) records ∙ register_both r d₁.done d₂.done
            ∙ ap (λ (x : Register). register_after x d₂.done) (sym d₁.register) ∙ sym d₂.register;
        index =
            let n = length-append d₁.done d₂.done in
            let m = ap length records in
            omega (arith, d.index, d₁.index, d₂.index);
        rest = ap (λ (x : Parts). x.left) e;
      }
