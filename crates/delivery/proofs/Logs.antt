-- The lines of a log, one entry more at a time.
-- Assumes nothing.
use mathlib.Core.List.{List, ◌∷◌, ◌++◌, append_assoc, append-nil}
use mathlib.Core.Path.{◌≡◌, refl, ap, sym, ◌∙◌}
use Prim.Native.Nat.{ℕ, ◌+◌, ◌*◌, ◌≤◌, ◌<◌}
use native.Mathlib.Omega.{arith}
use mir.Val.{Val}
use denote.Laws.{Is}
use denote.Struct.Laws as LL
use lib.ListN.{length, take, drop, get_or, drop_of_length-le}
use lib.Seq.{length-take-le, drop-cons}
use native.Mathlib.Numerals.{add-one}
use borrow.Author.Tests.{le-leb, lt-leb}
use Rattle.rules.specs.Lists.{If◌then◌else◌}
use Rattle.lines.specs.Text.{l_line}
use Rattle.lines.proofs.Short.{l_short}
use Rattle.entry.specs.declared.Entry.{Entry}
use Rattle.board.specs.declared.Board.{Board}
use Rattle.board.specs.contracts.Board as T
use Rattle.board.proofs.Board.TheLaws as T'
use Rattle.delivery.specs.Delivery.{standing}
use Rattle.delivery.specs.Logs.{log_text, log_lines}
use Rattle.delivery.proofs.Area.{Grown, lined, grows, more_text, stands}

-- a board's log has 256 places
pub places : (b : Board) (vs : List Val) → Is T.the_row b vs → length b.log ≡ 256
places b vs is = (LL.owed T.the_type T'.the_laws b vs is).0.1.0.1

-- what the loop keeps: the lines of the entries that were passed stand, and those of the others are ahead
pub record Logged (board : ℕ) (es : List Entry) (l₀ : List ℕ) (k : ℕ) (l : List ℕ) (written : ℕ) : Type 0 where
  pub few : written ≤ 128 * k
  pub grown : Grown l₀ l written
  pub ahead : take written l ++ log_text board k (drop k es) ≡ log_text board 0 es

module _ {board : ℕ} {es : List Entry} {l₀ : List ℕ} {k : ℕ} {l : List ℕ} {written : ℕ} (g : Logged board es l₀ k l written) (room : 32768 ≤ length l₀) (most : length es ≤ 256) where
  -- there is room for one more line
  pub room_left : k < length es → written + 128 ≤ length l
  room_left low = omega (arith, g.few, g.grown.as_long)

  pub logged_on :
      (d : Entry) (l' : List ℕ) (written' : ℕ) → k < length es →
      let e = get_or es k d in
      written' ≡ written + length (l_line board k e.client e.number e.exe) →
      l' ≡ lined l written (l_line board k e.client e.number e.exe) →
      Logged board es l₀ (k + 1) l' written'
  logged_on d l' written' low w a =
      let e : Entry = get_or es k d in
      let line : List ℕ = l_line board k e.client e.number e.exe in
      let short : length line ≤ 128 = l_short board k e.client e.number e.exe in
      let fits : written + 128 ≤ length l₀ = omega (arith, g.few) in
      let next : drop k es ≡ e ∷ drop (k + 1) es = rw (add-one k, drop-cons es k d) in
      let more : take written' l' ≡ take written l ++ line = rw (w, a) (more_text l₀ l line written g.grown fits short) in
      record {
        few = omega (arith, g.few);
        grown = rw (w, a) (grows l₀ l line written g.grown fits short);
        ahead =
            ap (λ (x : List ℕ). x ++ log_text board (k + 1) (drop (k + 1) es)) more
            ∙ append_assoc (take written l) line (log_text board (k + 1) (drop (k + 1) es))
            ∙ ap (λ (x : List Entry). take written l ++ log_text board k x) (sym next)
            ∙ g.ahead;
      }

  -- no entry more
  pub logged_all :
      (b : Board) → es ≡ take b.len b.log → length es ≤ k →
      (written ≡ length (log_lines board b (length l₀))) × (l ≡ standing (log_lines board b (length l₀)) l₀) × (written ≤ length l₀)
  unfolding log_lines If◌then◌else◌
  logged_all b is end =
      let e : take written l ≡ log_text board 0 es =
      sym (append-nil (take written l))
      ∙ ap (λ (x : List Entry). take written l ++ log_text board k x) (sym (drop_of_length-le es end))
      ∙ g.ahead in
      let has : length (take written l) ≡ written = length-take-le written l (omega (arith, g.grown.within, g.grown.as_long)) in
      rw (← is, le-leb 32768 (length l₀) room) (
        sym has ∙ ap length e,
        stands l₀ l written g.grown ∙ ap (λ (x : List ℕ). standing x l₀) e,
        g.grown.within,
      )

pub logged_none : (board : ℕ) (b : Board) (l : List ℕ) → length l < 32768
    → (0 ≡ length (log_lines board b (length l))) × (l ≡ standing (log_lines board b (length l)) l) × (0 ≤ length l)
unfolding log_lines If◌then◌else◌
logged_none board b l h = rw (lt-leb 32768 (length l) h) (refl, refl, omega arith)
