-- A board is determined by what it means: two that are held and mean the same are the same record, field by field.
-- Assumes nothing.
use mathlib.Core.Path.{◌≡◌, refl, sym, ap, ◌∙◌}
use mathlib.Core.List.{List, [], ◌∷◌, ◌++◌, map}
use mathlib.Core.Option.{some}
use Prim.Native.Nat.{ℕ, suc, ◌-◌}
use native.Mathlib.Omega.{arith}
use lib.ListN.{length, take, drop, replicate, take-append-drop}
use lib.Seq.{ext_get_or}
use Rattle.rules.specs.Lists.{at}
use Rattle.rules.specs.Board as B
use Rattle.rules.specs.Board.{writes, next_number}
use Rattle.entry.specs.declared.Entry.{Entry}
use Rattle.entry.specs.Model.{no_entry}
use Rattle.entry.specs.View.{view_entry, EntryHeld}
use Rattle.entry.proofs.Determined as Entries
use Rattle.queue.proofs.Determined.{all_determined}
use Rattle.board.specs.declared.Board.{Board}
use Rattle.board_means.specs.View.{entries_of, view_log, view_board, name_in, mask_in, Held}
use Rattle.board_means.proofs.Changes.{entries_length}

abbrev AllHeld : ℕ → List Entry → Type 0
AllHeld m es = (ind : ℕ) (e : Entry) → at es ind ≡ some e → EntryHeld m e

same_entries : (m : ℕ) (es fs : List Entry) → AllHeld m es → AllHeld m fs → view_log m es ≡ view_log m fs → es ≡ fs
same_entries m [] [] h k q = refl
same_entries m [] (f ∷ fs) h k q = let z : ◌≡◌ {A = ℕ} 0 1 = cc in absurd (omega arith)
same_entries m (e ∷ es) [] h k q = let z : ◌≡◌ {A = ℕ} 0 1 = cc in absurd (omega arith)
same_entries m (e ∷ es) (f ∷ fs) h k q =
    let first : view_entry m e ≡ view_entry m f = cc in
    let others : view_log m es ≡ view_log m fs = cc in
    let here = Entries.determined m e f (h 0 e refl) (k 0 f refl) first in
    let rest = same_entries m es fs (λ ind x a. h (suc ind) x a) (λ ind x a. k (suc ind) x a) others in
    λ i. here i ∷ rest i

-- an array is what it begins with and what lies behind
joined : {A : Type 0} (l r : List A) (n k : ℕ) → take n l ≡ take k r → drop n l ≡ drop k r → l ≡ r
joined l r n k a b = sym (take-append-drop n l) ∙ (λ i. a i ++ b i) ∙ take-append-drop k r

pub determined : (b c : Board) → Held b → Held c → view_board b ≡ view_board c → b ≡ c
unfolding view_board
determined b c h k e =
    let x = h.columns in
    let y = k.columns in
    let m : b.m ≡ c.m = ap (λ (v : B.Board). v.m) e in
    let logs : view_log b.m (entries_of b) ≡ view_log c.m (entries_of c) = ap (λ (v : B.Board). v.log) e in
    let entries : entries_of b ≡ entries_of c
    = same_entries b.m (entries_of b) (entries_of c) x.entries (λ ind a u. rw m (y.entries ind a u)) (logs ∙ (λ i. view_log (sym m i) (entries_of c))) in
    let len : b.len ≡ c.len = sym (entries_length b x) ∙ ap length entries ∙ entries_length c y in
    let log : b.log ≡ c.log = joined b.log c.log b.len c.len entries (x.log_rest ∙ (λ i. replicate (256 - len i) no_entry) ∙ sym y.log_rest) in
    let zeros : ◌≡◌ {A = List ℕ} (replicate (256 - b.len) 0) (replicate (256 - c.len) 0) = λ i. replicate (256 - len i) 0 in
    let names : b.names ≡ c.names = joined b.names c.names b.len c.len (x.names ∙ ap (map name_in) entries ∙ sym y.names) (x.name_rest ∙ zeros ∙ sym y.name_rest) in
    let touched : b.touched ≡ c.touched
    = joined b.touched c.touched b.len c.len (x.masks ∙ (λ i. map (mask_in (m i)) (entries i)) ∙ sym y.masks) (x.mask_rest ∙ zeros ∙ sym y.mask_rest) in
    let next : b.next ≡ c.next
    = ext_get_or 0 b.next c.next (x.clients ∙ sym y.clients) (λ client l. x.next client ∙ ap (λ (v : List B.Entry). next_number client (writes v)) logs ∙ sym (y.next client)) in
    let floor : b.floor ≡ c.floor = ext_get_or 0 b.floor c.floor (x.floors ∙ sym y.floors) (λ client l. ap (λ (v : B.Board). v.floor client) e) in
    let queues : b.queues ≡ c.queues = all_determined b.queues c.queues x.queues.eight y.queues.eight x.tidy y.tidy (ap (λ (v : B.Board). v.queue) e) in
    λ i.
    record {
      log = log i;
      len = len i;
      names = names i;
      touched = touched i;
      next = next i;
      floor = floor i;
      queues = queues i;
      n = (e i).n;
      m = (e i).m;
      own = (e i).own;
      started = (e i).started;
    }
