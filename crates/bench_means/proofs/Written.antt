-- THE PROGRAM WRITES THE TRANSCRIPT of what it reads, whatever each read gives: the lines that its turns write are those of 01's bench program. Of the
-- program what specs/Program says; of its functions what their promises say.
-- Assumes nothing.
use mathlib.Core.Bool.{Bool, true, false}
use mathlib.Core.List.{List, [], ◌∷◌, ◌++◌, append_assoc, append-nil}
use mathlib.Core.Path.{◌≡◌, refl, ap, sym, ◌∙◌}
use Prim.Native.Nat.{ℕ, zero, suc, ◌+◌, ◌*◌, ◌-◌, ◌≤◌, ◌<◌}
use native.Mathlib.Omega.{arith}
use lib.Dec.{T}
use lib.ListN.{length, take, drop, get_or, length-append, length-drop}
use lib.Seq.{drop-append-le}
use Rattle.rules.specs.Lists.{If◌then◌else◌}
use Rattle.rules.specs.Board as B
use Rattle.rules.specs.Board.{is_exe}
use Rattle.frames.specs.View.{Bytes}
use Rattle.lines.specs.Text.{header_line, l_line, cut_line, setup_line}
use Rattle.entry.specs.declared.Entry.{Entry}
use Rattle.entry.specs.View.{write_of, view_entry}
use Rattle.board.specs.declared.Board.{Board}
use Rattle.board_means.specs.View.{view_board, view_log}
use Rattle.records.specs.declared.Next.{Next}
use Rattle.records.specs.declared.Next.TheVariants.{Record, Need, Cut}
use Rattle.records.specs.Records.{usable_of, next_of}
use Rattle.delivery.specs.declared.Register.{Register}
use Rattle.delivery.specs.Register.{board_at_start, register_of}
use Rattle.delivery.specs.Delivery.{Run, delivered}
use Rattle.delivery.specs.Logs.{log_text, log_lines}
use Rattle.bench_means.specs.Transcript.{Park, Parts, after, d_lines, entry_lines, board_lines, l_lines, cut_before, fresh, lines, transcript}
use Rattle.bench_means.specs.View.{Means, NoRecord, Done, last_index}
use Rattle.bench_means.specs.Program.{Piece, bytes_of, room, put_logs, put_cut, Between, turn_end, turns_of, written}
use Rattle.bench_means.proofs.Starts.{start_means}
use Rattle.bench_means.proofs.Parts.{cut_firm, parts_none}
use Rattle.bench_means.proofs.Deliveries.{bytes_front, bytes_drop, delivered_means, goes_on}
use Rattle.bench_means.proofs.Pieces.{pieces}

-- ---- The ends

no_record_more : (p : Park) (index : ℕ) (s : List ℕ) → NoRecord (next_of s) → lines p index s ≡ cut_before s ++ l_lines p
unfolding lines
no_record_more p index s none = ap (λ (y : Parts). d_lines p index y.records ++ (cut_before y.left ++ l_lines (after p y.records))) (parts_none s none)

cut_some : (s : List ℕ) → next_of s ≡ Cut → cut_before s ≡ cut_line
unfolding next_of If◌then◌else◌
cut_some [] e = let z : ◌≡◌ {A = ℕ} 0 1 = cc in absurd (omega arith)
cut_some (x ∷ s) e = refl

cut_here : (p : Park) (index : ℕ) (s later : List ℕ) → next_of s ≡ Cut → lines p index (s ++ later) ≡ cut_line ++ l_lines p
cut_here p index s later e =
    let f = cut_firm s later e in
    no_record_more p index (s ++ later) (rw f tt) ∙ ap (λ (t : List ℕ). t ++ l_lines p) (cut_some (s ++ later) f)

-- ---- The logs

entries_lines : (board ind m : ℕ) (es : List Entry) → log_text board ind es ≡ entry_lines board ind (view_log m es)
unfolding view_entry write_of
entries_lines board ind m [] = refl
entries_lines board ind m (e ∷ es) =
    λ i. l_line board ind e.client e.number (exe e.exe i) ++ entries_lines board (ind + 1) m es i
  where
    exe : (t : Bool) → t ≡ is_exe (If t then B.EXE else B.PRE)
    exe true = unfold If◌then◌else◌ in refl
    exe false = unfold If◌then◌else◌ in refl

board_lines_lem : (board : ℕ) (b : Board) → log_lines board b room ≡ entry_lines board 0 (view_board b).log
unfolding log_lines view_board If◌then◌else◌
board_lines_lem board b = entries_lines board 0 b.m (take b.len b.log)

logs_mean : (r : Register) (p : Park) → Means r p → (place more : ℕ) → place + more ≤ 8 → put_logs r place more ≡ board_lines p (place + 1) more
logs_mean r p h place zero l = refl
logs_mean r p h place (suc more) l =
    let b : Board = get_or r.boards place (board_at_start 0 0 0) in
    (λ i. board_lines_lem (place + 1) b i ++ logs_mean r p h (place + 1) more (omega arith) i)
    ∙ ap (λ (x : B.Board). entry_lines (place + 1) 0 x.log ++ board_lines p (place + 1 + 1) more) (h.boards.each place (omega arith)).view

pub put_logs_lem : (r : Register) (p : Park) → Means r p → put_logs r 0 r.n ≡ l_lines p
put_logs_lem r p h = ap (put_logs r 0) h.n ∙ logs_mean r p h 0 p.n (omega (arith, h.few))

-- ---- The program

same_cut : (left : List ℕ) → put_cut left ≡ cut_before left
same_cut [] = refl
same_cut (x ∷ left) = refl

-- a turn's end writes the lines of the bytes that are left and of the pieces to come, if the turns behind it do
end_writes :
    (run : Run) (left : List ℕ) (x : Next) → next_of left ≡ x → (p : Park) → Means run.register p → (xs : List Piece) (more : Between → List Piece → List ℕ) →
    ((address end : ℕ) → x ≡ Record address end → more (record { register = run.register; index = run.index; bytes = left }) xs ≡ lines p run.index (left ++ bytes_of xs)) →
    ((y : Piece) (ys : List Piece) → xs ≡ y ∷ ys →
    more (record { register = run.register; index = run.index; bytes = left ++ y.first ∷ y.others }) ys ≡ lines p run.index (left ++ y.first ∷ y.others ++ bytes_of ys)) →
    turn_end run left x xs more ≡ lines p run.index (left ++ bytes_of xs)
unfolding turn_end
end_writes run left (Record address end) e p h xs more again reading = again address end refl
end_writes run left Need e p h [] more again reading =
    (λ i. same_cut left i ++ put_logs_lem run.register p h i)
    ∙ sym (no_record_more p run.index left (rw e tt))
    ∙ ap (lines p run.index) (sym (append-nil left))
end_writes run left Need e p h (y ∷ ys) more again reading =
    reading y ys refl ∙ ap (lines p run.index) (append_assoc left (y.first ∷ y.others) (bytes_of ys))
end_writes run left Cut e p h xs more again reading =
    ap (λ (t : List ℕ). cut_line ++ t) (put_logs_lem run.register p h) ∙ sym (cut_here p run.index left (bytes_of xs) e)

-- a delivery that leaves a record at the front has taken one
some_taken : (r : Register) (index : ℕ) (s : List ℕ) → index < last_index → (address end : ℕ) → next_of (drop (delivered r index s room).taken s) ≡ Record address end
    → 1 ≤ (delivered r index s room).taken
some_taken r index s few address end e = by_count (delivered r index s room).taken refl
  where
    by_count : (k : ℕ) → (delivered r index s room).taken ≡ k → 1 ≤ (delivered r index s room).taken
    by_count zero z =
        let f : next_of s ≡ Record address end = rw z at e in
        absurd (omega (arith, goes_on r index s room address end f (omega arith) few))
    by_count (suc k) z = omega arith

-- the turns write the lines of the bytes at hand and of the pieces to come, where there are turns and indices enough: each turn takes a record or a piece
turns_write :
    (most : ℕ) (b : Between) (p : Park) (xs : List Piece) → Means b.register p → Bytes (b.bytes ++ bytes_of xs) →
    length b.bytes + 2 * length (bytes_of xs) < most → b.index + length b.bytes + length (bytes_of xs) < last_index →
    turns_of most b xs ≡ lines p b.index (b.bytes ++ bytes_of xs)
unfolding turns_of
turns_write zero b p xs h bytes turns few = absurd (omega arith)
turns_write (suc most) b p xs h bytes turns few =
    let run : Run = delivered b.register b.index b.bytes room in
    let left : List ℕ = drop run.taken b.bytes in
    let d : Done b.register p b.index b.bytes run = delivered_means b.register p b.index b.bytes room h (bytes_front b.bytes (bytes_of xs) bytes) in
    let l : length left ≡ length b.bytes - run.taken = length-drop run.taken b.bytes in
    let here : Bytes (left ++ bytes_of xs) =
    rw (drop-append-le run.taken b.bytes (bytes_of xs) d.inside) at (bytes_drop run.taken (b.bytes ++ bytes_of xs) bytes) in
    ap (λ (t : List ℕ). run.text ++ t)
    (end_writes run left (next_of left) refl (after p d.done) d.means xs (turns_of most)
    (λ address end e.
    let some = some_taken b.register b.index b.bytes (omega arith) address end e in
    turns_write most (record { register = run.register; index = run.index; bytes = left }) (after p d.done) xs d.means here
    (omega (arith, d.inside)) (omega (arith, d.index, d.fewer, d.inside)))
    (λ y ys e.
    let piece : List ℕ = y.first ∷ y.others in
    let n = length-append left piece in
    let c : length (bytes_of xs) ≡ suc (length y.others) + length (bytes_of ys) = rw e (omega (arith, length-append piece (bytes_of ys))) in
    let there : Bytes (left ++ piece ++ bytes_of ys) = rw (append_assoc left piece (bytes_of ys)) (rw e at here) in
    turns_write most (record { register = run.register; index = run.index; bytes = left ++ piece }) (after p d.done) ys d.means
    there
    (omega (arith, d.inside)) (omega (arith, d.index, d.fewer, d.inside))))
    ∙ sym (pieces b.register p b.index b.bytes run d (bytes_of xs))

if_same : {A : Type 0} (t : Bool) (x y z : A) → (T t → x ≡ y) → (If t then x else z) ≡ (If t then y else z)
unfolding If◌then◌else◌
if_same true x y z e = e tt
if_same false x y z e = refl

-- For the first bytes that are there, two or all that there are, and the pieces behind them. Of an input of 2^63 bytes or more nothing is said.
pub writes : (head : List ℕ) (xs : List Piece) → length head ≤ 2 → (length head < 2 → bytes_of xs ≡ []) → Bytes (bytes_of xs) → 2 * length (bytes_of xs) < last_index
    → written head xs ≡ transcript (head ++ bytes_of xs)
unfolding written transcript
writes [] xs two none bytes few = rw (none (omega arith))
writes (n ∷ []) xs two none bytes few = rw (none (omega arith))
writes (n ∷ m ∷ []) xs two none bytes few =
    if_same (usable_of n m) _ _ setup_line (λ t.
    ap (λ (s : List ℕ). header_line n m ++ s)
    (turns_write last_index (record { register = register_of n m; index = 0; bytes = [] }) (fresh n m) xs (start_means n m t) bytes (omega arith) (omega arith)))
writes (n ∷ m ∷ k ∷ rest) xs two none bytes few = absurd (omega arith)
