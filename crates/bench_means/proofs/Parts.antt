-- Bytes taken apart into records: nothing is skipped and no whole record is left; a record that stands at the front stands there whatever follows.
-- Assumes nothing.
use mathlib.Core.List.{List, [], ◌∷◌, ◌++◌, append_assoc}
use mathlib.Core.Path.{◌≡◌, refl, ap, sym, ◌∙◌}
use Prim.Native.Nat.{ℕ, zero, suc, ◌+◌, ◌-◌, ◌≤◌, ◌<◌}
use native.Mathlib.Omega.{arith}
use lib.Dec.{ltb, ltb→lt, nltb→le}
use lib.ListN.{length, take, drop, length-append, length-drop, get_or-append, take-append-drop}
use Rattle.rules.specs.Lists.{If◌then◌else◌}
use Rattle.rules.specs.Frames.{byte_at, two_at, back_to_back}
use Rattle.rules.proofs.Lists.{by}
use Rattle.records.specs.declared.Next.{Next}
use Rattle.records.specs.declared.Next.TheVariants.{Record, Need, Cut}
use Rattle.records.specs.Records.{next_of}
use Rattle.records.proofs.Records.{next_record, next_cut, record-inside}
use Rattle.bench_means.specs.Transcript.{Addressed, Parts, parts_by, parts_up_to, parts}
use Rattle.bench_means.specs.View.{NoRecord, before, record_bytes, joined}

-- ---- What stands at the front of some bytes

pub data Stands (s : List ℕ) : Next → Type 0 where
  short : length s < 3 → Stands s Need
  over : 3 ≤ length s → 36 < two_at s 1 → Stands s Cut
  part : 3 ≤ length s → two_at s 1 ≤ 36 → length s < 3 + two_at s 1 → Stands s Need
  whole : 3 ≤ length s → two_at s 1 ≤ 36 → 3 + two_at s 1 ≤ length s → Stands s (Record (byte_at s 0) (3 + two_at s 1))

stands : (s : List ℕ) → Stands s (next_of s)
unfolding next_of
stands s =
    by (Stands s) (ltb (length s) 3) (λ t. short (ltb→lt (length s) 3 t)) λ t.
    let three = nltb→le (length s) 3 t in
    by (Stands s) (ltb 36 (two_at s 1)) (λ u. over three (ltb→lt 36 (two_at s 1) u)) λ u.
    let few = nltb→le 36 (two_at s 1) u in
    by (Stands s) (ltb (length s) (3 + two_at s 1)) (λ v. part three few (ltb→lt (length s) (3 + two_at s 1) v)) λ v.
    whole three few (nltb→le (length s) (3 + two_at s 1) v)

-- the length is the same, whatever follows
same_length : (s later : List ℕ) → 3 ≤ length s → two_at (s ++ later) 1 ≡ two_at s 1
same_length s later h = rw (get_or-append s later 0 1 (omega arith), get_or-append s later 0 2 (omega arith))

-- a record at the front, or a length over 36, stands there whatever follows
abbrev Firm : (s : List ℕ) → Next → Type 0
Firm s (Record address end) = (later : List ℕ) → next_of (s ++ later) ≡ Record address end
Firm s Need = Unit {0}
Firm s Cut = (later : List ℕ) → next_of (s ++ later) ≡ Cut

firm : (s : List ℕ) (x : Next) → Stands s x → Firm s x
firm s Need (short a) = tt
firm s Need (part a b c) = tt
firm s Cut (over a b) = λ later.
    let l = length-append s later in
    next_cut (s ++ later) (omega arith) (rw (same_length s later a) b)
firm s (Record _ _) (whole a b c) = λ later.
    let l = length-append s later in
    let e = same_length s later a in
    next_record (s ++ later) (omega arith) (rw e b) (rw e (omega arith))
    ∙ rw (e, get_or-append s later 0 0 (omega arith))

pub record-firm : (s later : List ℕ) (address end : ℕ) → next_of s ≡ Record address end → next_of (s ++ later) ≡ Record address end
record-firm s later address end e = let f : Firm s (Record address end) = rw e at (firm s (next_of s) (stands s)) in f later

pub cut_firm : (s later : List ℕ) → next_of s ≡ Cut → next_of (s ++ later) ≡ Cut
cut_firm s later e = let f : Firm s Cut = rw e at (firm s (next_of s) (stands s)) in f later

-- less than a record has at most 38 bytes, so an input area of 64 KB has room for more behind it
few_by : (s : List ℕ) (x : Next) → Stands s x → x ≡ Need → length s < 39
few_by s Need (short a) e = omega arith
few_by s Need (part a b c) e = omega arith
few_by s Cut (over a b) e = let z : ◌≡◌ {A = ℕ} 0 1 = cc in absurd (omega arith)
few_by s (Record _ _) (whole a b c) e = let z : ◌≡◌ {A = ℕ} 0 1 = cc in absurd (omega arith)

pub need_few : (s : List ℕ) → next_of s ≡ Need → length s < 39
need_few s e = few_by s (next_of s) (stands s) e

-- ---- Record by record

-- the record at the front
abbrev pub first_of : (s : List ℕ) (address end : ℕ) → Addressed
first_of s address end = record { address = address; frame = take (end - 1) (drop 1 s) }

of_none : (most : ℕ) → parts_up_to most [] ≡ record { records = []; left = [] }
unfolding parts_up_to parts_by next_of If◌then◌else◌
of_none zero = refl
of_none (suc most) = refl

same_by :
    (s : List ℕ) (x : Next) → next_of s ≡ x → (f g : List ℕ → Parts) →
    ((end : ℕ) → 3 ≤ end → end ≤ length s → f (drop end s) ≡ g (drop end s)) → parts_by s x f ≡ parts_by s x g
unfolding parts_by
same_by s (Record address end) e f g same =
    let i = record-inside s address end e in
    ap (λ (rest : Parts). record { records = first_of s address end ∷ rest.records; left = rest.left }) (same end i.0 i.1)
same_by s Need e f g same = refl
same_by s Cut e f g same = refl

-- more turns than bytes change nothing
enough : (a b : ℕ) (s : List ℕ) → length s ≤ a → length s ≤ b → parts_up_to a s ≡ parts_up_to b s
unfolding parts_up_to
enough zero b [] l k = sym (of_none b)
enough zero b (x ∷ s) l k = absurd (omega arith)
enough (suc a) zero [] l k = of_none (suc a)
enough (suc a) zero (x ∷ s) l k = absurd (omega arith)
enough (suc a) (suc b) s l k =
    same_by s (next_of s) refl (parts_up_to a) (parts_up_to b)
    (λ end lo hi. let d = length-drop end s in enough a b (drop end s) (omega arith) (omega arith))

pub parts_record : (s : List ℕ) (address end : ℕ) → next_of s ≡ Record address end → parts s ≡ before (first_of s address end ∷ []) (parts (drop end s))
unfolding parts_up_to parts_by before
parts_record [] address end e = let i = record-inside [] address end e in absurd (omega arith)
parts_record (x ∷ s) address end e =
    let i = record-inside (x ∷ s) address end e in
    let d = length-drop end (x ∷ s) in
    ap (λ (next : Next). parts_by (x ∷ s) next (parts_up_to (length s))) e
    ∙ ap (before (first_of (x ∷ s) address end ∷ [])) (enough (length s) (length (drop end (x ∷ s))) (drop end (x ∷ s)) (omega arith) (omega arith))

none_by : (s : List ℕ) (x : Next) (more : List ℕ → Parts) → NoRecord x → parts_by s x more ≡ record { records = []; left = s }
unfolding parts_by
none_by s (Record address end) more e = absurd e
none_by s Need more e = refl
none_by s Cut more e = refl

pub parts_none : (s : List ℕ) → NoRecord (next_of s) → parts s ≡ record { records = []; left = s }
unfolding parts_up_to
parts_none [] e = refl
parts_none (x ∷ s) e = none_by (x ∷ s) (next_of (x ∷ s)) (parts_up_to (length s)) e

-- ---- All records

left_by : (s : List ℕ) (x : Next) (more : List ℕ → Parts) → next_of s ≡ x → ((end : ℕ) → 3 ≤ end → end ≤ length s → NoRecord (next_of (more (drop end s)).left))
    → NoRecord (next_of (parts_by s x more).left)
unfolding parts_by
left_by s (Record address end) more e ih = let i = record-inside s address end e in ih end i.0 i.1
left_by s Need more e ih = rw e tt
left_by s Cut more e ih = rw e tt

left_of_lem : (most : ℕ) (s : List ℕ) → length s ≤ most → NoRecord (next_of (parts_up_to most s).left)
unfolding parts_up_to next_of If◌then◌else◌
left_of_lem zero [] l = tt
left_of_lem zero (x ∷ s) l = absurd (omega arith)
left_of_lem (suc most) s l =
    left_by s (next_of s) (parts_up_to most) refl (λ end lo hi. let d = length-drop end s in left_of_lem most (drop end s) (omega arith))

-- no whole record is left
pub none_left : (s : List ℕ) → NoRecord (next_of (parts s).left)
none_left s = left_of_lem (length s) s (omega arith)

-- a record's bytes, and those behind it
first_and_rest : (s : List ℕ) (more : ℕ) → 1 + more ≤ length s → record_bytes (record { address = byte_at s 0; frame = take more (drop 1 s) }) ++ drop (1 + more) s ≡ s
first_and_rest [] more l = absurd (omega arith)
first_and_rest (x ∷ s) more l =
    let e : 1 + more ≡ suc more = omega arith in
    ap (λ (k : ℕ). x ∷ take more s ++ drop k (x ∷ s)) e ∙ ap (λ (t : List ℕ). x ∷ t) (take-append-drop more s)

joined_by : (s : List ℕ) (x : Next) → Stands s x → (more : List ℕ → Parts) → ((end : ℕ) → 3 ≤ end → end ≤ length s → joined (more (drop end s)) ≡ drop end s)
    → joined (parts_by s x more) ≡ s
unfolding parts_by joined
joined_by s Need (short a) more ih = refl
joined_by s Need (part a b c) more ih = refl
joined_by s Cut (over a b) more ih = refl
joined_by s (Record _ _) (whole a b c) more ih =
    let end : ℕ = 3 + two_at s 1 in
    let e : 1 + (end - 1) ≡ end = omega arith in
    append_assoc (record_bytes (first_of s (byte_at s 0) end)) (back_to_back record_bytes (more (drop end s)).records) (more (drop end s)).left
    ∙ ap (λ (t : List ℕ). record_bytes (first_of s (byte_at s 0) end) ++ t) (ih end (omega arith) c)
    ∙ ap (λ (k : ℕ). record_bytes (first_of s (byte_at s 0) end) ++ drop k s) (sym e)
    ∙ first_and_rest s (end - 1) (omega arith)

joined_up_to : (most : ℕ) (s : List ℕ) → joined (parts_up_to most s) ≡ s
unfolding parts_up_to joined
joined_up_to zero s = refl
joined_up_to (suc most) s = joined_by s (next_of s) (stands s) (parts_up_to most) (λ end lo hi. joined_up_to most (drop end s))

-- nothing is skipped
pub all_there : (s : List ℕ) → joined (parts s) ≡ s
all_there s = joined_up_to (length s) s
