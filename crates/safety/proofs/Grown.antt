-- A log grows by one entry: a client's next invocation at the head, or what the board before has next. The logs stay prefixes of their
-- predecessors, and a client's entries its first invocations.
-- Assumes nothing.
use mathlib.Core.Path.{◌≡◌, refl, ap, ◌∙◌}
use mathlib.Core.List.{List}
use mathlib.Core.Option.{some}
use Prim.Native.Nat.{ℕ, suc, ◌≤◌}
use native.Mathlib.Omega.{arith}
use lib.ListN.{length, length-map}
use Rattle.rules.specs.Lists.{at, snoc, changed}
use Rattle.rules.specs.Transactions.{Write}
use Rattle.rules.specs.Frames.{Frame}
use Rattle.rules.specs.Board.{Entry, writes, next_number, new_entry}
use Rattle.rules.specs.Shard.{Shard}
use Rattle.rules.specs.Kept.{of_client}
use Rattle.rules.proofs.Kept.{writes_snoc}
use Rattle.safety.specs.World.{board, Packet, ReplyTaken}
use Rattle.safety.specs.Claim.{invocations}
use Rattle.safety.specs.Machine.{From, from_client, from_board}
use Rattle.safety.proofs.Lists.{Changed, there, elsewhere, changed_cases, changed_map, Under, under_snoc, at_snoc_old, all_map}
use Rattle.safety.proofs.Numbered.{next_first}
use Rattle.safety.proofs.Flight.{flies_map}
use Rattle.safety.proofs.Invariant.{Logs, Past, RightTo, asked, logged, heard, ended, Core, logs_of}
use Rattle.safety.proofs.Growth.{right_grows, shard_grows, reply_grows}

-- where a new write came from
pub data Source (L : Logs) (H : Past) (i : ℕ) (w : Write) : Type 0 where
  first : i ≡ 1 → w.number ≡ next_number w.client (L i) → at (H w.client) w.number ≡ some w.operations → Source L H i w
  later : (j : ℕ) → i ≡ suc j → 1 ≤ j → at (L j) (length (L i)) ≡ some w → Source L H i w

pub source : (n m : ℕ) (E : ℕ → List Entry) (H : Past) (i : ℕ) (w : Write) (f : Frame) → RightTo n m (logs_of E) H (board i) f → From i (E i) w f → Source (logs_of E) H i w
source n m E H _ w _ (asked _ _ r) (from_client a h num) = first h (omega (arith, num)) r
source n m E H _ w _ (logged i _ _ _ x z r) (from_board ind a h l) =
    let d : ind ≡ length (writes (E (suc i))) = omega (arith, l, length-map (E (suc i)) (λ (e : Entry). e.write)) in later i refl x (rw d at r)
source n m E H i w _ (heard _ j ind rs _ _ _ _ _) new = elim new [ ]
source n m E H i w _ (ended _ ind rs _ _ _ _ _) new = elim new [ ]

module _ (L : Logs) (i : ℕ) (w : Write) where
  pub more : Logs
  more = changed L i (snoc (L i) w)

  abbrev Log : ℕ → Type 0
  Log j = Changed L i (snoc (L i) w) j (more j)

  more_log : (j : ℕ) → Log j
  unfolding more
  more_log j = changed_cases L i (snoc (L i) w) j

  pub more_grows : (j : ℕ) → Under (L j) (more j)
  more_grows j p x k = go (more_log j)
    where
      go : Log j → at (more j) p ≡ some x
      go (there h q) = let a : at (L i) p ≡ some x = cc in rw q (at_snoc_old (L i) w p x a)
      go (elsewhere h q) = rw q k

  more_chain : (H : Past) → ((j : ℕ) → 1 ≤ j → Under (L (suc j)) (L j)) → Source L H i w → (j : ℕ) → 1 ≤ j → Under (more (suc j)) (more j)
  more_chain H chain s j l = go s (more_log (suc j)) (more_log j)
    where
      go : Source L H i w → Log (suc j) → Log j → Under (more (suc j)) (more j)
      go s (there a _) (there b _) = absurd (omega arith)
      go (first h y k) (there a _) (elsewhere b _) = absurd (omega arith)
      go (later z h u k) (there a q) (elsewhere b r) =
          let n : Under (L i) (L j) = rw (← a) (chain j l) in
          let y : z ≡ j = omega arith in
          rw (q, r) (under_snoc (L i) (L j) w n (cc))
      go s (elsewhere a q) (there b r) = λ p x k.
          let n : at (L i) p ≡ some x = chain i (omega arith) p x (cc) in
          rw r (at_snoc_old (L i) w p x n)
      go s (elsewhere a q) (elsewhere b r) = rw (q, r) (chain j l)

  more_firsts : (H : Past) → ((c : ℕ) → Under (of_client c (L 1)) (invocations c 0 (H c))) → Source L H i w
      → (c : ℕ) → Under (of_client c (more 1)) (invocations c 0 (H c))
  more_firsts H firsts s c = go s (more_log 1)
    where
      go : Source L H i w → Log 1 → Under (of_client c (more 1)) (invocations c 0 (H c))
      go (first a num r) (there b q) =
          let e : snoc (L i) w ≡ snoc (L 1) w = ap (λ k. snoc (L k) w) a in
          rw (q, e) (next_first c (H c) (L 1) w (firsts c) (λ d. rw (a, d) at num) (λ d. rw d at r))
      go (later z a u r) (there b q) = absurd (omega arith)
      go s (elsewhere b q) = rw q (firsts c)

module _ {n m : ℕ} {H : Past} {shards : ℕ → Shard} {replies : List ReplyTaken} {sent : List Packet} where
  pub grow_core : (L : Logs) (i : ℕ) (w : Write) → Core n m L H shards replies sent → Source L H i w → Core n m (more L i w) H shards replies sent
  grow_core L i w c s =
      record {
        chain = more_chain L i w H c.chain s;
        firsts = more_firsts L i w H c.firsts s;
        groups = λ j. shard_grows m (L n) (more L i w n) (more_grows L i w n) j (shards j) (c.groups j);
        flight = flies_map (right_grows (more_grows L i w) (λ d p x h. h)) sent c.flight;
        answers = all_map (reply_grows (L n) (more L i w n) (more_grows L i w n)) replies c.answers;
      }

-- the entries of a board, with one more
pub grown_logs : (E : ℕ → List Entry) (i m : ℕ) (w : Write) → logs_of (changed E i (snoc (E i) (new_entry m w))) ≡ more (logs_of E) i w
unfolding more new_entry
grown_logs E i m w =
    changed_map writes E i (snoc (E i) (new_entry m w)) ∙ ap (λ (l : List Write). changed (logs_of E) i l) (writes_snoc (E i) (new_entry m w))
