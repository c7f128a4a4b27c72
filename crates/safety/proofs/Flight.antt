-- Frames in flight: a packet has the bytes of one frame only, so what is known of every frame sent is known of the frame that arrives.
-- Assumes nothing.
use mathlib.Core.Path.{◌≡◌, refl, sym, ap, ◌∙◌}
use mathlib.Core.List.{List, [], ◌∷◌, ◌++◌}
use mathlib.Core.Option.{some}
use Prim.Native.Nat.{ℕ}
use lib.Dec.{T}
use Rattle.rules.specs.Lists.{at, every}
use Rattle.rules.specs.Frames.{Frame, obeys, encode, decode}
use Rattle.rules.proofs.Lists.{and_l, and_r}
use Rattle.rules.proofs.Frames.{decode_encode}
use Rattle.safety.specs.World.{Address, recipient, Packet, posted}
use Rattle.safety.specs.Machine.{All}
use Rattle.safety.proofs.Lists.{all_at, all_map, all_append}

-- one of the frames sent, and whom it is for
pub record InFlight (sent : List Packet) (to : Address) (f : Frame) : Type 0 where
  pub which : ℕ
  pub stands : at sent which ≡ some (record { to = to; bytes = encode f })
  pub rules : T (obeys f)

-- a packet has the bytes of a frame that obeys the rules, and of which R is known
pub record Flies (R : Address → Frame → Type 0) (p : Packet) : Type 0 where
  pub frame : Frame
  pub bytes : p.bytes ≡ encode frame
  pub rules : T (obeys frame)
  pub right : R p.to frame

pub arrives : (R : Address → Frame → Type 0) (sent : List Packet) (to : Address) (f : Frame) → All (Flies R) sent → InFlight sent to f → R to f
arrives R sent to f a x =
    let y = all_at (Flies R) sent x.which (record { to = to; bytes = encode f }) x.stands a in
    let e : some y.frame ≡ some f = sym (decode_encode y.frame y.rules) ∙ (ap decode (sym y.bytes) ∙ decode_encode f x.rules) in
    let d : y.frame ≡ f = cc in
    rw (← d) y.right

pub flies_map : {R Q : Address → Frame → Type 0} → ((to : Address) (f : Frame) → R to f → Q to f) → (sent : List Packet) → All (Flies R) sent → All (Flies Q) sent
flies_map h = all_map (λ p x. record { frame = x.frame; bytes = x.bytes; rules = x.rules; right = h p.to x.frame x.right })

-- what is known of each frame of a step is known of what it posts, and of all that is then in flight
pub posted_fly : (R : Address → Frame → Type 0) (n i : ℕ) (fs : List Frame) → All (λ f. R (recipient n i f) f) fs → T (every obeys fs) → All (Flies R) (posted n i fs)
posted_fly R n i [] a t = tt
posted_fly R n i (f ∷ fs) a t =
    (record { frame = f; bytes = refl; rules = and_l (obeys f) (every obeys fs) t; right = a.0 }, posted_fly R n i fs a.1 (and_r (obeys f) (every obeys fs) t))

pub more_fly : (R : Address → Frame → Type 0) (sent : List Packet) (n i : ℕ) (fs : List Frame) → All (Flies R) sent → All (λ f. R (recipient n i f) f) fs → T (every obeys fs)
    → All (Flies R) (sent ++ posted n i fs)
more_fly R sent n i fs a b t = all_append (Flies R) sent (posted n i fs) a (posted_fly R n i fs b t)
