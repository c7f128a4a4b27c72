-- What a bench input holds: records, each of an address byte and a frame.
-- Assumes nothing.
use Rattle.std.specs.Prelude.{Bool, ◌&&◌, List, ℕ, ◌+◌, ◌-◌, length}
use Rattle.rules.specs.Lists.{If◌then◌else◌, ◌<?◌, ◌≤?◌, within}
use Rattle.rules.specs.Frames.{byte_at, two_at}
use Rattle.records.specs.declared.Next.{Next}
use Rattle.records.specs.declared.Next.TheVariants.{Record, Need, Cut}
use Rattle.records.specs.declared.Receiver.{Receiver}
use Rattle.records.specs.declared.Receiver.TheVariants.{Board, Shard, Nobody}

-- "n (1 byte), m (1)"; "Bad or missing n or m: only `setup 11`"
abbrev pub usable_of : (n m : ℕ) → Bool
usable_of n m = within 2 8 n && within 1 8 m

-- "an address byte .. and a frame". A length over 36 is `cut`, whatever the address, and so is an input that ends within a record
unfoldable pub next_of : List ℕ → Next
next_of s =
    If length s <? 3 then Need else
    If 36 <? two_at s 1 then Cut else
    If length s <? 3 + two_at s 1 then Need else
    Record (byte_at s 0) (3 + two_at s 1)

-- "1..8 boards, 17..24 shards 1..8"; whoever is above n or m is nobody
unfoldable pub receiver_of : (n m address : ℕ) → Receiver
receiver_of n m address =
    If within 1 8 address && address ≤? n then Board (address - 1) else
    If within 17 24 address && address - 16 ≤? m then Shard (address - 17) else
    Nobody
