-- The frames that an entry makes its board send, as values, and the out area laid from them: determined for every input.
-- What they mean in the rules' words is in View.
-- Assumes nothing.
use Rattle.std.specs.Prelude.{◌≡◌, Bool, ◌&&◌, List, [], ◌∷◌, ◌++◌, ℕ, zero, suc, ◌+◌, min, length, take, drop}
use Rattle.rules.specs.Lists.{If◌then◌else◌, ◌<?◌, ◌≤?◌, ◌=?◌}
use Rattle.rules.specs.Outcomes.{least_out}
use Rattle.frames.specs.declared.Item.{Item}
use Rattle.frames.specs.declared.Items.{Items}
use Rattle.frames.specs.declared.Frame.{Frame}
use Rattle.frames.specs.declared.Head.TheVariants.{Forward, ShardAppend, Executed, Response}
use Rattle.frames.specs.Frames.{frames_bytes}
use Rattle.entry.specs.declared.Entry.{Entry}
use Rattle.send.specs.declared.Sent.{Sent}
use Rattle.entry.specs.Model.{in_mask, part_on, reads_held}

-- ---- The out area

-- the frames' bytes, back to back
unfoldable pub bytes_of : List Frame → List ℕ
bytes_of fs = frames_bytes fs

-- the frames from the first byte on, the other bytes as they were
unfoldable pub laid : List Frame → List ℕ → List ℕ
laid fs out = bytes_of fs ++ drop (length (bytes_of fs)) out

-- these frames were sent: they are counted, and laid into the out area
pub record Sends (fs : List Frame) (before after : List ℕ) (r : Sent) : Type 0 where
  pub frames : r.frames ≡ length fs
  pub bytes : r.bytes ≡ length (bytes_of fs)
  pub out : after ≡ laid fs before

-- ---- The frames

-- how many of some entries, each given by the set of shards that it touches, touch a shard
abbrev pub count_in : ℕ → List ℕ → ℕ
count_in shard [] = 0
count_in shard (mask ∷ masks) = (If in_mask mask shard then 1 else 0) + count_in shard masks

-- no frame has more than four items
unfoldable pub forward_frame : Entry → ℕ → ℕ → Frame
forward_frame e floor ind =
    record { head = Forward ind e.client e.number (min floor e.number); list = record { count = min e.count 4; items = e.items } }

unfoldable pub backward_of : Entry → ℕ → ℕ → ℕ → Frame
backward_of e m own ind =
    If own =? 1 then record { head = Response e.client e.number; list = reads_held m e } else
    record { head = Executed ind; list = reads_held m e }

unfoldable pub append_frame : ℕ → ℕ → ℕ → Items → Frame
append_frame shard ind sn p = record { head = ShardAppend shard ind sn; list = p }

-- the shard remains, and has an operation
unfoldable pub goes : ℕ → ℕ → List Item → ℕ → ℕ → Bool
goes left count items m shard = in_mask left shard && 1 ≤? (part_on m shard count items).count

unfoldable pub append_at : ℕ → List Item → ℕ → ℕ → List ℕ → ℕ → Frame
append_at count items m ind masks shard = append_frame shard ind (count_in shard (take (ind + 1) masks)) (part_on m shard count items)

-- the ShardAppends to the shards up to one, rising
unfoldable pub appends_to : ℕ → ℕ → List Item → ℕ → ℕ → List ℕ → ℕ → List Frame
appends_to left count items m ind masks zero = []
appends_to left count items m ind masks (suc last) =
    appends_to left count items m ind masks last
    ++ (If goes left count items m (suc last) then append_at count items m ind masks (suc last) ∷ [] else [])

-- "if EXE, send Executed ..; else if i < n, send Forward; else send ShardAppend for each remaining shard, rising"
unfoldable pub onward_of : Entry → ℕ → ℕ → ℕ → ℕ → ℕ → List ℕ → List Frame
onward_of e n m own floor ind masks =
    If e.exe then backward_of e m own ind ∷ [] else
    If own <? n then forward_frame e floor ind ∷ [] else
    appends_to e.remaining e.count e.items m ind masks 8

-- without room for the longest nothing is sent
unfoldable pub send_parts : Entry → ℕ → ℕ → ℕ → ℕ → ℕ → List ℕ → ℕ → List Frame
send_parts e n m own floor ind masks room = If room <? least_out then [] else onward_of e n m own floor ind masks
