-- Of which board of the rules the parts are that frames are sent from, and what was sent in the rules' words.
-- Assumes nothing.
use Rattle.std.specs.Prelude.{◌≡◌, List, map, ℕ, ◌≤◌, ◌<◌, T, length, take}
use Rattle.rules.specs.Lists.{has}
use Rattle.rules.specs.Transactions.{touches}
use Rattle.rules.specs.Frames as F
use Rattle.rules.specs.Outcomes.{sent_bytes, out_after}
use Rattle.rules.specs.Board as B
use Rattle.entry.specs.declared.Entry.{Entry}
use Rattle.entry.specs.Model.{touched_of}
use Rattle.entry.specs.View.{set_of, view_entry, EntryHeld}
use Rattle.send.specs.declared.Sent.{Sent}

-- the set of shards that an entry touches
abbrev pub mask_of : ℕ → Entry → ℕ
mask_of m e = touched_of m e.count e.items

-- b is a board with these n, m and own number, whose log means the entries es; floor is that of e's client, and masks has the shards
-- that each of the entries touches. e stands at ind, as it now is.
pub record PartsOf (b : B.Board) (es : List Entry) (e : Entry) (n m own floor ind : ℕ) (masks : List ℕ) : Type 0 where
  pub n_is : b.n ≡ n
  pub m_is : b.m ≡ m
  pub own_is : b.own ≡ own
  pub floor_is : b.floor e.client ≡ floor
  pub log_is : b.log ≡ map (view_entry m) es
  pub masks_are : take (length es) masks ≡ map (mask_of m) es
  pub inside : ind < length es
  pub low : 1 ≤ m
  pub high : m ≤ 8
  pub held : EntryHeld m e
  -- the remaining shards are among those that it touches
  pub remains : (j : ℕ) → T (has j (set_of e.remaining)) → T (touches m j (view_entry m e).write.operations)

-- What was sent are these frames of the rules: "its frames stand back to back from the first byte of the out area, the other bytes are
-- untouched, and the counts of frames and bytes are returned".
pub record Means (gs : List F.Frame) (before after : List ℕ) (r : Sent) : Type 0 where
  pub frames : r.frames ≡ length gs
  pub bytes : r.bytes ≡ length (sent_bytes gs)
  pub out : after ≡ out_after gs before
