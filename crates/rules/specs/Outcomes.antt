-- What a start or a step gives.
-- Assumes nothing.
use Rattle.std.specs.Prelude.{Bool, not, ◌||◌, List, [], ◌++◌, ℕ, length, drop}
use Rattle.rules.specs.Lists.{◌<?◌}
use Rattle.rules.specs.Answers.{done}
use Rattle.rules.specs.Frames.{Frame, encode, back_to_back}

-- the answer, the state as it then stands, and the frames sent, in order
pub record Outcome (State : Type 0) : Type 0 where
  pub answer : ℕ
  pub state : State
  pub frames : List Frame

-- "Answer 0 means the step was taken"
unfoldable pub taken : {State : Type 0} → State → List Frame → Outcome State
taken state frames = record { answer = done; state = state; frames = frames }

-- "A refusal returns its number, counts 0 .., leaves the state as before and writes no byte of the out area"
unfoldable pub refuse : {State : Type 0} → ℕ → State → Outcome State
refuse number state = record { answer = number; state = state; frames = [] }

-- "its frames stand back to back ..
abbrev pub sent_bytes : List Frame → List ℕ
sent_bytes frames = back_to_back encode frames

-- .. from the first byte of the out area, the other bytes are untouched"
abbrev pub out_after : List Frame → List ℕ → List ℕ
out_after frames out = sent_bytes frames ++ drop (length (sent_bytes frames)) out

-- "and the counts of frames and bytes are returned"; of a refusal both are 0
abbrev pub frame_count : {State : Type 0} → Outcome State → ℕ
frame_count o = length o.frames

abbrev pub byte_count : {State : Type 0} → Outcome State → ℕ
byte_count o = length (sent_bytes o.frames)

-- "An out area must have at least 68 bytes; no step sends more (the worst: four shards, one operation each, 4 × 17 bytes)";
-- that no step does is the law room of Sent in proofs/Room, which every Good step has
abbrev pub least_out : ℕ
least_out = 68

-- refusal 11 of a step: "another call on a state whose start was refused; out area under 68 bytes"
abbrev pub unusable : Bool → ℕ → Bool
unusable started out = not started || out <? least_out
