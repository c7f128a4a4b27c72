-- What a call comes to is the record at its return and what it answers. Here the one is taken off, and the two are put together again.
-- Assumes nothing.
use Rattle.std.specs.Prelude.{ℕ, Result, Ok, Err}
use Rattle.rules.specs.Answers.{done}
use Rattle.refusal.specs.declared.Refusal.{Refusal}
use Rattle.refusal.specs.Number.{number_of}
use Rattle.session.specs.declared.Session.{Session}
use Rattle.session.specs.declared.Sent.{Sent}
use Rattle.session.specs.declared.Reply.{Reply}
use Rattle.session.specs.Model.{Started, Submitted, Responded}
use Rattle.send.specs.declared.Sent.{Sent as BoardSent}
use Rattle.board.specs.declared.Board.{Board}
use Rattle.board.specs.Model.{Started as BoardStarted, Stepped as BoardStepped}
use Rattle.shard.specs.declared.Shard.{Shard}
use Rattle.shard.specs.Model.{Started as ShardStarted, Stepped as ShardStepped}
use Rattle.register.specs.declared.Stepped.{Stepped}

-- ---- A session

abbrev pub started : Session → ℕ → Started
started s answer = record { session = s; answer = answer }

abbrev pub submitted : Session → Sent → Submitted
submitted s sent = record { session = s; sent = sent }

abbrev pub responded : Session → Reply → Responded
responded s reply = record { session = s; reply = reply }

-- ---- A board

abbrev pub board_started : Board → ℕ → BoardStarted
board_started b answer = record { board = b; answer = answer }

abbrev pub board_answer : BoardStepped → Stepped
board_answer r = record { answer = r.answer; frames = r.frames; bytes = r.bytes }

abbrev pub board_stepped : Board → Stepped → BoardStepped
board_stepped b r = record { board = b; answer = r.answer; frames = r.frames; bytes = r.bytes }

-- ---- A shard group

abbrev pub shard_started : Shard → ℕ → ShardStarted
shard_started s answer = record { shard = s; answer = answer }

abbrev pub shard_answer : ShardStepped → Stepped
shard_answer r = record { answer = r.answer; frames = r.frames; bytes = r.bytes }

abbrev pub shard_stepped : Shard → Stepped → ShardStepped
shard_stepped s r = record { shard = s; answer = r.answer; frames = r.frames; bytes = r.bytes }

-- ---- A result

-- the answer that is handed over for a step's result: "Answer 0 means the step was taken"; of a refusal the counts are 0
abbrev pub shown : Result BoardSent Refusal → Stepped
shown (Ok sent) = record { answer = done; frames = sent.frames; bytes = sent.bytes }
shown (Err refusal) = record { answer = number_of refusal; frames = 0; bytes = 0 }
