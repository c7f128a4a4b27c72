-- How each record that a C program lends, hands in or is handed lies in memory, as the machine has it. tests/c/ holds the C header to these
-- numbers, field by field in the order of the source.
-- Assumes nothing.
use mathlib.Core.Path.{refl}
use mathlib.Core.List.{[], ◌∷◌}
use Rattle.frames.proofs.Item.TheLaws as Item'
use Rattle.entry.proofs.Entry.TheLaws as Entry'
use Rattle.queue.proofs.Queue.TheLaws as Queue'
use Rattle.board.proofs.Board.TheLaws as Board'
use Rattle.shard.proofs.Cell.TheLaws as Cell'
use Rattle.shard.proofs.Shard.TheLaws as Shard'
use Rattle.window.proofs.Slot.TheLaws as Slot'
use Rattle.window.proofs.Window.TheLaws as Window'
use Rattle.session.proofs.Session.TheLaws as Session'
use Rattle.session.proofs.Asked.TheLaws as Asked'
use Rattle.session.proofs.Operations.TheLaws as Operations'
use Rattle.session.proofs.Sent.TheLaws as Sent'
use Rattle.session.proofs.Reply.TheLaws as Reply'
use Rattle.register.proofs.Stepped.TheLaws as Stepped'
use Rattle.register.specs.Memory.{Lies}

item_lies : Lies Item'.mir 8 4 (0 ∷ 1 ∷ 2 ∷ 4 ∷ []) (1 ∷ 1 ∷ 1 ∷ 4 ∷ [])
item_lies = record { size_is = refl; align_is = refl; offsets_are = refl; sizes_are = refl }

entry_lies : Lies Entry'.mir 80 4 (0 ∷ 2 ∷ 4 ∷ 8 ∷ 40 ∷ 44 ∷ 76 ∷ []) (1 ∷ 2 ∷ 1 ∷ 32 ∷ 1 ∷ 32 ∷ 1 ∷ [])
entry_lies = record { size_is = refl; align_is = refl; offsets_are = refl; sizes_are = refl }

queue_lies : Lies Queue'.mir 528 8 (0 ∷ 512 ∷ 520 ∷ []) (512 ∷ 8 ∷ 4 ∷ [])
queue_lies = record { size_is = refl; align_is = refl; offsets_are = refl; sizes_are = refl }

board_lies : Lies Board'.mir 26096 8 (0 ∷ 20480 ∷ 20484 ∷ 21508 ∷ 21764 ∷ 21828 ∷ 21864 ∷ 26088 ∷ 26089 ∷ 26090 ∷ 26091 ∷ []) (20480 ∷ 2 ∷ 1024 ∷ 256 ∷ 64 ∷ 32 ∷ 4224 ∷ 1 ∷ 1 ∷ 1 ∷ 1 ∷ [])
board_lies = record { size_is = refl; align_is = refl; offsets_are = refl; sizes_are = refl }

cell_lies : Lies Cell'.mir 8 4 (0 ∷ 4 ∷ 6 ∷ []) (4 ∷ 2 ∷ 1 ∷ [])
cell_lies = record { size_is = refl; align_is = refl; offsets_are = refl; sizes_are = refl }

shard_lies : Lies Shard'.mir 2060 4 (0 ∷ 2048 ∷ 2052 ∷ 2056 ∷ 2057 ∷ 2058 ∷ []) (2048 ∷ 2 ∷ 4 ∷ 1 ∷ 1 ∷ 1 ∷ [])
shard_lies = record { size_is = refl; align_is = refl; offsets_are = refl; sizes_are = refl }

slot_lies : Lies Slot'.mir 36 4 (0 ∷ 2 ∷ 4 ∷ []) (2 ∷ 1 ∷ 32 ∷ [])
slot_lies = record { size_is = refl; align_is = refl; offsets_are = refl; sizes_are = refl }

window_lies : Lies Window'.mir 292 4 (0 ∷ 4 ∷ []) (2 ∷ 288 ∷ [])
window_lies = record { size_is = refl; align_is = refl; offsets_are = refl; sizes_are = refl }

session_lies : Lies Session'.mir 296 4 (0 ∷ 292 ∷ 293 ∷ []) (292 ∷ 1 ∷ 1 ∷ [])
session_lies = record { size_is = refl; align_is = refl; offsets_are = refl; sizes_are = refl }

asked_lies : Lies Asked'.mir 8 4 (0 ∷ 1 ∷ 4 ∷ []) (1 ∷ 1 ∷ 4 ∷ [])
asked_lies = record { size_is = refl; align_is = refl; offsets_are = refl; sizes_are = refl }

operations_lies : Lies Operations'.mir 36 4 (0 ∷ 4 ∷ []) (1 ∷ 32 ∷ [])
operations_lies = record { size_is = refl; align_is = refl; offsets_are = refl; sizes_are = refl }

sent_lies : Lies Sent'.mir 16 8 (0 ∷ 2 ∷ 4 ∷ 8 ∷ []) (1 ∷ 2 ∷ 1 ∷ 8 ∷ [])
sent_lies = record { size_is = refl; align_is = refl; offsets_are = refl; sizes_are = refl }

reply_lies : Lies Reply'.mir 40 4 (0 ∷ 2 ∷ 4 ∷ 8 ∷ []) (1 ∷ 2 ∷ 1 ∷ 32 ∷ [])
reply_lies = record { size_is = refl; align_is = refl; offsets_are = refl; sizes_are = refl }

stepped_lies : Lies Stepped'.mir 16 8 (0 ∷ 1 ∷ 8 ∷ []) (1 ∷ 1 ∷ 8 ∷ [])
stepped_lies = record { size_is = refl; align_is = refl; offsets_are = refl; sizes_are = refl }
