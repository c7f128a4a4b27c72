-- A register holds eight boards and eight shard groups.
-- Assumes nothing.
use mathlib.Core.Path.{◌≡◌}
use mathlib.Core.List.{List}
use lib.ListN.{length}
use mir.Val.{Val}
use denote.Laws.{Is}
use denote.Struct.Laws as LL
use Rattle.delivery.specs.declared.Register.{Register}
use Rattle.delivery.specs.contracts.Register as T
use Rattle.delivery.proofs.Register.TheLaws as T'

pub eight_boards : (r : Register) (vs : List Val) → Is T.the_row r vs → length r.boards ≡ 8
eight_boards r vs is = (LL.owed T.the_type T'.the_laws r vs is).1.1.0.1.0.1

pub eight_shards : (r : Register) (vs : List Val) → Is T.the_row r vs → length r.shards ≡ 8
eight_shards r vs is = (LL.owed T.the_type T'.the_laws r vs is).1.1.1.0.1.0.1
