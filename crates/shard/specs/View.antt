-- What a group's record means in the rules' words, and what every start gives and every step keeps.
-- Assumes nothing.
use Rattle.std.specs.Prelude.{◌≡◌, false, ◌&&◌, List, map, ℕ, T, length}
use Rattle.std.proofs.Math.Option.{Option, none, some}
use Rattle.rules.specs.Lists.{If◌then◌else◌, within}
use Rattle.rules.specs.Transactions.{Read, Store}
use Rattle.rules.specs.Transactions as R
use Rattle.rules.specs.Outcomes.{frame_count, byte_count, out_after}
use Rattle.rules.specs.Shard as S
use Rattle.rules.specs.Kept.{ShardKept}
use Rattle.frames.specs.declared.Items.{Items}
use Rattle.frames.specs.View.{view_last, read_item, filled}
use Rattle.shard.specs.declared.Cell.{Cell}
use Rattle.shard.specs.declared.Shard.{Shard}
use Rattle.shard.specs.Model.{Started, Stepped, absent, cell_at}

-- "A key never put is absent"
unfoldable pub view_cell : Cell → Option R.Cell
view_cell c = If c.present then some (record { value = c.value; ind = c.log_number }) else none

unfoldable pub view_store : List Cell → Store
view_store cells = λ key. view_cell (cell_at cells key)

unfoldable pub view_shard : Shard → S.Shard
view_shard s =
    record { started = s.started; m = s.m; own = s.own; store = view_store s.cells; ssn = s.ssn; last_run = view_last s.last_run }

-- the record of some reads, as ExecNotif carries them
unfoldable pub reads_record : List Read → Items
reads_record rs = record { count = length rs; items = filled 4 (map read_item rs) }

-- What every start gives and every step keeps: the cells are all there, the setup is one that starts, what is absent is zero, and
-- the rules' own values are kept.
pub record Held (s : Shard) : Type 0 where
  pub size : length s.cells ≡ 256
  pub setup : T s.started → T (within 1 8 s.m && within 1 s.m s.own)
  pub blank : (key : ℕ) → (cell_at s.cells key).present ≡ false → cell_at s.cells key ≡ absent
  pub kept : ShardKept (view_shard s)

-- What a start means: it is held, and it is the rules' start.
pub record StartMeans (m own : ℕ) (r : Started) : Type 0 where
  pub held : Held r.shard
  pub answer : r.answer ≡ (S.start m own).answer
  pub state : view_shard r.shard ≡ (S.start m own).state

-- What a step of a group that is held means: it is held again, and it is the rules' step on what the group means: its answer, the group
-- as it then stands, the counts of frames and bytes, and every byte left in the out area.
pub record StepMeans (s : Shard) (given out : List ℕ) (r : Stepped) (left : List ℕ) : Type 0 where
  pub held : Held r.shard
  pub answer : r.answer ≡ (S.step (view_shard s) given (length out)).answer
  pub state : view_shard r.shard ≡ (S.step (view_shard s) given (length out)).state
  pub frames : r.frames ≡ frame_count (S.step (view_shard s) given (length out))
  pub bytes : r.bytes ≡ byte_count (S.step (view_shard s) given (length out))
  pub written : left ≡ out_after (S.step (view_shard s) given (length out)).frames out
