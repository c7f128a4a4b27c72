-- A run of a bench: what is delivered to whom, beside the answer and the bytes that must come out, and how boards and shard groups must then stand.
-- Assumes nothing.
use Rattle.std.specs.Prelude.{List, [], ◌∷◌, map, ℕ, zero, suc, ◌-◌}
use Rattle.std.proofs.Math.Option.{Option}
use Rattle.rules.specs.Lists.{If◌then◌else◌, within, snoc, changed}
use Rattle.rules.specs.Transactions.{Cell}
use Rattle.rules.specs.Outcomes.{Outcome, sent_bytes, least_out}
use Rattle.rules.specs.Queue.{Queue}
use Rattle.rules.specs.Board as B
use Rattle.rules.specs.Shard as S

-- address 1..8: a board, 17..24: shard groups 1..8
pub record Delivery : Type 0 where
  pub to : ℕ
  pub bytes : List ℕ
  pub answer : ℕ
  pub sent : List ℕ

-- a board at the end; floors of some clients, queues of shards 1 to m
pub record BoardAfter : Type 0 where
  pub log : List B.Entry
  pub floors : List ℕ
  pub queues : List Queue

-- a shard group at the end; what it has for some keys
pub record ShardAfter : Type 0 where
  pub ssn : ℕ
  pub last_run : Option ℕ
  pub cells : List (Option Cell)

-- n boards and m shard groups, fresh; the clients and the keys that are looked at afterwards
pub record Run : Type 0 where
  pub n : ℕ
  pub m : ℕ
  pub clients : List ℕ
  pub keys : List ℕ
  pub deliveries : List Delivery
  pub boards : List BoardAfter
  pub shards : List ShardAfter

-- ---- The same run, with what the rules give

pub record Bench : Type 0 where
  pub boards : ℕ → B.Board
  pub shards : ℕ → S.Shard
  pub done : List Delivery

-- 1, 2, .., k
unfoldable pub up_to : ℕ → List ℕ
up_to zero = []
up_to (suc k) = snoc (up_to k) (suc k)

unfoldable pub fresh : ℕ → ℕ → Bench
fresh n m = record { boards = λ i. (B.start n m i).state; shards = λ j. (S.start m j).state; done = [] }

unfoldable pub at_board : Bench → ℕ → Delivery → Outcome B.Board → Bench
at_board w i d o =
    record {
      boards = changed w.boards i o.state;
      shards = w.shards;
      done = snoc w.done (record { to = d.to; bytes = d.bytes; answer = o.answer; sent = sent_bytes o.frames });
    }

unfoldable pub at_shard : Bench → ℕ → Delivery → Outcome S.Shard → Bench
at_shard w j d o =
    record {
      boards = w.boards;
      shards = changed w.shards j o.state;
      done = snoc w.done (record { to = d.to; bytes = d.bytes; answer = o.answer; sent = sent_bytes o.frames });
    }

unfoldable pub deliver : Bench → Delivery → Bench
deliver w d =
    If within 1 8 d.to then at_board w d.to d (B.step (w.boards d.to) d.bytes least_out) else
    at_shard w (d.to - 16) d (S.step (w.shards (d.to - 16)) d.bytes least_out)

unfoldable pub deliver_all : Bench → List Delivery → Bench
deliver_all w [] = w
deliver_all w (d ∷ ds) = deliver_all (deliver w d) ds

unfoldable pub board_after : List ℕ → B.Board → BoardAfter
board_after clients b = record { log = b.log; floors = map b.floor clients; queues = map b.queue (up_to b.m) }

unfoldable pub shard_after : List ℕ → S.Shard → ShardAfter
shard_after keys s = record { ssn = s.ssn; last_run = s.last_run; cells = map s.store keys }

unfoldable pub end_of : Run → Bench → Run
end_of r w =
    record {
      n = r.n;
      m = r.m;
      clients = r.clients;
      keys = r.keys;
      deliveries = w.done;
      boards = map (λ i. board_after r.clients (w.boards i)) (up_to r.n);
      shards = map (λ j. shard_after r.keys (w.shards j)) (up_to r.m);
    }

unfoldable pub by_the_rules : Run → Run
by_the_rules r = end_of r (deliver_all (fresh r.n r.m) r.deliveries)

-- a proof by computation says `unfolding running`
unfoldable pub running : Unit {0}
unfolding up_to fresh at_board at_shard deliver deliver_all board_after shard_after end_of by_the_rules
running = tt
