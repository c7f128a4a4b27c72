-- A start depends on its setup alone, for boards, shard groups and sessions, by one law: a promise that gives result and record as a function admits one
-- outcome, so calls that begin alike go alike. And a start joins nothing of what memory held: its record means the rules' start.
-- Assumes nothing.
use mathlib.Core.Path.{◌≡◌, refl, sym, ap, ◌∙◌}
use mathlib.Core.Bool.{◌&&◌}
use mathlib.Core.List.{List, [], ◌∷◌}
use mathlib.Core.Option.{none}
use Prim.Native.Nat.{ℕ}
use lib.ListN.{length}
use Rattle.rules.specs.Lists.{within}
use Rattle.rules.specs.Outcomes as O
use Rattle.rules.specs.Outcomes.{taken, refuse}
use Rattle.rules.specs.Queue.{empty_queue}
use Rattle.rules.specs.Frames.{ok_client}
use Rattle.rules.specs.Board as B
use Rattle.rules.specs.Shard as S
use Rattle.rules.specs.Session as R
use Rattle.rules.proofs.Lists.{by}
use Rattle.session.specs.declared.Session.{Session}
use Rattle.session.specs.Model.{started_of, invoked_of, invoke_out, retried_of, retry_out, responded_of}
use Rattle.session.specs.View.{view_session}
use Rattle.session.proofs.Means as Sessions
use Rattle.board.specs.Model as Boards
use Rattle.board_means.specs.View.{view_board}
use Rattle.board_means.proofs.Means as Boards'
use Rattle.shard.specs.Model as Shards
use Rattle.shard.specs.View.{view_shard}
use Rattle.shard.proofs.Promises as Shards'
use Rattle.register.specs.Given.{board_answer, shard_answer}
use Rattle.register.specs.Fresh.{Agent, Goes, Run, Fresh, AllFresh, boards, shards, SessionCall, invoke, retry, response, SessionGiven, sends, replies, SessionDoes, sessions, JoinsNothing}

-- ---- The law

-- what the promises give, as functions: of the setup, and of the record and the call
record Functions (a : Agent) : Type 0 where
  start : a.Setup → ℕ × a.Memory
  starts : (before : a.Memory) (setup : a.Setup) (r : ℕ) (s : a.Memory) → a.Starts before setup r s → ◌≡◌ {A = ℕ × a.Memory} (r, s) (start setup)
  call : a.Memory → a.Call → a.Given × a.Memory
  does : (s : a.Memory) (c : a.Call) (given : a.Given) (t : a.Memory) → a.Does s c given t → ◌≡◌ {A = a.Given × a.Memory} (given, t) (call s c)
  admits : (s : a.Memory) (c : a.Call) → a.Does s c (call s c).0 (call s c).1

module _ (a : Agent) (f : Functions a) where
  goes_alike : (s s' : a.Memory) → s ≡ s' → (calls : List a.Call) (xs xs' : List (a.Given × a.Memory)) → Goes a s calls xs → Goes a s' calls xs' → xs ≡ xs'
  goes_alike s s' e [] [] [] g g' = refl
  goes_alike s s' e [] [] (x ∷ xs) g g' = absurd g'
  goes_alike s s' e [] (x ∷ xs) xs' g g' = absurd g
  goes_alike s s' e (c ∷ cs) [] xs' g g' = absurd g
  goes_alike s s' e (c ∷ cs) (x ∷ xs) [] g g' = absurd g'
  goes_alike s s' e (c ∷ cs) ((given, t) ∷ xs) ((given', t') ∷ xs') g g' =
      let same : ◌≡◌ {A = a.Given × a.Memory} (given, t) (given', t') = f.does s c given t g.0 ∙ ap (λ (u : a.Memory). f.call u c) e ∙ sym (f.does s' c given' t' g'.0) in
      let rest = goes_alike t t' (ap (λ (p : a.Given × a.Memory). p.1) same) cs xs xs' g.1 g'.1 in
      λ i. same i ∷ rest i

  run_of : (s : a.Memory) (calls : List a.Call) → Run a s calls
  run_of s [] = record { given = []; goes = tt }
  run_of s (c ∷ cs) =
      let rest = run_of (f.call s c).1 cs in
      record { given = ((f.call s c).0, (f.call s c).1) ∷ rest.given; goes = (f.admits s c, rest.goes) }

  from_functions : Fresh a
  from_functions = record { runs = run_of; one_start = one; one_run = λ before before' setup r r' s s' p p' calls xs xs' g g'. goes_alike s s' (one before before' setup r r' s s' p p').1 calls xs xs' g g' }
    where
      one : (before before' : a.Memory) (setup : a.Setup) (r r' : ℕ) (s s' : a.Memory) → a.Starts before setup r s → a.Starts before' setup r' s' → (r ≡ r') × (s ≡ s')
      one before before' setup r r' s s' p p' =
          let same : ◌≡◌ {A = ℕ × a.Memory} (r, s) (r', s') = f.starts before setup r s p ∙ sym (f.starts before' setup r' s' p') in
          (ap (λ (x : ℕ × a.Memory). x.0) same, ap (λ (x : ℕ × a.Memory). x.1) same)

-- ---- The three agents

pub fresh_boards : Fresh boards
fresh_boards =
    from_functions boards
    (record {
      start = λ u. ((Boards.start_of u.0 u.1 u.2).answer, (Boards.start_of u.0 u.1 u.2).board);
      starts = λ before u r s p i. (p.answers i, p.leaves i);
      call = λ s c. ((board_answer (Boards.step_of s c.0 (length c.1)), Boards.out_of s c.0 c.1), (Boards.step_of s c.0 (length c.1)).board);
      does = λ s c given t p i. ((p.answers i, p.writes i), p.leaves i);
      admits = λ s c. record { answers = refl; leaves = refl; writes = refl };
    })

pub fresh_shards : Fresh shards
fresh_shards =
    from_functions shards
    (record {
      start = λ u. ((Shards.start_of u.0 u.1).answer, (Shards.start_of u.0 u.1).shard);
      starts = λ before u r s p i. (p.answers i, p.leaves i);
      call = λ s c. ((shard_answer (Shards.step_of s c.0 (length c.1)), Shards.out_of s c.0 c.1), (Shards.step_of s c.0 (length c.1)).shard);
      does = λ s c given t p i. ((p.answers i, p.writes i), p.leaves i);
      admits = λ s c. record { answers = refl; leaves = refl; writes = refl };
    })

called : Session → SessionCall → SessionGiven × Session
called s (invoke operations out) = (sends (invoked_of s operations out).sent (invoke_out s operations out), (invoked_of s operations out).session)
called s (retry number out) = (sends (retried_of s number out).sent (retry_out s number out), (retried_of s number out).session)
called s (response frame) = (replies (responded_of s frame).reply, (responded_of s frame).session)

does_called : (s : Session) (c : SessionCall) (given : SessionGiven) (t : Session) → SessionDoes s c given t → ◌≡◌ {A = SessionGiven × Session} (given, t) (called s c)
unfolding called
does_called s (invoke operations out) (sends r left) t p = λ i. (sends (p.answers i) (p.writes i), p.leaves i)
does_called s (retry number out) (sends r left) t p = λ i. (sends (p.answers i) (p.writes i), p.leaves i)
does_called s (response frame) (sends r left) t p = absurd p
does_called s (invoke operations out) (replies r) t p = absurd p
does_called s (retry number out) (replies r) t p = absurd p
does_called s (response frame) (replies r) t p = λ i. (replies (p.answers i), p.leaves i)

called_does : (s : Session) (c : SessionCall) → SessionDoes s c (called s c).0 (called s c).1
unfolding called
called_does s (invoke operations out) = record { answers = refl; leaves = refl; writes = refl }
called_does s (retry number out) = record { answers = refl; leaves = refl; writes = refl }
called_does s (response frame) = record { answers = refl; leaves = refl }

pub fresh_sessions : Fresh sessions
fresh_sessions =
    from_functions sessions
    (record {
      start = λ client. ((started_of client).answer, (started_of client).session);
      starts = λ before client r s p i. (p.answers i, p.leaves i);
      call = called;
      does = does_called;
      admits = called_does;
    })

pub fresh : AllFresh
fresh = record { of_boards = fresh_boards; of_shards = fresh_shards; of_sessions = fresh_sessions }

-- ---- A start joins nothing

record EmptyBoard (b : B.Board) : Type 0 where
  log : b.log ≡ []
  floors : (client : ℕ) → b.floor client ≡ 0
  queues : (shard : ℕ) → b.queue shard ≡ empty_queue

empty_board_lem : (n m own : ℕ) → EmptyBoard (B.start n m own).state
unfolding B.start taken refuse B.empty_board
empty_board_lem n m own =
    by (λ (o : O.Outcome B.Board). EmptyBoard o.state) (within 2 8 n && within 1 8 m && within 1 n own)
    (λ t. record { log = refl; floors = λ client. refl; queues = λ shard. refl }) (λ t. record { log = refl; floors = λ client. refl; queues = λ shard. refl })

record EmptyShard (s : S.Shard) : Type 0 where
  keys : (key : ℕ) → s.store key ≡ none
  ssn : s.ssn ≡ 0
  last_run_lem : s.last_run ≡ none

empty_shard_lem : (m own : ℕ) → EmptyShard (S.start m own).state
unfolding S.start taken refuse S.empty_shard
empty_shard_lem m own =
    by (λ (o : O.Outcome S.Shard). EmptyShard o.state) (within 1 8 m && within 1 m own) (λ t. record { keys = λ key. refl; ssn = refl; last_run_lem = refl })
    (λ t. record { keys = λ key. refl; ssn = refl; last_run_lem = refl })

empty_session : (client : ℕ) → (R.start client).state.window ≡ R.empty_window
unfolding R.start taken refuse
empty_session client = by (λ (o : O.Outcome R.Session). o.state.window ≡ R.empty_window) (ok_client client) (λ t. refl) (λ t. refl)

pub joins_nothing : JoinsNothing
joins_nothing = record {
  board = λ before n m own r b p.
      let means : view_board b ≡ (B.start n m own).state = ap view_board p.leaves ∙ (Boards'.start_means n m own).state in
      let empty = empty_board_lem n m own in
      record {
        start = means;
        log = ap (λ (x : B.Board). x.log) means ∙ empty.log;
        floors = λ client. ap (λ (x : B.Board). x.floor client) means ∙ empty.floors client;
        queues = λ shard. ap (λ (x : B.Board). x.queue shard) means ∙ empty.queues shard;
      };
  shard = λ before m own r s p.
      let means : view_shard s ≡ (S.start m own).state = ap view_shard p.leaves ∙ (Shards'.start_means m own (Shards.start_of m own) refl).state in
      let empty = empty_shard_lem m own in
      record {
        start = means;
        keys = λ key. ap (λ (x : S.Shard). x.store key) means ∙ empty.keys key;
        ssn = ap (λ (x : S.Shard). x.ssn) means ∙ empty.ssn;
        last_run_lem = ap (λ (x : S.Shard). x.last_run) means ∙ empty.last_run_lem;
      };
  session = λ before client r s p.
      let means : view_session s ≡ (R.start client).state = ap view_session p.leaves ∙ (Sessions.start_means client).state in
      record { start = means; window = ap (λ (x : R.Session). x.window) means ∙ empty_session client };
}
