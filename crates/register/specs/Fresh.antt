-- What it is that a start depends on its setup alone, once for boards, shard groups and sessions; and that a start joins nothing of what memory held.
-- Assumes nothing.
use Rattle.std.specs.Prelude.{◌≡◌, List, [], ◌∷◌, ℕ}
use Rattle.std.proofs.Math.Option.{none}
use Rattle.rules.specs.Queue.{empty_queue}
use Rattle.rules.specs.Board as B
use Rattle.rules.specs.Shard as S
use Rattle.rules.specs.Session as R
use Rattle.session.specs.declared.Session.{Session}
use Rattle.session.specs.declared.Operations.{Operations}
use Rattle.session.specs.declared.Sent.{Sent}
use Rattle.session.specs.declared.Reply.{Reply}
use Rattle.session.specs.View.{view_session}
use Rattle.board.specs.declared.Board.{Board}
use Rattle.board_means.specs.View.{view_board}
use Rattle.shard.specs.declared.Shard.{Shard}
use Rattle.shard.specs.View.{view_shard}
use Rattle.register.specs.declared.Stepped.{Stepped}
use Rattle.register.specs.Promised.{SessionStarts, SessionInvokes, SessionRetries, SessionResponds, BoardStarts, BoardSteps, ShardStarts, ShardSteps}

-- ---- An agent: what memory may hold for it, its setup, a call with all that is handed over, and what a call gives beside the record; and
-- what its start and its calls promise

pub record Agent : Type 1 where
  pub Memory : Type 0
  pub Setup : Type 0
  pub Call : Type 0
  pub Given : Type 0
  -- memory before, the setup, the answer, memory after
  pub Starts : Memory → Setup → ℕ → Memory → Type 0
  -- memory before, the call, what it gives, memory after
  pub Does : Memory → Call → Given → Memory → Type 0

-- calls one after the other: what each gives, and the record that it leaves
abbrev pub Goes : (a : Agent) → a.Memory → List a.Call → List (a.Given × a.Memory) → Type 0
Goes a s [] [] = Unit {0}
Goes a s [] (x ∷ xs) = ⊥
Goes a s (c ∷ cs) [] = ⊥
Goes a s (c ∷ cs) ((given, t) ∷ xs) = a.Does s c given t × Goes a t cs xs

-- what some calls give and leave
pub record Run (a : Agent) (s : a.Memory) (calls : List a.Call) : Type 0 where
  pub given : List (a.Given × a.Memory)
  pub goes : Goes a s calls given

-- "What it leaves depends on its setup alone": two starts with one setup, whatever memory held before each, have one answer and leave one record; and
-- the same calls then, any of them in any order and number, give the same and leave the same records.
pub record Fresh (a : Agent) : Type 0 where
  pub one_start : (before before' : a.Memory) (setup : a.Setup) (r r' : ℕ) (s s' : a.Memory) → a.Starts before setup r s → a.Starts before' setup r' s'
      → (r ≡ r') × (s ≡ s')
  pub one_run : (before before' : a.Memory) (setup : a.Setup) (r r' : ℕ) (s s' : a.Memory) → a.Starts before setup r s → a.Starts before' setup r' s'
      → (calls : List a.Call) (xs xs' : List (a.Given × a.Memory)) → Goes a s calls xs → Goes a s' calls xs' → xs ≡ xs'
  -- and calls go, from any record, however many: what is said of runs is said of something
  pub runs : (s : a.Memory) (calls : List a.Call) → Run a s calls

-- ---- The three agents

-- a call is a frame and an out area; it gives its answer with the counts, and the out area
abbrev pub boards : Agent
boards = record {
  Memory = Board;
  Setup = ℕ × ℕ × ℕ;
  Call = List ℕ × List ℕ;
  Given = Stepped × List ℕ;
  Starts = λ before setup r after. BoardStarts before setup.0 setup.1 setup.2 r after;
  Does = λ before call given after. BoardSteps before call.0 call.1 given.0 after given.1;
}

abbrev pub shards : Agent
shards = record {
  Memory = Shard;
  Setup = ℕ × ℕ;
  Call = List ℕ × List ℕ;
  Given = Stepped × List ℕ;
  Starts = λ before setup r after. ShardStarts before setup.0 setup.1 r after;
  Does = λ before call given after. ShardSteps before call.0 call.1 given.0 after given.1;
}

pub data SessionCall : Type 0 where
  invoke : Operations → List ℕ → SessionCall
  retry : ℕ → List ℕ → SessionCall
  response : List ℕ → SessionCall

pub data SessionGiven : Type 0 where
  sends : Sent → List ℕ → SessionGiven
  replies : Reply → SessionGiven

abbrev pub SessionDoes : Session → SessionCall → SessionGiven → Session → Type 0
SessionDoes before (invoke operations out) (sends r left) after = SessionInvokes before operations out r after left
SessionDoes before (retry number out) (sends r left) after = SessionRetries before number out r after left
SessionDoes before (response frame) (sends r left) after = ⊥
SessionDoes before (invoke operations out) (replies r) after = ⊥
SessionDoes before (retry number out) (replies r) after = ⊥
SessionDoes before (response frame) (replies r) after = SessionResponds before frame r after

abbrev pub sessions : Agent
sessions = record { Memory = Session; Setup = ℕ; Call = SessionCall; Given = SessionGiven; Starts = SessionStarts; Does = SessionDoes }

pub record AllFresh : Type 0 where
  pub of_boards : Fresh boards
  pub of_shards : Fresh shards
  pub of_sessions : Fresh sessions

-- ---- A start joins nothing

-- The record means the rules' start: in it the log is empty, every floor is 0, no number waits in a queue or was taken from one.
pub record NothingLogged (n m own : ℕ) (b : Board) : Type 0 where
  pub start : view_board b ≡ (B.start n m own).state
  pub log : (view_board b).log ≡ []
  pub floors : (client : ℕ) → (view_board b).floor client ≡ 0
  pub queues : (shard : ℕ) → (view_board b).queue shard ≡ empty_queue

-- No key is present, and nothing has run.
pub record NothingStored (m own : ℕ) (s : Shard) : Type 0 where
  pub start : view_shard s ≡ (S.start m own).state
  pub keys : (key : ℕ) → (view_shard s).store key ≡ none
  pub ssn : (view_shard s).ssn ≡ 0
  pub last_run_lem : (view_shard s).last_run ≡ none

-- The next number is 0, and none is outstanding.
pub record NothingAsked (client : ℕ) (s : Session) : Type 0 where
  pub start : view_session s ≡ (R.start client).state
  pub window : (view_session s).window ≡ R.empty_window

-- of any start, accepted or refused
pub record JoinsNothing : Type 0 where
  pub board : (before : Board) (n m own r : ℕ) (b : Board) → BoardStarts before n m own r b → NothingLogged n m own b
  pub shard : (before : Shard) (m own r : ℕ) (s : Shard) → ShardStarts before m own r s → NothingStored m own s
  pub session : (before : Session) (client r : ℕ) (s : Session) → SessionStarts before client r s → NothingAsked client s
