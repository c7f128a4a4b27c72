-- What is asked of code can be met: the rules themselves, their frames written into the out area, are code that keeps its promises.
-- Assumes nothing.
use mathlib.Core.Path.{refl}
use mathlib.Core.List.{List}
use Prim.Native.Nat.{ℕ}
use lib.ListN.{length}
use Rattle.rules.specs.Outcomes.{Outcome, frame_count, out_after}
use Rattle.rules.specs.Board as B
use Rattle.rules.specs.Shard as S
use Rattle.rules.specs.Session as C
use Rattle.safety.specs.World.{rules}
use Rattle.safety.specs.Coded.{Stepped, Code, Meant, Promises}

abbrev written : {State : Type 0} → List ℕ → Outcome State → Stepped State
written out o = record { answer = o.answer; state = o.state; frames = frame_count o; out = out_after o.frames out }

abbrev rules_code : Code
rules_code =
    record {
      Board = B.Board;
      Shard = S.Shard;
      Session = C.Session;
      start_board = rules.start_board;
      start_shard = rules.start_shard;
      start_session = rules.start_session;
      step_board = λ b bytes out. written out (B.step b bytes (length out));
      step_shard = λ s bytes out. written out (S.step s bytes (length out));
      Request = List C.Asked;
      asks = λ list. list;
      invoke = λ s list out. written out (C.invoke s list (length out));
      retry = λ s number out. written out (C.retry s number (length out));
      respond = rules.respond;
    }

meant : {State : Type 0} (out : List ℕ) (o : Outcome State) → Meant (λ s. Unit {0}) (λ s. s) out (written out o) o
meant out o = record { held = tt; answer = refl; state = refl; frames = refl; written = refl }

rules_promise : Promises rules_code
rules_promise =
    record {
      HeldBoard = λ b. Unit {0};
      HeldShard = λ s. Unit {0};
      HeldSession = λ s. Unit {0};
      view_board = λ b. b;
      view_shard = λ s. s;
      view_session = λ s. s;
      board_starts = λ n m own. (tt, refl);
      shard_starts = λ m own. (tt, refl);
      session_starts = λ client. (tt, refl);
      board_steps = λ b bytes out h t. meant out (B.step b bytes (length out));
      shard_steps = λ s bytes out h t. meant out (S.step s bytes (length out));
      invokes = λ s list out h. meant out (C.invoke s list (length out));
      retries = λ s number out h. meant out (C.retry s number (length out));
      responds = λ s bytes h t. record { held = tt; answer = refl; session = refl; number = refl; reads = refl };
    }
