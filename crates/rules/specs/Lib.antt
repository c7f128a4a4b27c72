-- The rules of the board chain: what the register is. The modules stand in the order in which to read them; "01" is the paper of
-- exact rules, "004" the RepQueue specification, text in quotes is 01's own. Where 004 and 01 differ, 01 decides, and the place says so.
--
-- How to read a definition:
--   the first line gives the name and its type, the lines below say what it is; `abbrev` and `unfoldable` both mean "is defined as"
--   and differ only in whether a proof opens the definition by itself;
--   `[]` is the empty list, `x ∷ xs` the list that begins with x, `xs ++ ys` one list behind the other, `snoc xs x` x at the end;
--   `length xs` is how many it has, `set xs i x` is xs with x at i, `drop k xs` is xs without its first k, `map f xs` is f of each;
--   `x.f` is the field f of the record x, `record { f = .. }` the record with these fields;
--   `none` says that there is nothing, `some x` that there is x; `at xs i` is what stands at i, counted from 0, none past the end;
--   `<?`, `≤?`, `=?` are tests, true or false, and so are names that begin with ok; `within low high x` is low ≤ x ≤ high;
--   `&&` is and, `||` is or, `not` is not; `suc x` is x + 1, `x / y` and `x % y` are the whole quotient and the remainder;
--   `If .. then .. else` stands in a column: the first line whose test holds decides, so the order of lines is the order of refusals;
--   `let x = a in` names a for the lines below; `λ x. ..` is the function that gives .. for x;
--   `changed f i a` is the function f but for i, where it gives a; a set of shards is a rising list of their numbers;
--   `ind` is 004's name for a log number, the place of an entry in the log, counted from 0; `j` is a shard, `m` their number;
--   in Kept, which has facts and no tests: `a ≡ b` says that a is b, `T t` that the test t holds, `(x : A) → P` that P holds of every x,
--   `P → Q` that Q holds where P does, `P × Q` that both do, `Unit` asks nothing; a record of facts says them all;
--   a clause for a case that no state of a run meets says so, and names the law that shows it.
pub mod Lists
pub mod Answers
pub mod Transactions
pub mod Frames
pub mod Outcomes
pub mod Queue
pub mod Board
pub mod Shard
pub mod Session
pub mod Kept
pub mod Computing
