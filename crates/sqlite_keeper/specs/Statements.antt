-- The statements of the store (this project's format): their texts, and what came of running one.
use Rattle.std.specs.Prelude.{◌≡◌, ℕ, pos, Bool, true, false, List, [], ◌∷◌, Option, Some, None, Result, Ok, Err, codes, IsTrue}
use Rattle.index_keeper.specs.Tables.{EditFacts}
use Rattle.index_keeper.specs.declared.answer.KeepAnswer.{KeepAnswer}
use Rattle.index_keeper.specs.declared.answer.KeepAnswer.TheVariants as answer
use Rattle.sqlite.specs.Held.{Held, state}
use Rattle.sqlite.specs.Order.{Row, column}
use Rattle.sqlite.specs.State.{State, HasCleanDisk, Executes, Survives, CommitsBy, CommitsShowing, QueriesRow}
use Rattle.sqlite.specs.Store.{Ghosts}
use Rattle.sqlite.specs.declared.error.Error.{Error}
use Rattle.sqlite.specs.declared.types.Value.TheVariants.{Blob, Int, Text}
use Rattle.sqlite_keeper.specs.Faults.{sql_fault}
use Rattle.sqlite_keeper.specs.declared.fault.SqlFault.{SqlFault}
use Rattle.sqlite_keeper.specs.declared.fault.SqlFault.TheVariants.{Failed, OutOfMemory}

-- the table of the rows, made where it isn't there
abbrev pub kept_table : List ℕ
kept_table = codes "CREATE TABLE IF NOT EXISTS kept(path TEXT PRIMARY KEY NOT NULL, body BLOB NOT NULL) STRICT"

-- the table of the number of openings, made where it isn't there
abbrev pub epoch_table : List ℕ
epoch_table = codes "CREATE TABLE IF NOT EXISTS epoch(one INTEGER PRIMARY KEY CHECK (one = 1), n INTEGER NOT NULL) STRICT"

-- the query that gives all rows, by path
abbrev pub rows_query : List ℕ
rows_query = codes "SELECT path, body FROM kept ORDER BY path"

-- the change that keeps the bytes of the second parameter under the path of the first
abbrev pub put_text : List ℕ
put_text = codes "INSERT INTO kept(path, body) VALUES (?1, ?2) ON CONFLICT(path) DO UPDATE SET body = excluded.body"

-- the change after which nothing is kept under the path of the parameter
abbrev pub remove_text : List ℕ
remove_text = codes "DELETE FROM kept WHERE path = ?1"

-- the change of the tables that keeps these bytes under the path, or nothing
abbrev pub edit_of : List ℕ → Option (List ℕ) → EditFacts
edit_of path bytes = record { path = path; bytes = bytes }

-- the statement that makes it
abbrev pub edit_text : Option (List ℕ) → List ℕ
edit_text (Some bytes) = put_text
edit_text None = remove_text

-- the parameters of that statement
abbrev pub edit_values : List ℕ → Option (List ℕ) → Row
edit_values path (Some bytes) = Text path ∷ Blob bytes ∷ []
edit_values path None = Text path ∷ []

-- the change that makes the number of openings one greater, or 1, and shows it
abbrev pub raise_text : List ℕ
raise_text = codes "INSERT INTO epoch(one, n) VALUES (1, 1) ON CONFLICT(one) DO UPDATE SET n = n + 1 RETURNING n"

-- no transaction is open: what is shown is what was committed
pub record IsCommitted (now : State) : Type 0 where
  pub outside : now.in_transaction ≡ false
  pub settled : IsTrue now.is_open → now.now ≡ now.committed

-- outside a transaction it stays outside, as long as the disk has returned what was written
abbrev pub StaysOutside : {S : Type 0} → Ghosts S → Held S → Held S → Type 0
StaysOutside g before after = HasCleanDisk (state g after) → before.in_transaction ≡ false → after.in_transaction ≡ false

-- the statement was run without parameters and answered so, as long as the disk has returned what was written; a crash
-- leaves what it could leave before, or what this one statement commits
pub record WasRun {S : Type 0} (g : Ghosts S) (sql : List ℕ) (before after : Held S) (came : Result ℕ Error) : Type 0 where
  pub ran : HasCleanDisk (state g after) → Executes sql [] (state g before) (state g after) came
  pub survives : Survives (state g before) (state g after) (CommitsBy sql [] (state g before))
  pub outside : StaysOutside g before after

-- the statement was run without parameters, and was not refused
pub record HasStatementPassed {S : Type 0} (g : Ghosts S) (sql : List ℕ) (before after : Held S) : Type 0 where
  pub count : ℕ
  pub run : WasRun g sql before after (Ok count)

-- the same of the statement that raises the number of openings, which answers with a row
pub record WasRaised {S : Type 0} (g : Ghosts S) (before after : Held S) : Type 0 where
  pub came : Result Row Error
  pub ran : HasCleanDisk (state g after) → QueriesRow raise_text [] (state g before) (state g after) came
  pub survives : Survives (state g before) (state g after) (CommitsShowing raise_text [] (state g before))
  pub outside : before.in_transaction ≡ false → after.in_transaction ≡ false

-- the answer for a fault
abbrev pub answer_for : SqlFault → KeepAnswer
answer_for Failed = answer.Failed
answer_for OutOfMemory = answer.OutOfMemory

-- the answer to a change, by what the database answered, and whether a transaction is open then
abbrev pub answer_to : Result ℕ Error → Bool → KeepAnswer
answer_to (Ok count) false = answer.Done
answer_to (Ok count) true = answer.Failed
answer_to (Err error) inside = answer_for (sql_fault error)

-- the statement was run with these parameters, and answered so; the answer is the database's
pub record HasRun {S : Type 0} (g : Ghosts S) (sql : List ℕ) (params : Row) (before after : Held S) (given : KeepAnswer) : Type 0 where
  pub came : Result ℕ Error
  pub ran : Executes sql params (state g before) (state g after) came
  pub told : given ≡ answer_to came after.in_transaction

-- a change was asked for and answered: its statement was run, as long as the disk has returned what was written; a
-- change that is done is committed; a crash leaves what it could leave before, or what this one statement commits;
-- outside a transaction it stays outside
pub record Changes {S : Type 0} (g : Ghosts S) (sql : List ℕ) (params : Row) (before after : Held S) (given : KeepAnswer) : Type 0 where
  pub runs : HasCleanDisk (state g after) → HasRun g sql params before after given
  pub committed : given ≡ answer.Done → IsCommitted (state g after)
  pub survives : Survives (state g before) (state g after) (CommitsBy sql params (state g before))
  pub outside : StaysOutside g before after

-- the number of the opening was shown by the statement that raises it
pub record IsShown {S : Type 0} (g : Ghosts S) (before after : Held S) (number : ℕ) : Type 0 where
  pub row : Row
  pub ran : QueriesRow raise_text [] (state g before) (state g after) (Ok row)
  pub first : column row 0 ≡ Int (pos number)

-- the number of openings was raised, and that is committed
pub record Raises {S : Type 0} (g : Ghosts S) (before after : Held S) (number : ℕ) : Type 0 where
  pub shown : HasCleanDisk (state g after) → IsShown g before after number
  pub committed : IsCommitted (state g after)
  pub raised : WasRaised g before after
