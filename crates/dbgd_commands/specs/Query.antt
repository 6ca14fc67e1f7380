-- The command `query` (this project's rule): the store is opened as for a scan, and the rows of an id that the index on
-- it has are printed. No hand is asked anything.
use Rattle.std.specs.Prelude.{◌≡◌, ℕ, ◌≤◌, Bool, true, false, List, [], ◌∷◌, ◌++◌, codes, flat_map, filter, IsTrue}
use Rattle.row_types.specs.Faults.{HasCause, Rose}
use Rattle.row_types.specs.declared.reading.Reading.{Reading}
use Rattle.row_types.specs.declared.reading.Reading.TheVariants.{Plain, Elf}
use Rattle.row_types.specs.Row.{RowFacts}
use Rattle.index_keeper.specs.Store.{ShownStore, with_opened_path}
use Rattle.index_rows.specs.Classes.{has_id}
use Rattle.index_state.specs.Opening.{current, made_swept}
use Rattle.dbgd_commands.specs.Endings.{EndsSaying, EndsWhole, Saying, Streams, error_saying, no_memory_saying}
use Rattle.dbgd_commands.specs.Endings.{out_saying}
use Rattle.dbgd_commands.specs.Kept.{HasRows, StoreHoldsRows}
use Rattle.dbgd_commands.specs.Scan.{OpensBy, RefusesBy}
use Rattle.dbgd_commands.specs.ScanSaid.{is_open, is_store_fault, refusal_saying}
use Rattle.dbgd_commands.specs.Stage.{CommandStage, Setting}
use Rattle.dbgd_commands.specs.Texts.{class_word, fed_line}
use Rattle.dbgd_commands.specs.declared.query_end.QueryEnd.{QueryEnd}
use Rattle.dbgd_commands.specs.declared.query_end.QueryEnd.TheVariants.{Refused, Read, OutOfMemory}
use Rattle.dbgd_commands.specs.declared.scan_end.ScanEnd.TheVariants.{Refused as ScanRefused}
use Rattle.dbgd_commands.specs.declared.status.Status.{Status}
use Rattle.dbgd_commands.specs.declared.status.Status.TheVariants.{Absent, Done}

-- the word for what a file with an identity holds
abbrev pub reading_word : Reading → List ℕ
reading_word (Plain why) = []
reading_word (Elf ident sources) = class_word ident.exec ident.debug

-- the line of a row
abbrev pub row_line : RowFacts → List ℕ
row_line row = fed_line (reading_word row.reading ++ codes " " ++ row.name.path)

-- the rows of the edition that have the id
abbrev pub id_rows : List ℕ → List RowFacts → List RowFacts
id_rows id rows = filter (λ row. has_id id row.reading) (current rows)

-- a line for each row, in order
abbrev pub row_lines : List RowFacts → List ℕ
row_lines rows = flat_map row_line rows

-- where no row has the id
abbrev pub nothing_saying : Saying
nothing_saying = error_saying (codes "dbgd: nothing found") Absent

-- of the lines of the rows: that there is nothing where there is none
abbrev pub SaysLines : List ℕ → Streams → Streams → Status → Type 0
SaysLines [] old new end = EndsWhole nothing_saying old new end
SaysLines (byte ∷ bytes) old new end = EndsSaying (out_saying (byte ∷ bytes) Done) old new end

-- the end of a query was said
abbrev pub SaysFound : QueryEnd → Streams → Streams → Status → Type 0
SaysFound (Refused fault) old new end = EndsWhole (refusal_saying fault) old new end
SaysFound (Read lines) old new end = SaysLines lines.items old new end
SaysFound OutOfMemory old new end = EndsWhole no_memory_saying old new end

-- the store held these rows, and has those of the edition
pub record LooksInStore (told : Bool) (old new : ShownStore) (Of : List RowFacts → Type 0) : Type 0 where
  pub found : List RowFacts
  pub held : StoreHoldsRows told old found
  pub has : HasRows told new (current found)
  pub made : new.made ≡ made_swept found old.made
  pub so : Of found

-- how the query came to its end, and what it left
abbrev pub LooksBy : Bool → List ℕ → ShownStore → ShownStore → QueryEnd → Type 0
LooksBy told id old new (Refused fault) = RefusesBy told old new fault
LooksBy told id old new (Read lines) =
    LooksInStore told old new (λ found. lines.items ≡ row_lines (id_rows id found))
LooksBy told id old new OutOfMemory = LooksInStore told old new (λ found. Unit {0})

-- the lines are those of the rows that have the id, among rows of the edition (no public clause cites it)
abbrev pub ReadsLines : List ℕ → List RowFacts → QueryEnd → Type 0
ReadsLines id rows (Refused fault) = ⊥
ReadsLines id rows (Read lines) = lines.items ≡ row_lines (filter (λ row. has_id id row.reading) rows)
ReadsLines id rows OutOfMemory = Unit {0}

-- whether the end comes of an open store alone
abbrev pub is_store_looked : QueryEnd → Bool
is_store_looked (Refused fault) = is_open (ScanRefused fault)
is_store_looked _ = true

-- whether a call of the store failed
abbrev pub is_look_fault : QueryEnd → Bool
is_look_fault (Refused fault) = is_store_fault (ScanRefused fault)
is_look_fault _ = false

-- the store was opened once, by this path; where memory was refused, once or not at all
abbrev pub OpensOnce : List ℕ → ShownStore → ShownStore → QueryEnd → Type 0
OpensOnce path old new (Refused fault) = OpensBy path old new (ScanRefused fault)
OpensOnce path old new _ = new.paths ≡ with_opened_path path old.paths

-- the query came to this end, by then the store was opened, and a call failed only where its count rose
pub record Queries (told : Bool) (path id : List ℕ) (old new : ShownStore) (end : QueryEnd) : Type 0 where
  pub ends : LooksBy told id old new end
  pub store : HasCause old.faults new.faults (IsTrue (is_look_fault end))
  pub later : old.epoch ≤ new.epoch
  pub opened : IsTrue (is_store_looked end) → Rose old.epoch new.epoch
  pub opens : OpensOnce path old new end

-- the query came to an end, and it was said
pub record AnswersQuery (told : Bool) (path id : List ℕ) (old new : ShownStore) (before after : Streams)
    (status : Status) : Type 0 where
  pub end : QueryEnd
  pub queries : Queries told path id old new end
  pub said : SaysFound end before after status

-- so it is of the store and the two sinks; the hands are as they were
pub record RunsQuery {T : Type 0} (s : Setting T) (path id : List ℕ) (before after : CommandStage T)
    (status : Status) : Type 0 where
  pub answers :
      AnswersQuery s.tells_tables path id before.store after.store before.streams after.streams status
  pub hands : after.hands ≡ before.hands
