-- When a status of a query comes (this project's rule).
use Rattle.std.specs.Prelude.{◌≡◌, ◌≢◌, ◌⊎◌, ℕ, ◌≤◌, List, [], length, IsTrue}
use Rattle.row_types.specs.Faults.{Rose}
use Rattle.row_types.specs.Row.{RowFacts}
use Rattle.http_wire.specs.Sink.{GetsAll}
use Rattle.index_rows.specs.declared.rows.TheConstants.{LOG_LIMIT}
use Rattle.index_state.specs.Opening.{AreRows, IsOverfull, current}
use Rattle.dbgd_commands.specs.Kept.{StoreHoldsRows}
use Rattle.dbgd_commands.specs.Opened.{EndsOnlyWith, HasBad, HasSomeBad, StoreOpensOn}
use Rattle.dbgd_commands.specs.Query.{id_rows, row_lines}
use Rattle.dbgd_commands.specs.Stage.{CommandStage, Setting}
use Rattle.dbgd_commands.specs.declared.status.Status.{Status}
use Rattle.dbgd_commands.specs.declared.status.Status.TheVariants.{Absent, BadRow, Done, Fault, Limit}
use Rattle.dbgd_commands.specs.declared.status.Status.TheVariants.{OutOfMemory}

-- the store held some row of the edition with the id, and the standard output got the lines of these rows
pub record FindsSome {T : Type 0} (s : Setting T) (id : List ℕ) (before after : CommandStage T) : Type 0 where
  pub found : List RowFacts
  pub held : StoreHoldsRows s.tells_tables before.store found
  pub some : id_rows id found ≢ []
  pub lines : GetsAll (row_lines (id_rows id found)) before.streams.out after.streams.out

-- the store held no row of the edition with the id
pub record FindsNoId {T : Type 0} (s : Setting T) (id : List ℕ) (before : CommandStage T) : Type 0 where
  pub found : List RowFacts
  pub held : StoreHoldsRows s.tells_tables before.store found
  pub none : id_rows id found ≡ []

-- of a query: no file is altered, and it is built
abbrev pub QueryStatus : {T : Type 0} → Setting T → List ℕ → CommandStage T → CommandStage T → Status → Type 0
QueryStatus s id before after Done = FindsSome s id before after
QueryStatus s id before after Fault =
    Rose before.store.faults after.store.faults
    ⊎ Rose before.streams.out.write_faults after.streams.out.write_faults
QueryStatus s id before after Absent = FindsNoId s id before
QueryStatus s id before after Limit = StoreOpensOn s.tells_tables before.store after.store IsOverfull
QueryStatus s id before after OutOfMemory = Unit {0}
QueryStatus s id before after BadRow = StoreOpensOn s.tells_tables before.store after.store HasBad
QueryStatus s id before after _ = ⊥

-- nothing stands against a query: the store tells that each of its values is a row, not too many of them of the
-- edition, and neither its count nor that of the standard output rose
pub record IsFreeQuery {T : Type 0} (s : Setting T) (before after : CommandStage T) : Type 0 where
  pub tells : IsTrue s.tells_tables
  pub rows : List RowFacts
  pub held : AreRows rows before.store.tables
  pub few : length (current rows) ≤ LOG_LIMIT
  pub store : ¬ Rose before.store.faults after.store.faults
  pub out : ¬ Rose before.streams.out.write_faults after.streams.out.write_faults

-- what a query that nothing stands against ends with: some row was found or none was, or memory was refused
abbrev pub IsQueryAnswered : Status → Type 0
IsQueryAnswered Done = Unit {0}
IsQueryAnswered Absent = Unit {0}
IsQueryAnswered OutOfMemory = Unit {0}
IsQueryAnswered _ = ⊥

-- how a query ends when: a store that tells a value which isn't a row ends it with the status for that, one that tells
-- too many rows of the edition with that of a limit, and one that nothing stands against is answered
pub record QueryEnds {T : Type 0} (s : Setting T) (before after : CommandStage T) (status : Status) : Type 0 where
  pub bad :
      IsTrue s.tells_tables → HasSomeBad before.store.tables
      → EndsOnlyWith BadRow before.store after.store status
  pub overfull :
      IsTrue s.tells_tables → IsOverfull before.store.tables
      → EndsOnlyWith Limit before.store after.store status
  pub complete : IsFreeQuery s before after → IsQueryAnswered status
