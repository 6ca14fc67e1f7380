-- How the rows are kept (this crate's bookkeeping, which no public clause cites): in slots by path, beside a list of
-- changes, with room for what is prepared.
use Rattle.row_types.specs.Row.{RowFacts}
use Rattle.index_rows.specs.Rows.{RowsFacts, IsIndex}
use Rattle.index_rows.specs.declared.prepared.Prepared.{Prepared}
use Rattle.index_rows.specs.declared.prepared.Prepared.TheVariants.{Nothing, Put, Drop}

-- what has to have room for the change that is prepared
abbrev pub RoomFor : Prepared → (RowFacts → Type 0) → Type 0 → Type 0
RoomFor Nothing RowsRoom LogRoom = Unit {0}
RoomFor (Put row) RowsRoom LogRoom = RowsRoom row × LogRoom
RoomFor (Drop name) RowsRoom LogRoom = LogRoom

-- the lists are an index's, and have room
pub record IsIndexKept (is_true : RowFacts → Type 0) (facts : RowsFacts) (RowsRoom : RowFacts → Type 0) (LogRoom : Type 0) : Type 0 where
  pub index : IsIndex is_true facts
  pub room : RoomFor facts.prepared RowsRoom LogRoom
