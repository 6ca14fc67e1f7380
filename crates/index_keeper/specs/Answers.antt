-- What a keeper and a store answer (this project's rule).
use Rattle.std.specs.Prelude.{Bool, true, false, List, Option, Some, None}
use Rattle.index_keeper.specs.Tables.{KeptFacts, EditFacts}
use Rattle.index_keeper.specs.declared.answer.KeepAnswer.{KeepAnswer}
use Rattle.index_keeper.specs.declared.answer.KeepAnswer.TheVariants.{Failed, OutOfMemory}
use Rattle.index_keeper.specs.declared.answer.KeptAnswer.{KeptAnswer}
use Rattle.index_keeper.specs.declared.answer.KeptAnswer.TheVariants.{All as AllRows, Failed as RowsFailed, OutOfMemory as RowsNoMemory}

-- a question to a keeper with its answer: for all rows, or for a change
pub data Asked : Type 0 where
  for_rows : (answer : KeptAnswer) → Asked
  for_change : (edit : EditFacts) (answer : KeepAnswer) → Asked

-- whether the keeper failed
abbrev pub keeper_failed : Asked → Bool
keeper_failed (for_rows RowsFailed) = true
keeper_failed (for_change edit Failed) = true
keeper_failed _ = false

-- whether the keeper wanted memory
abbrev pub keeper_wants_memory : Asked → Bool
keeper_wants_memory (for_rows RowsNoMemory) = true
keeper_wants_memory (for_change edit OutOfMemory) = true
keeper_wants_memory _ = false

-- the rows that were given, if they were
abbrev pub rows_given : KeptAnswer → Option (List KeptFacts)
rows_given (AllRows rows) = Some rows.items
rows_given _ = None
