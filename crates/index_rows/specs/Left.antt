-- Which rows an iterator lends (this project's rule).
use Rattle.std.specs.Prelude.{Bool, true, false, List, filter, Option, None, Some}
use Rattle.row_types.specs.Row.{RowFacts}
use Rattle.row_types.specs.declared.identity.Kind.{Kind}
use Rattle.row_types.specs.declared.reading.Reading.{Reading}
use Rattle.row_types.specs.declared.reading.Reading.TheVariants.{Plain, Elf}
use Rattle.std.specs.Map.{values_of}
use Rattle.index_rows.specs.Classes.{is_of_kind}
use Rattle.index_rows.specs.Slots.{rows_in_slots}
use Rattle.index_rows.specs.Shelf.{rows_under}
use Rattle.index_rows.specs.Table.{walked}
use Rattle.index_rows.specs.declared.row_iter.Rest.{Rest}
use Rattle.index_rows.specs.declared.row_iter.Rest.TheVariants.{After, All, Found}

-- whether a file of the reading is of the kind; where none is wanted, any is
abbrev pub is_wanted : Option Kind → Reading → Bool
is_wanted None reading = true
is_wanted (Some kind) (Plain why) = false
is_wanted (Some kind) (Elf ident sources) = is_of_kind kind ident

-- the rows that are left
abbrev pub left_in : Rest → List RowFacts
left_in (All all) = rows_under all.held.now all.numbers
left_in (After after) = rows_under after.held.now (values_of after.numbers)
left_in (Found found) = filter (λ row. is_wanted found.kind row.reading) (walked found.entries.now (rows_in_slots found.rows.now))
