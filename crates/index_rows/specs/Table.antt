-- What finds rows (this project's rule): beside the rows by path, how many rows of an id a path has, 0 or 1, and how
-- many rows of an id list a source.
use Rattle.std.specs.Prelude.{◌≡◌, ℕ, ◌+◌, ◌≤◌, nat_lt, if◌then◌else◌, List, [], ◌∷◌, ◌++◌, All}
use Rattle.std.specs.Option.{option_to_list}
use Rattle.row_types.specs.Row.{RowFacts}
use Rattle.row_types.specs.declared.reading.Reading.{Reading}
use Rattle.row_types.specs.declared.reading.Reading.TheVariants.{Plain, Elf}
use Rattle.index_rows.specs.Rows.{row_at}
use Rattle.index_rows.specs.Slots.{HasSlot, Slot}
use Rattle.index_rows.specs.Tallies.{HasKey, Ids, tally_of, one_of, times_of}
use Rattle.index_rows.specs.declared.tally.Tallied.{Tallied}

-- the slots by path, the paths of the rows of an id, and the sources that rows of an id list
pub record TableFacts : Type 0 where
  pub slots : List Slot
  pub ids : Ids
  pub sources : Ids

-- how often a row of this reading at this path counts for a path of an id
abbrev pub id_counts : Reading → List ℕ → (id path : List ℕ) → ℕ
id_counts (Plain why) own id path = 0
id_counts (Elf ident sources) own id path = one_of ident.id own id path

-- how often a row of this reading counts for a source of an id
abbrev pub source_counts : Reading → (id path : List ℕ) → ℕ
source_counts (Plain why) id path = 0
source_counts (Elf ident sources) id path = times_of ident.id sources id path

-- how often the rows count, if one counts as often as f says
abbrev pub total : (RowFacts → ℕ) → List RowFacts → ℕ
total f [] = 0
total f (row ∷ rows) = f row + total f rows

-- how many rows with the id have the path
abbrev pub rows_at : List ℕ → List ℕ → List RowFacts → ℕ
rows_at id path rows = total (λ row. id_counts row.reading row.name.path id path) rows

-- how many rows with the id list the source
abbrev pub rows_listing : List ℕ → List ℕ → List RowFacts → ℕ
rows_listing id path rows = total (λ row. source_counts row.reading id path) rows

-- a row lists no source twice
abbrev pub ListsOnce : RowFacts → Type 0
ListsOnce row = (id path : List ℕ) → source_counts row.reading id path ≤ 1

-- the numbers are those of the rows
pub record AreNumbersOf (rows : List RowFacts) (ids sources : Ids) : Type 0 where
  pub by_id : (id path : List ℕ) → tally_of id path ids ≡ rows_at id path rows
  pub by_source : (id path : List ℕ) → tally_of id path sources ≡ rows_listing id path rows
  pub once : All ListsOnce rows

-- a row of this reading at this path has its numbers
abbrev pub HasKeys : Reading → List ℕ → Ids → Ids → Type 0
HasKeys (Plain why) own ids sources = Unit {0}
HasKeys (Elf ident listed) own ids sources = HasKey ident.id own ids × All (λ source. HasKey ident.id source sources) listed

-- the row has a slot and its numbers
abbrev pub HasRoom : RowFacts → TableFacts → Type 0
HasRoom row table = HasSlot row.name.path table.slots × HasKeys row.reading row.name.path table.ids table.sources

-- each row that had them has them
abbrev pub KeepsRoom : TableFacts → TableFacts → Type 0
KeepsRoom old new = (row : RowFacts) → HasRoom row old → HasRoom row new

-- each row of the path that had them has them
abbrev pub KeepsRoomAt : List ℕ → TableFacts → TableFacts → Type 0
KeepsRoomAt path old new = (row : RowFacts) → row.name.path ≡ path → HasRoom row old → HasRoom row new

-- each row of another path that had them has them
abbrev pub KeepsOtherRoom : List ℕ → TableFacts → TableFacts → Type 0
KeepsOtherRoom path old new = (row : RowFacts) → (row.name.path ≡ path → ⊥) → HasRoom row old → HasRoom row new

-- the rows at the paths that count
abbrev pub walked : List Tallied → List RowFacts → List RowFacts
walked [] rows = []
walked (entry ∷ entries) rows = (if nat_lt 0 entry.count then option_to_list (row_at entry.path rows) else []) ++ walked entries rows
