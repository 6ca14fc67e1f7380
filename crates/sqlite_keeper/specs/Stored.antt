-- The tables in the rows of a database's tree (this project's rule): the rows stand by their numbers, the tables by path.
use Rattle.std.specs.Prelude.{List, [], ◌∷◌}
use Rattle.sqlite.specs.Order.{Row, bytes, column}
use Rattle.index_keeper.specs.Tables.{KeptFacts, edited, put_bytes}

-- the path of a row, and what is kept under it
abbrev pub stored_row : Row → KeptFacts
stored_row row = record { path = bytes (column row 1); bytes = bytes (column row 2) }

-- the rows by path
abbrev pub stored_tables : List Row → List KeptFacts
stored_tables [] = []
stored_tables (row ∷ rows) = edited (stored_tables rows) (put_bytes (stored_row row).path (stored_row row).bytes)
