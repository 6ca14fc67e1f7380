-- Rows by path, as they are read one after the other (this project's rule).
use Rattle.std.specs.Prelude.{ℕ, ◌-◌, Bool, true, List, length, slice_get}
use Rattle.std.specs.Option.{option_map_or}
use Rattle.row_types.specs.Ascends.{is_before}
use Rattle.index_keeper.specs.Tables.{KeptFacts}

-- whether the path stands behind that of the last row, if there is one
abbrev pub stands_last : List ℕ → List KeptFacts → Bool
stands_last path rows = option_map_or (λ last. is_before last.path path) (slice_get rows (length rows - 1)) true
