-- The rows of an index with their log (this project's rule).
use Rattle.std.specs.Prelude.{◌≡◌, ℕ, ◌≤◌, ◌<◌, List, [], ◌∷◌, ◌++◌, map, length, All, Option, IsSomeAnd}
use Rattle.row_types.specs.Name.{NameFacts}
use Rattle.row_types.specs.Row.{RowFacts}
use Rattle.row_types.specs.Ascends.{AscendsBy}
use Rattle.index_rows.specs.ByPath.{put_at, find_at, without_at}
use Rattle.index_rows.specs.Log.{put_of, drop_of, replay}
use Rattle.index_rows.specs.declared.change.Change.{Change}
use Rattle.index_rows.specs.declared.prepared.Prepared.{Prepared}
use Rattle.index_rows.specs.declared.prepared.Prepared.TheVariants.{Nothing, Put, Drop}
use Rattle.index_rows.specs.declared.rows.TheConstants.{LOG_LIMIT}

-- the rows in path order, the changes that made their names, and the change that room was made for
pub record RowsFacts : Type 0 where
  pub rows : List RowFacts
  pub log : List Change
  pub prepared : Prepared

-- a row's path
abbrev pub row_path : RowFacts → List ℕ
row_path row = row.name.path

-- the names of the rows
abbrev pub row_names : List RowFacts → List NameFacts
row_names rows = map (λ row. row.name) rows

-- the row of the path, if there is one
abbrev pub row_at : List ℕ → List RowFacts → Option RowFacts
row_at path rows = find_at row_path path rows

-- the rows with the row in place of its path's
abbrev pub with_row : RowFacts → List RowFacts → List RowFacts
with_row row rows = put_at row_path row rows

-- the rows without the path's
abbrev pub without_row : List ℕ → List RowFacts → List RowFacts
without_row path rows = without_at row_path path rows

-- a row of the name stands
abbrev pub Stands : NameFacts → List RowFacts → Type 0
Stands name rows = IsSomeAnd (row_at name.path rows) (λ row. row.name ≡ name)

-- the log has room for the change that is prepared, and a name that is to be dropped stands
abbrev pub IsLogReady : Prepared → List RowFacts → List Change → Type 0
IsLogReady Nothing rows log = Unit {0}
IsLogReady (Put row) rows log = length log < LOG_LIMIT
IsLogReady (Drop name) rows log = (length log < LOG_LIMIT) × Stands name rows

-- what always holds of an index's rows
pub record IsIndex (is_true : RowFacts → Type 0) (index : RowsFacts) : Type 0 where
  pub ascends : AscendsBy row_path index.rows
  pub holds : All is_true index.rows
  pub replays : row_names index.rows ≡ replay index.log
  pub bounded : length index.log ≤ LOG_LIMIT
  pub ready : IsLogReady index.prepared index.rows index.log

-- no rows and no changes
abbrev pub nothing_yet : RowsFacts
nothing_yet = record { rows = []; log = []; prepared = Nothing }

-- once the row is put
abbrev pub after_put : RowFacts → RowsFacts → RowsFacts
after_put row index = record { rows = with_row row index.rows; log = index.log ++ put_of row.name ∷ []; prepared = Nothing }

-- once the row of the name is dropped
abbrev pub after_drop : NameFacts → RowsFacts → RowsFacts
after_drop name index = record { rows = without_row name.path index.rows; log = index.log ++ drop_of name ∷ []; prepared = Nothing }

-- room was made for a drop of the path's row
abbrev pub IsDropOf : List ℕ → Prepared → Type 0
IsDropOf path Nothing = ⊥
IsDropOf path (Put row) = ⊥
IsDropOf path (Drop name) = name.path ≡ path

-- a change is prepared that can be listed as void; that of a put, if no row has the name
abbrev pub CanBeVoid : Prepared → List RowFacts → Type 0
CanBeVoid Nothing rows = ⊥
CanBeVoid (Put row) rows = ¬ Stands row.name rows
CanBeVoid (Drop name) rows = Unit {0}

-- the change without effect that stands for the prepared one: a drop of the name to be put, or a put of the
-- name to be dropped
abbrev pub void_of : Prepared → List Change
void_of Nothing = []
void_of (Put row) = drop_of row.name ∷ []
void_of (Drop name) = put_of name ∷ []

-- once the prepared change is listed as void
abbrev pub after_void : RowsFacts → RowsFacts
after_void index = record { rows = index.rows; log = index.log ++ void_of index.prepared; prepared = Nothing }
