-- A walk over the rows of an index in short holds (this project's rule). Between two holds the log may grow. What the walk has
-- kept is what stands up to its place, but for the paths of changes that it hasn't heard of.
use Rattle.std.specs.Prelude.{◌≡◌, ◌≢◌, ℕ, ◌+◌, ◌≤◌, Bool, true, false, not, if◌then◌else◌, List, [], ◌++◌, map, filter, fold, length, drop, take, Option, None, Some}
use Rattle.std.specs.List.{list_any}
use Rattle.std.specs.Str.{bytes_eq}
use Rattle.row_types.specs.Name.{NameFacts}
use Rattle.row_types.specs.Ascends.{AscendsBy}
use Rattle.row_types.specs.Row.{RowFacts}
use Rattle.row_types.specs.declared.limits.TheConstants.{EDITION}
use Rattle.row_codec.specs.Spelled.{IsSpelled}
use Rattle.index_rows.specs.ByPath.{put_at, find_at, without_at}
use Rattle.index_rows.specs.Log.{replay}
use Rattle.index_rows.specs.declared.change.Change.{Change}
use Rattle.index_state.specs.Invariant.{AreRowsAt}
use Rattle.index_state.specs.State.{StateFacts}
use Rattle.row_walk.specs.Found.{found_of, found_path}
use Rattle.row_walk.specs.Looked.{CopiesNext, looks_of, rows_behind}
use Rattle.row_walk.specs.Place.{is_behind}
use Rattle.row_walk.specs.declared.found.Found.{Found}
use Rattle.row_walk.specs.declared.looked.Look.{Look}
use Rattle.row_walk.specs.declared.looked.Look.TheVariants.{Gone, There}
use Rattle.row_walk.specs.declared.looked.Looked.{Looked}
use Rattle.row_walk.specs.declared.looked.Looked.TheVariants.{Mended, Copied}
use Rattle.row_walk.specs.declared.looked.TheConstants.{MOST_CHANGES}
use Rattle.row_walk.specs.declared.place.Place.{Place}

-- what was kept, the place, and how many changes were heard of
pub record WalkFacts : Type 0 where
  pub kept : List Found
  pub place : Place
  pub heard : ℕ

-- what is kept once it was looked at a path
abbrev pub after_look : (Found → Bool) → List Found → Look → List Found
after_look keeps kept (Gone path) = without_at found_path path kept
after_look keeps kept (There found) = if keeps found then put_at found_path found kept else without_at found_path found.path kept

-- what is kept once a further row was seen
abbrev pub after_row : (Found → Bool) → List Found → Found → List Found
after_row keeps kept found = if keeps found then put_at found_path found kept else kept

-- the walk once it took in what was looked at
abbrev pub taken : (Found → Bool) → Looked → WalkFacts → WalkFacts
taken keeps (Mended looks heard) walk = record { kept = fold (after_look keeps) walk.kept looks.items; place = walk.place; heard = heard }
taken keeps (Copied rows place) walk = record { kept = fold (after_row keeps) walk.kept rows.items; place = place; heard = walk.heard }

-- the name of the path, if it stands
abbrev pub name_at : List ℕ → List NameFacts → Option NameFacts
name_at path names = find_at (λ name. name.path) path names

-- whether a change names the path
abbrev pub is_named : List ℕ → List Change → Bool
is_named path changes = list_any (λ change. bytes_eq change.name.path path) changes

-- it, if the test keeps it
abbrev pub sieved : (Found → Bool) → Found → Option Found
sieved keeps found = if keeps found then Some found else None

-- a row that an index may have: true, of the edition, and with row bytes
pub record IsTrueRow (true_row : RowFacts → Type 0) (row : RowFacts) : Type 0 where
  pub holds : true_row row
  pub edition : row.edition ≡ EDITION
  pub spelled : IsSpelled row

-- what is kept of a true row of the name; nothing, where no name stands
abbrev pub IsKeptOf : (RowFacts → Type 0) → (Found → Bool) → Option NameFacts → Option Found → Type 0
IsKeptOf true_row keeps None found = found ≡ None
IsKeptOf true_row keeps (Some name) found = (row : RowFacts) × IsTrueRow true_row row × (row.name ≡ name) × (found ≡ sieved keeps (found_of row))

-- the walk has what stands up to its place in an index with this log, but for paths of changes that it hasn't heard of, and
-- has nothing behind its place
pub record IsWalk (true_row : RowFacts → Type 0) (keeps : Found → Bool) (log : List Change) (walk : WalkFacts) : Type 0 where
  pub heard : walk.heard ≤ length log
  pub ascends : AscendsBy found_path walk.kept
  pub stands : (path : List ℕ) → is_behind walk.place path ≡ false → is_named path (drop walk.heard log) ≡ false
      → IsKeptOf true_row keeps (name_at path (replay log)) (find_at found_path path walk.kept)
  pub behind : (path : List ℕ) → is_behind walk.place path ≡ true → find_at found_path path walk.kept ≡ None

-- it was looked at the next changes, or else, with none left, at the next rows
abbrev pub IsStep : {K : Type 0} → WalkFacts → StateFacts K → Looked → Type 0
IsStep walk index (Mended looks heard) =
    (drop walk.heard index.log ≢ [])
    × (looks.items ≡ looks_of walk.place index.rows (take MOST_CHANGES (drop walk.heard index.log)))
    × (heard ≡ walk.heard + length (take MOST_CHANGES (drop walk.heard index.log)))
IsStep walk index (Copied rows place) = (drop walk.heard index.log ≡ []) × CopiesNext (rows_behind walk.place index.rows) rows.items place

-- the rows up to the place
abbrev pub rows_up_to : Place → List RowFacts → List RowFacts
rows_up_to place rows = filter (λ row. not (is_behind place row.name.path)) rows

-- what the test keeps of the rows
abbrev pub kept_of : (Found → Bool) → List RowFacts → List Found
kept_of keeps rows = filter keeps (map found_of rows)

-- what the test keeps of the rows up to the place, of rows of an index with this log; in a told world these are the index's
-- own. It is the first of what the test keeps of them all
pub record IsFront {K : Type 0} (told : Bool) (true_row : RowFacts → Type 0) (keeps : Found → Bool) (index : StateFacts K) (walk : WalkFacts) : Type 0 where
  pub rows : List RowFacts
  pub stood : AreRowsAt true_row index.log rows
  pub itself : told ≡ true → rows ≡ index.rows
  pub are : walk.kept ≡ kept_of keeps (rows_up_to walk.place rows)
  pub first : kept_of keeps rows ≡ walk.kept ++ kept_of keeps (rows_behind walk.place rows)

-- the walk is one of the index's log, and once it has heard of all changes, it has what the test keeps of the rows up to
-- its place
pub record IsWalkOf {K : Type 0} (told : Bool) (true_row : RowFacts → Type 0) (keeps : Found → Bool) (index : StateFacts K) (walk : WalkFacts) : Type 0 where
  pub stands : IsWalk true_row keeps index.log walk
  pub front : walk.heard ≡ length index.log → IsFront told true_row keeps index walk
