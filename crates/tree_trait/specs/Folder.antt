-- The listing of a folder, from the paths of all files (this project's rule): each file under the folder
-- gives the piece of its path that stands next.
use Rattle.std.specs.Borrow.{Bor}
use Rattle.std.specs.Prelude.{◌≡◌, ◌≢◌, ℕ, ◌==◌, ◌&&◌, nat_lt, nat_eq, not, if◌then◌else◌}
use Rattle.std.specs.Prelude.{List, [], ◌∷◌, ◌++◌, length, drop, fold, Option, Some, None, MatchOption}
use Rattle.std.specs.List.{starts_with, position_or_len, before_first}
use Rattle.row_types.specs.Name.{NameFacts}
use Rattle.row_types.specs.declared.limits.TheConstants.{SEPARATOR}
use Rattle.tree_trait.specs.Entry.{EntryFacts, is_entry_name, has_entry}
use Rattle.row_types.specs.Under.{front_under}
use Rattle.tree_trait.specs.declared.entry.EntryKind.TheVariants.{Folder, File}

-- what of a path follows a front, if the path begins with it
abbrev pub IsRest : List ℕ → List ℕ → Option (Bor (List ℕ)) → Type 0
IsRest front path result =
    MatchOption result ((rest : List ℕ) → path ≢ front ++ rest) (λ rest. path ≡ front ++ rest.now)

-- the first piece of what follows a folder, and whether more follows it
abbrev pub first_piece : List ℕ → EntryFacts
first_piece rest =
    if nat_lt (position_or_len (λ b. b == SEPARATOR) rest) (length rest)
    then record { name = before_first (λ b. b == SEPARATOR) rest; kind = Folder }
    else record { name = rest; kind = File }

-- the piece of a path that stands next behind a folder
abbrev pub piece_under : List ℕ → List ℕ → Option EntryFacts
piece_under folder path =
    if starts_with nat_eq path (front_under folder)
    then Some (first_piece (drop (length (front_under folder)) path)) else None

-- the entries with one more, if it is one and isn't there yet
abbrev pub with_piece : List EntryFacts → Option EntryFacts → List EntryFacts
with_piece entries None = entries
with_piece entries (Some entry) =
    if is_entry_name entry.name && not (has_entry entries entry) then entries ++ entry ∷ [] else entries

-- the entries with those of more files
abbrev pub with_pieces : List ℕ → List EntryFacts → List NameFacts → List EntryFacts
with_pieces folder entries files =
    fold (λ known file. with_piece known (piece_under folder file.path)) entries files
