-- Where generated files stand (this project's rule): the file of the number k is /t/f/ and k in six digits.
use Rattle.std.specs.Prelude.{ℕ, zero, suc, ◌+◌, ◌-◌, ◌*◌, pos, ◌==◌, ◌||◌, if◌then◌else◌, List, [], ◌∷◌, ◌++◌, map, length, slice_index_or, codes}
use Rattle.std.specs.Prelude.{Option, Some, None}
use Rattle.std.specs.List.{find}
use Rattle.std.specs.Str.{bytes_eq}
use Rattle.row_types.specs.Name.{NameFacts}
use Rattle.row_types.specs.Stamp.{StampFacts}
use Rattle.tree_trait.specs.Entry.{EntryFacts}
use Rattle.tree_trait.specs.declared.entry.EntryKind.TheVariants as kind
use Rattle.elf_forge.specs.Forge.{forged, six_digits}
use Rattle.elf_forge.specs.declared.folder.Folder.{Folder}
use Rattle.elf_forge.specs.declared.folder.Folder.TheVariants.{Root, Top, Files}

-- the numbers below a number, in ascending order
abbrev pub numbers_below : ℕ → List ℕ
numbers_below zero = []
numbers_below (suc n) = numbers_below n ++ n ∷ []

-- the path of the file of a number
abbrev pub forged_path : ℕ → List ℕ
forged_path k = codes "/t/f/" ++ six_digits k

-- the number of the last six bytes of a path of a file's length, if they are digits
abbrev pub forged_number_in : List ℕ → ℕ
forged_number_in path =
    (slice_index_or path 5 0 - 48) * 100000 + (slice_index_or path 6 0 - 48) * 10000 + (slice_index_or path 7 0 - 48) * 1000
    + (slice_index_or path 8 0 - 48) * 100 + (slice_index_or path 9 0 - 48) * 10 + (slice_index_or path 10 0 - 48)

-- the stamp of a file: its size, and the first moment of 1970
abbrev pub forged_stamp : ℕ → ℕ → StampFacts
forged_stamp seed k = record { size = length (forged seed k); secs = pos 0; nanos = 0 }

-- the name of a file
abbrev pub forged_name : ℕ → ℕ → NameFacts
forged_name seed k = record { path = forged_path k; stamp = forged_stamp seed k }

-- the names of so many files
abbrev pub forged_names : ℕ → ℕ → List NameFacts
forged_names seed files = map (forged_name seed) (numbers_below files)

-- the number of the file at a path, among so many files
abbrev pub forged_number_at : ℕ → List ℕ → Option ℕ
forged_number_at files path = find (λ k. bytes_eq (forged_path k) path) (numbers_below files)

-- the folder at a path, if files stand there; the empty path is that of the root too
abbrev pub folder_at : List ℕ → Option Folder
folder_at path =
    if bytes_eq path [] || bytes_eq path (codes "/") then Some Root
    else if bytes_eq path (codes "/t") then Some Top
    else if bytes_eq path (codes "/t/f") then Some Files
    else None

-- the folder at a path, among so many files
abbrev pub folder_among : ℕ → List ℕ → Option Folder
folder_among files path = if files == 0 then None else folder_at path

-- the entry of a file
abbrev pub file_entry : ℕ → EntryFacts
file_entry k = record { name = six_digits k; kind = kind.File }

-- the entries of a folder, among so many files
abbrev pub forged_entries : ℕ → Folder → List EntryFacts
forged_entries files Root = record { name = codes "t"; kind = kind.Folder } ∷ []
forged_entries files Top = record { name = codes "f"; kind = kind.Folder } ∷ []
forged_entries files Files = map file_entry (numbers_below files)
