-- What is answered of a folder's entries (this project's rule).
use Rattle.std.specs.Prelude.{◌≡◌, ℕ, ◌&&◌, Bool, true, false, not, List, [], ◌∷◌, ◌++◌}
use Rattle.std.specs.List.{list_any, list_all}
use Rattle.std.specs.Str.{bytes_eq}
use Rattle.row_types.specs.Name.{NameFacts}
use Rattle.tree_trait.specs.Entry.{EntryFacts, is_entry_name, has_entry}
use Rattle.row_types.specs.Under.{front_under, lies_under}
use Rattle.tree_trait.specs.Present.{is_folder}
use Rattle.tree_trait.specs.declared.entry.EntryKind.{EntryKind}
use Rattle.tree_trait.specs.declared.entry.EntryKind.TheVariants as kind
use Rattle.tree_trait.specs.declared.dir.DirAnswer.{DirAnswer}
use Rattle.tree_trait.specs.declared.dir.DirAnswer.TheVariants.{Listed, Gone, Failed, OutOfMemory}

-- an answer as plain data
pub data DirFacts : Type 0 where
  listed : List EntryFacts → ℕ → DirFacts
  no_dir : DirFacts
  dir_failed : DirFacts
  dir_no_memory : DirFacts

-- what an answer says
abbrev pub dir_facts : DirAnswer → DirFacts
dir_facts (Listed entries skipped) = listed entries.items skipped
dir_facts Gone = no_dir
dir_facts Failed = dir_failed
dir_facts OutOfMemory = dir_no_memory

-- the path of a folder's entry; the root adds no second slash
abbrev pub child : List ℕ → List ℕ → List ℕ
child folder name = front_under folder ++ name

-- whether a file makes something of this kind stand at the path: a file by standing there, a folder by lying
-- under it
abbrev pub makes : EntryKind → List ℕ → List ℕ → Bool
makes kind.Folder path file = lies_under path file
makes kind.File path file = bytes_eq file path
makes _ path file = false

-- whether an entry stands in a folder
abbrev pub is_there : List NameFacts → List ℕ → EntryFacts → Bool
is_there present folder entry = list_any (λ file. makes entry.kind (child folder entry.name) file.path) present

-- whether no entry stands twice
abbrev pub are_once : List EntryFacts → Bool
are_once [] = true
are_once (entry ∷ rest) = not (has_entry rest entry) && are_once rest

-- the entries are those that stand in the folder, by their names, each once
pub record IsFolderListing (present : List NameFacts) (folder : List ℕ) (entries : List EntryFacts) : Type 0 where
  pub names : list_all (λ entry. is_entry_name entry.name) entries ≡ true
  pub each : list_all (is_there present folder) entries ≡ true
  pub all : (entry : EntryFacts) → is_entry_name entry.name ≡ true → is_there present folder entry ≡ true
      → has_entry entries entry ≡ true
  pub once : are_once entries ≡ true

-- a folder stands at the path, and its entries are listed whole
pub record IsFolderListed (present : List NameFacts) (folder : List ℕ) (entries : List EntryFacts)
    (skipped : ℕ) : Type 0 where
  pub there : is_folder present folder ≡ true
  pub listing : IsFolderListing present folder entries
  pub whole : skipped ≡ 0

-- what is answered of this folder, by the files that are there
abbrev pub TellsDir : List NameFacts → List ℕ → DirFacts → Type 0
TellsDir present folder (listed entries skipped) = IsFolderListed present folder entries skipped
TellsDir present folder no_dir = is_folder present folder ≡ false
TellsDir present folder _ = Unit {0}
