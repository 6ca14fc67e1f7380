-- The walk listing (this project's rule): the files that the answers name under the roots. Links and other
-- entries that are neither a folder nor a file lead nowhere.
use Rattle.path_scope.specs.Scope.{Scope}
use Rattle.std.specs.Prelude.{◌≡◌, ℕ, ◌≤◌, ◌<◌, ◌⊎◌, ◌↔◌, true, List, length, All, Contains, Some, IsSome}
use Rattle.row_types.specs.Canon.{IsCanonPath}
use Rattle.row_types.specs.Faults.{summed}
use Rattle.row_types.specs.Name.{NameFacts}
use Rattle.row_types.specs.declared.limits.TheConstants.{PATH_LIMIT}
use Rattle.scan_queue.specs.Names.{IsByPath}
use Rattle.tree_trait.specs.Dir.{child}
use Rattle.tree_trait.specs.Entry.{has_entry}
use Rattle.tree_trait.specs.Heard.{Heard, load, stat, read_dir, open_file, read_at}
use Rattle.tree_trait.specs.Present.{are_distinct}
use Rattle.tree_trait.specs.declared.entry.EntryKind.{EntryKind}
use Rattle.tree_trait.specs.declared.entry.EntryKind.TheVariants as kind
use Rattle.tree_trait.specs.declared.stat.StatAnswer.TheVariants.{Folder, File}
use Rattle.tree_walk.specs.Answers.{first_look, first_reading, entries_in, times_read, all_passed_over}

-- the path is that of an entry of the folder, of this kind
pub record IsNamed (answers : List Heard) (folder : List ℕ) (k : EntryKind) (path : List ℕ) : Type 0 where
  pub name : List ℕ
  pub listed : has_entry (entries_in answers folder) (record { name = name; kind = k }) ≡ true
  pub joined : path ≡ child folder name

-- the paths that the answers lead to: the roots, and the entries of folders that are reached
pub data IsReached (answers : List Heard) (scope : Scope) : List ℕ → Type 0 where
  root : (path : List ℕ) → Contains scope.roots path → IsReached answers scope path
  entry : (folder path : List ℕ) (k : EntryKind) → IsReached answers scope folder
      → IsNamed answers folder k path → IsReached answers scope path

-- the path is that of an entry of this kind in a folder that is reached
pub record IsEntry (answers : List Heard) (scope : Scope) (k : EntryKind) (path : List ℕ) : Type 0 where
  pub folder : List ℕ
  pub reached : IsReached answers scope folder
  pub named : IsNamed answers folder k path

-- the path is a root that is a folder
pub record IsFolderRoot (answers : List Heard) (scope : Scope) (path : List ℕ) : Type 0 where
  pub root : Contains scope.roots path
  pub folder : first_look answers path ≡ Some Folder

-- the path is a folder's: by its entry, or of a root by the first look at it
abbrev pub IsFolder : List Heard → Scope → List ℕ → Type 0
IsFolder answers scope path = IsFolderRoot answers scope path ⊎ IsEntry answers scope kind.Folder path

-- the path is that of an entry that is a file, and is selected
pub record IsFileEntry (answers : List Heard) (scope : Scope) (path : List ℕ) : Type 0 where
  pub at : IsEntry answers scope kind.File path
  pub taken : scope.takes path ≡ true

-- the path is a root's, or that of an entry that is a file and is selected
abbrev pub IsCandidate : List Heard → Scope → List ℕ → Type 0
IsCandidate answers scope path = Contains scope.roots path ⊎ IsFileEntry answers scope path

-- the file is listed: its path is selected and no longer than a path that is kept, and the first look at it found
-- this file
pub record IsWalked (answers : List Heard) (scope : Scope) (name : NameFacts) : Type 0 where
  pub candidate : IsCandidate answers scope name.path
  pub taken : scope.takes name.path ≡ true
  pub short : length name.path ≤ PATH_LIMIT
  pub file : first_look answers name.path ≡ Some (File name.stamp)

-- the names are the listed files, by path
pub record IsWalkListing (answers : List Heard) (scope : Scope) (names : List NameFacts) : Type 0 where
  pub by_path : IsByPath names
  pub all : (name : NameFacts) → Contains names name ↔ IsWalked answers scope name

-- nothing is left to ask: each root was looked at, each folder read, and each selected file looked at
pub record AsksAll (answers : List Heard) (scope : Scope) : Type 0 where
  pub looked : (path : List ℕ) → Contains scope.roots path → IsSome (first_look answers path)
  pub folders : (path : List ℕ) → IsFolder answers scope path → length path ≤ PATH_LIMIT
      → IsSome (first_reading answers path)
  pub files : (path : List ℕ) → IsFileEntry answers scope path → length path ≤ PATH_LIMIT
      → IsSome (first_look answers path)

-- the look or the reading was due: at a root or a file, or of a folder, and at a path that is kept
abbrev pub IsAskDue : List Heard → Scope → Heard → Type 0
IsAskDue answers scope (load path limit answer) = ⊥
IsAskDue answers scope (stat path answer) = IsCandidate answers scope path × IsCanonPath path
IsAskDue answers scope (read_dir path answer) = IsFolder answers scope path × IsCanonPath path
IsAskDue answers scope (open_file path limit answer) = ⊥
IsAskDue answers scope (read_at name at answer) = ⊥

-- nothing was asked but what was due, and no folder twice
pub record AsksDue (answers : List Heard) (scope : Scope) : Type 0 where
  pub due : All (IsAskDue answers scope) answers
  pub few : (path : List ℕ) → times_read answers path ≤ 1

-- nothing was asked but what was due, and each folder once
pub record AsksOnce (answers : List Heard) (scope : Scope) : Type 0 where
  pub due : All (IsAskDue answers scope) answers
  pub once : (path : List ℕ) → IsFolder answers scope path → length path ≤ PATH_LIMIT
      → times_read answers path ≡ 1
  pub never : (path : List ℕ) → PATH_LIMIT < length path → times_read answers path ≡ 0

-- what was passed over: entries that the readings passed over, and reached paths that are too long, whatever
-- stands there, each once; no more than the largest `u64`
pub record IsSkipped (answers : List Heard) (scope : Scope) (count : ℕ) : Type 0 where
  pub long : List (List ℕ)
  pub distinct : are_distinct long ≡ true
  pub each : (path : List ℕ)
      → Contains long path ↔ (IsReached answers scope path × (PATH_LIMIT < length path))
  pub sum : count ≡ summed (all_passed_over answers) (length long)
