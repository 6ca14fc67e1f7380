-- The files under the roots, by what a tree has (this project's rule).
use Rattle.path_scope.specs.Scope.{Scope, is_under_root}
use Rattle.std.specs.Prelude.{◌≡◌, ℕ, ◌≤◌, ◌<◌, ◌↔◌, true, List, All, Contains, length, map, sum_by}
use Rattle.std.specs.List.{list_any}
use Rattle.row_types.specs.Name.{NameFacts}
use Rattle.row_types.specs.Under.{is_within}
use Rattle.row_types.specs.declared.limits.TheConstants.{PATH_LIMIT}
use Rattle.scan_queue.specs.Names.{IsByPath}
use Rattle.scan_queue.specs.declared.listing.TheConstants.{LISTING_LIMIT}
use Rattle.tree_trait.specs.Dir.{IsFolderListing}
use Rattle.tree_trait.specs.Entry.{EntryFacts}
use Rattle.tree_trait.specs.Present.{are_distinct}
use Rattle.tree_trait.specs.Stat.{IsNothingAt}
use Rattle.tree_walk.specs.declared.fault.WalkFault.{WalkFault}
use Rattle.tree_walk.specs.declared.fault.WalkFault.TheVariants.{TooMany, TooManyEntries, RootGone}
use Rattle.tree_walk.specs.declared.walked.TheConstants.{ENTRY_LIMIT}

-- the file is there, under a root, and its path is selected and no longer than a path that is kept
pub record IsFileUnder (present : List NameFacts) (scope : Scope) (name : NameFacts) : Type 0 where
  pub there : Contains present name
  pub under : is_under_root scope name.path ≡ true
  pub taken : scope.takes name.path ≡ true
  pub short : length name.path ≤ PATH_LIMIT

-- the names are those files, by path
pub record AreFilesUnder (present : List NameFacts) (scope : Scope)
    (names : List NameFacts) : Type 0 where
  pub by_path : IsByPath names
  pub all : (name : NameFacts) → Contains names name ↔ IsFileUnder present scope name

-- a folder and its entries
pub record FolderFacts : Type 0 where
  pub path : List ℕ
  pub entries : List EntryFacts

-- the folder is a root or lies under one, its path is no longer than a path that is kept, and these are its
-- entries
pub record IsFolderUnder (present : List NameFacts) (scope : Scope)
    (folder : FolderFacts) : Type 0 where
  pub under : is_under_root scope folder.path ≡ true
  pub short : length folder.path ≤ PATH_LIMIT
  pub listing : IsFolderListing present folder.path folder.entries

-- more files stand under the roots than a listing has
pub record HasManyFiles (present : List NameFacts) (scope : Scope) : Type 0 where
  pub names : List NameFacts
  pub by_path : IsByPath names
  pub each : All (IsFileUnder present scope) names
  pub many : LISTING_LIMIT < length names

-- the folders under the roots have more entries than a walk reads
pub record HasManyEntries (present : List NameFacts) (scope : Scope) : Type 0 where
  pub folders : List FolderFacts
  pub distinct : are_distinct (map (λ folder. folder.path) folders) ≡ true
  pub each : All (IsFolderUnder present scope) folders
  pub many : ENTRY_LIMIT < sum_by (λ folder. length folder.entries) folders

-- whether a walk of the files that are there may end with the fault; a failed call and want of memory say
-- nothing of them
abbrev pub FitsFault : List NameFacts → Scope → WalkFault → Type 0
FitsFault present scope TooMany = HasManyFiles present scope
FitsFault present scope TooManyEntries = HasManyEntries present scope
FitsFault present scope (RootGone path) = Contains scope.roots path × IsNothingAt present path
FitsFault present scope _ = Unit {0}
