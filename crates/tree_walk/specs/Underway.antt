-- A walk that has begun, and one that goes on (this crate's bookkeeping, which no public clause cites).
use Rattle.path_scope.specs.Scope.{Scope}
use Rattle.std.specs.Prelude.{◌≡◌, ℕ, ◌≤◌, true, List, [], ◌∷◌, length, Contains, Some, IsSome}
use Rattle.std.specs.List.{list_all}
use Rattle.row_types.specs.Canon.{IsCanonPath}
use Rattle.scan_queue.specs.declared.listing.TheConstants.{LISTING_LIMIT}
use Rattle.tree_trait.specs.Dir.{child}
use Rattle.tree_trait.specs.Entry.{EntryFacts, has_entry}
use Rattle.tree_trait.specs.Heard.{Heard}
use Rattle.tree_trait.specs.declared.stat.StatAnswer.{StatAnswer}
use Rattle.tree_trait.specs.declared.stat.StatAnswer.TheVariants.{Folder}
use Rattle.tree_walk.specs.Answers.{first_look, entries_in}
use Rattle.tree_walk.specs.Answers.{looks, is_found}
use Rattle.tree_walk.specs.Ends.{BeginsWithRoots}
use Rattle.tree_walk.specs.Walked.{IsReached}
use Rattle.tree_walk.specs.Kept.{IsSearch}
use Rattle.tree_walk.specs.Search.{SearchFacts, has_path}

-- these roots were looked at, and each root that is known to be a folder is among the folders
pub record AreLooked (answers : List Heard) (scope : Scope) (seen : List (List ℕ)) (search : SearchFacts) : Type 0 where
  pub looked : (path : List ℕ) → Contains seen path → IsSome (first_look answers path)
  pub folders : (path : List ℕ) → Contains scope.roots path → first_look answers path ≡ Some Folder
      → has_path search.folders path ≡ true

-- the first roots were looked at, and nothing else was asked
pub record AreFirstRootsSeen (answers : List Heard) (scope : Scope) (seen : List (List ℕ)) (search : SearchFacts) : Type 0 where
  pub search_is : IsSearch answers scope search [] []
  pub few : length search.files ≤ LISTING_LIMIT
  pub looked : AreLooked answers scope seen search
  pub given : List StatAnswer
  pub each : length given ≡ length seen
  pub there : list_all is_found given ≡ true
  pub first : answers ≡ looks seen given

-- all roots were looked at, and folders are being read
pub record IsUnderway (answers : List Heard) (scope : Scope) (search : SearchFacts) (folder : List ℕ)
    (rest : List EntryFacts) : Type 0 where
  pub search_is : IsSearch answers scope search folder rest
  pub few : length search.files ≤ LISTING_LIMIT
  pub looked : AreLooked answers scope scope.roots search
  pub first : BeginsWithRoots answers scope

-- a folder was read, and each of its entries is still to be seen to
pub record IsEntered (answers : List Heard) (scope : Scope) (search : SearchFacts) (folder : List ℕ)
    (entries : List EntryFacts) : Type 0 where
  pub underway : IsUnderway answers scope search folder entries
  pub reached : IsReached answers scope folder
  pub listed : entries_in answers folder ≡ entries

-- an entry of a folder is to be seen to, and then the rest
pub record IsNextEntry (answers : List Heard) (scope : Scope) (search : SearchFacts) (folder : List ℕ)
    (entry : EntryFacts) (rest : List EntryFacts) : Type 0 where
  pub underway : IsUnderway answers scope search folder (entry ∷ rest)
  pub reached : IsReached answers scope folder
  pub listed : has_entry (entries_in answers folder) entry ≡ true

-- its path is short enough to be kept
pub record IsNextPath (answers : List Heard) (scope : Scope) (search : SearchFacts) (folder : List ℕ)
    (entry : EntryFacts) (rest : List EntryFacts) (path : List ℕ) : Type 0 where
  pub next : IsNextEntry answers scope search folder entry rest
  pub joined : path ≡ child folder entry.name
  pub kept : IsCanonPath path
