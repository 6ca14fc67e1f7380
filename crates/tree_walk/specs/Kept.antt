-- How what a walk keeps agrees with the answers (this crate's bookkeeping, which no public clause cites).
use Rattle.path_scope.specs.Scope.{Scope}
use Rattle.std.specs.Prelude.{◌≡◌, ℕ, ◌+◌, ◌-◌, ◌^◌, ◌<◌, ◌⊎◌, min, nat_lt, Bool, true, false, if◌then◌else◌}
use Rattle.std.specs.Prelude.{List, length, count_by, All, Contains, Option, Some, None, IsSome, MatchBool}
use Rattle.std.specs.BTreeMap.{is_at}
use Rattle.std.specs.List.{list_all}
use Rattle.std.specs.List.Sorted.{IsStrictlySortedBy}
use Rattle.std.specs.Option.{option_map}
use Rattle.std.specs.Map.{lookup, keys_of}
use Rattle.std.specs.Ordering.{nat_cmp}
use Rattle.std.specs.Cmp.Lexicographic.{slice_cmp}
use Rattle.std.specs.Str.{bytes_eq}
use Rattle.row_types.specs.Canon.{IsCanonPath}
use Rattle.row_types.specs.Stamp.{StampFacts}
use Rattle.row_types.specs.declared.limits.TheConstants.{PATH_LIMIT}
use Rattle.tree_trait.specs.Dir.{child}
use Rattle.tree_trait.specs.Entry.{EntryFacts, has_entry}
use Rattle.tree_trait.specs.Heard.{Heard, stat}
use Rattle.tree_trait.specs.declared.entry.EntryKind.{EntryKind}
use Rattle.tree_trait.specs.declared.entry.EntryKind.TheVariants as kind
use Rattle.tree_trait.specs.declared.stat.StatAnswer.{StatAnswer}
use Rattle.tree_trait.specs.declared.stat.StatAnswer.TheVariants.{File, Gone, Other}
use Rattle.tree_walk.specs.Answers.{is_answered, first_look, entries_in}
use Rattle.tree_walk.specs.Answers.{times_read, entries_read, all_passed_over}
use Rattle.tree_walk.specs.Walked.{IsReached, IsFolder, IsAskDue}
use Rattle.tree_walk.specs.declared.walked.TheConstants.{ENTRY_LIMIT}
use Rattle.tree_walk.specs.Search.{SearchFacts, has_path}

-- what is kept of an answer: a file that isn't selected is as something else
abbrev pub kept_as : StatAnswer → Bool → StatAnswer
kept_as (File stamp) takes = if takes then File stamp else Other
kept_as answer takes = answer

-- what is kept of the first look at the path
abbrev pub kept_look : List Heard → Scope → List ℕ → Option StatAnswer
kept_look answers scope path = option_map (λ answer. kept_as answer (scope.takes path)) (first_look answers path)

-- the stamp of a file that was found
abbrev pub found_stamp : Option StatAnswer → Option StampFacts
found_stamp (Some (File stamp)) = Some stamp
found_stamp _ = None

-- whether something else than a file was found, or nothing
abbrev pub is_no_file : Option StatAnswer → Bool
is_no_file None = false
is_no_file (Some (File stamp)) = false
is_no_file (Some _) = true

-- an entry whose path is no longer than is kept is known as what it is
abbrev pub IsEntryMet : List Heard → (List ℕ → Bool) → List (List ℕ) → List ℕ → EntryKind → Type 0
IsEntryMet answers takes known path kind.Folder = has_path known path ≡ true
IsEntryMet answers takes known path kind.File = takes path ≡ true → IsSome (first_look answers path)
IsEntryMet answers takes known path kind.Other = Unit {0}

-- an entry was seen to, by its path and its kind, with the folders that are known and the paths that are too
-- long
abbrev pub IsSeenTo : List Heard → (List ℕ → Bool) → List (List ℕ) → List (List ℕ) → List ℕ → EntryKind → Type 0
IsSeenTo answers takes known long path k =
    MatchBool (nat_lt PATH_LIMIT (length path)) (has_path long path ≡ true) (IsEntryMet answers takes known path k)

-- the entry of this folder is among the entries that are still to be seen to
pub record IsPending (folder : List ℕ) (rest : List EntryFacts) (at : List ℕ)
    (entry : EntryFacts) : Type 0 where
  pub here : at ≡ folder
  pub among : has_entry rest entry ≡ true

-- each entry was seen to, but for the rest of this folder's
pub record AreSeenTo (answers : List Heard) (takes : List ℕ → Bool) (known long : List (List ℕ)) (folder : List ℕ)
    (rest : List EntryFacts) : Type 0 where
  pub each : (at : List ℕ) (entry : EntryFacts) → has_entry (entries_in answers at) entry ≡ true
      → IsSeenTo answers takes known long (child at entry.name) entry.kind ⊎ IsPending folder rest at entry

-- the files that were found, and the other paths that were looked at, are those of the looks
pub record AreLooks (answers : List Heard) (scope : Scope) (found : List (List ℕ × StampFacts))
    (rest : List (List ℕ)) : Type 0 where
  pub files : (path : List ℕ)
      → lookup (is_at (slice_cmp nat_cmp path)) found ≡ found_stamp (kept_look answers scope path)
  pub others : (path : List ℕ) → has_path rest path ≡ is_no_file (kept_look answers scope path)
  pub ordered : IsStrictlySortedBy (slice_cmp nat_cmp) (keys_of found)

-- what was asked was due and was answered, and no look at a root said that nothing is there
pub record AreAnswered (answers : List Heard) (scope : Scope) : Type 0 where
  pub due : All (IsAskDue answers scope) answers
  pub answered : list_all is_answered answers ≡ true
  pub there : (path : List ℕ) → Contains scope.roots path → Contains answers (stat path Gone) → ⊥

-- the folders that are known are due, and each was read or is among those that aren't read yet
pub record AreFolders (answers : List Heard) (scope : Scope) (known todo : List (List ℕ)) : Type 0 where
  pub due : (path : List ℕ) → has_path known path ≡ true → IsFolder answers scope path × IsCanonPath path
  pub counts : (path : List ℕ)
      → times_read answers path + count_by (bytes_eq path) todo ≡ (if has_path known path then 1 else 0)

-- the paths are reached, and too long
pub record AreLong (answers : List Heard) (scope : Scope) (paths : List (List ℕ)) : Type 0 where
  pub each : (path : List ℕ) → has_path paths path ≡ true
      → IsReached answers scope path × (PATH_LIMIT < length path)
  pub apart : IsStrictlySortedBy (slice_cmp nat_cmp) paths

-- so many entries may still be read, and so many were passed over
pub record IsPaid (answers : List Heard) (spare over : ℕ) : Type 0 where
  pub left : spare + entries_read answers ≡ ENTRY_LIMIT
  pub skipped : over ≡ min (all_passed_over answers) (2 ^ 64 - 1)

-- what is kept agrees with the answers; the rest of this folder's entries is still to be seen to
pub record IsSearch (answers : List Heard) (scope : Scope) (search : SearchFacts) (folder : List ℕ)
    (rest : List EntryFacts) : Type 0 where
  pub looks : AreLooks answers scope search.files search.others
  pub asked : AreAnswered answers scope
  pub known : AreFolders answers scope search.folders search.todo
  pub too_long : AreLong answers scope search.long
  pub paid : IsPaid answers search.left search.skipped
  pub closed : AreSeenTo answers scope.takes search.folders search.long folder rest
