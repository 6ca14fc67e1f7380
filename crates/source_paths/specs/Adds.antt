-- What is kept while the units are read (this crate's bookkeeping, which no public clause cites).
use Rattle.std.specs.Prelude.{ℕ, List, Option, Some, None, length, nat_le, IsTrue, if◌then◌else◌, ◌⊎◌}
use Rattle.std.specs.Option.{option_and_then}
use Rattle.std.specs.BTreeSet.{BTreeSet, contains}
use Rattle.std.specs.Ordering.{nat_cmp}
use Rattle.std.specs.Cmp.Lexicographic.{slice_cmp}
use Rattle.file_formats.specs.DwarfLines.{LineEntry}
use Rattle.row_types.specs.declared.limits.TheConstants.{PATH_LIMIT}
use Rattle.row_types.specs.SourcePaths.{file_from}
use Rattle.row_types.specs.Sources.{MayName}

-- a text, where it is no longer than the longest path that is kept
abbrev pub where_short : List ℕ → Option (List ℕ)
where_short text = if nat_le (length text) PATH_LIMIT then Some text else None

-- a text that may not be there, where it is no longer than that
abbrev pub short : Option (List ℕ) → Option (List ℕ)
short text = option_and_then where_short text

-- the set has the path
abbrev pub Has : BTreeSet (List ℕ) → List ℕ → Type 0
Has paths path = IsTrue (contains (slice_cmp nat_cmp) paths path)

-- the set has what it had, and these paths, and no others
pub record AddsPaths (P : List ℕ → Type 0) (old new : BTreeSet (List ℕ)) : Type 0 where
  pub kept : (path : List ℕ) → Has old path → Has new path
  pub added : (path : List ℕ) → P path → Has new path
  pub only : (path : List ℕ) → Has new path → Has old path ⊎ P path

-- a path of a file of a table of this version, where directory 0 has this path
abbrev pub IsFileFrom : ℕ → Option (List ℕ) → List (Option (List ℕ)) → LineEntry → List ℕ → Type 0
IsFileFrom version first directories file path = MayName (file_from version first directories file) path
