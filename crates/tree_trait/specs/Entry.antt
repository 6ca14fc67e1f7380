-- Entries of folders (POSIX.1-2017, 3.170 "Filename", but for `.` and `..`).
use Rattle.std.specs.Prelude.{ℕ, ◌==◌, ◌&&◌, Bool, true, false, not, List}
use Rattle.std.specs.List.{list_all, list_any}
use Rattle.std.specs.Str.{bytes_eq}
use Rattle.row_types.specs.Canon.{stays}
use Rattle.row_types.specs.declared.limits.TheConstants.{SEPARATOR}
use Rattle.tree_trait.specs.declared.entry.EntryKind.{EntryKind}
use Rattle.tree_trait.specs.declared.entry.EntryKind.TheVariants.{Folder, File, Other}

-- an entry's name and what it is
pub record EntryFacts : Type 0 where
  pub name : List ℕ
  pub kind : EntryKind

-- whether a text has no slash
abbrev pub has_no_slash : List ℕ → Bool
has_no_slash text = list_all (λ b. not (b == SEPARATOR)) text

-- whether a text is an entry's name: not empty, not `.` or `..`, and without a slash
abbrev pub is_entry_name : List ℕ → Bool
is_entry_name name = stays name && has_no_slash name

-- whether two kinds are the same
abbrev pub same_kind : EntryKind → EntryKind → Bool
same_kind Folder Folder = true
same_kind File File = true
same_kind Other Other = true
same_kind _ _ = false

-- whether two entries are the same
abbrev pub same_entry : EntryFacts → EntryFacts → Bool
same_entry entry other = bytes_eq entry.name other.name && same_kind entry.kind other.kind

-- whether an entry is in a list
abbrev pub has_entry : List EntryFacts → EntryFacts → Bool
has_entry entries entry = list_any (same_entry entry) entries
