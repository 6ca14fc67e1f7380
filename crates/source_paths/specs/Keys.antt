-- Which line tables were read (this crate's bookkeeping, which no public clause cites).
use Rattle.std.specs.Prelude.{◌≡◌, ℕ, Bool, List, Option, Some, false, All, IfSome}
use Rattle.std.specs.Option.{option_copied}
use Rattle.std.specs.BTreeSet.{BTreeSet}
use Rattle.file_formats.specs.DwarfLines.{LineTable, IsLineTable}
use Rattle.file_formats.specs.DwarfUnits.{DebugSections, RootEntry, unit_texts}
use Rattle.dwarf_forms.specs.Tells.{TellsOnly}
use Rattle.dwarf_lines.specs.declared.table.ReadTable.{ReadTable}
use Rattle.dwarf_lines.specs.Finds.{as_it_is}
use Rattle.source_paths.specs.declared.tables.LastTable.{LastTable}
use Rattle.source_paths.specs.declared.tables.TableKey.{TableKey}
use Rattle.source_paths.specs.declared.tables.Tables.{Tables}
use Rattle.source_paths.specs.Adds.{Has, short}
use Rattle.row_types.specs.Sources.{IsEntrySource}

-- the first entry of units that have this key
abbrev pub key_entry : TableKey → RootEntry
key_entry key = record {
  stmt_list = Some key.offset;
  comp_dir = option_copied key.directory;
  str_offsets_base = key.base;
}

-- an entry without a folder that is longer than a path may be
abbrev pub short_entry : RootEntry → RootEntry
short_entry entry = record entry { comp_dir = short entry.comp_dir }

-- the line table at a place, for units with this place in .debug_str_offsets
abbrev pub IsTableFor : DebugSections → ℕ → Option ℕ → LineTable → Type 0
IsTableFor s offset base table = IsLineTable s.lines offset (unit_texts s false base) table

-- what was read at a place for such units, and for any others where it has no indexes
pub record IsTableOf (s : DebugSections) (offset : ℕ) (base : Option ℕ) (read : ReadTable) : Type 0 where
  pub here : TellsOnly as_it_is (IsTableFor s offset base) read.table
  pub fixed : read.indexed ≡ false → (other : Option ℕ) → TellsOnly as_it_is (IsTableFor s offset other) read.table

-- what was read last is what it says
abbrev pub IsLast : DebugSections → LastTable → Type 0
IsLast s last = IsTableOf s last.offset last.base last.read

-- the table at a place is the same for each place in .debug_str_offsets
abbrev pub IsFixed : DebugSections → ℕ → Type 0
IsFixed s offset = (base other : Option ℕ) (table : LineTable) → IsTableFor s offset base table → IsTableFor s offset other table

-- units with these first entries have the same sources
pub record HaveSameSources (s : DebugSections) (some others : RootEntry) : Type 0 where
  pub to : (path : List ℕ) → IsEntrySource s false some path → IsEntrySource s false others path
  pub from : (path : List ℕ) → IsEntrySource s false others path → IsEntrySource s false some path

-- the sources of a key are in the set
abbrev pub AreSourcesRead : DebugSections → BTreeSet (List ℕ) → TableKey → Type 0
AreSourcesRead s paths key = (path : List ℕ) → IsEntrySource s false (key_entry key) path → Has paths path

-- the sources of each key are in the set, each table that is kept as such is the same for all units, and the last one is what
-- it says
pub record AreRead (s : DebugSections) (tables : Tables) (paths : BTreeSet (List ℕ)) : Type 0 where
  pub all : All (AreSourcesRead s paths) tables.seen.keys
  pub fixed : All (IsFixed s) tables.fixed.keys
  pub last : IfSome tables.last (IsLast s)

-- nothing was read
abbrev pub AreTablesUnread : Tables → Type 0
AreTablesUnread tables = (s : DebugSections) (paths : BTreeSet (List ℕ)) → AreRead s tables paths

-- the offset is kept, unless the table there has indexes
abbrev pub KeepsFixed : BTreeSet ℕ → ℕ → Bool → BTreeSet ℕ → Type 0
KeepsFixed old offset indexed new =
    (s : DebugSections) → (indexed ≡ false → IsFixed s offset) → All (IsFixed s) old.keys → All (IsFixed s) new.keys
