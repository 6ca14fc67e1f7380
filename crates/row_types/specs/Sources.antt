-- The source paths of a file's debug information (DWARF 5, sections 3.1.1 and 6.2.4; which texts count is this project's
-- rule): the canonical forms of the paths of the files of the line tables that the units name.
use Rattle.std.specs.Prelude.{◌≡◌, ◌↔◌, ◌≤◌, ℕ, Bool, List, Option, Some, length, IsTrue, Contains}
use Rattle.std.specs.Str.{IsUtf8}
use Rattle.file_formats.specs.DwarfLengths.{Piece}
use Rattle.file_formats.specs.DwarfLines.{LineEntry, LineTable, IsLineTable}
use Rattle.file_formats.specs.DwarfSections.{IsDebugAnswer}
use Rattle.file_formats.specs.DwarfUnits.{DebugSections, RootEntry, Units, IsRootEntry, unit_texts}
use Rattle.row_types.specs.declared.limits.TheConstants.{PATH_LIMIT}
use Rattle.row_types.specs.Canon.{canon}
use Rattle.row_types.specs.Absolute.{is_absolute}
use Rattle.row_types.specs.Ascends.{Ascends}
use Rattle.row_types.specs.SourcePaths.{file_path}

-- a text that names a source: it begins with a slash, is UTF-8 and no longer than the longest path that is kept, and the
-- path is its canonical form
pub record Names (text path : List ℕ) : Type 0 where
  pub absolute : IsTrue (is_absolute text)
  pub utf8 : IsUtf8 text
  pub short : length text ≤ PATH_LIMIT
  pub says : path ≡ canon text

-- a text that may not be there names a source
pub record MayName (text : Option (List ℕ)) (path : List ℕ) : Type 0 where
  pub there : List ℕ
  pub is : text ≡ Some there
  pub names : Names there path

-- the path is that of one of the list
pub record IsOfOne {A : Type 0} (P : A → List ℕ → Type 0) (list : List A) (path : List ℕ) : Type 0 where
  pub one : A
  pub among : Contains list one
  pub has : P one path

-- a path of a table's file, in a unit of this directory
abbrev pub IsFileSource : Option (List ℕ) → LineTable → LineEntry → List ℕ → Type 0
IsFileSource unit table file path = MayName (file_path unit table file) path

-- a path of the line table that a unit's first entry names
pub record IsEntrySource (s : DebugSections) (wide : Bool) (entry : RootEntry) (path : List ℕ) : Type 0 where
  pub offset : ℕ
  pub named : entry.stmt_list ≡ Some offset
  pub table : LineTable
  pub stands : IsLineTable s.lines offset (unit_texts s wide entry.str_offsets_base) table
  pub file : IsOfOne (IsFileSource entry.comp_dir table) table.files path

-- a path of a unit
pub record IsUnitSource (s : DebugSections) (unit : Piece) (path : List ℕ) : Type 0 where
  pub entry : RootEntry
  pub root : IsRootEntry s unit entry
  pub table : IsEntrySource s unit.wide entry path

-- a path of one of the units of .debug_info
pub record IsSource (s : DebugSections) (path : List ℕ) : Type 0 where
  pub units : List Piece
  pub all : Units s.order s.info 0 units
  pub unit : IsOfOne (IsUnitSource s) units path

-- a source path of a file's bytes: one of its debug sections, where it has them
pub record IsSourceOf (bytes path : List ℕ) : Type 0 where
  pub sections : DebugSections
  pub debug : IsDebugAnswer bytes (Some sections)
  pub source : IsSource sections path

-- the source paths of a file's bytes: all of them, in order, each once
pub record AreSourcesOf (bytes : List ℕ) (paths : List (List ℕ)) : Type 0 where
  pub exact : (path : List ℕ) → Contains paths path ↔ IsSourceOf bytes path
  pub ascends : Ascends paths
