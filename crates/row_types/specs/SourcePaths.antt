-- The paths of a line table's files (DWARF 5, section 6.2.4, "directories" and "file_names", section 6.2.4.1, "Standard
-- Content Descriptions", and section 3.1.1, DW_AT_comp_dir; DWARF 2, 3 and 4, section 6.2.4, "include_directories" and
-- "file_names"). Which parts are needed, and what isn't there without them, is this project's rule.
use Rattle.std.specs.Prelude.{ℕ, ◌-◌, ◌==◌, List, [], ◌∷◌, ◌++◌, Option, Some, None, if◌then◌else◌}
use Rattle.std.specs.List.{slice_index_or}
use Rattle.std.specs.Option.{option_map, option_and_then}
use Rattle.file_formats.specs.declared.dwarf_units.TheConstants.{DWARF_VERSION}
use Rattle.file_formats.specs.DwarfLines.{LineEntry, LineTable}
use Rattle.row_types.specs.declared.limits.TheConstants.{SEPARATOR}
use Rattle.row_types.specs.Absolute.{is_absolute}

-- a text within a folder
abbrev pub within : List ℕ → List ℕ → List ℕ
within text folder = folder ++ SEPARATOR ∷ text

-- a text behind a folder: by itself where it begins with a slash, and the folder isn't looked at then; none where a part
-- that is needed isn't there
abbrev pub behind : Option (List ℕ) → Option (List ℕ) → Option (List ℕ)
behind folder None = None
behind folder (Some text) = if is_absolute text then Some text else option_map (within text) folder

-- the path of the first directory that a table lists, which is the unit's own directory where it lists none
abbrev pub listed_first : Option (List ℕ) → List (Option (List ℕ)) → Option (List ℕ)
listed_first unit [] = unit
listed_first unit (first ∷ rest) = behind unit first

-- the path of directory 0: the first one that is listed in version 5, and the unit's own directory in the versions before
abbrev pub first_directory : ℕ → Option (List ℕ) → List (Option (List ℕ)) → Option (List ℕ)
first_directory version unit directories = if version == DWARF_VERSION then listed_first unit directories else unit

-- the place in its list of the directory of an index other than 0: the first one that is listed has the index 0 in version 5, and 1
-- in the versions before
abbrev pub directory_place : ℕ → ℕ → ℕ
directory_place version index = if version == DWARF_VERSION then index else index - 1

-- the path of the directory of an index in a table of this version, where directory 0 has this path; none where the table lists
-- no such directory
abbrev pub directory_from : ℕ → Option (List ℕ) → List (Option (List ℕ)) → ℕ → Option (List ℕ)
directory_from version first directories index =
    if index == 0 then first else behind first (slice_index_or directories (directory_place version index) None)

-- the path of a file, where directory 0 has this path
abbrev pub file_from : ℕ → Option (List ℕ) → List (Option (List ℕ)) → LineEntry → Option (List ℕ)
file_from version first directories file =
    behind (option_and_then (directory_from version first directories) file.directory) file.path

-- the path of a table's file, in a unit of this directory
abbrev pub file_path : Option (List ℕ) → LineTable → LineEntry → Option (List ℕ)
file_path unit table file =
    file_from table.version (first_directory table.version unit table.directories) table.directories file
