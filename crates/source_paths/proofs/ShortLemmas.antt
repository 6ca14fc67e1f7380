-- Folders that are too long for a path to lie within may be left out.
use Rattle.std.proofs.Common.{◌≡◌, ℕ, ◌≤◌, Bool, true, false, List, [], ◌∷◌, length, map, Option, Some, None, refl, sym, ◌∙◌, ap, subst, arith, length-append, le-leb}
use Rattle.std.specs.Prelude.{◌==◌, nat_le, if◌then◌else◌}
use Rattle.std.specs.Option.{option_map, option_and_then}
use Rattle.std.proofs.lemmas.Bool.{leb-true, leb-false}
use Rattle.std.proofs.Math.ListN.{get_or-map}
use Rattle.std.specs.BTreeSet.{BTreeSet}
use Rattle.std.specs.List.{slice_index_or}
use Rattle.dwarf_units.proofs.CaseLemmas.{only_then}
use Rattle.file_formats.specs.declared.dwarf_units.TheConstants.{DWARF_VERSION}
use Rattle.file_formats.specs.DwarfLines.{LineEntry, LineTable}
use Rattle.row_types.specs.declared.limits.TheConstants.{SEPARATOR, PATH_LIMIT}
use Rattle.row_types.specs.Absolute.{is_absolute}
use Rattle.source_paths.proofs.AddLemmas.{adds-same}
use Rattle.source_paths.specs.Adds.{AddsPaths, IsFileFrom, short, where_short}
use Rattle.row_types.specs.SourcePaths.{behind, within, directory_from, directory_place, file_from, file_path, first_directory, listed_first}
use Rattle.row_types.specs.Sources.{IsFileSource, IsOfOne, MayName}

-- a text within a folder that is too long is too long
too_long : (text folder : List ℕ) → nat_le (length folder) PATH_LIMIT ≡ false → where_short (within text folder) ≡ None
too_long text folder e =
    elim (nat_le (length (within text folder)) PATH_LIMIT) as (λ v. nat_le (length (within text folder)) PATH_LIMIT ≡ v
    → (if v then Some (within text folder) else None) ≡ None) [
      | true ↦ λ fits. absurd (omega (arith, leb-false (length folder) PATH_LIMIT e, leb-true (length (within text folder)) PATH_LIMIT fits, length-append folder (SEPARATOR ∷ text)))
      | false ↦ λ _. refl
    ] refl

short_again : (text : Option (List ℕ)) → short (short text) ≡ short text
short_again None = refl
short_again (Some text) =
    elim (nat_le (length text) PATH_LIMIT) as (λ v. nat_le (length text) PATH_LIMIT ≡ v
    → short (if v then Some text else None) ≡ (if v then Some text else None)) [
      | true ↦ λ e. ap (λ (v : Bool). if v then Some text else None) e
      | false ↦ λ e. refl
    ] refl

short_within : (text : List ℕ) (folder : Option (List ℕ)) → short (option_map (within text) (short folder)) ≡ short (option_map (within text) folder)
short_within text None = refl
short_within text (Some folder) =
    elim (nat_le (length folder) PATH_LIMIT) as (λ v. nat_le (length folder) PATH_LIMIT ≡ v
    → short (option_map (within text) (if v then Some folder else None)) ≡ where_short (within text folder)) [
      | true ↦ λ e. refl
      | false ↦ λ e. sym (too_long text folder e)
    ] refl

-- behind a folder that is too long nothing is but what stands by itself
short_behind : (folder text : Option (List ℕ)) → short (behind (short folder) text) ≡ short (behind folder text)
short_behind folder None = refl
short_behind folder (Some text) =
    elim (is_absolute text) as (λ v. short (if v then Some text else option_map (within text) (short folder))
    ≡ short (if v then Some text else option_map (within text) folder))
    [ true ↦ refl | false ↦ short_within text folder ]

-- a text that is too long names nothing behind any folder
too_long_within : (text folder : List ℕ) → nat_le (length text) PATH_LIMIT ≡ false → where_short (within text folder) ≡ None
too_long_within text folder e =
    elim (nat_le (length (within text folder)) PATH_LIMIT) as (λ v. nat_le (length (within text folder)) PATH_LIMIT ≡ v
    → (if v then Some (within text folder) else None) ≡ None) [
      | true ↦ λ fits. absurd (omega (arith, leb-false (length text) PATH_LIMIT e, leb-true (length (within text folder)) PATH_LIMIT fits, length-append folder (SEPARATOR ∷ text)))
      | false ↦ λ _. refl
    ] refl

too_long_behind : (folder : Option (List ℕ)) (text : List ℕ) → nat_le (length text) PATH_LIMIT ≡ false
    → None ≡ short (behind folder (Some text))
too_long_behind folder text e =
    elim (is_absolute text) as (λ v. None ≡ short (if v then Some text else option_map (within text) folder))
    [ true ↦ by_itself | false ↦ in_folder folder ]
  where
    by_itself : None ≡ where_short text
    by_itself = ap (λ (v : Bool). if v then Some text else None) (sym e)

    in_folder : (folder : Option (List ℕ)) → None ≡ short (option_map (within text) folder)
    in_folder None = refl
    in_folder (Some folder) = sym (too_long_within text folder e)

pub short_text : (folder text : Option (List ℕ)) → short (behind folder (short text)) ≡ short (behind folder text)
short_text folder None = refl
short_text folder (Some text) =
    elim (nat_le (length text) PATH_LIMIT) as (λ v. nat_le (length text) PATH_LIMIT ≡ v
    → short (behind folder (if v then Some text else None)) ≡ short (behind folder (Some text))) [
      | true ↦ λ e. refl
      | false ↦ λ e. too_long_behind folder text e
    ] refl

short_directory : (version : ℕ) (first : Option (List ℕ)) (directories : List (Option (List ℕ))) (index : ℕ)
    → short (directory_from version (short first) directories index) ≡ short (directory_from version first directories index)
short_directory version first directories index =
    let place = directory_place version index in
    elim (index == 0) as (λ v. short (if v then short first else behind (short first) (slice_index_or directories place None))
    ≡ short (if v then first else behind first (slice_index_or directories place None)))
    [ true ↦ short_again first | false ↦ short_behind first (slice_index_or directories place None) ]

-- folders that are as short are as good
same_behind : (text folder other : Option (List ℕ)) → short folder ≡ short other
    → short (behind folder text) ≡ short (behind other text)
same_behind text folder other e =
    sym (short_behind folder text) ∙ ap (λ f. short (behind f text)) e ∙ short_behind other text

short_file : (version : ℕ) (first : Option (List ℕ)) (directories : List (Option (List ℕ))) (file : LineEntry)
    → short (file_from version (short first) directories file) ≡ short (file_from version first directories file)
short_file version first directories file =
    same_behind file.path (option_and_then (directory_from version (short first) directories) file.directory)
    (option_and_then (directory_from version first directories) file.directory) (in_folder file.directory)
  where
    in_folder : (index : Option ℕ) → short (option_and_then (directory_from version (short first) directories) index)
        ≡ short (option_and_then (directory_from version first directories) index)
    in_folder None = refl
    in_folder (Some index) = short_directory version first directories index

-- where directories that are too long are left out
short_listed : (version : ℕ) (first : Option (List ℕ)) (directories : List (Option (List ℕ))) (index : ℕ)
    → short (directory_from version first (map short directories) index) ≡ short (directory_from version first directories index)
short_listed version first directories index =
    let place = directory_place version index in
    elim (index == 0) as (λ v. short (if v then first else behind first (slice_index_or (map short directories) place None))
    ≡ short (if v then first else behind first (slice_index_or directories place None))) [
      | true ↦ refl
      | false ↦ ap (λ d. short (behind first d)) (get_or-map short directories place None)
          ∙ short_text first (slice_index_or directories place None)
    ]

file_listed : (version : ℕ) (first : Option (List ℕ)) (directories : List (Option (List ℕ))) (file : LineEntry)
    → short (file_from version first (map short directories) file) ≡ short (file_from version first directories file)
file_listed version first directories file =
    same_behind file.path (option_and_then (directory_from version first (map short directories)) file.directory)
    (option_and_then (directory_from version first directories) file.directory) (in_folder file.directory)
  where
    in_folder : (index : Option ℕ) → short (option_and_then (directory_from version first (map short directories)) index)
        ≡ short (option_and_then (directory_from version first directories) index)
    in_folder None = refl
    in_folder (Some index) = short_listed version first directories index

listed_short : (unit : Option (List ℕ)) (directories : List (Option (List ℕ)))
    → short (listed_first unit (map short directories)) ≡ short (listed_first unit directories)
listed_short unit [] = refl
listed_short unit (first ∷ rest) = short_text unit first

first_listed : (version : ℕ) (unit : Option (List ℕ)) (directories : List (Option (List ℕ)))
    → short (first_directory version unit (map short directories)) ≡ short (first_directory version unit directories)
first_listed version unit directories =
    elim (version == DWARF_VERSION) as (λ v. short (if v then listed_first unit (map short directories) else unit)
    ≡ short (if v then listed_first unit directories else unit))
    [ true ↦ listed_short unit directories | false ↦ refl ]

-- a file has the same path where directory 0 and the others are too long
all_short : (version : ℕ) (first : Option (List ℕ)) (directories : List (Option (List ℕ))) (file : LineEntry)
    → short (file_from version (short first) (map short directories) file) ≡ short (file_from version first directories file)
all_short version first directories file =
    short_file version first (map short directories) file ∙ file_listed version first directories file

-- a text that names a source is short enough
where_named : (text : Option (List ℕ)) {path : List ℕ} → MayName text path → MayName (short text) path
where_named text h = record {
  there = h.there;
  is = ap short h.is ∙ fits h.there h.names.short;
  names = h.names;
}
  where
    fits : (there : List ℕ) → length there ≤ PATH_LIMIT → where_short there ≡ Some there
    fits there h = ap (λ (v : Bool). if v then Some there else None) (le-leb (length there) PATH_LIMIT h)

where_short_named : (text : Option (List ℕ)) {path : List ℕ} → MayName (short text) path → MayName text path
where_short_named None h = h
where_short_named (Some text) h = record {
  there = h.there;
  is = ap Some (only_then (nat_le (length text) PATH_LIMIT) text h.there h.is).1;
  names = h.names;
}

-- of two texts that are as short, both name the same
pub same_named : (text other : Option (List ℕ)) → short text ≡ short other → {path : List ℕ} → MayName text path → MayName other path
same_named text other e {path} h = where_short_named other (subst (λ t. MayName t path) e (where_named text h))

-- each file has the path that it has where directories are too long
pub from_short : (version : ℕ) (first : Option (List ℕ)) (directories : List (Option (List ℕ))) (file : LineEntry) (path : List ℕ)
    → IsFileFrom version (short first) (map short directories) file path → IsFileFrom version first directories file path
from_short version first directories file path =
    same_named (file_from version (short first) (map short directories) file) (file_from version first directories file)
    (all_short version first directories file)

pub to_short : (version : ℕ) (first : Option (List ℕ)) (directories : List (Option (List ℕ))) (file : LineEntry) (path : List ℕ)
    → IsFileFrom version first directories file path → IsFileFrom version (short first) (map short directories) file path
to_short version first directories file path =
    same_named (file_from version first directories file) (file_from version (short first) (map short directories) file)
    (sym (all_short version first directories file))

-- what stands behind a folder adds the same where the folder is too long
pub adds_behind : (folder text : Option (List ℕ)) {made : Option (List ℕ)} {old new : BTreeSet (List ℕ)} → made ≡ short folder
    → AddsPaths (MayName (behind made text)) old new → AddsPaths (MayName (behind folder text)) old new
adds_behind folder text {made} {old} {new} e a = adds-same
    (λ path h. same_named (behind (short folder) text) (behind folder text) (short_behind folder text) h)
    (λ path h. same_named (behind folder text) (behind (short folder) text) (sym (short_behind folder text)) h)
    (subst (λ f. AddsPaths (MayName (behind f text)) old new) e a)

-- a text adds the same where it is too long
pub adds_text : (folder text : Option (List ℕ)) {made : Option (List ℕ)} {old new : BTreeSet (List ℕ)} → made ≡ short text
    → AddsPaths (MayName (behind folder made)) old new → AddsPaths (MayName (behind folder text)) old new
adds_text folder text {made} {old} {new} e a = adds-same
    (λ path h. same_named (behind folder (short text)) (behind folder text) (short_text folder text) h)
    (λ path h. same_named (behind folder text) (behind folder (short text)) (sym (short_text folder text)) h)
    (subst (λ t. AddsPaths (MayName (behind folder t)) old new) e a)

-- the text is short, or it isn't
pub adds_short : (text : Option (List ℕ)) {old new : BTreeSet (List ℕ)} → AddsPaths (MayName (short text)) old new → AddsPaths (MayName text) old new
adds_short text a = adds-same (λ path h. where_short_named text h) (λ path h. where_named text h) a

pub one_by_one : {A : Type 0} {P Q : A → List ℕ → Type 0} → ((one : A) (path : List ℕ) → P one path → Q one path)
    → (list : List A) (path : List ℕ) → IsOfOne P list path → IsOfOne Q list path
one_by_one to list path h = record { one = h.one; among = h.among; has = to h.one path h.has }

-- the files' paths are the same where directories are too long
pub adds_files : (version : ℕ) (first : Option (List ℕ)) (directories : List (Option (List ℕ))) (files : List LineEntry)
    {old new : BTreeSet (List ℕ)} → AddsPaths (IsOfOne (IsFileFrom version (short first) (map short directories)) files) old new
    → AddsPaths (IsOfOne (IsFileFrom version first directories) files) old new
adds_files version first directories files a =
    adds-same (one_by_one (from_short version first directories) files) (one_by_one (to_short version first directories) files) a

-- the files of a table add their paths
pub adds_table : (unit : Option (List ℕ)) (table : LineTable) {version : ℕ} {first : Option (List ℕ)}
    {directories : List (Option (List ℕ))} {files : List LineEntry} {old new : BTreeSet (List ℕ)} → version ≡ table.version
    → first ≡ short (first_directory version unit (map short table.directories)) → directories ≡ map short table.directories
    → files ≡ table.files → AddsPaths (IsOfOne (IsFileFrom version first directories) files) old new
    → AddsPaths (IsOfOne (IsFileSource unit table) table.files) old new
adds_table unit table {version} {first} {directories} {files} {old} {new} v e d f a =
    adds_files table.version (first_directory table.version unit table.directories) table.directories table.files
    (subst (λ x. AddsPaths (IsOfOne (IsFileFrom table.version x (map short table.directories)) table.files) old new)
    (e ∙ ap (λ n. short (first_directory n unit (map short table.directories))) v ∙ first_listed table.version unit table.directories)
    (subst (λ x. AddsPaths (IsOfOne (IsFileFrom table.version first x) table.files) old new) d
    (subst (λ x. AddsPaths (IsOfOne (IsFileFrom table.version first directories) x) old new) f
    (subst (λ n. AddsPaths (IsOfOne (IsFileFrom n first directories) files) old new) v a))))

-- a table's file has the path that it has in a unit whose directory is too long
same_listed : (unit : Option (List ℕ)) (directories : List (Option (List ℕ)))
    → short (listed_first (short unit) directories) ≡ short (listed_first unit directories)
same_listed unit [] = short_again unit
same_listed unit (first ∷ rest) = short_behind unit first

same_first : (version : ℕ) (unit : Option (List ℕ)) (directories : List (Option (List ℕ)))
    → short (first_directory version (short unit) directories) ≡ short (first_directory version unit directories)
same_first version unit directories =
    elim (version == DWARF_VERSION) as (λ v. short (if v then listed_first (short unit) directories else short unit)
    ≡ short (if v then listed_first unit directories else unit))
    [ true ↦ same_listed unit directories | false ↦ short_again unit ]

short_unit : (unit : Option (List ℕ)) (table : LineTable) (file : LineEntry)
    → short (file_path (short unit) table file) ≡ short (file_path unit table file)
short_unit unit table file =
    sym (short_file table.version (first_directory table.version (short unit) table.directories) table.directories file)
    ∙ ap (λ f. short (file_from table.version f table.directories file)) (same_first table.version unit table.directories)
    ∙ short_file table.version (first_directory table.version unit table.directories) table.directories file

pub from_unit : (unit : Option (List ℕ)) (table : LineTable) (path : List ℕ)
    → IsOfOne (IsFileSource (short unit) table) table.files path → IsOfOne (IsFileSource unit table) table.files path
from_unit unit table =
    one_by_one (λ file path. same_named (file_path (short unit) table file) (file_path unit table file) (short_unit unit table file)) table.files

pub to_unit : (unit : Option (List ℕ)) (table : LineTable) (path : List ℕ)
    → IsOfOne (IsFileSource unit table) table.files path → IsOfOne (IsFileSource (short unit) table) table.files path
to_unit unit table =
    one_by_one (λ file path. same_named (file_path unit table file) (file_path (short unit) table file) (sym (short_unit unit table file))) table.files
