-- Line tables (DWARF 5, section 6.2.4, "The Line Number Program Header", and section 6.2.4.1, "Standard Content Descriptions";
-- DWARF 2, section 6.2.4, "The Statement Program Prologue"; DWARF 3 and 4, section 6.2.4, "The Line Number Program Header"): the
-- directories and files that a table's header lists.
use Rattle.std.specs.Prelude.{◌≡◌, ◌≢◌, ℕ, ◌≤◌, List, [], ◌∷◌, Bool, true, false, Option, Some, None, Ok, ◌==◌, length, map}
use Rattle.std.specs.Option.{option_map, option_and_then, option_or}
use Rattle.std.specs.Result.{result_ok}
use Rattle.file_formats.specs.declared.encoding.Order.{Order}
use Rattle.file_formats.specs.declared.dwarf_forms.Width.TheVariants.{One}
use Rattle.file_formats.specs.declared.dwarf_units.TheConstants.{OLDEST_VERSION, DWARF_VERSION}
use Rattle.file_formats.specs.declared.dwarf_lines.TheConstants.{DW_LNCT_PATH, DW_LNCT_DIRECTORY_INDEX, DW_LNCT_TIMESTAMP, DW_LNCT_SIZE, DW_LNCT_MD5, ADDRESS_SIZE_PLACE, HEADER_LENGTH_PLACE, OLD_HEADER_LENGTH_PLACE, LINE_PARAMETERS_SIZE, OLD_LINE_PARAMETERS_SIZE, OPERATIONS_VERSION}
use Rattle.file_formats.specs.declared.dwarf_lines.LineHead.{LineHead}
use Rattle.file_formats.specs.declared.dwarf_lines.FieldFormat.{FieldFormat}
use Rattle.file_formats.specs.DwarfReads.{Input, At, unsigned_at, number_at, string_at}
use Rattle.file_formats.specs.DwarfForms.{Raw, direct_at}
use Rattle.file_formats.specs.DwarfTexts.{Texts, FormValue, number_is, text_is, value_of}
use Rattle.file_formats.specs.DwarfLengths.{Piece, piece_at}
use Rattle.file_formats.specs.DwarfSequences.{Along}
use Rattle.file_formats.specs.DwarfUnits.{where_named}
use Rattle.file_formats.specs.DwarfLineHeads.{line_head}

-- the versions that are read, the content types and the places and sizes of the header have these numbers
pub record LineCodes : Type 0 where
  pub oldest : OLDEST_VERSION ≡ 2
  pub version : DWARF_VERSION ≡ 5
  pub path : DW_LNCT_PATH ≡ 0x1
  pub directory_index : DW_LNCT_DIRECTORY_INDEX ≡ 0x2
  pub timestamp : DW_LNCT_TIMESTAMP ≡ 0x3
  pub size : DW_LNCT_SIZE ≡ 0x4
  pub md5 : DW_LNCT_MD5 ≡ 0x5
  pub address_size : ADDRESS_SIZE_PLACE ≡ 2
  pub header_length : HEADER_LENGTH_PLACE ≡ 4
  pub old_header_length : OLD_HEADER_LENGTH_PLACE ≡ 2
  pub parameters : LINE_PARAMETERS_SIZE ≡ 5
  pub old_parameters : OLD_LINE_PARAMETERS_SIZE ≡ 4
  pub operations : OPERATIONS_VERSION ≡ 4

-- any number of values, one behind the other: a relation of place, value and the place behind holds of each
pub data Row {A : Type 0} (R : ℕ → A → ℕ → Type 0) : ℕ → List A → ℕ → Type 0 where
  no_more : (p : ℕ) → Row R p [] p
  one_more : (p : ℕ) (x : A) (q : ℕ) (xs : List A) (r : ℕ) → R p x q → Row R q xs r → Row R p (x ∷ xs) r

-- a field's format at place p: its content type and its form
unfoldable pub format_at : Input → ℕ → Option (At FieldFormat)
format_at s p =
    option_and_then (λ content_type.
    option_map (λ form. record { value = record { content_type = content_type.value; form = form.value }; next = form.next })
    (result_ok (unsigned_at s content_type.next))) (result_ok (unsigned_at s p))

-- the formats of an entry's fields, from place p to place q: their number (1 byte), and one for each field
pub record AreFormats (s : Input) (p : ℕ) (fields : List FieldFormat) (q : ℕ) : Type 0 where
  pub count : At ℕ
  pub counted : number_at s One p ≡ Ok count
  pub row : Row (λ at field behind. format_at s at ≡ Some (record { value = field; next = behind })) count.next fields q
  pub number : length fields ≡ count.value

-- a field's value at the place; indirect is no form here, and neither is implicit_const, which has no constant
abbrev pub field_at : Input → FieldFormat → ℕ → Option (At Raw)
field_at s field p = result_ok (direct_at s None field.form p)

-- the value of a field stands at the place
abbrev pub FieldAt : Input → FieldFormat → ℕ → At Raw → Type 0
FieldAt s field p raw = field_at s field p ≡ Some raw

-- the value of the first field of a content type, none where no field has it
unfoldable pub first_value : ℕ → List FieldFormat → List Raw → Option Raw
first_value asked (field ∷ fields) (raw ∷ raws) =
    option_or (where_named asked field.content_type raw) (first_value asked fields raws)
first_value asked fields raws = None

-- what an entry of a line table says: its path, and the index of its directory, none of either where it isn't there
pub record LineEntry : Type 0 where
  pub path : Option (List ℕ)
  pub directory : Option ℕ

-- a number, none where the value is none
abbrev pub number_of : FormValue → Option ℕ
number_of (number_is n) = Some n
number_of value = None

-- the index of a directory: 0 where no field gives it
abbrev pub directory_of : Texts → Option Raw → Option ℕ
directory_of texts None = Some 0
directory_of texts (Some raw) = number_of (value_of texts raw)

-- an entry whose path is this value, none where that is no text
abbrev pub entry_of_path : FormValue → Option ℕ → Option LineEntry
entry_of_path (text_is text) directory = Some (record { path = text; directory = directory })
entry_of_path value directory = None

-- an entry of these fields' values, none where no field gives a path
abbrev pub entry_of : Texts → Option Raw → Option Raw → Option LineEntry
entry_of texts None directory = None
entry_of texts (Some path) directory = entry_of_path (value_of texts path) (directory_of texts directory)

-- an entry of these fields, from place p to place q
pub record IsLineEntry (s : Input) (texts : Texts) (fields : List FieldFormat) (p : ℕ) (entry : LineEntry) (q : ℕ) : Type 0 where
  pub raws : List Raw
  pub stand : Along (FieldAt s) p fields raws q
  pub says : entry_of texts (first_value DW_LNCT_PATH fields raws) (first_value DW_LNCT_DIRECTORY_INDEX fields raws)
      ≡ Some entry

-- a list from place p to place q: the formats of its entries' fields, the entries' number, and the entries
pub record IsLineList (s : Input) (texts : Texts) (p : ℕ) (entries : List LineEntry) (q : ℕ) : Type 0 where
  pub fields : List FieldFormat
  pub fields_end : ℕ
  pub formats : AreFormats s p fields fields_end
  pub count : At ℕ
  pub counted : unsigned_at s fields_end ≡ Ok count
  pub row : Row (IsLineEntry s texts fields) count.next entries q
  pub number : length entries ≡ count.value

-- what a line table lists, by its version: its directories' paths, and its files
pub record LineTable : Type 0 where
  pub version : ℕ
  pub directories : List (Option (List ℕ))
  pub files : List LineEntry

-- the lists from place p on: the directories and then the files, which end by place end at the latest
pub record AreLineLists (s : Input) (texts : Texts) (p end : ℕ) (table : LineTable) : Type 0 where
  pub directories : List LineEntry
  pub directories_end : ℕ
  pub first : IsLineList s texts p directories directories_end
  pub paths : table.directories ≡ map (λ entry. entry.path) directories
  pub files_end : ℕ
  pub second : IsLineList s texts directories_end table.files files_end
  pub within : files_end ≤ end

-- a text that isn't empty, from place p to place q
pub record IsNamed (s : Input) (p : ℕ) (text : List ℕ) (q : ℕ) : Type 0 where
  pub stands : string_at s p ≡ Ok (record { value = text; next = q })
  pub some : text ≢ []

-- an include directory of versions 2 to 4, from place p to place q
pub record IsIncludeDirectory (s : Input) (p : ℕ) (directory : Option (List ℕ)) (q : ℕ) : Type 0 where
  pub path : List ℕ
  pub named : IsNamed s p path q
  pub says : directory ≡ Some path

-- a file of versions 2 to 4, from place p to place q: its path, and three numbers, the index of its directory, the time of its last
-- change and its length
pub record IsFileName (s : Input) (p : ℕ) (file : LineEntry) (q : ℕ) : Type 0 where
  pub path : List ℕ
  pub path_end : ℕ
  pub named : IsNamed s p path path_end
  pub index : At ℕ
  pub directory : unsigned_at s path_end ≡ Ok index
  pub time : At ℕ
  pub changed : unsigned_at s index.next ≡ Ok time
  pub size : At ℕ
  pub sized : unsigned_at s time.next ≡ Ok size
  pub behind : q ≡ size.next
  pub says : file ≡ record { path = Some path; directory = Some index.value }

-- a list of versions 2 to 4, from place p to place q: any number of items, and an empty text
pub record IsEndedList {A : Type 0} (Item : ℕ → A → ℕ → Type 0) (s : Input) (p : ℕ) (items : List A) (q : ℕ) : Type 0 where
  pub last : ℕ
  pub row : Row Item p items last
  pub ended : string_at s last ≡ Ok (record { value = []; next = q })

-- the lists of versions 2 to 4 from place p on: the include directories and then the files, which end by place end at the latest
pub record AreEndedLists (s : Input) (p end : ℕ) (table : LineTable) : Type 0 where
  pub directories_end : ℕ
  pub first : IsEndedList (IsIncludeDirectory s) s p table.directories directories_end
  pub files_end : ℕ
  pub second : IsEndedList (IsFileName s) s directories_end table.files files_end
  pub within : files_end ≤ end

-- the lists of a version from place p on
abbrev pub AreLists : Bool → Input → Texts → ℕ → ℕ → LineTable → Type 0
AreLists true s texts p end table = AreLineLists s texts p end table
AreLists false s texts p end table = AreEndedLists s p end table

-- the table's bytes, in its own format
abbrev pub line_input : Order → Piece → LineHead → Input
line_input order table head =
    record { bytes = table.bytes; order = order; wide = table.wide; address_size = head.address_size; version = head.version }

-- what a table of this header lists
pub record IsListed (texts : Texts) (piece : Piece) (head : LineHead) (table : LineTable) : Type 0 where
  pub version : table.version ≡ head.version
  pub lists : AreLists (head.version == DWARF_VERSION) (line_input texts.order piece head) (record texts { wide = piece.wide })
      head.lists head.end table

-- the table behind the initial length at place p of .debug_line; its texts' places are of its own format. There is none where
-- it can't be read
pub record IsLineTable (lines : List ℕ) (p : ℕ) (texts : Texts) (table : LineTable) : Type 0 where
  pub piece : At Piece
  pub stands : piece_at texts.order lines p ≡ Some piece
  pub head : LineHead
  pub header : line_head texts.order piece.value ≡ Some head
  pub listed : IsListed texts piece.value head table
