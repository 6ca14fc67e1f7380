-- Units and their first entries (DWARF 5, section 7.5.1, "Unit Headers", and section 7.5.2, "Debugging Information Entry";
-- DWARF 2, 3 and 4, section 7.5.1, "Compilation Unit Header"): the units of .debug_info, and of a unit's first entry the three
-- attributes that lead to its sources.
use Rattle.std.specs.Prelude.{◌≡◌, ℕ, ◌+◌, List, [], ◌∷◌, Bool, false, Option, Some, None, Ok, not, ◌||◌, ◌&&◌, ◌==◌, nat_le, nat_lt, if◌then◌else◌, length, slice_index, drop}
use Rattle.std.specs.Option.{option_and_then, option_or}
use Rattle.file_formats.specs.declared.encoding.Order.{Order}
use Rattle.file_formats.specs.declared.dwarf_forms.Sense.TheVariants.{Place}
use Rattle.file_formats.specs.declared.dwarf_units.TheConstants.{OLDEST_VERSION, DWARF_VERSION, DW_UT_COMPILE, DW_UT_TYPE, DW_UT_PARTIAL, DW_UT_SKELETON, DW_UT_SPLIT_COMPILE, DW_UT_SPLIT_TYPE, DW_AT_STMT_LIST, DW_AT_COMP_DIR, DW_AT_STR_OFFSETS_BASE}
use Rattle.file_formats.specs.declared.dwarf_units.UnitHead.{UnitHead}
use Rattle.file_formats.specs.declared.dwarf_units.Pair.{Pair}
use Rattle.file_formats.specs.Numbers.{bytes_at, number}
use Rattle.file_formats.specs.DwarfReads.{Input, At, offset_size, unsigned_at}
use Rattle.file_formats.specs.DwarfForms.{Raw, numbered, IsForm}
use Rattle.file_formats.specs.DwarfTexts.{Texts, FormValue, text_is, number_within, value_of}
use Rattle.file_formats.specs.DwarfLengths.{Piece, piece_at}
use Rattle.file_formats.specs.DwarfSequences.{Along}
use Rattle.file_formats.specs.DwarfAbbreviations.{Pairs, IsFirst}

-- the units from place p on: the piece at each place where one stands, to the first place where none does
pub data Units (order : Order) (b : List ℕ) : ℕ → List Piece → Type 0 where
  no_more : (p : ℕ) → piece_at order b p ≡ None → Units order b p []
  next_unit : (p : ℕ) (unit : At Piece) (units : List Piece) → piece_at order b p ≡ Some unit
      → Units order b unit.next units → Units order b p (unit.value ∷ units)

-- the sections that debug information stands in, and the file's order; a section that isn't there is empty
pub record DebugSections : Type 0 where
  pub info : List ℕ
  pub abbrevs : List ℕ
  pub lines : List ℕ
  pub str : List ℕ
  pub line_str : List ℕ
  pub str_offsets : List ℕ
  pub order : Order

-- how many bytes a unit's type adds to the header, none for a type that isn't known
abbrev pub added_size : Bool → ℕ → Option ℕ
added_size wide unit_type =
    if (unit_type == DW_UT_COMPILE) || (unit_type == DW_UT_PARTIAL) then Some 0
    else (if (unit_type == DW_UT_SKELETON) || (unit_type == DW_UT_SPLIT_COMPILE) then Some 8
    else (if (unit_type == DW_UT_TYPE) || (unit_type == DW_UT_SPLIT_TYPE) then Some (8 + offset_size wide) else None))

-- the header of so many bytes, none where the unit is shorter
abbrev pub head_of_size : Piece → ℕ → ℕ → ℕ → ℕ → Option UnitHead
head_of_size unit version address_place offset size =
    if nat_le size (length unit.bytes)
    then Some (record {
      version = version;
      address_size = slice_index unit.bytes address_place;
      debug_abbrev_offset = offset;
      size = size;
    })
    else None

-- a unit's version, of two bytes
abbrev pub unit_version : Order → Piece → ℕ
unit_version order unit = number order (bytes_at unit.bytes 0 2)

-- version 5: version (2 bytes), unit_type (1), address_size (1), debug_abbrev_offset (4 or 8), and what the type adds
abbrev pub typed_head : Order → Piece → Option UnitHead
typed_head order unit =
    option_and_then (λ added. option_and_then (λ offset. head_of_size unit DWARF_VERSION 3 offset (4 + offset_size unit.wide + added))
    (number_within order unit.bytes 4 (offset_size unit.wide))) (added_size unit.wide (slice_index unit.bytes 2))

-- versions 2 to 4: version (2 bytes), debug_abbrev_offset (4 or 8), address_size (1)
abbrev pub untyped_head : Order → Piece → ℕ → Option UnitHead
untyped_head order unit version =
    option_and_then (λ offset. head_of_size unit version (2 + offset_size unit.wide) offset (3 + offset_size unit.wide))
    (number_within order unit.bytes 2 (offset_size unit.wide))

-- a version that is read
abbrev pub is_read_version : ℕ → Bool
is_read_version version = nat_le OLDEST_VERSION version && nat_le version DWARF_VERSION

-- the header, none where it is cut, or of a version or type that isn't read
unfoldable pub unit_head : Order → Piece → Option UnitHead
unit_head order unit =
    if nat_lt (length unit.bytes) 4 || not (is_read_version (unit_version order unit)) then None
    else (if unit_version order unit == DWARF_VERSION then typed_head order unit
    else untyped_head order unit (unit_version order unit))

-- the values of the attributes that are read, as they stand; none where the entry doesn't have the attribute
pub record RawEntry : Type 0 where
  pub stmt_list : Option Raw
  pub comp_dir : Option Raw
  pub str_offsets_base : Option Raw

-- an entry without attributes
abbrev pub no_attributes : RawEntry
no_attributes = record { stmt_list = None; comp_dir = None; str_offsets_base = None }

-- the value, where the attribute is the one that is asked
abbrev pub where_named : ℕ → ℕ → Raw → Option Raw
where_named asked attribute raw = if attribute == asked then Some raw else None

-- an entry of one attribute
abbrev pub one_attribute : ℕ → Raw → RawEntry
one_attribute attribute raw = record {
  stmt_list = where_named DW_AT_STMT_LIST attribute raw;
  comp_dir = where_named DW_AT_COMP_DIR attribute raw;
  str_offsets_base = where_named DW_AT_STR_OFFSETS_BASE attribute raw;
}

-- both entries' attributes; of one that both have the first one's
abbrev pub with_first_entry : RawEntry → RawEntry → RawEntry
with_first_entry e f = record {
  stmt_list = option_or e.stmt_list f.stmt_list;
  comp_dir = option_or e.comp_dir f.comp_dir;
  str_offsets_base = option_or e.str_offsets_base f.str_offsets_base;
}

-- the entry of these attributes and values, one value a pair; of a repeated attribute the first counts
unfoldable pub root_entry : List Pair → List Raw → RawEntry
root_entry (pair ∷ pairs) (raw ∷ raws) = with_first_entry (one_attribute pair.attribute raw) (root_entry pairs raws)
root_entry (pair ∷ pairs) [] = no_attributes
root_entry [] raws = no_attributes

-- the value of a pair's form stands at the place
abbrev pub AttributeAt : Input → Pair → ℕ → At Raw → Type 0
AttributeAt s pair p raw = IsForm s pair.spec.constant pair.spec.form p (Ok raw)

-- the entry whose attributes the pairs at place p of the table name, and whose values stand from place at on
pub record IsRaw (table info : Input) (p at : ℕ) (entry : RawEntry) : Type 0 where
  pub pairs : List Pair
  pub pairs_end : ℕ
  pub cut : Pairs table p pairs pairs_end
  pub raws : List Raw
  pub raws_end : ℕ
  pub stand : Along (AttributeAt info) at pairs raws raws_end
  pub says : entry ≡ root_entry pairs raws

-- a place in a section, none where the value is no number that may be one
abbrev pub section_place : Raw → Option ℕ
section_place (numbered Place n) = Some n
section_place raw = None

-- a text, none where the value is none
abbrev pub text_or_none : FormValue → Option (List ℕ)
text_or_none (text_is text) = text
text_or_none value = None

-- what a unit's first entry says: the place of its line table, its folder, its place in .debug_str_offsets
pub record RootEntry : Type 0 where
  pub stmt_list : Option ℕ
  pub comp_dir : Option (List ℕ)
  pub str_offsets_base : Option ℕ

-- what the unit's texts are taken from
abbrev pub unit_texts : DebugSections → Bool → Option ℕ → Texts
unit_texts s wide base =
    record { str = s.str; line_str = s.line_str; offsets = s.str_offsets; base = base; wide = wide; order = s.order }

-- the values with their texts, which are sought when all are read
abbrev pub root_of : DebugSections → Bool → RawEntry → RootEntry
root_of s wide entry =
    let base = option_and_then section_place entry.str_offsets_base in
    record {
      stmt_list = option_and_then section_place entry.stmt_list;
      comp_dir = option_and_then (λ raw. text_or_none (value_of (unit_texts s wide base) raw)) entry.comp_dir;
      str_offsets_base = base;
    }

-- some of the file's bytes, in the format of a unit with this header
abbrev pub unit_input : DebugSections → Bool → UnitHead → List ℕ → Input
unit_input s wide head bytes =
    record { bytes = bytes; order = s.order; wide = wide; address_size = head.address_size; version = head.version }

-- the bytes behind the unit's header
abbrev pub entries_input : DebugSections → Piece → UnitHead → Input
entries_input s unit head = unit_input s unit.wide head (drop head.size unit.bytes)

-- the bytes from the unit's abbreviations on
abbrev pub abbreviations_input : DebugSections → Piece → UnitHead → Input
abbreviations_input s unit head = unit_input s unit.wide head (drop head.debug_abbrev_offset s.abbrevs)

-- the entry at place at: its code, the first abbreviation of that code in the table at place p, and its values
pub record IsEntryFrom (table info : Input) (p at : ℕ) (raw : RawEntry) : Type 0 where
  pub code : At ℕ
  pub begins : unsigned_at info at ≡ Ok code
  pub not_null : (code.value == 0) ≡ false
  pub pairs : ℕ
  pub first : IsFirst table code.value p pairs
  pub values : IsRaw table info pairs code.next raw

-- the first entry of a unit with this header, and its texts
pub record IsEntryWith (s : DebugSections) (unit : Piece) (head : UnitHead) (entry : RootEntry) : Type 0 where
  pub raw : RawEntry
  pub stands : IsEntryFrom (abbreviations_input s unit head) (entries_input s unit head) 0 0 raw
  pub says : entry ≡ root_of s unit.wide raw

-- the unit's first entry; none where the unit can't be read
pub record IsRootEntry (s : DebugSections) (unit : Piece) (entry : RootEntry) : Type 0 where
  pub head : UnitHead
  pub header : unit_head s.order unit ≡ Some head
  pub within : IsEntryWith s unit head entry
