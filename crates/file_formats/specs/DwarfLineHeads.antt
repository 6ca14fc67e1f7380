-- The headers of line tables, to where their lists begin (DWARF 5, section 6.2.4, "The Line Number Program Header"; DWARF 2,
-- section 6.2.4, "The Statement Program Prologue"; DWARF 3 and 4, section 6.2.4, "The Line Number Program Header").
use Rattle.std.specs.Prelude.{ℕ, ◌+◌, Bool, Option, None, not, ◌||◌, ◌==◌, nat_le, nat_lt, if◌then◌else◌, length, slice_index}
use Rattle.std.specs.Option.{option_map}
use Rattle.file_formats.specs.declared.encoding.Order.{Order}
use Rattle.file_formats.specs.declared.dwarf_units.TheConstants.{DWARF_VERSION}
use Rattle.file_formats.specs.declared.dwarf_lines.TheConstants.{ADDRESS_SIZE_PLACE, HEADER_LENGTH_PLACE, OLD_HEADER_LENGTH_PLACE, LINE_PARAMETERS_SIZE, OLD_LINE_PARAMETERS_SIZE, OPERATIONS_VERSION}
use Rattle.file_formats.specs.declared.dwarf_lines.LineHead.{LineHead}
use Rattle.file_formats.specs.Numbers.{bytes_at, number}
use Rattle.file_formats.specs.DwarfReads.{offset_size}
use Rattle.file_formats.specs.DwarfTexts.{number_within}
use Rattle.file_formats.specs.DwarfLengths.{Piece}
use Rattle.file_formats.specs.DwarfUnits.{is_read_version}

-- a table's version, of two bytes
abbrev pub line_version : Order → Piece → ℕ
line_version order table = number order (bytes_at table.bytes 0 2)

-- the place of header_length: behind version, and in version 5 behind address_size and segment_selector_size
abbrev pub header_length_place : ℕ → ℕ
header_length_place version = if version == DWARF_VERSION then HEADER_LENGTH_PLACE else OLD_HEADER_LENGTH_PLACE

-- how many numbers of one byte each stand between header_length and opcode_base
abbrev pub parameters_size : ℕ → ℕ
parameters_size version = if nat_lt version OPERATIONS_VERSION then OLD_LINE_PARAMETERS_SIZE else LINE_PARAMETERS_SIZE

-- the place behind header_length, from which that counts
abbrev pub behind_header_length : ℕ → Bool → ℕ
behind_header_length version wide = header_length_place version + offset_size wide

-- the place of opcode_base
abbrev pub opcode_base_place : ℕ → Bool → ℕ
opcode_base_place version wide = behind_header_length version wide + parameters_size version

-- the place where the lists begin: behind opcode_base and the lengths of the opcodes below it, of one byte each
abbrev pub lists_place : ℕ → Piece → ℕ
lists_place version table = opcode_base_place version table.wide + slice_index table.bytes (opcode_base_place version table.wide)

-- the size of an address, which version 5 alone states
abbrev pub stated_address_size : ℕ → Piece → ℕ
stated_address_size version table = if version == DWARF_VERSION then slice_index table.bytes ADDRESS_SIZE_PLACE else 0

-- the header of this header_length
abbrev pub head_of_length : ℕ → Piece → ℕ → LineHead
head_of_length version table n = record {
  version = version;
  address_size = stated_address_size version table;
  lists = lists_place version table;
  end = behind_header_length version table.wide + n;
}

-- the header of this version: version (2 bytes), in version 5 address_size (1) and segment_selector_size (1), header_length (4 or
-- 8), four numbers (1 each), from version 4 on a fifth, opcode_base (1) and so many lengths less one (1 each); none where it is cut,
-- or opcode_base is 0
abbrev pub line_head_of : Order → Piece → ℕ → Option LineHead
line_head_of order table version =
    if nat_le (length table.bytes) (opcode_base_place version table.wide)
    || (slice_index table.bytes (opcode_base_place version table.wide) == 0)
    || nat_lt (length table.bytes) (lists_place version table) then None
    else option_map (λ n. head_of_length version table n)
    (number_within order table.bytes (header_length_place version) (offset_size table.wide))

-- the header; none also where it is of a version that isn't read
unfoldable pub line_head : Order → Piece → Option LineHead
line_head order table =
    if nat_lt (length table.bytes) 2 || not (is_read_version (line_version order table)) then None
    else line_head_of order table (line_version order table)
