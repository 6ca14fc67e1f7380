-- Row bytes (this project's rule): how a store spells a row. Numbers of more than one byte are little-endian.
-- In order: edition 1, path, size 8, seconds 8, nanoseconds 4, tag 1, and by the tag why 1, or flags 1, id,
-- sources.
use Rattle.std.specs.Prelude.{◌≡◌, ℕ, ◌+◌, Bool, if◌then◌else◌, List, [], ◌∷◌, ◌++◌, length}
use Rattle.std.specs.List.{flat_map}
use Rattle.std.specs.Int.{w32, w64, to_le_bytes, cast_unsigned}
use Rattle.file_formats.specs.Identity.{Identity}
use Rattle.file_formats.specs.declared.fault.Why.{Why}
use Rattle.file_formats.specs.declared.fault.Why.TheVariants.{NotElf, BadElf, NoSections, Core, NoBuildId, TooLarge}
use Rattle.row_types.specs.Row.{RowFacts}
use Rattle.row_types.specs.Stamp.{StampFacts}
use Rattle.row_types.specs.declared.reading.Reading.{Reading}
use Rattle.row_types.specs.declared.reading.Reading.TheVariants.{Plain, Elf}
use Rattle.row_codec.specs.Spelled.{IsSpelled}
use Rattle.row_codec.specs.declared.codes.TheConstants.{PLAIN_TAG, ELF_TAG, EXEC_FLAG, DEBUG_FLAG, NOT_ELF, BAD_ELF, NO_SECTIONS, CORE, NO_BUILD_ID, TOO_LARGE}

-- a number in four bytes, the lowest first
unfoldable pub four_bytes : ℕ → List ℕ
four_bytes number = to_le_bytes w32 number

-- a number in eight bytes, the lowest first
unfoldable pub eight_bytes : ℕ → List ℕ
eight_bytes number = to_le_bytes w64 number

-- a text: its length in four bytes, and its bytes
abbrev pub spelled_text : List ℕ → List ℕ
spelled_text text = four_bytes (length text) ++ text

-- a stamp: size, seconds in two's complement, nanoseconds
abbrev pub stamp_bytes : StampFacts → List ℕ
stamp_bytes stamp =
    eight_bytes stamp.size ++ eight_bytes (cast_unsigned w64 stamp.secs) ++ four_bytes stamp.nanos

-- the number of a reason why a file has no identity
abbrev pub why_byte : Why → ℕ
why_byte NotElf = NOT_ELF
why_byte BadElf = BAD_ELF
why_byte NoSections = NO_SECTIONS
why_byte Core = CORE
why_byte NoBuildId = NO_BUILD_ID
why_byte TooLarge = TOO_LARGE

-- the sum of an identity's flags
abbrev pub flags_byte : Bool → Bool → ℕ
flags_byte exec debug = (if exec then EXEC_FLAG else 0) + (if debug then DEBUG_FLAG else 0)

-- an identity: its flags, and the id with its length in one byte
abbrev pub ident_bytes : Identity → List ℕ
ident_bytes ident = flags_byte ident.exec ident.debug ∷ length ident.id ∷ ident.id

-- sources: their number in four bytes, and each as a text
abbrev pub sources_bytes : List (List ℕ) → List ℕ
sources_bytes sources = four_bytes (length sources) ++ flat_map spelled_text sources

-- a reading: its tag, and what stands behind it
abbrev pub reading_bytes : Reading → List ℕ
reading_bytes (Plain why) = PLAIN_TAG ∷ why_byte why ∷ []
reading_bytes (Elf ident sources) = ELF_TAG ∷ (ident_bytes ident ++ sources_bytes sources)

-- a row: its edition, path, stamp and reading
abbrev pub row_bytes : RowFacts → List ℕ
row_bytes row = row.edition ∷ (spelled_text row.name.path ++ stamp_bytes row.name.stamp ++ reading_bytes row.reading)

-- the bytes are those of the row
pub record IsRowBytes (row : RowFacts) (bytes : List ℕ) : Type 0 where
  pub spelled : IsSpelled row
  pub written : bytes ≡ row_bytes row

-- the bytes are those of no other row
abbrev pub IsOnlyRow : RowFacts → List ℕ → Type 0
IsOnlyRow row bytes = (other : RowFacts) → IsRowBytes other bytes → other ≡ row
