-- How a sample spells its headers' fields (ELF gABI, chapter 4, "Data Representation").
use Rattle.std.specs.Prelude.{ℕ, List}
use Rattle.std.specs.List.{flat_map}
use Rattle.std.specs.Int.{Width, w16, w32, w64, to_le_bytes, to_be_bytes}
use Rattle.sample_files.specs.declared.shape.Order.{Order}
use Rattle.sample_files.specs.declared.shape.Order.TheVariants.{Little, Big}
use Rattle.sample_files.specs.declared.shape.Class.{Class}
use Rattle.sample_files.specs.declared.shape.Class.TheVariants.{Elf32, Elf64}
use Rattle.sample_files.specs.declared.shape.Shape.{Shape}
use Rattle.sample_files.specs.declared.fields.Field.{Field}
use Rattle.sample_files.specs.declared.fields.Field.TheVariants.{Half, Word, Place}

-- a number in a field of a width, in a file's order
unfoldable pub spelled : Order → Width → ℕ → List ℕ
spelled Little w n = to_le_bytes w n
spelled Big w n = to_be_bytes w n

-- the width of a class's places and sizes
abbrev pub place_width : Class → Width
place_width Elf32 = w32
place_width Elf64 = w64

-- a field: two bytes, four bytes, or as many as the class's places have
abbrev pub field_bytes : Shape → Field → List ℕ
field_bytes s (Half n) = spelled s.order w16 n
field_bytes s (Word n) = spelled s.order w32 n
field_bytes s (Place n) = spelled s.order (place_width s.class) n

-- fields, one behind the other
abbrev pub fields_bytes : Shape → List Field → List ℕ
fields_bytes s fields = flat_map (field_bytes s) fields
