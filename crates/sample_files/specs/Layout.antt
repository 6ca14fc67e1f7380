-- The plain layout of a sample file (this project's rule; the fields are those of ELF gABI, chapter
-- 4, "ELF Header" and "Sections"): the header, the sections' bytes in order, the section table.
use Rattle.std.specs.Prelude.{ℕ, ◌+◌, ◌-◌, ◌%◌, List, [], ◌∷◌, ◌++◌, length, replicate, codes, sum_by, ◌≤◌, ◌^◌}
use Rattle.std.specs.List.{flat_map}
use Rattle.sample_files.specs.declared.codes.TheConstants.{EV_CURRENT, SHT_STRTAB, SHN_XINDEX}
use Rattle.sample_files.specs.declared.shape.Order.{Order}
use Rattle.sample_files.specs.declared.shape.Order.TheVariants.{Little, Big}
use Rattle.sample_files.specs.declared.shape.Class.{Class}
use Rattle.sample_files.specs.declared.shape.Class.TheVariants.{Elf32, Elf64}
use Rattle.sample_files.specs.declared.shape.Counts.{Counts}
use Rattle.sample_files.specs.declared.shape.Counts.TheVariants.{Plain, Extended}
use Rattle.sample_files.specs.declared.shape.Shape.{Shape}
use Rattle.sample_files.specs.declared.shape.ClassNumbers.{ClassNumbers}
use Rattle.sample_files.specs.declared.fields.Field.{Field}
use Rattle.sample_files.specs.declared.fields.Field.TheVariants.{Half, Word, Place}
use Rattle.sample_files.specs.Parts.{Part, section}
use Rattle.sample_files.specs.Fields.{fields_bytes}

-- ---- places

-- the bytes from a place to the first multiple of an alignment at or after it
abbrev pub padding : ℕ → ℕ → ℕ
padding alignment place = (alignment - place % alignment) % alignment

-- the first multiple of an alignment at or after a place
abbrev pub first_fit : ℕ → ℕ → ℕ
first_fit alignment place = place + padding alignment place

-- where a section ends that comes behind a place
abbrev pub part_end : ℕ → Part → ℕ
part_end place part = first_fit part.alignment place + length part.contents

-- where sections end that come behind a place
abbrev pub parts_end : ℕ → List Part → ℕ
parts_end place [] = place
parts_end place (part ∷ rest) = parts_end (part_end place part) rest

-- ---- sizes by class

-- a class's byte 4, the sizes of its header (e_ehsize) and section headers (e_shentsize), and the
-- alignment of its section table
abbrev pub numbers_of : Class → ClassNumbers
numbers_of Elf32 = record { byte = 1; header = 52; entry = 40; table_alignment = 4 }
numbers_of Elf64 = record { byte = 2; header = 64; entry = 64; table_alignment = 8 }

-- the header's size
abbrev pub header_size : Class → ℕ
header_size class = (numbers_of class).header

-- the size of a section header
abbrev pub entry_size : Class → ℕ
entry_size class = (numbers_of class).entry

-- ---- the header

-- byte 5 of an order
abbrev pub order_byte : Order → ℕ
order_byte Little = 1
order_byte Big = 2

-- the first sixteen bytes (e_ident)
abbrev pub identification : Shape → List ℕ
identification s =
    0x7f ∷ codes "ELF"
    ++ (numbers_of s.class).byte ∷ order_byte s.order ∷ EV_CURRENT ∷ replicate 9 0

-- e_shnum, of so many section headers
abbrev pub stated_count : Counts → ℕ → ℕ
stated_count Plain count = count
stated_count Extended count = 0

-- e_shstrndx, of so many section headers: the last index
abbrev pub stated_names : Counts → ℕ → ℕ
stated_names Plain count = count - 1
stated_names Extended count = SHN_XINDEX

-- the header's fields behind the first sixteen bytes, in the standard's order: e_type, e_machine,
-- e_version; e_entry, e_phoff, e_shoff; e_flags; e_ehsize, e_phentsize, e_phnum, e_shentsize,
-- e_shnum, e_shstrndx
abbrev pub header_fields : Shape → ℕ → ℕ → List Field
header_fields s table count =
    Half s.e_type ∷ Half s.e_machine ∷ Word EV_CURRENT ∷ Place 0 ∷ Place 0 ∷ Place table ∷ Word 0
    ∷ Half (header_size s.class) ∷ Half 0 ∷ Half 0 ∷ Half (entry_size s.class)
    ∷ Half (stated_count s.counts count) ∷ Half (stated_names s.counts count) ∷ []

-- the header of a file whose section table begins at a place and has so many headers
abbrev pub header : Shape → ℕ → ℕ → List ℕ
header s table count = identification s ++ fields_bytes s (header_fields s table count)

-- ---- the sections

-- a section's name in the names' section
abbrev pub name_bytes : Part → List ℕ
name_bytes part = part.name ++ 0 ∷ []

-- the names' section: a 0, then each section's name with a 0, its own last
abbrev pub names_contents : List Part → List ℕ
names_contents parts = 0 ∷ flat_map name_bytes parts ++ codes ".shstrtab" ++ 0 ∷ []

-- the section of the names
abbrev pub names_part : List Part → Part
names_part parts = section (codes ".shstrtab") SHT_STRTAB 0 1 (names_contents parts)

-- the sections from index 1 on: those given, and last that of the names
abbrev pub numbered : List Part → List Part
numbered parts = parts ++ names_part parts ∷ []

-- the bytes behind a place: for each section zeros up to its start, then its contents
abbrev pub bodies : ℕ → List Part → List ℕ
bodies place [] = []
bodies place (part ∷ rest) =
    replicate (padding part.alignment place) 0 ++ part.contents ++ bodies (part_end place part) rest

-- ---- the section table

-- a section header's fields in the standard's order: sh_name, sh_type; sh_flags, sh_addr,
-- sh_offset, sh_size; sh_link, sh_info; sh_addralign, sh_entsize
abbrev pub entry_fields : ℕ → ℕ → Part → List Field
entry_fields name offset part =
    Word name ∷ Word part.sh_type ∷ Place part.flags ∷ Place 0 ∷ Place offset ∷ Place part.size
    ∷ Word 0 ∷ Word 0
    ∷ Place part.alignment ∷ Place 0 ∷ []

-- section 0's size, of so many section headers
abbrev pub first_size : Counts → ℕ → ℕ
first_size Plain count = 0
first_size Extended count = count

-- section 0's link, of so many section headers: the last index
abbrev pub first_link : Counts → ℕ → ℕ
first_link Plain count = 0
first_link Extended count = count - 1

-- the fields of section 0, which are zeros where the header has the counts
abbrev pub first_fields : Counts → ℕ → List Field
first_fields counts count =
    Word 0 ∷ Word 0 ∷ Place 0 ∷ Place 0 ∷ Place 0 ∷ Place
    (first_size counts count) ∷ Word (first_link counts count) ∷ Word 0
    ∷ Place 0 ∷ Place 0 ∷ []

-- the headers of sections that come behind a place, whose names begin at a place in the names'
-- section
abbrev pub entries : Shape → ℕ → ℕ → List Part → List ℕ
entries s place name [] = []
entries s place name (part ∷ rest) =
    fields_bytes s (entry_fields name (first_fit part.alignment place) part)
    ++ entries s (part_end place part) (name + length (name_bytes part)) rest

-- ---- the file

-- the place behind the last section's bytes
abbrev pub bodies_end : Shape → List Part → ℕ
bodies_end s parts = parts_end (header_size s.class) (numbered parts)

-- where the section table begins
abbrev pub table_place : Shape → List Part → ℕ
table_place s parts = first_fit (numbers_of s.class).table_alignment (bodies_end s parts)

-- the number of section headers: section 0's, and those of the numbered sections
abbrev pub entry_count : List Part → ℕ
entry_count parts = 1 + length (numbered parts)

-- the section table
abbrev pub table : Shape → List Part → List ℕ
table s parts =
    fields_bytes s (first_fields s.counts (entry_count parts))
    ++ entries s (header_size s.class) 1 (numbered parts)

-- the file
unfoldable pub plain_layout : Shape → List Part → List ℕ
plain_layout s parts =
    header s (table_place s parts) (entry_count parts)
    ++ bodies (header_size s.class) (numbered parts)
    ++ replicate (padding (numbers_of s.class).table_alignment (bodies_end s parts)) 0
    ++ table s parts

-- ---- what a layout needs

-- the bytes that a section takes at most, with its padding and its name
abbrev pub part_room : Part → ℕ
part_room part = part.alignment + length part.contents + length part.name

-- the bytes that sections take at most
abbrev pub parts_room : List Part → ℕ
parts_room parts = sum_by part_room parts

-- few and small sections, so that each number fits its field in a 32-bit file
pub record IsSmall (parts : List Part) : Type 0 where
  pub few : length parts ≤ 1000
  pub short : parts_room parts ≤ 2 ^ 20
