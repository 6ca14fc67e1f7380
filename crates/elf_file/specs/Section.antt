-- A section as it is handed out (ELF gABI, chapter 4, "Sections").
use Rattle.std.specs.Prelude.{◌≡◌, ℕ, List}
use Rattle.std.specs.Option.{option_copied}
use Rattle.file_formats.specs.declared.header.SectionTable.{SectionTable}
use Rattle.file_formats.specs.Table.{section_at, contents_at, name_at}
use Rattle.elf_file.specs.declared.section.Section.{Section}

-- the section of index i, with its name and contents
pub record IsSection (b : List ℕ) (t : SectionTable) (i : ℕ) (s : Section) : Type 0 where
  pub name : option_copied s.name ≡ name_at b t i
  pub sh_type : s.sh_type ≡ (section_at b t i).sh_type
  pub flags : s.flags ≡ (section_at b t i).sh_flags
  pub offset : s.offset ≡ (section_at b t i).sh_offset
  pub size : s.size ≡ (section_at b t i).sh_size
  pub align : s.align ≡ (section_at b t i).sh_addralign
  pub contents : option_copied s.contents ≡ contents_at b t i
