-- A section of a sample file before it has a place (ELF gABI, chapter 4, "Sections").
use Rattle.std.specs.Prelude.{ℕ, List, [], length}
use Rattle.sample_files.specs.declared.codes.TheConstants.{SHT_NOBITS}

-- a section: its name, type, flags and alignment, its bytes in the file, and the size that its
-- header states
pub record Part : Type 0 where
  pub name : List ℕ
  pub sh_type : ℕ
  pub flags : ℕ
  pub alignment : ℕ
  pub contents : List ℕ
  pub size : ℕ

-- a section with bytes in the file, which are its size
abbrev pub section : List ℕ → ℕ → ℕ → ℕ → List ℕ → Part
section name sh_type flags alignment contents =
    record {
      name = name;
      sh_type = sh_type;
      flags = flags;
      alignment = alignment;
      contents = contents;
      size = length contents;
    }

-- a NOBITS section: a size, and no bytes in the file
abbrev pub section_without_bytes : List ℕ → ℕ → ℕ → ℕ → Part
section_without_bytes name flags alignment size =
    record {
      name = name;
      sh_type = SHT_NOBITS;
      flags = flags;
      alignment = alignment;
      contents = [];
      size = size;
    }
