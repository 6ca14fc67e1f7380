-- What a reading of a file knows of which parts are there, step by step (this project's rule).
use Rattle.std.specs.Prelude.{◌≡◌, ℕ, ◌+◌, ◌*◌, ◌<◌, ◌≤◌, min, List, Option, Some, None, Bool, true, ◌&&◌, if◌then◌else◌, length, Ok, Err}
use Rattle.file_formats.specs.Numbers.{bytes_at}
use Rattle.file_formats.specs.Header.{header_of}
use Rattle.file_formats.specs.Sections.{shdr_size, contents_of}
use Rattle.file_formats.specs.Table.{has_section_zero, section_zero, section_table, names_section, described}
use Rattle.file_formats.specs.declared.fault.ElfFault.{ElfFault}
use Rattle.file_formats.specs.declared.fields.TheConstants.{EHDR64_SIZE}
use Rattle.file_formats.specs.declared.header.Head.{Head}
use Rattle.file_formats.specs.declared.header.SectionHeader.{SectionHeader}
use Rattle.file_formats.specs.declared.header.SectionTable.{SectionTable}
use Rattle.file_formats.specs.Windows.{Range, range, Window, IsWindow, rank, asks_zero, extent}
use Rattle.file_picture.specs.Agrees.{filled_with_zeros}
use Rattle.file_picture.specs.Picture.{PictureFacts, IsCovered}
use Rattle.file_picture.specs.declared.view.Need.{Need}
use Rattle.elf_file.specs.declared.stop.Stop.{Stop}
use Rattle.elf_file.specs.declared.stop.Stop.TheVariants as stop

-- the windows below this place in the order are there
pub record AllHere (v : PictureFacts) (n : ℕ) : Type 0 where
  pub here : (w : Window) (r : Range) → rank w < n → IsWindow (filled_with_zeros v) w r → IsCovered v r.at r.len

-- a window is asked for that isn't there; those before it are
pub record Needs (v : PictureFacts) (need : Need) : Type 0 where
  pub window : Window
  pub is : IsWindow (filled_with_zeros v) window (range need.at need.len)
  pub before : AllHere v (rank window)
  pub gone : (IsCovered v need.at need.len → ⊥)

-- the beginning
pub record HasBeginning (v : PictureFacts) (bytes : List ℕ) : Type 0 where
  pub is : bytes ≡ bytes_at (filled_with_zeros v) 0 (min EHDR64_SIZE (length (filled_with_zeros v)))
  pub all : AllHere v 1

-- the header
pub record HasElfHeader (v : PictureFacts) (h : Head) : Type 0 where
  pub is : header_of (filled_with_zeros v) ≡ Ok h
  pub all : AllHere v 1

-- the table's tests fail, and all windows are there
pub record FailsTests (v : PictureFacts) (fault : ElfFault) : Type 0 where
  pub is : section_table (filled_with_zeros v) ≡ Err fault
  pub all : (n : ℕ) → AllHere v n

-- why the section table isn't read
abbrev pub StopsBefore : PictureFacts → Stop → Type 0
StopsBefore v (stop.Need need) = Needs v need
StopsBefore v (stop.Fault fault) = FailsTests v fault

-- section 0's header, where it is asked and there
abbrev pub zero_of : List ℕ → Head → Option SectionHeader
zero_of b h = if asks_zero h && has_section_zero b h then Some (section_zero b h) else None

-- this is it, and the windows up to section 0's header are there
pub record HasZero (v : PictureFacts) (h : Head) (zero : Option SectionHeader) : Type 0 where
  pub is : zero ≡ zero_of (filled_with_zeros v) h
  pub all : AllHere v 2

-- the entries of the section table, which lies in the file
pub record AreEntries (b : List ℕ) (t : SectionTable) (entries : List ℕ) : Type 0 where
  pub are : entries ≡ bytes_at b t.start (t.count * shdr_size t.encoding.class)
  pub inside : t.start + t.count * shdr_size t.encoding.class ≤ length b

-- the entries of the table that the header describes
pub record HasEntries (v : PictureFacts) (h : Head) (entries : List ℕ) : Type 0 where
  pub listed : AreEntries (filled_with_zeros v) (described (filled_with_zeros v) h) entries
  pub all : AllHere v 3

-- the section table with its entries
pub record HasTable (v : PictureFacts) (t : SectionTable) (entries : List ℕ) : Type 0 where
  pub is : section_table (filled_with_zeros v) ≡ Ok t
  pub listed : AreEntries (filled_with_zeros v) t entries
  pub all : AllHere v 3

-- the bytes that names stand in
pub record HasNames (v : PictureFacts) (t : SectionTable) (names : Option (List ℕ)) : Type 0 where
  pub are : names ≡ names_section (filled_with_zeros v) t
  pub all : AllHere v 4

-- where a section's contents stand, none where it has none
abbrev pub IsExtent : List ℕ → SectionHeader → Option Need → Type 0
IsExtent b s None = contents_of b s ≡ None
IsExtent b s (Some need) = (contents_of b s ≡ Some (bytes_at b need.at need.len)) × (range need.at need.len ≡ extent s)

-- a number of section 0's header where it is asked, and else the header's own
abbrev pub from_zero : Bool → (SectionHeader → ℕ) → Option SectionHeader → ℕ → ℕ
from_zero true number (Some zero) own = number zero
from_zero _ number _ own = own
