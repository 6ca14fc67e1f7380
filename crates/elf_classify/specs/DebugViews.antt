-- The debug sections of a file of which parts are there, and what is said of them (this project's rule).
use Rattle.std.specs.Prelude.{◌≡◌, ◌⊎◌, ◌↔◌, ℕ, List, Option, option_map, true, false, ◌==◌, ◌+◌, ◌≤◌, All, Ok, length}
use Rattle.file_formats.specs.Cover.{IsPlaceOf}
use Rattle.file_formats.specs.declared.codes.TheConstants.{ET_REL}
use Rattle.file_formats.specs.declared.header.SectionTable.{SectionTable}
use Rattle.file_formats.specs.DwarfSections.{IsSectionPart, AreDebugSections, IsDebugAnswer}
use Rattle.file_formats.specs.DwarfUnits.{DebugSections}
use Rattle.file_formats.specs.Identity.{Identity}
use Rattle.file_formats.specs.Parts.{IsDebugRange, IsSectionRange, IsSomePart, is_debug_name}
use Rattle.file_formats.specs.Table.{section_table}
use Rattle.file_formats.specs.Windows.{Range}
use Rattle.file_picture.specs.Agrees.{AgreesWithPicture, AsksOf, IsOfEach, filled_with_zeros}
use Rattle.file_picture.specs.Counts.{is_among, is_inside}
use Rattle.file_picture.specs.Picture.{PictureFacts, IsCovered}
use Rattle.file_picture.specs.declared.view.Need.{Need}
use Rattle.dwarf_forms.specs.Parts.{sections_of}
use Rattle.elf_file.specs.Opened.{Opened}
use Rattle.elf_file.specs.Steps.{Needs}
use Rattle.elf_classify.specs.Placed.{HasSectionThere, NeedsSection}
use Rattle.elf_classify.specs.Views.{IsIdentityOfEach}
use Rattle.elf_classify.specs.declared.parts.PartsView.{PartsView}
use Rattle.elf_classify.specs.declared.parts.PartsView.TheVariants as view

-- the part of a name, whose bytes are there
pub record SeesPart (f : Opened) (name part : List ℕ) : Type 0 where
  pub is : IsSectionPart (filled_with_zeros f.file) name part
  pub there : HasSectionThere f.file name

-- all parts, whose bytes are there
pub record SeesParts (f : Opened) (parts : DebugSections) : Type 0 where
  pub are : AreDebugSections (filled_with_zeros f.file) f.table parts
  pub there : (name : List ℕ) → is_debug_name name ≡ true → HasSectionThere f.file name

-- the bytes of a part are asked for, and aren't there
pub record NeedsPart (v : PictureFacts) (need : Need) : Type 0 where
  pub name : List ℕ
  pub among : is_debug_name name ≡ true
  pub section : NeedsSection v name need

-- so are they of a file whose parts are read
pub record NeedsDebug (v : PictureFacts) (need : Need) : Type 0 where
  pub of : SectionTable
  pub is_table : section_table (filled_with_zeros v) ≡ Ok of
  pub linked : (of.e_type == ET_REL) ≡ false
  pub part : NeedsPart v need

-- the debug sections of the filled picture, whose bytes are there
pub record IsDebugSeen (v : PictureFacts) (parts : Option DebugSections) : Type 0 where
  pub is : IsDebugAnswer (filled_with_zeros v) parts
  pub there : (r : Range) → IsDebugRange (filled_with_zeros v) r → IsCovered v r.at r.len

-- what a reading of a view finds for the debug sections
abbrev pub SeesDebug : PictureFacts → PartsView → Type 0
SeesDebug v (view.Need at len) =
    Needs v (record { at = at; len = len }) ⊎ NeedsDebug v (record { at = at; len = len })
SeesDebug v (view.Parts parts) = IsDebugSeen v (option_map sections_of parts)

-- each file that agrees with the picture has one identity, and all its windows are there
pub record KnowsIdentity (p : PictureFacts) : Type 0 where
  pub identity : Identity
  pub known : IsIdentityOfEach p (Ok identity)

-- what is answered for the debug sections of a picture
abbrev pub SaysParts : PictureFacts → PartsView → Type 0
SaysParts p (view.Need at len) = AsksOf IsSomePart p at len
SaysParts p (view.Parts parts) = IsOfEach IsSomePart (λ b. IsDebugAnswer b (option_map sections_of parts)) p

-- the ranges lie in the file, and a place lies in one of them exactly where it lies in a debug section, of each file that agrees
pub record AreDebugPlaces (p : PictureFacts) (places : List Need) : Type 0 where
  pub inside : All (λ at. at.at + at.len ≤ p.size) places
  pub each : (b : List ℕ) → AgreesWithPicture b p → (q : ℕ) → (is_among places q ≡ true) ↔ IsPlaceOf (IsDebugRange b) q

-- the range of the section of one of the names
pub record IsNamedRange (b : List ℕ) (r : Range) : Type 0 where
  pub name : List ℕ
  pub among : is_debug_name name ≡ true
  pub is : IsSectionRange b name r

-- where the section of a name stands in the filled picture; no bytes where it isn't handed out
pub record IsNamePlace (f : Opened) (name : List ℕ) (at : Need) : Type 0 where
  pub inside : at.at + at.len ≤ length (filled_with_zeros f.file)
  pub each : (q : ℕ) → (is_inside at.at at.len q ≡ true) ↔ IsPlaceOf (IsSectionRange (filled_with_zeros f.file) name) q

-- where all six stand
pub record AreNamePlaces (f : Opened) (places : List Need) : Type 0 where
  pub inside : All (λ at. at.at + at.len ≤ length (filled_with_zeros f.file)) places
  pub each : (q : ℕ) → (is_among places q ≡ true) ↔ IsPlaceOf (IsNamedRange (filled_with_zeros f.file)) q
