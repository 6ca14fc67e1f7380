-- A whole file needs nothing.
use Rattle.std.proofs.Common.{◌≡◌, sym, ◌∙◌, ap, subst, ℕ, ◌+◌, ◌≤◌, List, length, Some, Result}
use Rattle.file_formats.specs.declared.fault.ElfFault.{ElfFault}
use Rattle.file_formats.specs.declared.header.SectionHeader.{SectionHeader}
use Rattle.file_formats.specs.declared.header.SectionTable.{SectionTable}
use Rattle.file_formats.specs.Numbers.{bytes_at}
use Rattle.file_formats.specs.Table.{section_table}
use Rattle.file_formats.specs.Windows.{Range, range}
use Rattle.file_formats.proofs.SectionLemmas.{holds_range}
use Rattle.file_formats.proofs.WindowLemmas.{window-inside}
use Rattle.file_picture.specs.Agrees.{filled_with_zeros}
use Rattle.file_picture.specs.Picture.{PictureFacts, IsCovered}
use Rattle.file_picture.specs.Whole.{whole}
use Rattle.file_picture.specs.declared.view.Need.{Need}
use Rattle.file_picture.proofs.WholeLaws.{filled-whole, whole-covered}
use Rattle.elf_file.specs.Parsed.{IsPictureWhole}
use Rattle.elf_file.specs.Steps.{Needs, IsExtent}

-- each range of it is there
pub is_whole : (b : List ℕ) → IsPictureWhole (whole b)
is_whole b at len inside = whole-covered b at len (subst (λ f. at + len ≤ length f) (filled-whole b) inside)

-- so is each window
pub never_needs : (v : PictureFacts) (need : Need) → IsPictureWhole v → Needs v need → ⊥
never_needs v need is n =
    n.gone (is need.at need.len (window-inside (filled_with_zeros v) n.window (range need.at need.len) n.is))

-- and what a section holds
pub extent_there : (v : PictureFacts) (s : SectionHeader) (need : Need) → IsPictureWhole v → IsExtent (filled_with_zeros v) s (Some need)
    → IsCovered v need.at need.len
extent_there v s need is e =
    let inside = (holds_range (filled_with_zeros v) s (bytes_at (filled_with_zeros v) need.at need.len) e.0).1 in
    is need.at need.len (subst (λ (r : Range). r.at + r.len ≤ length (filled_with_zeros v)) (sym e.1) inside)

-- what is read of it is the file's
pub table_whole : (b : List ℕ) (r : Result SectionTable ElfFault) → section_table (filled_with_zeros (whole b)) ≡ r → section_table b ≡ r
table_whole b r is = ap section_table (sym (filled-whole b)) ∙ is
