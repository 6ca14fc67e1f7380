-- Sections of a file that needn't be looked at again for its build-id (this project's rule).
use Rattle.std.specs.Prelude.{◌≡◌, ℕ, ◌<◌, ◌≤◌, List, Ok}
use Rattle.file_formats.specs.declared.header.SectionTable.{SectionTable}
use Rattle.file_formats.specs.Identity.{HasIdAt}
use Rattle.file_formats.specs.Table.{section_table}
use Rattle.file_formats.specs.Windows.{Range, IsNotes}
use Rattle.file_picture.specs.Agrees.{AgreesWithPicture}
use Rattle.file_picture.specs.Picture.{PictureFacts, IsCovered}

-- of each file that agrees with the picture, no section before this one has a build-id, and the notes of those before it are
-- there
pub record HasPassed (p : PictureFacts) (i : ℕ) : Type 0 where
  pub above : 1 ≤ i
  pub none : (b : List ℕ) → AgreesWithPicture b p → (t : SectionTable) → section_table b ≡ Ok t → (j : ℕ) (id : List ℕ) → j < i
      → HasIdAt b t j id → ⊥
  pub there : (b : List ℕ) → AgreesWithPicture b p → (j : ℕ) (r : Range) → j < i → IsNotes b j r → IsCovered p r.at r.len
