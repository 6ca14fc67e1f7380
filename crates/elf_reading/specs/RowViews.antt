-- What a picture says of what its files are found to be, where at most so many bytes of a file may be read (this project's rule).
use Rattle.std.specs.Prelude.{ℕ, ◌≤◌, Bool, true, false, List}
use Rattle.file_formats.specs.Cover.{CoverMore}
use Rattle.file_formats.specs.Parts.{IsSomePart}
use Rattle.file_picture.specs.Agrees.{AgreesWithPicture, AsksOf, IsOfEach}
use Rattle.file_picture.specs.Counts.{count_in, is_known_or}
use Rattle.file_picture.specs.Passed.{HasPassed}
use Rattle.file_picture.specs.Picture.{PictureFacts}
use Rattle.file_picture.specs.ReadSoFar.{IsNextRead}
use Rattle.row_types.specs.Reading.{ReadsWithin, RestsOn}
use Rattle.elf_reading.specs.declared.reading.ReadingView.{ReadingView}
use Rattle.elf_reading.specs.declared.reading.ReadingView.TheVariants as seen

-- what is answered for what the files of a picture are found to be
abbrev pub SaysReading : ℕ → PictureFacts → ReadingView → Type 0
SaysReading limit p (seen.Need at len next) = AsksOf IsSomePart p at len × IsNextRead limit p at len × HasPassed p next
SaysReading limit p (seen.Read reading) = IsOfEach (RestsOn limit) (λ b. ReadsWithin limit b reading) p
SaysReading limit p seen.OutOfMemory = Unit {0}

-- whether the parts of each file that agrees cover more than so many bytes; where they don't, no more are known once one of them is
-- read
abbrev pub CoversMore : ℕ → PictureFacts → Bool → Type 0
CoversMore limit p true = (b : List ℕ) → AgreesWithPicture b p → CoverMore (IsSomePart b) limit
CoversMore limit p false =
    ((b : List ℕ) → AgreesWithPicture b p → CoverMore (IsSomePart b) limit → ⊥)
    × ((at len : ℕ) → AsksOf IsSomePart p at len → count_in (is_known_or p at len) 0 p.size ≤ limit)
