-- Pictures that a file is read into, of which at most so many bytes may be known (this project's rule). Nothing but windows is read,
-- and, once all windows are there, nothing but parts; so what is known is as many bytes as these cover.
use Rattle.std.specs.Prelude.{◌≡◌, ◌⊎◌, ℕ, ◌≤◌, true, List}
use Rattle.file_formats.specs.Cover.{IsPlaceOf, CoverMore}
use Rattle.file_formats.specs.Parts.{IsSomePart}
use Rattle.file_formats.specs.Windows.{Range, range, IsSomeWindow}
use Rattle.file_picture.specs.Agrees.{AgreesWithPicture}
use Rattle.file_picture.specs.Counts.{count_in, is_known, is_known_or}
use Rattle.file_picture.specs.Picture.{PictureFacts, IsCovered, IsPicture, sum_of}

-- each byte that is known stands in one of such ranges
abbrev pub Holds : (Range → Type 0) → PictureFacts → Type 0
Holds Of p = (place : ℕ) → is_known p place ≡ true → IsPlaceOf Of place

-- all windows of the file are there
abbrev pub HasWindows : PictureFacts → List ℕ → Type 0
HasWindows p b = (r : Range) → IsSomeWindow b r → IsCovered p r.at r.len

-- what was read of a file so far: no more than may be; and of each file that agrees nothing but windows, and nothing but parts once
-- all windows are there
pub record IsReadSoFar (limit : ℕ) (p : PictureFacts) : Type 0 where
  pub small : sum_of p.pieces ≤ limit
  pub holds : (b : List ℕ) → AgreesWithPicture b p → Holds (IsSomeWindow b) p ⊎ (HasWindows p b × Holds (IsSomePart b) p)

-- all windows of the file are there, and its parts together cover no more than may be read
pub record HasFewParts (limit : ℕ) (p : PictureFacts) (b : List ℕ) : Type 0 where
  pub windows : HasWindows p b
  pub few : CoverMore (IsSomePart b) limit → ⊥

-- a part that is asked for may be read: with it no more bytes are known than may be, and it is a window of each file that agrees,
-- or all windows are there and all parts may be read
pub record IsNextRead (limit : ℕ) (p : PictureFacts) (at len : ℕ) : Type 0 where
  pub small : count_in (is_known_or p at len) 0 p.size ≤ limit
  pub among : (b : List ℕ) → AgreesWithPicture b p → IsSomeWindow b (range at len) ⊎ HasFewParts limit p b

-- bytes of a range became known, and no others
pub record IsReadOn (old : PictureFacts) (at len : ℕ) (new : PictureFacts) : Type 0 where
  pub is : IsPicture new
  pub size : new.size ≡ old.size
  pub only : (place : ℕ) → is_known new place ≡ true → is_known_or old at len place ≡ true
  pub keeps : (from n : ℕ) → IsCovered old from n → IsCovered new from n
  pub less : (b : List ℕ) → AgreesWithPicture b new → AgreesWithPicture b old
