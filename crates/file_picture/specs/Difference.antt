-- Bytes that stand at a place of a file, beside those of it that are known (this project's rule).
use Rattle.std.specs.Prelude.{◌≡◌, ◌≢◌, ℕ, ◌+◌, ◌<◌, List, Some, length, take, slice_index}
use Rattle.file_picture.specs.Picture.{PictureFacts, known_byte}
use Rattle.file_picture.specs.declared.difference.Difference.{Difference}

-- each of the bytes at a place is the one that is known there, where one is
abbrev pub AgreesAt : PictureFacts → ℕ → List ℕ → Type 0
AgreesAt p at bytes = (i x : ℕ) → i < length bytes → known_byte p (at + i) ≡ Some x → slice_index bytes i ≡ x

-- the first of the bytes at a place that isn't the one that is known there: where it stands in the file, the byte that is known
-- and the one that is seen
pub record IsFirstDifference (p : PictureFacts) (at : ℕ) (bytes : List ℕ) (d : Difference) : Type 0 where
  pub index : ℕ
  pub inside : index < length bytes
  pub place : d.at ≡ at + index
  pub before : AgreesAt p at (take index bytes)
  pub checked : known_byte p d.at ≡ Some d.checked
  pub seen : slice_index bytes index ≡ d.seen
  pub other : d.checked ≢ d.seen
