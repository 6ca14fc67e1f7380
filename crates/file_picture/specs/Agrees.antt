-- Files that a picture may be of (this project's rule).
use Rattle.std.specs.Prelude.{◌≡◌, ℕ, List, Some, length, slice_index, map}
use Rattle.std.specs.List.{range_with_len}
use Rattle.std.specs.Option.{unwrap_or}
use Rattle.file_formats.specs.Windows.{Range, range}
use Rattle.file_picture.specs.Picture.{PictureFacts, IsCovered, known_byte}

-- the file has the picture's size, and each of its bytes at its place
pub record AgreesWithPicture (b : List ℕ) (p : PictureFacts) : Type 0 where
  pub sized : length b ≡ p.size
  pub same : (place x : ℕ) → known_byte p place ≡ Some x → slice_index b place ≡ x

-- the picture with 0 at each place whose byte isn't known: one of these files. A reader of a picture is described by it alone,
-- since what is known of it holds of each of them by the laws on windows
abbrev pub filled_with_zeros : PictureFacts → List ℕ
filled_with_zeros p = map (λ place. unwrap_or (known_byte p place) 0) (range_with_len 0 p.size)

-- a range isn't there, and each file that agrees has it among these
pub record AsksOf (Of : List ℕ → Range → Type 0) (p : PictureFacts) (at len : ℕ) : Type 0 where
  pub gone : IsCovered p at len → ⊥
  pub among : (b : List ℕ) → AgreesWithPicture b p → Of b (range at len)

-- this is so of each file that agrees, all of whose such ranges are there
pub record IsOfEach (Of : List ℕ → Range → Type 0) (Is : List ℕ → Type 0) (p : PictureFacts) : Type 0 where
  pub is : (b : List ℕ) → AgreesWithPicture b p → Is b
  pub there : (b : List ℕ) → AgreesWithPicture b p → (r : Range) → Of b r → IsCovered p r.at r.len
