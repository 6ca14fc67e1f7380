-- Pictures (this project's rule): the bytes of a file that are known, in pieces that ascend with room between them.
use Rattle.std.specs.Prelude.{◌≡◌, ◌⊎◌, ℕ, ◌+◌, ◌-◌, ◌<◌, ◌≤◌, ◌&&◌, nat_le, nat_lt, if◌then◌else◌, true, List, [], ◌∷◌, All, Option, Some, None, is_some, length, slice_index}
use Rattle.std.specs.Option.{option_or}

-- some bytes, and the place of the first
pub record PieceFacts : Type 0 where
  pub at : ℕ
  pub bytes : List ℕ

-- a file's size, and pieces of it
pub record PictureFacts : Type 0 where
  pub size : ℕ
  pub pieces : List PieceFacts

-- where a piece ends
abbrev pub piece_end : PieceFacts → ℕ
piece_end p = p.at + length p.bytes

-- each piece has bytes, the first begins at or after a place, and each other one behind the end of the one before it, with room
-- between them
abbrev pub ArePiecesApart : ℕ → List PieceFacts → Type 0
ArePiecesApart from [] = Unit {0}
ArePiecesApart from (p ∷ ps) = (from ≤ p.at) × (0 < length p.bytes) × ArePiecesApart (piece_end p + 1) ps

-- the pieces neither overlap nor touch, and end within the size
pub record IsPicture (p : PictureFacts) : Type 0 where
  pub apart : ArePiecesApart 0 p.pieces
  pub within : All (λ q. piece_end q ≤ p.size) p.pieces

-- the byte of a piece at a place, none where the piece hasn't the place
abbrev pub piece_byte : PieceFacts → ℕ → Option ℕ
piece_byte p place =
    if nat_le p.at place && nat_lt place (piece_end p) then Some (slice_index p.bytes (place - p.at)) else None

-- the byte of the first piece that has the place
abbrev pub byte_among : List PieceFacts → ℕ → Option ℕ
byte_among [] place = None
byte_among (p ∷ ps) place = option_or (piece_byte p place) (byte_among ps place)

-- the byte that is known at a place
abbrev pub known_byte : PictureFacts → ℕ → Option ℕ
known_byte p place = byte_among p.pieces place

-- how many bytes the pieces have
abbrev pub sum_of : List PieceFacts → ℕ
sum_of [] = 0
sum_of (p ∷ ps) = length p.bytes + sum_of ps

-- the range lies in the file, and each of its bytes is known
pub record IsCovered (p : PictureFacts) (at len : ℕ) : Type 0 where
  pub inside : at + len ≤ p.size
  pub known : (place : ℕ) → at ≤ place → place < at + len → is_some (known_byte p place) ≡ true

-- no byte of the range is among those of the pieces
abbrev pub AreFree : List PieceFacts → ℕ → ℕ → Type 0
AreFree ps at len = (place : ℕ) → at ≤ place → place < at + len → byte_among ps place ≡ None

-- no byte of the range is known
abbrev pub IsRangeFree : PictureFacts → ℕ → ℕ → Type 0
IsRangeFree p at len = AreFree p.pieces at len

-- the range lies in the file, and these are its bytes
pub record GivesRange (p : PictureFacts) (at len : ℕ) (bytes : List ℕ) : Type 0 where
  pub inside : at + len ≤ p.size
  pub long : length bytes ≡ len
  pub each : (i : ℕ) → i < len → known_byte p (at + i) ≡ Some (slice_index bytes i)

-- the first run of bytes of a range that aren't known: all before it are, and it ends with the range or before a byte that is
pub record IsFirstGap (p : PictureFacts) (at len from run : ℕ) : Type 0 where
  pub some : 0 < run
  pub above : at ≤ from
  pub below : from + run ≤ at + len
  pub before : IsCovered p at (from - at)
  pub gap : IsRangeFree p from run
  pub ends : (from + run ≡ at + len) ⊎ (is_some (known_byte p (from + run)) ≡ true)

-- the bytes of a range become known, and nothing else
pub record IsAdded (old : PictureFacts) (at : ℕ) (bytes : List ℕ) (new : PictureFacts) : Type 0 where
  pub size : new.size ≡ old.size
  pub there : (i : ℕ) → i < length bytes → known_byte new (at + i) ≡ Some (slice_index bytes i)
  pub others : (place : ℕ) → (place < at) ⊎ (at + length bytes ≤ place) → known_byte new place ≡ known_byte old place
  pub sum : sum_of new.pieces ≡ sum_of old.pieces + length bytes
