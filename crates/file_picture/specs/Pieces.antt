-- Pieces of a picture, one by one (this crate's bookkeeping, which no public clause cites).
use Rattle.std.specs.Prelude.{◌≡◌, ◌≢◌, ◌⊎◌, MatchBool, Bool, Some, All, ℕ, ◌+◌, ◌-◌, ◌<◌, ◌≤◌, ◌^◌, List, [], ◌∷◌, ◌++◌, true, is_some, length, take, drop, slice_index, slice_index_or, slice_set}
use Rattle.file_picture.specs.Picture.{PieceFacts, PictureFacts, ArePiecesApart, AreFree, IsPicture, byte_among, piece_end, sum_of}

-- what a piece keeps: room before its bytes, which end below 2^64
pub record IsPiece (at room : ℕ) (kept : List ℕ) : Type 0 where
  pub inside : room ≤ length kept
  pub fits : at + (length kept - room) < 2 ^ 64

-- what a picture keeps: pieces, how many bytes they have, and a size below 2^64
pub record ArePiecesKept (size sum : ℕ) (ps : List PieceFacts) : Type 0 where
  pub is : IsPicture (record { size = size; pieces = ps })
  pub sum_is : sum ≡ sum_of ps
  pub fits : size < 2 ^ 64

-- the piece of these bytes
abbrev pub piece_of : ℕ → List ℕ → PieceFacts
piece_of at bytes = record { at = at; bytes = bytes }

-- pieces as a picture, whatever its size
abbrev pub pieces_alone : List PieceFacts → PictureFacts
pieces_alone ps = record { size = 0; pieces = ps }

-- one piece as a picture
abbrev pub piece_alone : PieceFacts → PictureFacts
piece_alone q = pieces_alone (q ∷ [])

-- a piece with bytes put before its own
abbrev pub put_before : List ℕ → PieceFacts → PieceFacts
put_before bytes p = record { at = p.at - length bytes; bytes = bytes ++ p.bytes }

-- a piece with bytes put behind its own
abbrev pub put_behind : PieceFacts → List ℕ → PieceFacts
put_behind p bytes = record { at = p.at; bytes = p.bytes ++ bytes }

-- a piece, bytes behind it, and those of a piece behind these
abbrev pub spanned : PieceFacts → List ℕ → PieceFacts → PieceFacts
spanned p bytes q = record { at = p.at; bytes = p.bytes ++ (bytes ++ q.bytes) }

-- the piece of an index is replaced by what is made of it
abbrev pub ReplacesPiece : (PieceFacts → PieceFacts) → ℕ → List PieceFacts → List PieceFacts → Type 0
ReplacesPiece f i old new = (d : PieceFacts) → new ≡ slice_set old i (f (slice_index_or old i d))

-- the pieces of an index and of the one before it are replaced by one, which spans them
abbrev pub Spans : List ℕ → ℕ → List PieceFacts → List PieceFacts → Type 0
Spans bytes i old new =
    (d : PieceFacts) → new ≡ take (i - 1) old
    ++ (spanned (slice_index_or old (i - 1) d) bytes (slice_index_or old i d) ∷ drop (i + 1) old)

-- so many pieces begin at a place or before it, and the others behind it
pub record IsBegun (ps : List PieceFacts) (at count : ℕ) : Type 0 where
  pub within : count ≤ length ps
  pub before : (i : ℕ) (d : PieceFacts) → i < count → (slice_index_or ps i d).at ≤ at
  pub after : (i : ℕ) (d : PieceFacts) → count ≤ i → i < length ps → at < (slice_index_or ps i d).at

-- the bytes from a place on are known up to another, at which none is
pub record IsKnownTo (ps : List PieceFacts) (count at to : ℕ) : Type 0 where
  pub above : at ≤ to
  pub known : (place : ℕ) → at ≤ place → place < to → is_some (byte_among ps place) ≡ true
  pub before : (i : ℕ) (d : PieceFacts) → i < count → piece_end (slice_index_or ps i d) ≤ to
  pub after : (i : ℕ) (d : PieceFacts) → count ≤ i → i < length ps → to < (slice_index_or ps i d).at

-- the place that the next piece or a range ends at, whichever comes first
pub record IsNextBegin (ps : List PieceFacts) (count end to : ℕ) : Type 0 where
  pub within : to ≤ end
  pub first : (d : PieceFacts) → count < length ps → to ≤ (slice_index_or ps count d).at
  pub is : (to ≡ end) ⊎ ((count < length ps) × ((d : PieceFacts) → to ≡ (slice_index_or ps count d).at))

-- whether the last of so many pieces ends at a place
abbrev pub EndsPiece : List PieceFacts → ℕ → ℕ → Bool → Type 0
EndsPiece ps count at test =
    MatchBool test ((0 < count) × ((d : PieceFacts) → piece_end (slice_index_or ps (count - 1) d) ≡ at))
    (0 < count → (d : PieceFacts) → piece_end (slice_index_or ps (count - 1) d) ≢ at)

-- whether the piece behind so many begins at a place
abbrev pub BeginsPiece : List PieceFacts → ℕ → ℕ → Bool → Type 0
BeginsPiece ps count at test =
    MatchBool test ((count < length ps) × ((d : PieceFacts) → (slice_index_or ps count d).at ≡ at))
    (count < length ps → (d : PieceFacts) → (slice_index_or ps count d).at ≢ at)

-- bytes may be put among the pieces, behind so many of them
pub record CanPut (ps : List PieceFacts) (at : ℕ) (bytes : List ℕ) (count : ℕ) : Type 0 where
  pub apart : ArePiecesApart 0 ps
  pub some : 0 < length bytes
  pub begun : IsBegun ps at count
  pub free : AreFree ps at (length bytes)

-- they touch none
pub record TouchesNone (ps : List PieceFacts) (at len count : ℕ) : Type 0 where
  pub before : (i : ℕ) (d : PieceFacts) → i < count → piece_end (slice_index_or ps i d) < at
  pub after : (i : ℕ) (d : PieceFacts) → count ≤ i → i < length ps → at + len < (slice_index_or ps i d).at

-- they are put there, and nothing else
pub record ArePiecesPut (old : List PieceFacts) (at : ℕ) (bytes : List ℕ) (new : List PieceFacts) : Type 0 where
  pub apart : ArePiecesApart 0 new
  pub within : (size : ℕ) → All (λ q. piece_end q ≤ size) old → at + length bytes ≤ size → All (λ q. piece_end q ≤ size) new
  pub there : (i : ℕ) → i < length bytes → byte_among new (at + i) ≡ Some (slice_index bytes i)
  pub others : (place : ℕ) → (place < at) ⊎ (at + length bytes ≤ place) → byte_among new place ≡ byte_among old place
  pub sum : sum_of new ≡ sum_of old + length bytes

-- the first index at which two lists of bytes differ
pub record IsFirstUnequal (xs ys : List ℕ) (i : ℕ) : Type 0 where
  pub inside : i < length xs
  pub there : i < length ys
  pub before : (k : ℕ) → k < i → slice_index xs k ≡ slice_index ys k
  pub other : slice_index xs i ≢ slice_index ys i
