-- The picture of a whole file (this project's rule).
use Rattle.std.specs.Prelude.{ℕ, List, [], ◌∷◌, length}
use Rattle.file_picture.specs.Picture.{PieceFacts, PictureFacts}

-- all bytes of a file as one piece, none where it has none
abbrev pub whole_pieces : List ℕ → List PieceFacts
whole_pieces [] = []
whole_pieces (x ∷ xs) = record { at = 0; bytes = x ∷ xs } ∷ []

-- the picture that has all of a file's bytes
abbrev pub whole : List ℕ → PictureFacts
whole b = record { size = length b; pieces = whole_pieces b }
