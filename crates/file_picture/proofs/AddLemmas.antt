-- A picture to which bytes are added.
use Rattle.std.proofs.Common.{ℕ, ◌+◌, ◌≤◌, List, length}
use Rattle.file_picture.specs.Picture.{PieceFacts, IsPicture}
use Rattle.file_picture.specs.Pieces.{ArePiecesPut}

-- it is a picture
pub put_picture : (size : ℕ) (old : List PieceFacts) (at : ℕ) (bytes : List ℕ) (new : List PieceFacts)
    → IsPicture (record { size = size; pieces = old }) → at + length bytes ≤ size → ArePiecesPut old at bytes new
    → IsPicture (record { size = size; pieces = new })
put_picture size old at bytes new is fits put = record { apart = put.apart; within = put.within size is.within fits }
