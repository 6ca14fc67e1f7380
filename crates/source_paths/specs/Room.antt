-- How much room the texts of a list take (this project's rule).
use Rattle.std.specs.Prelude.{◌≡◌, ℕ, ◌+◌, ◌^◌, List, [], ◌∷◌, length}
use Rattle.source_paths.specs.declared.room.TheConstants.{SOURCES_LIMIT, TEXT_ROOM}

-- the limit, and what is reckoned for a text beside its bytes, are these numbers
pub record RoomLimits : Type 0 where
  pub sources : SOURCES_LIMIT ≡ 2 ^ 28
  pub text : TEXT_ROOM ≡ 64

-- the room of a text: its bytes in the list, in the bytes of a row, and in those that a store writes, and what holds them
abbrev pub text_room : List ℕ → ℕ
text_room text = length text + length text + length text + TEXT_ROOM

-- the room of texts
abbrev pub texts_room : List (List ℕ) → ℕ
texts_room [] = 0
texts_room (text ∷ texts) = text_room text + texts_room texts
