-- The calls of a stream, in order (this project's rule): one for each read that gave bytes and each write that took some.
use Rattle.std.specs.Prelude.{◌≡◌, ℕ, List, [], ◌∷◌, map, Option}
use Rattle.std.specs.List.{concat}
use Rattle.http_wire.specs.Told.{Gains}

-- a read gave these bytes, or a write took them
pub data StreamCall : Type 0 where
  gave : List ℕ → StreamCall
  took : List ℕ → StreamCall

-- the call that gave or took these bytes, which is none where they are none
abbrev pub one_call : (List ℕ → StreamCall) → List ℕ → List StreamCall
one_call kind [] = []
one_call kind (byte ∷ bytes) = kind (byte ∷ bytes) ∷ []

-- where the calls are told, some of one kind were added, which gave or took these bytes in order
pub record AreCalls (kind : List ℕ → StreamCall) (bytes : List ℕ) (before after : Option (List StreamCall)) : Type 0 where
  pub pieces : List (List ℕ)
  pub all : bytes ≡ concat pieces
  pub told : Gains before (map kind pieces) after
