-- What contracts see of the reader of heads (this project's rule).
use Rattle.std.specs.Prelude.{ℕ, Bool, List}

-- the bytes from the last head on, those of them that are held for the next call, and whether the reader is over
pub record ReaderFacts : Type 0 where
  pub all : List ℕ
  pub held : List ℕ
  pub over : Bool
