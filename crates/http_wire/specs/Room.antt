-- Reading into a room (this project's rule): what comes is held behind what was held.
use Rattle.std.specs.Prelude.{◌≡◌, ℕ, ◌<◌, ◌==◌, ◌⊎◌, Bool, false, List, [], ◌∷◌, ◌++◌, Option, IsTrue, length}
use Rattle.std.specs.List.{list_any}
use Rattle.row_types.specs.Faults.{HasCause}
use Rattle.http_wire.specs.Calls.{gave, one_call}
use Rattle.http_wire.specs.Source.{ComesFrom, HasEnded, read_failed}
use Rattle.http_wire.specs.Stream.{LeavesWriting, ShownStream}
use Rattle.http_wire.specs.Told.{Gains}
use Rattle.http_wire.specs.declared.source.ReadAnswer.{ReadAnswer}
use Rattle.http_wire.specs.declared.source.ReadAnswer.TheVariants.{Bytes, End, Failed}

-- what came, by the answer
abbrev pub IsFill : List ℕ → Option (List ℕ) → ReadAnswer → Type 0
IsFill came left (Bytes n) = (n ≡ length came) × (0 < n)
IsFill came left End = (came ≡ []) × HasEnded left
IsFill came left Failed = came ≡ []

-- one read: what came is held behind what was held
pub record Fills (held : List ℕ) (before : ShownStream) (now : List ℕ) (after : ShownStream) (answer : ReadAnswer) : Type 0 where
  pub came : List ℕ
  pub all : now ≡ held ++ came
  pub comes : ComesFrom before.left came after.left
  pub is : IsFill came after.left answer
  pub told : Gains before.calls (one_call gave came) after.calls
  pub cause : HasCause before.read_faults after.read_faults (IsTrue (read_failed answer))
  pub writing : LeavesWriting before after

-- whether a byte is a line feed
abbrev pub is_feed : ℕ → Bool
is_feed b = b == 10

-- these are the bytes up to the last line feed, and none where there is no line feed
pub record AreLines (bytes lines : List ℕ) : Type 0 where
  pub rest : List ℕ
  pub all : bytes ≡ lines ++ rest
  pub quiet : list_any is_feed rest ≡ false
  pub ends : (lines ≡ []) ⊎ ((front : List ℕ) × (lines ≡ front ++ 10 ∷ []))
