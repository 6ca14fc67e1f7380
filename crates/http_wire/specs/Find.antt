-- What reading on finds (this project's rule over the grammar of heads).
use Rattle.std.specs.Prelude.{◌≡◌, ℕ, ◌≤◌, ◌==◌, Bool, true, false, List, [], ◌∷◌, ◌++◌, Option, IsTrue, if◌then◌else◌}
use Rattle.httparse.specs.Grammar.{HasNoRequest}
use Rattle.row_types.specs.Faults.{Rose}
use Rattle.http_wire.specs.Calls.{AreCalls, gave}
use Rattle.http_wire.specs.Heads.{IsStillOpen, RefusesAsHead}
use Rattle.http_wire.specs.Look.{HasHead}
use Rattle.http_wire.specs.Source.{ComesFrom, HasEnded}
use Rattle.http_wire.specs.Stream.{LeavesWriting, ShownStream}
use Rattle.http_wire.specs.declared.find.Find.{Find}
use Rattle.http_wire.specs.declared.find.Find.TheVariants.{Closed, Failed, Refused, Whole}
use Rattle.http_wire.specs.declared.head.HeadFault.TheVariants.{Cut}

-- whether a read failed
abbrev pub find_failed : Find → Bool
find_failed Failed = true
find_failed _ = false

-- what the end is behind so many bytes that hold no whole head
abbrev pub found_at_end : ℕ → Find
found_at_end held = if held == 0 then Closed else Refused (Cut held)

-- what these bytes are, of a source with so much left
abbrev pub IsFind : List ℕ → Option (List ℕ) → Find → Type 0
IsFind bytes left (Whole found) = HasHead bytes found
IsFind bytes left Closed = (bytes ≡ []) × HasEnded left
IsFind bytes left (Refused fault) = RefusesAsHead fault bytes left
IsFind bytes left Failed = Unit {0}

-- each of these pieces was read where no head stood in what was held, and one could still come of its lines
abbrev pub AreReadsWanted : List ℕ → List (List ℕ) → Type 0
AreReadsWanted held [] = Unit {0}
AreReadsWanted held (piece ∷ pieces) = HasNoRequest held × IsStillOpen held × AreReadsWanted (held ++ piece) pieces

-- what came was read behind what was held, each piece where it was wanted
pub record ReadsAsWanted (held came : List ℕ) (before after : ShownStream) : Type 0 where
  pub reads : AreCalls gave came before.calls after.calls
  pub wanted : AreReadsWanted held reads.pieces

-- bytes came behind the held ones, and now all are these
pub record Gathers (held : List ℕ) (before : ShownStream) (bytes : List ℕ) (after : ShownStream) : Type 0 where
  pub came : List ℕ
  pub all : bytes ≡ held ++ came
  pub comes : ComesFrom before.left came after.left
  pub wanted : ReadsAsWanted held came before after
  pub later : before.read_faults ≤ after.read_faults
  pub writing : LeavesWriting before after

-- and what they are; a read failed only where the count rose
pub record FindsHead (held : List ℕ) (before : ShownStream) (bytes : List ℕ) (after : ShownStream) (find : Find) : Type 0 where
  pub gathers : Gathers held before bytes after
  pub is : IsFind bytes after.left find
  pub rose : IsTrue (find_failed find) → Rose before.read_faults after.read_faults
