-- Taking from the front of what is held and what comes (this project's rule).
use Rattle.std.specs.Prelude.{◌≡◌, ℕ, ◌≤◌, List, ◌++◌, Some}
use Rattle.http_wire.specs.Calls.{AreCalls, gave}
use Rattle.http_wire.specs.Source.{ComesFrom}
use Rattle.http_wire.specs.Stream.{LeavesWriting, ShownStream}

-- these bytes were taken from the front of what was held and what came; the rest is held now
pub record Takes (held : List ℕ) (before : ShownStream) (taken now : List ℕ) (after : ShownStream) : Type 0 where
  pub came : List ℕ
  pub all : held ++ came ≡ taken ++ now
  pub comes : ComesFrom before.left came after.left
  pub reads : AreCalls gave came before.calls after.calls
  pub later : before.read_faults ≤ after.read_faults
  pub writing : LeavesWriting before after

-- bytes came, and each call is one that gave some of them
pub record OnlyGives (before after : ShownStream) : Type 0 where
  pub came : List ℕ
  pub comes : ComesFrom before.left came after.left
  pub reads : AreCalls gave came before.calls after.calls

-- where it is told what was left to read, this is so of what was held and left
abbrev pub OfAll : List ℕ → ShownStream → (List ℕ → Type 0) → Type 0
OfAll held before Is = (left : List ℕ) → before.left ≡ Some left → Is (held ++ left)
