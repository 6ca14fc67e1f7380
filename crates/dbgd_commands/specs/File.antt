-- A command on one file (this project's rule): the first hand opens it and reads the ranges on which the answer rests, and what
-- is said follows from them.
use Rattle.std.specs.Prelude.{◌≡◌, ℕ, Bool, List}
use Rattle.file_formats.specs.Windows.{Range}
use Rattle.tree_trait.specs.Found.{Versions}
use Rattle.tree_trait.specs.Shown.{ShownTree}
use Rattle.file_parts.specs.AtPath.{AsksFile, FileAnswer}
use Rattle.dbgd_commands.specs.Endings.{Streams}
use Rattle.dbgd_commands.specs.Stage.{CommandStage, FirstGoes, Setting}
use Rattle.dbgd_commands.specs.declared.status.Status.{Status}

-- the file was opened and read, by these ranges alone, and what is said follows from that
pub record RunsOn (Says : FileAnswer → Streams → Streams → Status → Type 0) (Of : List ℕ → Range → Type 0) (told : Bool)
    (version : Versions) (path : List ℕ) (before after : ShownTree) (old new : Streams)
    (status : Status) : Type 0 where
  pub answer : FileAnswer
  pub asks : AsksFile Of told version path before after answer
  pub said : Says answer old new status

-- the first hand was asked so, the other hands and the store are as they were
pub record RunsFile {T : Type 0} (s : Setting T) (path : List ℕ)
    (Says : FileAnswer → Streams → Streams → Status → Type 0) (Of : List ℕ → Range → Type 0) (before after : CommandStage T)
    (status : Status) : Type 0 where
  pub hands :
      FirstGoes (λ hand later.
      RunsOn Says Of s.tells_files s.world.version path (s.sees hand) (s.sees later)
      before.streams after.streams status) before.hands after.hands
  pub store : after.store ≡ before.store
