-- Waiting for the end of a line (this project's rule).
use Rattle.std.specs.Prelude.{◌≡◌, ℕ, ◌<◌, false, List, [], ◌++◌, length}
use Rattle.std.specs.List.{list_any}
use Rattle.row_types.specs.Faults.{Rose}
use Rattle.http_wire.specs.Room.{is_feed}
use Rattle.http_wire.specs.Source.{HasEnded}
use Rattle.http_wire.specs.Stream.{ShownStream}
use Rattle.upstream_wire.specs.Takes.{Takes}
use Rattle.upstream_wire.specs.declared.fault.ResponseFault.{ResponseFault}
use Rattle.upstream_wire.specs.declared.fault.ResponseFault.TheVariants.{NoResponse, OutOfMemory, ReadFault}

-- no line feed came behind what was held
pub record ComesQuiet (held now : List ℕ) : Type 0 where
  pub came : List ℕ
  pub all : now ≡ held ++ came
  pub quiet : list_any is_feed came ≡ false

-- some bytes came
pub record ReadsOn (held : List ℕ) (before : ShownStream) (now : List ℕ) (after : ShownStream) : Type 0 where
  pub takes : Takes held before [] now after
  pub more : length held < length now

-- why no line feed came: the source ended, or a read failed
abbrev pub StopSays : ResponseFault → List ℕ → ShownStream → List ℕ → ShownStream → Type 0
StopSays NoResponse held before now after = ComesQuiet held now × HasEnded after.left
StopSays ReadFault held before now after = Rose before.read_faults after.read_faults
StopSays OutOfMemory held before now after = ⊥

-- no line feed came
pub record StopsWaiting (fault : ResponseFault) (held : List ℕ) (before after : ShownStream) : Type 0 where
  pub now : List ℕ
  pub takes : Takes held before [] now after
  pub says : StopSays fault held before now after
