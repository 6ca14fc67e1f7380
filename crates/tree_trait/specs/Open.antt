-- What the opening of a file answers, and a read of its bytes (this project's rule).
use Rattle.std.specs.Prelude.{◌≡◌, ℕ, ◌≤◌, ◌<◌, List, length, Some, None}
use Rattle.row_types.specs.Name.{NameFacts, stamp_at}
use Rattle.row_types.specs.Stamp.{StampFacts}
use Rattle.tree_trait.specs.Found.{Versions}
use Rattle.tree_trait.specs.declared.opening.OpenAnswer.{OpenAnswer}
use Rattle.tree_trait.specs.declared.opening.OpenAnswer.TheVariants.{Opened, TooLarge, Gone, Failed, OutOfMemory}
use Rattle.tree_trait.specs.declared.opening.RoomAnswer.{RoomAnswer}
use Rattle.tree_trait.specs.declared.opening.RoomAnswer.TheVariants as room

-- an answer to an opening as plain data, without its file
pub data OpenFacts : Type 0 where
  was_opened : StampFacts → OpenFacts
  was_too_large : StampFacts → OpenFacts
  open_gone : OpenFacts
  open_failed : OpenFacts
  open_no_memory : OpenFacts

-- what an answer to an opening says
abbrev pub open_facts : {F : Type 0} → OpenAnswer F → OpenFacts
open_facts (Opened file stamp) = was_opened stamp
open_facts (TooLarge stamp) = was_too_large stamp
open_facts Gone = open_gone
open_facts Failed = open_failed
open_facts OutOfMemory = open_no_memory

-- an answer to a read with the bytes, or with how many were asked for
pub data RoomFacts : Type 0 where
  room_filled : List ℕ → RoomFacts
  room_failed : ℕ → RoomFacts

-- what an answer to a read says, by the room that it leaves
abbrev pub room_facts : RoomAnswer → List ℕ → RoomFacts
room_facts room.Filled bytes = room_filled bytes
room_facts room.Failed bytes = room_failed (length bytes)

-- the file that was opened is within the limit, and the world has a version of the path and the stamp
pub record IsOpenedFile (version : Versions) (path : List ℕ) (limit : ℕ) (stamp : StampFacts) : Type 0 where
  pub fits : stamp.size ≤ limit
  pub bytes : List ℕ
  pub known : version path stamp bytes

-- what the opening of this path under this limit may answer, in any tree
abbrev pub FitsOpening : Versions → List ℕ → ℕ → OpenFacts → Type 0
FitsOpening version path limit (was_opened stamp) = IsOpenedFile version path limit stamp
FitsOpening version path limit (was_too_large stamp) = limit < stamp.size
FitsOpening version path limit _ = Unit {0}

-- what the opening of this path answers, by the files that are there
abbrev pub TellsOpening : List NameFacts → List ℕ → OpenFacts → Type 0
TellsOpening present path (was_opened stamp) = stamp_at present path ≡ Some stamp
TellsOpening present path (was_too_large stamp) = stamp_at present path ≡ Some stamp
TellsOpening present path open_gone = stamp_at present path ≡ None
TellsOpening present path _ = Unit {0}

-- the name of the file that was opened is the path that was asked with the stamp that was answered
abbrev pub IsOpenedAs : {F : Type 0} → (F → NameFacts) → List ℕ → OpenAnswer F → Type 0
IsOpenedAs opened path (Opened file stamp) = opened file ≡ record { path = path; stamp = stamp }
IsOpenedAs opened path _ = Unit {0}
