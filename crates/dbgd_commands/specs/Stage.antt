-- What contracts know of the outside (this project's rule): what the types of its objects tell (`Setting`), and what the objects show
-- at a moment: to every command (`CommandStage`), and to a server or a search (`ProgramStage`), which have doors, rows of links, a clock and
-- a cache too.
use Rattle.std.specs.Prelude.{◌≡◌, ◌∷◌, Bool, List, Option, map}
use Rattle.std.specs.Global.{Vec}
use Rattle.row_types.specs.Faults.{Rose}
use Rattle.row_types.specs.Rules.{Rules}
use Rattle.tree_trait.specs.Shown.{ShownTree}
use Rattle.index_keeper.specs.Store.{ShownStore}
use Rattle.federation.specs.Link.{ShownLink}
use Rattle.http_wire.specs.Door.{ShownDoor}
use Rattle.find_client.specs.Cache.{ShownCache}
use Rattle.tree_trait.specs.declared.clock.Waited.{Waited}
use Rattle.pass_runner.specs.Owned.{HandsGo}
use Rattle.dbgd_commands.specs.Endings.{Streams}

-- the world; whether the hands tell the files that are there, and what a hand shows; whether the store's keepers tell
-- their tables
pub record Setting (T : Type 0) : Type 1 where
  pub world : Rules
  pub tells_files : Bool
  pub sees : T → ShownTree
  pub tells_tables : Bool

-- the setting of these
abbrev pub setting : {T : Type 0} → Rules → Bool → (T → ShownTree) → Bool → Setting T
setting world tells_files sees tells_tables =
    record { world = world; tells_files = tells_files; sees = sees; tells_tables = tells_tables }

-- all that the program is handed, at a moment: the hands in order, the store and the two sinks
pub record CommandStage (T : Type 0) : Type 0 where
  pub hands : List T
  pub store : ShownStore
  pub streams : Streams

-- the stage of these
abbrev pub command_stage : {T : Type 0} → List T → ShownStore → Streams → CommandStage T
command_stage hands store streams = record { hands = hands; store = store; streams = streams }

-- the first hand went so, and the others are as they were
abbrev pub FirstGoes : {T : Type 0} → (T → T → Type 0) → List T → List T → Type 0
FirstGoes First hands later = HandsGo First (λ hand left. left ≡ hand) hands later

-- this is so of the first hand, at a moment and later
abbrev pub OfFirst : {T : Type 0} → Setting T → (ShownTree → ShownTree → Type 0) → List T → List T → Type 0
OfFirst s Holds (hand ∷ hands) (later ∷ left) = Holds (s.sees hand) (s.sees later)
OfFirst s Holds _ _ = ⊥

-- the first hand's count of faults rose
abbrev pub FirstRose : {T : Type 0} → Setting T → List T → List T → Type 0
FirstRose s hands later = OfFirst s (λ before after. Rose before.faults after.faults) hands later

-- what all commands have, what the doors show, in order, and what the links of each row do, the waits of the clock so far,
-- where they are told, and what the cache shows
pub record ProgramStage (T : Type 0) : Type 0 where
  pub command : CommandStage T
  pub doors : List ShownDoor
  pub links : List (List ShownLink)
  pub woke : Option (List Waited)
  pub cache : ShownCache

-- the stage of these
abbrev pub stage : {T : Type 0} → CommandStage T → List ShownDoor → List (List ShownLink) → Option (List Waited) → ShownCache
    → ProgramStage T
stage command doors links woke cache = record { command = command; doors = doors; links = links; woke = woke; cache = cache }

-- what the links of rows show, row by row
abbrev pub rows_shown : {L : Type 0} → (L → ShownLink) → List (Vec L) → List (List ShownLink)
rows_shown views rows = map (λ row. map views row.items) rows

-- no door, no link, no wait and no file of the cache was asked for
pub record LeavesRest {T : Type 0} (before after : ProgramStage T) : Type 0 where
  pub doors : after.doors ≡ before.doors
  pub links : after.links ≡ before.links
  pub woke : after.woke ≡ before.woke
  pub cache : after.cache ≡ before.cache
