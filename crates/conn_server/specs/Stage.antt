-- What stays in a connection, and what its objects show at a moment (this project's rule). A further object is a line of
-- `ConnStage`, and one of what leads from a stage to the next.
use Rattle.std.specs.Prelude.{ℕ, Bool, List}
use Rattle.row_types.specs.Row.{RowFacts}
use Rattle.index_lock.specs.Tokens.{SeatFacts}
use Rattle.index_rows.specs.declared.change.Change.{Change}
use Rattle.index_state.specs.State.{Origin}
use Rattle.tree_trait.specs.Found.{Versions}
use Rattle.tree_trait.specs.Heard.{Heard}
use Rattle.tree_trait.specs.Shown.{ShownTree}
use Rattle.http_wire.specs.ReaderFacts.{ReaderFacts}
use Rattle.http_wire.specs.Stream.{ShownStream}
use Rattle.answer_core.specs.Loads.{Hand}
use Rattle.answer_core.specs.Local.{Sight}
use Rattle.dbgd_metrics.specs.Shares.{ShareFacts}
use Rattle.federation.specs.Link.{ShownLink}
use Rattle.conn_server.specs.Pages.{PageSight, page_sight}

-- what stays: the true rows of the world, whether a hand tells what it has, which bytes the files of the world may have, what
-- a hand shows, the folders of sources, and how many rows the counter table has
pub record ConnSetting (T : Type 0) : Type 1 where
  pub true_row : RowFacts → Type 0
  pub told : Bool
  pub version : Versions
  pub shows : T → ShownTree
  pub folders : List (List ℕ)
  pub rows : ℕ

-- the setting of these
abbrev pub conn_setting : {T : Type 0} → (RowFacts → Type 0) → Bool → Versions → (T → ShownTree) → List (List ℕ) → ℕ → ConnSetting T
conn_setting true_row told version shows folders rows =
    record { true_row = true_row; told = told; version = version; shows = shows; folders = folders; rows = rows }

-- what the objects show at a moment: of the token the log that it has seen and its origin's epoch, the hand, the share of the
-- counters, and each of the links. The hand itself stands here, since what it shows is too large a type for a clause
pub record ConnStage (T : Type 0) : Type 0 where
  pub log : List Change
  pub epoch : ℕ
  pub hand : T
  pub share : ShareFacts
  pub links : List ShownLink

-- the stage of these
abbrev pub conn_stage : {T : Type 0} → List Change → ℕ → T → ShareFacts → List ShownLink → ConnStage T
conn_stage log epoch hand share links = record { log = log; epoch = epoch; hand = hand; share = share; links = links }

-- the stage with a token
abbrev pub stage_with : {T : Type 0} → SeatFacts Change Origin → T → ShareFacts → List ShownLink → ConnStage T
stage_with seat hand share links = conn_stage seat.seen seat.origin.epoch hand share links

-- the same moment, but for the share
abbrev pub with_share : {T : Type 0} → ConnStage T → ShareFacts → ConnStage T
with_share at share = record { log = at.log; epoch = at.epoch; hand = at.hand; share = share; links = at.links }

-- the hand as it stands
abbrev pub hand_at : {T : Type 0} → ConnSetting T → ConnStage T → Hand
hand_at setting at = record { told = setting.told; version = setting.version; start = setting.shows at.hand }

-- what an answer rests on, where the hand that answered so stood like this
abbrev pub sight_at : {T : Type 0} → ConnSetting T → ConnStage T → List Change → List Heard → Sight
sight_at setting at log answers = record {
  true_row = setting.true_row;
  log = log;
  folders = setting.folders;
  hand = hand_at setting at;
  answers = answers;
}

-- what a page rests on, by the log at one hold
abbrev pub page_at : {T : Type 0} → ConnSetting T → ConnStage T → List Change → PageSight
page_at setting at log = page_sight setting.true_row at.epoch log

-- one connection at a moment: what its stream shows, the bytes of it that are held, and whether no more are read
pub record Wire : Type 0 where
  pub stream : ShownStream
  pub held : List ℕ
  pub over : Bool

-- the connection of a stream and its reader
abbrev pub wire_of : ShownStream → ReaderFacts → Wire
wire_of stream reader = record { stream = stream; held = reader.held; over = reader.over }
