-- The objects that a connection is lent, and the token beside them, at a moment (this project's rule).
use Rattle.std.specs.Prelude.{◌≡◌, ℕ, Bool, List, map}
use Rattle.federation.specs.Link.{ShownLink}
use Rattle.index_lock.specs.Tokens.{SeatFacts}
use Rattle.index_rows.specs.declared.change.Change.{Change}
use Rattle.index_state.specs.State.{Origin}
use Rattle.row_types.specs.Row.{RowFacts}
use Rattle.tree_trait.specs.Found.{Versions}
use Rattle.tree_trait.specs.Shown.{ShownTree}
use Rattle.conn_server.specs.Stage.{ConnSetting, ConnStage, conn_setting, stage_with}
use Rattle.conn_server.specs.declared.objects.Objects.{Objects}

-- what stays while these are lent
abbrev pub setting_by : {T X : Type 0} → (RowFacts → Type 0) → Bool → Versions → (T → ShownTree) → List (List ℕ) → Objects T X → ConnSetting T
setting_by true_row told version shows folders lent = conn_setting true_row told version shows folders lent.book.now.rows

-- what the token and these show
abbrev pub stage_by : {T X : Type 0} → (X → ShownLink) → SeatFacts Change Origin → Objects T X → ConnStage T
stage_by views seat lent = stage_with seat lent.hand.now lent.share.now (map views lent.links.now)

-- the same are lent still
abbrev pub StayLent : {T X : Type 0} → Objects T X → Objects T X → Type 0
StayLent old new =
    (new.hand.ghost_name ≡ old.hand.ghost_name) × (new.links.ghost_name ≡ old.links.ghost_name)
    × (new.share.ghost_name ≡ old.share.ghost_name) × (new.book.now ≡ old.book.now)
