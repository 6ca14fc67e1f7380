-- What a hand does that helps with a pass over a shared index (this project's rule).
use Rattle.std.specs.Prelude.{◌≡◌, ◌⊎◌, ℕ, ◌≤◌, Bool, List, [], ◌∷◌, All, None, map}
use Rattle.crossbeam_utils.specs.Padded.{padded_value}
use Rattle.row_types.specs.Name.{NameFacts, stamp_at}
use Rattle.row_types.specs.declared.limits.TheConstants.{FILE_LIMIT}
use Rattle.index_lock.specs.Tokens.{SeatFacts}
use Rattle.index_rows.specs.declared.change.Change.{Change}
use Rattle.index_state.specs.State.{Origin}
use Rattle.tree_trait.specs.Found.{Versions}
use Rattle.tree_trait.specs.Heard.{Heard, load, stat, read_dir, open_file, read_at}
use Rattle.tree_trait.specs.Listens.{Listens, loads}
use Rattle.tree_trait.specs.Shown.{ShownTree}
use Rattle.scan_worker.specs.Works.{AreReadings}
use Rattle.groomer.specs.Looks.{IsLook}
use Rattle.pass_runner.specs.declared.helper.Helper.{Helper}
use Rattle.pass_runner.specs.declared.helper.Task.{Task}
use Rattle.pass_runner.specs.declared.helper.Task.TheVariants.{Look, Read}

-- the opening of a file of at most 64 GiB, of a path of none of these names, or a read of such a file; or a look
abbrev pub IsSparing : List NameFacts → Heard → Type 0
IsSparing spared (load path limit answer) = ⊥
IsSparing spared (stat path answer) = Unit {0}
IsSparing spared (read_dir path answer) = ⊥
IsSparing spared (open_file path limit answer) = (limit ≡ FILE_LIMIT) × (stamp_at spared path ≡ None)
IsSparing spared (read_at name at answer) = stamp_at spared name.path ≡ None

-- one file after the other was opened, and of each none but its parts was read; or there were looks alone
abbrev pub ReadsPartsOrLooks : List Heard → Type 0
ReadsPartsOrLooks more = AreReadings more ⊎ All IsLook more

-- the hand heard nothing but openings and reads of files of none of these names, of each its parts alone, or looks; and so many
-- openings, or more
pub record Helped (told : Bool) (version : Versions) (spared : List NameFacts) (before after : ShownTree) (asked : ℕ)
    : Type 0 where
  pub more : List Heard
  pub listens : Listens told version before after more
  pub spares : All (IsSparing spared) more
  pub parts : ReadsPartsOrLooks more
  pub loaded : asked ≤ loads more

-- a hand that looks for files counts no opening
abbrev pub CountsNoLook : Task → ℕ → Type 0
CountsNoLook Look asked = asked ≡ 0
CountsNoLook Read asked = Unit {0}

-- how many openings a helper counts
abbrev pub loads_counted : {T : Type 0} → Helper T → ℕ
loads_counted helper = padded_value helper.asked

-- the hands of helpers, in order
abbrev pub hands_in : {T : Type 0} → List (Helper T) → List T
hands_in helpers = map (λ helper. helper.hand) helpers

-- what a helper comes to whose hand helped while these names were skipped
abbrev pub HelpedFrom : {T : Type 0} → (T → ShownTree) → Bool → Versions → List NameFacts → Helper T → Helper T → Type 0
HelpedFrom sees told version spared before after =
    Helped told version spared (sees before.hand) (sees after.hand) (loads_counted after)
    × (after.task ≡ before.task) × CountsNoLook after.task (loads_counted after)

-- what a run of a slot makes of its helper
abbrev pub HelpsFrom : {T : Type 0} → (T → ShownTree) → Bool → Versions → SeatFacts Change Origin → Helper T
    → SeatFacts Change Origin → Helper T → Type 0
HelpsFrom sees told version start before later after =
    HelpedFrom sees told version start.origin.spared before after

-- the first helper looks for files, if there is one
abbrev pub BeginsWithLook : {T : Type 0} → List (Helper T) → Type 0
BeginsWithLook [] = Unit {0}
BeginsWithLook (helper ∷ helpers) = helper.task ≡ Look
