-- Reading an open file part by part (this crate's bookkeeping, which no public clause cites).
use Rattle.std.specs.Prelude.{◌≡◌, ◌⊎◌, ◌<◌, ◌≤◌, Bool, List, [], All}
use Rattle.file_picture.specs.Agrees.{IsOfEach}
use Rattle.file_picture.specs.Picture.{PictureFacts, sum_of}
use Rattle.row_types.specs.Faults.{Rose}
use Rattle.row_types.specs.Name.{NameFacts}
use Rattle.row_types.specs.Row.{RowFacts}
use Rattle.row_types.specs.Stamp.{StampFacts}
use Rattle.tree_trait.specs.Fills.{HearsReads, IsReadOfFile}
use Rattle.tree_trait.specs.Found.{Versions}
use Rattle.tree_trait.specs.Heard.{Heard}
use Rattle.tree_trait.specs.Needs.{FillsNeed}
use Rattle.tree_trait.specs.Open.{was_opened}
use Rattle.tree_trait.specs.Opened.{IsPictureOf}
use Rattle.tree_trait.specs.Reader.{IsReadPart, IsRestPart, IsRowOf}
use Rattle.tree_trait.specs.Shown.{ShownTree}
use Rattle.tree_trait.specs.declared.filling.FillAnswer.{FillAnswer}
use Rattle.tree_trait.specs.declared.filling.FillAnswer.TheVariants as filled
use Rattle.scan_worker.specs.Read.{AsksParts, opening_leads_to}
use Rattle.scan_worker.specs.declared.read.NameRead.{NameRead}
use Rattle.scan_worker.specs.declared.read.NameRead.TheVariants.{Row, Altered, Failed, OutOfMemory}

-- a file that was opened with a stamp, for a listed name, was read: reads of its parts alone were heard, which led to this
pub record ReadsOpenFile {W : Type 0} (told : Bool) (version : Versions) (name : NameFacts) (stamp : StampFacts)
    (before after : ShownTree) (given : NameRead W) : Type 0 where
  pub reads : List Heard
  pub hears : HearsReads told version before after reads
  pub own : All (IsReadOfFile name) reads
  pub parts : AsksParts name reads
  pub leads : opening_leads_to version name (was_opened stamp) reads given
  pub rose : given ≡ Failed → Rose before.faults after.faults

-- one part more was read, and the name is given back
pub record ReadsNextPart (told : Bool) (version : Versions) (name : NameFacts) (before after : ShownTree) (old new : PictureFacts)
    (given : NameFacts) : Type 0 where
  pub same : given ≡ name
  pub part : FillsNeed (IsReadPart name.stamp) told version name before after old new filled.Done
  pub rises : sum_of old.pieces < sum_of new.pieces
  pub within : sum_of new.pieces ≤ name.stamp.size

-- nothing was read, and the row is that of each file that agrees with the picture, as a version of the name does
pub record MakesRow (told : Bool) (version : Versions) (name : NameFacts) (before after : ShownTree) (old : PictureFacts)
    (row : RowFacts) : Type 0 where
  pub hears : HearsReads told version before after []
  pub seen : IsPictureOf version name old
  pub is : IsOfEach (IsRestPart name.stamp) (λ b. IsRowOf name b row) old

-- a part was not read whole
pub record LeavesPart (told : Bool) (version : Versions) (name : NameFacts) (before after : ShownTree) (old : PictureFacts)
    (end : FillAnswer) : Type 0 where
  pub new : PictureFacts
  pub part : FillsNeed (IsReadPart name.stamp) told version name before after old new end

-- how the reading stops
abbrev pub StopsReading : {W : Type 0} → Bool → Versions → NameFacts → ShownTree → ShownTree → PictureFacts → NameRead W → Type 0
StopsReading told version name before after old (Row row) = MakesRow told version name before after old row
StopsReading told version name before after old (Altered met) = ⊥
StopsReading told version name before after old Failed =
    LeavesPart told version name before after old filled.Failed × Rose before.faults after.faults
StopsReading told version name before after old OutOfMemory =
    HearsReads told version before after [] ⊎ LeavesPart told version name before after old filled.OutOfMemory
