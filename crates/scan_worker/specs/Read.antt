-- Reading a listed file (this project's rule): its opening, and the reads of the open file, lead to its row, or to what stood in
-- its place.
use Rattle.std.specs.Prelude.{◌≡◌, ◌≢◌, Bool, List, [], ◌++◌, All}
use Rattle.row_types.specs.Name.{NameFacts}
use Rattle.row_types.specs.Row.{RowFacts, too_large_row}
use Rattle.row_types.specs.declared.limits.TheConstants.{FILE_LIMIT}
use Rattle.scan_queue.specs.declared.miss.Seen.{Seen}
use Rattle.scan_queue.specs.declared.miss.Seen.TheVariants as seen
use Rattle.tree_trait.specs.Asks.{AsksTree}
use Rattle.tree_trait.specs.Fills.{HasFailedLast, IsReadOfFile}
use Rattle.tree_trait.specs.Found.{Versions}
use Rattle.tree_trait.specs.Heard.{Heard, open_file}
use Rattle.tree_trait.specs.Listens.{Listens, heard_or_none}
use Rattle.tree_trait.specs.Needs.{AsksRanges, HasVersion, IsOfReads}
use Rattle.tree_trait.specs.Open.{OpenFacts, was_opened, was_too_large, open_gone, open_failed, open_no_memory}
use Rattle.tree_trait.specs.Reader.{IsReadPart, IsRowOf}
use Rattle.tree_trait.specs.Shown.{HandsOn, ShownTree}
use Rattle.scan_worker.specs.declared.read.NameRead.{NameRead}
use Rattle.scan_worker.specs.declared.read.NameRead.TheVariants.{Row, Altered, Failed, OutOfMemory}

-- the opening of a listed file, as a tree tells it
abbrev pub heard_opening : NameFacts → OpenFacts → Heard
heard_opening name answer = open_file name.path FILE_LIMIT answer

-- and the reads of the open file behind it; an opening for which memory was refused isn't heard
abbrev pub heard_reading : NameFacts → OpenFacts → List Heard → List Heard
heard_reading name answer reads = heard_or_none (heard_opening name answer) ++ reads

-- each read is of a part on which the file's reading rests, of each file that has as many bytes as the name says, and all that
-- were read
abbrev pub AsksParts : NameFacts → List Heard → Type 0
AsksParts name reads = AsksRanges (IsReadPart name.stamp) name reads

-- the file that was listed was opened, and the row says what it is; one that is larger than a file that is read isn't
abbrev pub ReadsListed : NameFacts → OpenFacts → List Heard → RowFacts → Type 0
ReadsListed name (was_opened stamp) reads row =
    (stamp ≡ name.stamp) × IsOfReads name.stamp.size reads (λ b. IsRowOf name b row)
ReadsListed name (was_too_large stamp) reads row = (stamp ≡ name.stamp) × (row ≡ too_large_row name)
ReadsListed name _ reads row = ⊥

-- a file that was opened and read is a version of the name
abbrev pub IsVersionOpened : Versions → NameFacts → OpenFacts → List Heard → Type 0
IsVersionOpened version name (was_opened stamp) reads = HasVersion version name reads
IsVersionOpened version name _ reads = reads ≡ []

-- the opening found this in place of the file that was listed
abbrev pub FindsOther : NameFacts → OpenFacts → Seen → Type 0
FindsOther name (was_opened stamp) met = (stamp ≢ name.stamp) × (met ≡ seen.File stamp)
FindsOther name (was_too_large stamp) met = (stamp ≢ name.stamp) × (met ≡ seen.File stamp)
FindsOther name open_gone met = met ≡ seen.Gone
FindsOther name _ met = ⊥

-- the opening failed, or the last read of the file that was listed
abbrev pub FailsToRead : NameFacts → OpenFacts → List Heard → Type 0
FailsToRead name (was_opened stamp) reads = (stamp ≡ name.stamp) × HasFailedLast reads
FailsToRead name open_failed reads = reads ≡ []
FailsToRead name _ reads = ⊥

-- memory may be refused: for the opening, or for the reads or the row of the file that was listed
abbrev pub MayWant : NameFacts → OpenFacts → Type 0
MayWant name (was_opened stamp) = stamp ≡ name.stamp
MayWant name (was_too_large stamp) = stamp ≡ name.stamp
MayWant name open_no_memory = Unit {0}
MayWant name _ = ⊥

-- what the opening of a listed file and the reads behind it lead to
abbrev pub opening_leads_to : {W : Type 0} → Versions → NameFacts → OpenFacts → List Heard → NameRead W → Type 0
opening_leads_to version name answer reads (Row row) =
    ReadsListed name answer reads row × IsVersionOpened version name answer reads
opening_leads_to version name answer reads (Altered met) = FindsOther name answer met × (reads ≡ [])
opening_leads_to version name answer reads Failed = FailsToRead name answer reads
opening_leads_to version name answer reads OutOfMemory = MayWant name answer

-- the opening alone was asked of the tree, but where the file was opened that was listed
abbrev pub AsksAlone : {W : Type 0} → Bool → Versions → ShownTree → ShownTree → NameFacts → OpenFacts → NameRead W → Type 0
AsksAlone told version before after name answer (Altered met) =
    AsksTree told version before after (heard_opening name answer)
AsksAlone told version before after name (was_opened stamp) given = Unit {0}
AsksAlone told version before after name answer given =
    AsksTree told version before after (heard_opening name answer)

-- a listed file was opened and read: an opening was heard and reads of parts of the file, and nothing else, which led to this;
-- it failed only where the count of faults rose
pub record ReadsName {W : Type 0} (told : Bool) (version : Versions) (name : NameFacts) (before after : ShownTree)
    (given : NameRead W) : Type 0 where
  pub answer : OpenFacts
  pub reads : List Heard
  pub listens : Listens told version before after (heard_reading name answer reads)
  pub alone : AsksAlone told version before after name answer given
  pub hands : HandsOn told version before after (Unit {0}) (given ≡ Failed)
  pub own : All (IsReadOfFile name) reads
  pub parts : AsksParts name reads
  pub leads : opening_leads_to version name answer reads given
