-- What the reading finds of the file at a path, of which no more than may be is read (this project's rule): too large where its
-- windows cover more, and without sources where its parts do.
use Rattle.std.specs.Prelude.{◌≡◌, ◌⊎◌, ℕ, ◌<◌, ◌≤◌, Bool, false, List, [], All, Result, Ok, Err}
use Rattle.file_formats.specs.Cover.{CoverMore}
use Rattle.file_formats.specs.Identity.{Identity, IsIdentity}
use Rattle.file_formats.specs.Parts.{IsSomePart}
use Rattle.file_formats.specs.Windows.{IsSomeWindow, Range, range}
use Rattle.file_formats.specs.declared.fault.Why.{Why}
use Rattle.file_formats.specs.declared.fault.Why.TheVariants.{TooLarge}
use Rattle.file_picture.specs.Agrees.{AgreesWithPicture, AsksOf}
use Rattle.file_picture.specs.Counts.{count_in, is_known_or}
use Rattle.file_picture.specs.Passed.{HasPassed}
use Rattle.file_picture.specs.Picture.{PictureFacts, sum_of}
use Rattle.file_picture.specs.ReadSoFar.{HasWindows, Holds}
use Rattle.row_types.specs.Faults.{Rose}
use Rattle.row_types.specs.Name.{NameFacts}
use Rattle.row_types.specs.Stamp.{StampFacts}
use Rattle.row_types.specs.Reading.{ReadsBytes}
use Rattle.row_types.specs.declared.limits.TheConstants.{READ_LIMIT}
use Rattle.row_types.specs.declared.reading.Reading.TheVariants.{Elf}
use Rattle.tree_trait.specs.Fills.{HasReads, HearsReads, IsReadOfFile}
use Rattle.tree_trait.specs.Found.{Versions}
use Rattle.tree_trait.specs.Heard.{Heard}
use Rattle.tree_trait.specs.Needs.{AsksRanges, FillsNeed, ReadsSoFar}
use Rattle.tree_trait.specs.Open.{was_opened}
use Rattle.elf_reading.specs.RowViews.{CoversMore}
use Rattle.tree_trait.specs.Shown.{ShownTree}
use Rattle.tree_trait.specs.declared.filling.FillAnswer.{FillAnswer}
use Rattle.tree_trait.specs.declared.filling.FillAnswer.TheVariants.{Done, Failed, OutOfMemory}
use Rattle.file_parts.specs.AtPath.{AsksFile, IsSeenAs, OpeningGives, seen_answer, stamped_name}
use Rattle.file_parts.specs.Wholes.{FillsWhole, IsThereWhole, needs_of}
use Rattle.file_parts.specs.declared.part.FilePart.{FilePart}
use Rattle.file_parts.specs.declared.part.FilePart.TheVariants as part
use Rattle.file_parts.specs.declared.found.Decision.{Decision}
use Rattle.file_parts.specs.declared.found.Decision.TheVariants as next
use Rattle.file_parts.specs.declared.part.PartStep.{PartStep}
use Rattle.file_parts.specs.declared.part.PartStep.TheVariants as step
use Rattle.file_parts.specs.declared.seen.FileSeen.{FileSeen}
use Rattle.file_parts.specs.declared.seen.FileSeen.TheVariants as seen

-- the identity that the reading of bytes gives, or why it gives none
pub data ReadsIdentity (b : List ℕ) : Result Identity Why → Type 0 where
  wide : CoverMore (IsSomeWindow b) READ_LIMIT → ReadsIdentity b (Err TooLarge)
  narrow : (answer : Result Identity Why) → (CoverMore (IsSomeWindow b) READ_LIMIT → ⊥) → IsIdentity b answer → ReadsIdentity b answer

-- so it is of each file that agrees with the picture
abbrev pub ReadsIdentityOfEach : PictureFacts → Result Identity Why → Type 0
ReadsIdentityOfEach p answer = (b : List ℕ) → AgreesWithPicture b p → ReadsIdentity b answer

-- the reading gives one identity of each file that agrees
pub record HasIdentity (p : PictureFacts) : Type 0 where
  pub identity : Identity
  pub reads : ReadsIdentityOfEach p (Ok identity)

-- the windows of each file that agrees cover more than may be read
abbrev pub AreWide : PictureFacts → Type 0
AreWide p = (b : List ℕ) → AgreesWithPicture b p → CoverMore (IsSomeWindow b) READ_LIMIT

-- its windows are there, and its parts cover more
pub record IsBare (p : PictureFacts) : Type 0 where
  pub windows : IsThereWhole IsSomeWindow p
  pub many : (b : List ℕ) → AgreesWithPicture b p → CoverMore (IsSomePart b) READ_LIMIT

-- what is known decides the answer: all is there on which it rests, or the windows cover more, or for the sources the parts do
abbrev pub Decides : FilePart → PictureFacts → Type 0
Decides part.Identity p = IsThereWhole IsSomeWindow p ⊎ AreWide p
Decides part.Debug p = IsThereWhole IsSomePart p ⊎ AreWide p ⊎ IsBare p
Decides (part.Section name) p = IsThereWhole (needs_of (part.Section name)) p ⊎ AreWide p

-- the files of so many bytes that have what was read are those that agree with the picture, of which no more than may be is known,
-- and which decides the answer
pub record IsFound (which : FilePart) (size : ℕ) (reads : List Heard) (p : PictureFacts) : Type 0 where
  pub agrees : (b : List ℕ) → HasReads size reads b → AgreesWithPicture b p
  pub has : (b : List ℕ) → AgreesWithPicture b p → HasReads size reads b
  pub small : sum_of p.pieces ≤ READ_LIMIT
  pub decides : Decides which p

-- the picture of a file that was read decides the answer
abbrev pub IsSeenFound : {W F : Type 0} → FilePart → FileSeen W F → List Heard → Type 0
IsSeenFound which (seen.Read opened) reads = IsFound which opened.stamp.size reads opened.picture
IsSeenFound which _ reads = Unit {0}

-- the file at a path was opened, and so much of it read that the answer is decided
pub record FindsAtPath {W F : Type 0} (name_of : F → NameFacts) (which : FilePart) (told : Bool) (version : Versions)
    (path : List ℕ) (before after : ShownTree) (found : FileSeen W F) : Type 0 where
  pub reads : List Heard
  pub asks : AsksFile (needs_of which) told version path before after (seen_answer found reads)
  pub decided : IsSeenFound which found reads
  pub named : IsSeenAs name_of path found

-- what was read of a file so far, windows first: no more than may be known, and nothing but windows until all are there, and then
-- nothing but such ranges
pub record IsFoundSoFar (Of : List ℕ → Range → Type 0) (p : PictureFacts) : Type 0 where
  pub small : sum_of p.pieces ≤ READ_LIMIT
  pub holds : (b : List ℕ) → AgreesWithPicture b p → Holds (IsSomeWindow b) p ⊎ (HasWindows p b × Holds (Of b) p)

-- such a range may be read: with it no more is known than may be, and it is a window, or all windows are there
pub record IsFoundNext (p : PictureFacts) (at len : ℕ) : Type 0 where
  pub small : count_in (is_known_or p at len) 0 p.size ≤ READ_LIMIT
  pub among : (b : List ℕ) → AgreesWithPicture b p → IsSomeWindow b (range at len) ⊎ HasWindows p b

-- how the reading ends: the answer is decided, or a read failed or met want of memory
abbrev pub FillsFound : FilePart → Bool → Versions → NameFacts → ShownTree → ShownTree → PictureFacts → FillAnswer → Type 0
FillsFound which told version name before after now Done =
    ReadsSoFar (needs_of which) told version name before after now × (sum_of now.pieces ≤ READ_LIMIT) × Decides which now
FillsFound which told version name before after now Failed = FillsWhole (needs_of which) told version name before after now Failed
FillsFound which told version name before after now OutOfMemory = FillsWhole (needs_of which) told version name before after now OutOfMemory

-- one step of it: a range that was needed was read, or how it ends
abbrev pub StepsFound : FilePart → Bool → Versions → NameFacts → ShownTree → ShownTree → PictureFacts → PictureFacts → Result (Unit {0}) FillAnswer → Type 0
StepsFound which told version name before after old new (Ok _) =
    FillsNeed (needs_of which) told version name before after old new Done × (sum_of old.pieces < sum_of new.pieces)
StepsFound which told version name before after old new (Err Done) = HearsReads told version before after [] × (new ≡ old) × Decides which old
StepsFound which told version name before after old new (Err Failed) =
    FillsNeed (needs_of which) told version name before after old new Failed × Rose before.faults after.faults
StepsFound which told version name before after old new (Err OutOfMemory) =
    (HearsReads told version before after [] × (new ≡ old)) ⊎ FillsNeed (needs_of which) told version name before after old new OutOfMemory

-- an open file was read: ranges of it alone, which gave this
pub record FindsOpened {W F : Type 0} (name_of : F → NameFacts) (which : FilePart) (told : Bool) (version : Versions)
    (path : List ℕ) (stamp : StampFacts) (before after : ShownTree) (found : FileSeen W F) : Type 0 where
  pub reads : List Heard
  pub hears : HearsReads told version before after reads
  pub own : All (IsReadOfFile (stamped_name path stamp)) reads
  pub ranges : AsksRanges (needs_of which) (stamped_name path stamp) reads
  pub gives : OpeningGives version path (was_opened stamp) reads (seen_answer found reads)
  pub decided : IsSeenFound which found reads
  pub rose : found ≡ seen.Failed → Rose before.faults after.faults
  pub named : IsSeenAs name_of path found

-- whether the sources are asked for, and the parts cover more than may be read
abbrev pub SaysBare : FilePart → PictureFacts → Bool → Type 0
SaysBare part.Debug p more = CoversMore READ_LIMIT p more
SaysBare _ p more = more ≡ false

-- what is said of a picture: that it decides the answer, or a range that may be read, with the section from which to look on
abbrev pub SaysDecision : FilePart → PictureFacts → Decision → Type 0
SaysDecision which p next.Decided = Decides which p
SaysDecision which p next.TooMuch = Unit {0}
SaysDecision which p (next.Read need) = AsksOf (needs_of which) p need.at need.len × IsFoundNext p need.at need.len × HasPassed p need.next

-- the next step of the reading: a window that isn't there; or a range beside the windows, which are there; or nothing is left
abbrev pub StepsTo : (List ℕ → Range → Type 0) → PictureFacts → PartStep → Type 0
StepsTo Of p (step.Window need) = AsksOf IsSomeWindow p need.at need.len × HasPassed p need.next
StepsTo Of p (step.Rest need) = AsksOf Of p need.at need.len × IsThereWhole IsSomeWindow p × HasPassed p need.next
StepsTo Of p step.Whole = IsThereWhole Of p

-- the paths are the sources that the reading of each file of this identity gives
abbrev pub ReadsSourcesOfEach : PictureFacts → Identity → List (List ℕ) → Type 0
ReadsSourcesOfEach p identity paths = (b : List ℕ) → AgreesWithPicture b p → ReadsBytes b (Elf identity paths)
