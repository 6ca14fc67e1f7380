-- The file at a path (this project's rule): it is opened, and ranges of it are read on which an answer rests.
use Rattle.std.specs.Prelude.{◌≡◌, ℕ, Bool, false, List, [], ◌++◌, All}
use Rattle.std.specs.List.{list_any}
use Rattle.file_formats.specs.Windows.{Range}
use Rattle.row_types.specs.Faults.{Rose}
use Rattle.row_types.specs.Name.{NameFacts}
use Rattle.row_types.specs.Stamp.{StampFacts}
use Rattle.row_types.specs.declared.limits.TheConstants.{FILE_LIMIT}
use Rattle.tree_trait.specs.Asks.{AsksTree}
use Rattle.tree_trait.specs.Fills.{HasFailedLast, HearsReads, IsReadOfFile}
use Rattle.tree_trait.specs.Found.{Versions}
use Rattle.tree_trait.specs.Heard.{Heard, open_file, call_failed}
use Rattle.tree_trait.specs.Listens.{Listens, heard_or_none}
use Rattle.tree_trait.specs.Needs.{AsksRanges, HasVersion}
use Rattle.tree_trait.specs.Open.{OpenFacts, was_opened, was_too_large, open_gone, open_failed, open_no_memory}
use Rattle.tree_trait.specs.Opened.{opened_name}
use Rattle.tree_trait.specs.Shown.{HandsOn, ShownTree}
use Rattle.file_parts.specs.Wholes.{IsReadWhole}
use Rattle.file_parts.specs.declared.seen.FileSeen.{FileSeen}
use Rattle.file_parts.specs.declared.seen.FileSeen.TheVariants as seen

-- what was found of the file at a path: what was read of it, with the stamp that it had as it was opened; or why nothing was
pub data FileAnswer : Type 0 where
  file_read : (stamp : StampFacts) (reads : List Heard) → FileAnswer
  file_too_large : FileAnswer
  file_gone : FileAnswer
  file_failed : FileAnswer
  file_no_memory : FileAnswer

-- the name of the file that was opened at a path
abbrev pub stamped_name : List ℕ → StampFacts → NameFacts
stamped_name path stamp = record { path = path; stamp = stamp }

-- each read is of the file that was opened, and of one of these ranges of it; where none was opened, none was read
abbrev pub ReadsRanges : (List ℕ → Range → Type 0) → List ℕ → OpenFacts → List Heard → Type 0
ReadsRanges Of path (was_opened stamp) reads =
    All (IsReadOfFile (stamped_name path stamp)) reads × AsksRanges Of (stamped_name path stamp) reads
ReadsRanges Of path _ reads = reads ≡ []

-- what the opening and the reads behind it give: the file, of which a version has what was read, where no read failed; or that none
-- is there, one that is too large, a fault of the opening or of the last read, or want of memory, where no read failed
abbrev pub OpeningGives : Versions → List ℕ → OpenFacts → List Heard → FileAnswer → Type 0
OpeningGives version path (was_opened stamp) reads (file_read given all) =
    (given ≡ stamp) × (all ≡ reads) × HasVersion version (stamped_name path stamp) reads × (list_any call_failed reads ≡ false)
OpeningGives version path (was_opened stamp) reads file_failed = HasFailedLast reads
OpeningGives version path (was_opened stamp) reads file_no_memory = list_any call_failed reads ≡ false
OpeningGives version path (was_too_large stamp) reads file_too_large = Unit {0}
OpeningGives version path open_gone reads file_gone = Unit {0}
OpeningGives version path open_failed reads file_failed = Unit {0}
OpeningGives version path open_no_memory reads file_no_memory = Unit {0}
OpeningGives version path _ reads answer = ⊥

-- the opening alone was asked of the tree, where no file was opened
abbrev pub AsksOpening : Bool → Versions → ShownTree → ShownTree → List ℕ → OpenFacts → Type 0
AsksOpening told version before after path (was_opened stamp) = Unit {0}
AsksOpening told version before after path opening =
    AsksTree told version before after (open_file path FILE_LIMIT opening)

-- the file at a path was opened, up to the largest size that is read, and such ranges of it alone were read, which gave this; it
-- failed only where the count of faults rose
pub record AsksFile (Of : List ℕ → Range → Type 0) (told : Bool) (version : Versions) (path : List ℕ) (before after : ShownTree)
    (answer : FileAnswer) : Type 0 where
  pub opening : OpenFacts
  pub reads : List Heard
  pub listens : Listens told version before after (heard_or_none (open_file path FILE_LIMIT opening) ++ reads)
  pub alone : AsksOpening told version before after path opening
  pub hands : HandsOn told version before after (Unit {0}) (answer ≡ file_failed)
  pub ranges : ReadsRanges Of path opening reads
  pub gives : OpeningGives version path opening reads answer

-- what was found, by what was read
abbrev pub seen_answer : {W F : Type 0} → FileSeen W F → List Heard → FileAnswer
seen_answer (seen.Read opened) reads = file_read opened.stamp reads
seen_answer (seen.TooLarge stamp) reads = file_too_large
seen_answer seen.Gone reads = file_gone
seen_answer seen.Failed reads = file_failed
seen_answer seen.OutOfMemory reads = file_no_memory

-- the picture of a file that was read has all of it
abbrev pub IsSeenWhole : {W F : Type 0} → (List ℕ → Range → Type 0) → FileSeen W F → List Heard → Type 0
IsSeenWhole Of (seen.Read opened) reads = IsReadWhole Of opened.stamp.size reads opened.picture
IsSeenWhole Of _ reads = Unit {0}

-- a file that was read is found with the path that was asked; it was opened with that path and the stamp that it is found with
abbrev pub IsSeenAs : {W F : Type 0} → (F → NameFacts) → List ℕ → FileSeen W F → Type 0
IsSeenAs name_of path (seen.Read opened) = (name_of opened.file ≡ opened_name opened) × (opened.path ≡ path)
IsSeenAs name_of path _ = Unit {0}

-- an open file was read: ranges of it alone, which gave this
pub record SeesOpened {W F : Type 0} (name_of : F → NameFacts) (Of : List ℕ → Range → Type 0) (told : Bool) (version : Versions)
    (path : List ℕ) (stamp : StampFacts) (before after : ShownTree) (found : FileSeen W F) : Type 0 where
  pub reads : List Heard
  pub hears : HearsReads told version before after reads
  pub own : All (IsReadOfFile (stamped_name path stamp)) reads
  pub ranges : AsksRanges Of (stamped_name path stamp) reads
  pub gives : OpeningGives version path (was_opened stamp) reads (seen_answer found reads)
  pub whole : IsSeenWhole Of found reads
  pub rose : found ≡ seen.Failed → Rose before.faults after.faults
  pub named : IsSeenAs name_of path found

-- the file at a path was opened and read, and all that the answer rests on is in its picture
pub record SeesAtPath {W F : Type 0} (name_of : F → NameFacts) (Of : List ℕ → Range → Type 0) (told : Bool) (version : Versions)
    (path : List ℕ) (before after : ShownTree) (found : FileSeen W F) : Type 0 where
  pub reads : List Heard
  pub asks : AsksFile Of told version path before after (seen_answer found reads)
  pub whole : IsSeenWhole Of found reads
  pub named : IsSeenAs name_of path found
