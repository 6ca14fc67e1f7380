-- What is heard of the files that may answer a route (this project's rule): one after the other, until one passes. A source is
-- loaded whole; every other file is opened, and of it the ranges are read on which the answer rests. Each candidate has a part of
-- what was heard.
use Rattle.std.specs.Prelude.{◌≡◌, ◌⊎◌, ℕ, ◌<◌, Bool, true, false, List, [], ◌∷◌, ◌++◌, flat_map, length, take, Option, IsTrue, slice_index_or}
use Rattle.std.specs.List.{AllZip, list_any}
use Rattle.answer_check.specs.Passing.{Passes}
use Rattle.file_parts.specs.AtPath.{FileAnswer, OpeningGives, ReadsRanges, file_read, file_no_memory, stamped_name}
use Rattle.row_types.specs.Name.{NameFacts}
use Rattle.row_types.specs.Stamp.{StampFacts}
use Rattle.row_types.specs.declared.identity.Kind.{Kind}
use Rattle.row_types.specs.declared.limits.TheConstants.{FILE_LIMIT, READ_LIMIT}
use Rattle.tree_trait.specs.Found.{FoundFacts, Versions}
use Rattle.tree_trait.specs.Heard.{Heard, load, open_file, call_failed}
use Rattle.tree_trait.specs.Listens.{ListsAnswers}
use Rattle.tree_trait.specs.Load.{FitsLoad, LoadFacts, TellsLoad, loaded, no_memory}
use Rattle.tree_trait.specs.Needs.{IsOfReads}
use Rattle.tree_trait.specs.Open.{FitsOpening, OpenFacts, TellsOpening, was_opened}
use Rattle.tree_trait.specs.Shown.{HandsOn, ShownTree}
use Rattle.webapi_routes.specs.declared.route.Route.{Route}
use Rattle.webapi_routes.specs.declared.route.Route.TheVariants.{Source}
use Rattle.answer_core.specs.Given.{GivenFacts, GivesRead, given_facts, needs_for, source_given}
use Rattle.answer_core.specs.declared.given.Tried.{Tried}
use Rattle.answer_core.specs.declared.given.Tried.TheVariants as tried
use Rattle.answer_core.specs.declared.attempts.Outcome.{Outcome}
use Rattle.answer_core.specs.declared.attempts.Outcome.TheVariants as outcome
use Rattle.answer_core.specs.declared.candidate.Candidate.{Candidate}

-- what is known of a hand: whether it tells what it has, the versions of its world's files, and what it showed as the
-- call began
pub record Hand : Type 1 where
  pub told : Bool
  pub version : Versions
  pub start : ShownTree

-- a part of what was heard is the load of a source with this answer: within the limit, and by the files that are there,
-- where the hand is told and still
pub record IsLoad (hand : Hand) (one : Candidate) (answer : LoadFacts) (part : List Heard) : Type 0 where
  pub asked : part ≡ load one.path READ_LIMIT answer ∷ []
  pub fits : FitsLoad hand.version one.path READ_LIMIT answer
  pub tells : IsTrue hand.told → hand.start.Still → TellsLoad hand.start.present one.path answer

-- a part of what was heard is the opening of a candidate's file, with the reads of it behind that, and this is what they gave: the
-- opening within the limit, and by the files that are there, where the hand is told and still; and reads of such ranges alone. So
-- what the candidate passes by is said of its part alone, as of a load
pub record IsOpening (hand : Hand) (route : Route) (one : Candidate) (answer : FileAnswer) (part : List Heard) : Type 0 where
  pub opening : OpenFacts
  pub reads : List Heard
  pub asked : part ≡ open_file one.path FILE_LIMIT opening ∷ reads
  pub fits : FitsOpening hand.version one.path FILE_LIMIT opening
  pub tells : IsTrue hand.told → hand.start.Still → TellsOpening hand.start.present one.path opening
  pub ranges : ReadsRanges (needs_for route) one.path opening reads
  pub gives : OpeningGives hand.version one.path opening reads answer

-- the load of a source gives no bytes; it isn't that memory was refused
abbrev pub LoadsNothing : LoadFacts → Type 0
LoadsNothing (loaded found) = ⊥
LoadsNothing no_memory = ⊥
LoadsNothing _ = Unit {0}

-- what was read of a file doesn't pass: there is none, it is too large, or a call failed; or no file that has what was read passes;
-- it isn't that memory was refused
abbrev pub ReadsNothing : Route → Option Kind → FileAnswer → Type 0
ReadsNothing route class (file_read stamp reads) = IsOfReads stamp.size reads (λ b. ¬ Passes route class b)
ReadsNothing route class file_no_memory = ⊥
ReadsNothing route class _ = Unit {0}

-- a source was loaded, and not found
pub record IsSourceMissed (hand : Hand) (one : Candidate) (part : List Heard) : Type 0 where
  pub answer : LoadFacts
  pub loads : IsLoad hand one answer part
  pub nothing : LoadsNothing answer

-- a file was opened and read, and doesn't pass
pub record IsFileMissed (hand : Hand) (route : Route) (one : Candidate) (part : List Heard) : Type 0 where
  pub answer : FileAnswer
  pub opens : IsOpening hand route one answer part
  pub nothing : ReadsNothing route one.class answer

-- what was heard of a candidate gave nothing that passes
abbrev pub DoesNotPass : Hand → Route → Candidate → List Heard → Type 0
DoesNotPass hand (Source id path) one part = IsSourceMissed hand one part
DoesNotPass hand route one part = IsFileMissed hand route one part

-- a source was loaded, and its bytes are given
pub record IsSourceGiven (hand : Hand) (one : Candidate) (given : GivenFacts) (part : List Heard) : Type 0 where
  pub found : FoundFacts
  pub loads : IsLoad hand one (loaded found) part
  pub gives : given ≡ source_given found.bytes

-- a file was opened and read: each file that has what was read passes, and this is given of it
pub record IsFileGiven (hand : Hand) (route : Route) (one : Candidate) (given : GivenFacts) (part : List Heard) : Type 0 where
  pub stamp : StampFacts
  pub reads : List Heard
  pub opens : IsOpening hand route one (file_read stamp reads) part
  pub passes : IsOfReads stamp.size reads (Passes route one.class)
  pub gives : GivesRead hand.version route one.class (stamped_name one.path stamp) reads given

-- what was heard of a candidate makes it pass, and this is given of it
abbrev pub CandidatePasses : Hand → Route → Candidate → GivenFacts → List Heard → Type 0
CandidatePasses hand (Source id path) one given part = IsSourceGiven hand one given part
CandidatePasses hand route one given part = IsFileGiven hand route one given part

-- a file was opened, and such ranges of it alone were read, behind which memory was refused; no call failed
pub record IsFileLeft (hand : Hand) (route : Route) (one : Candidate) (part : List Heard) : Type 0 where
  pub opens : IsOpening hand route one file_no_memory part
  pub stamp : StampFacts
  pub there : opens.opening ≡ was_opened stamp

-- what was heard of a candidate at which memory was refused: nothing, or of a file a front of what its answer rests on
abbrev pub IsLeft : Hand → Route → Candidate → List Heard → Type 0
IsLeft hand (Source id path) one part = part ≡ []
IsLeft hand route one part = (part ≡ []) ⊎ IsFileLeft hand route one part

-- parts, one behind the other
abbrev pub joined_parts : List (List Heard) → List Heard
joined_parts parts = flat_map (λ part. part) parts

-- what was heard is a part for each candidate, in order, by which none passed; some call failed or none did
pub record NonePasses (hand : Hand) (route : Route) (all : List Candidate) (answers : List Heard) (fails : Bool) : Type 0 where
  pub parts : List (List Heard)
  pub are : answers ≡ joined_parts parts
  pub none : AllZip (DoesNotPass hand route) all parts
  pub failed : list_any call_failed answers ≡ fails

-- what was heard is a part for each candidate, in order, up to the one at this place, which is the first that passed
pub record PassesAt
    (hand : Hand) (route : Route) (all : List Candidate) (answers : List Heard) (place : ℕ) (given : GivenFacts) : Type 0 where
  pub within : place < length all
  pub one : Candidate
  pub there : one ≡ slice_index_or all place one
  pub before : List (List Heard)
  pub none : AllZip (DoesNotPass hand route) (take place all) before
  pub last : List Heard
  pub heard : answers ≡ joined_parts before ++ last
  pub passes : CandidatePasses hand route one given last

-- what was heard is a part for each candidate, in order, by which none passed, up to the one at this place, at which memory was
-- refused
pub record StopsTrying (hand : Hand) (route : Route) (all : List Candidate) (answers : List Heard) : Type 0 where
  pub place : ℕ
  pub within : place < length all
  pub one : Candidate
  pub there : one ≡ slice_index_or all place one
  pub before : List (List Heard)
  pub none : AllZip (DoesNotPass hand route) (take place all) before
  pub last : List Heard
  pub heard : answers ≡ joined_parts before ++ last
  pub left : IsLeft hand route one last

-- what a hand is known to have been asked since the call began, in order, and whether a call failed; where memory for a line was
-- refused behind a read of an open file, its questions aren't told from there on
pub record Hears (hand : Hand) (now : ShownTree) (answers : List Heard) (Fails : Type 0) : Type 0 where
  pub heard : ListsAnswers hand.start.heard answers now.heard
  pub hands : HandsOn hand.told hand.version hand.start now (0 < length answers) Fails

-- what came of a candidate of which this was heard: it passed; it didn't, and no call failed or one did; or memory was refused
-- before that was known
abbrev pub ComesOf : {F : Type 0} → (F → NameFacts) → Hand → Route → Candidate → List Heard → Tried F → Type 0
ComesOf opened hand route one part (tried.Passed given) = CandidatePasses hand route one (given_facts opened given) part
ComesOf opened hand route one part tried.Refused = DoesNotPass hand route one part × (list_any call_failed part ≡ false)
ComesOf opened hand route one part tried.Failed = DoesNotPass hand route one part × (list_any call_failed part ≡ true)
ComesOf opened hand route one part tried.OutOfMemory = IsLeft hand route one part

-- a candidate was tried
pub record TriesOne {F : Type 0} (opened : F → NameFacts) (hand : Hand) (route : Route) (one : Candidate) (came : Tried F)
    (now : ShownTree) : Type 0 where
  pub part : List Heard
  pub hears : Hears hand now part (came ≡ tried.Failed)
  pub comes : ComesOf opened hand route one part came

-- these candidates were tried, in order, and none passed
pub record HasTried (hand : Hand) (route : Route) (done : List Candidate) (failed : Bool) (now : ShownTree) : Type 0 where
  pub answers : List Heard
  pub none : NonePasses hand route done answers failed
  pub hears : Hears hand now answers (IsTrue failed)

-- the candidate at this place is the first that passed, and this is given
pub record HasCandidatePassed
    (hand : Hand) (route : Route) (all : List Candidate) (place : ℕ) (given : GivenFacts) (now : ShownTree) : Type 0 where
  pub answers : List Heard
  pub first : PassesAt hand route all answers place given
  pub hears : Hears hand now answers ⊥

-- memory was refused at one of these candidates, the ones before it were tried and none passed
pub record HasStopped (hand : Hand) (route : Route) (all : List Candidate) (now : ShownTree) : Type 0 where
  pub answers : List Heard
  pub stops : StopsTrying hand route all answers
  pub hears : Hears hand now answers ⊥

-- what came of all candidates
abbrev pub TriesAllCandidates : {F : Type 0} → (F → NameFacts) → Hand → Route → List Candidate → Outcome F → ShownTree → Type 0
TriesAllCandidates opened hand route all (outcome.Passed given place) now =
    HasCandidatePassed hand route all place (given_facts opened given) now
TriesAllCandidates opened hand route all (outcome.Nothing fails) now = HasTried hand route all fails now
TriesAllCandidates opened hand route all outcome.OutOfMemory now = HasStopped hand route all now
