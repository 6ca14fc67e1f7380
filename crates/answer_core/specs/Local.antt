-- The local answer (this project's rule): by the rows of the index at one moment, and by what was heard of the files of its
-- candidates.
use Rattle.std.specs.Prelude.{◌≡◌, ◌⊎◌, ℕ, false, true, List, [], length, IfOk}
use Rattle.file_picture.specs.Agrees.{AgreesWithPicture}
use Rattle.row_types.specs.Name.{NameFacts}
use Rattle.row_types.specs.Row.{RowFacts}
use Rattle.index_rows.specs.declared.change.Change.{Change}
use Rattle.index_state.specs.Invariant.{AreRowsAt}
use Rattle.tree_trait.specs.Found.{Versions}
use Rattle.tree_trait.specs.Heard.{Heard}
use Rattle.tree_trait.specs.Opened.{HoldsPicture}
use Rattle.tree_trait.specs.Shown.{ShownTree}
use Rattle.webapi_routes.specs.declared.route.Route.{Route}
use Rattle.answer_check.specs.Checked.{CheckedFacts}
use Rattle.answer_check.specs.CheckedSection.{CheckedSectionFacts}
use Rattle.answer_core.specs.Candidates.{candidates}
use Rattle.answer_core.specs.Given.{GivenFacts, file_given, section_given, source_given}
use Rattle.answer_core.specs.Loads.{Hand, Hears, NonePasses, PassesAt, StopsTrying}
use Rattle.answer_core.specs.declared.candidate.Candidate.{Candidate}
use Rattle.answer_core.specs.declared.given.Given.{Given}
use Rattle.answer_core.specs.declared.given.Given.TheVariants as given
use Rattle.answer_core.specs.declared.local.Local.{Local}
use Rattle.answer_core.specs.declared.local.Local.TheVariants as local
use Rattle.answer_core.specs.declared.look_up.Picked.{Picked}

-- the candidates of a route by the rows of an index that has this log
pub record AreCandidatesAt
    (true_row : RowFacts → Type 0) (log : List Change) (folders : List (List ℕ)) (route : Route) (all : List Candidate)
    : Type 0 where
  pub rows : List RowFacts
  pub stood : AreRowsAt true_row log rows
  pub are : all ≡ candidates rows folders route

-- what is picked from an index that has this log: the log's length, and the candidates by its rows, where there is memory
pub record Picks
    (true_row : RowFacts → Type 0) (log : List Change) (folders : List (List ℕ)) (route : Route) (picked : Picked) : Type 0 where
  pub at : picked.generation ≡ length log
  pub list : IfOk picked.list (λ list. AreCandidatesAt true_row log folders route list.items)

-- what an answer rests on: the true rows of the world, the log at the hold, the folders of sources, what is known of the
-- hand, and what it was asked and answered
pub record Sight : Type 1 where
  pub true_row : RowFacts → Type 0
  pub log : List Change
  pub folders : List (List ℕ)
  pub hand : Hand
  pub answers : List Heard

-- the candidates of the route at the log are such
pub record OfCandidates (sight : Sight) (route : Route) (Are : List Candidate → Type 0) : Type 0 where
  pub all : List Candidate
  pub stood : AreCandidatesAt sight.true_row sight.log sight.folders route all
  pub are : Are all

-- an answer as plain data: an open file is seen as the path and the stamp with which it was opened
pub data LocalFacts : Type 0 where
  file_found : (from : CheckedFacts) (name : NameFacts) (path : List ℕ) (generation : ℕ) → LocalFacts
  section_found : (from : CheckedSectionFacts) (path : List ℕ) (generation : ℕ) → LocalFacts
  source_found : (bytes : List ℕ) (path : List ℕ) (generation : ℕ) → LocalFacts
  nothing_found : (generation : ℕ) → LocalFacts
  fault_found : (generation : ℕ) → LocalFacts
  no_memory_found : LocalFacts

-- what an answer says, by the path and the stamp with which files were opened
abbrev pub local_facts : {F : Type 0} → (F → NameFacts) → Local F → LocalFacts
local_facts opened (local.File from file path generation) = file_found from (opened file) path generation
local_facts opened (local.Section from path generation) = section_found from path generation
local_facts opened (local.Source bytes path generation) = source_found bytes.items path generation
local_facts opened (local.Nothing generation) = nothing_found generation
local_facts opened (local.Fault generation) = fault_found generation
local_facts opened local.OutOfMemory = no_memory_found

-- the first candidate that passed has this path, and this is given of it
pub record PassesFirst
    (hand : Hand) (route : Route) (answers : List Heard) (given : GivenFacts) (path : List ℕ) (all : List Candidate) : Type 0 where
  pub place : ℕ
  pub first : PassesAt hand route all answers place given
  pub told : path ≡ first.one.path

-- the answer by what was heard of these candidates
abbrev pub IsAnswerOf : Hand → Route → List Heard → LocalFacts → List Candidate → Type 0
IsAnswerOf hand route answers (file_found from name path generation) all =
    PassesFirst hand route answers (file_given from name) path all
IsAnswerOf hand route answers (section_found from path generation) all = PassesFirst hand route answers (section_given from) path all
IsAnswerOf hand route answers (source_found bytes path generation) all = PassesFirst hand route answers (source_given bytes) path all
IsAnswerOf hand route answers (nothing_found generation) all = NonePasses hand route all answers false
IsAnswerOf hand route answers (fault_found generation) all = NonePasses hand route all answers true
IsAnswerOf hand route answers no_memory_found all = StopsTrying hand route all answers

-- the answer has this generation; want of memory has none
abbrev pub HasGeneration : LocalFacts → ℕ → Type 0
HasGeneration (file_found from name path generation) n = generation ≡ n
HasGeneration (section_found from path generation) n = generation ≡ n
HasGeneration (source_found bytes path generation) n = generation ≡ n
HasGeneration (nothing_found generation) n = generation ≡ n
HasGeneration (fault_found generation) n = generation ≡ n
HasGeneration no_memory_found n = Unit {0}

-- the local answer to a route, by what it rests on; where memory was refused before the first candidate, nothing was heard
abbrev pub IsLocal : Sight → Route → LocalFacts → Type 0
IsLocal sight route no_memory_found =
    (sight.answers ≡ []) ⊎ OfCandidates sight route (IsAnswerOf sight.hand route sight.answers no_memory_found)
IsLocal sight route answer =
    OfCandidates sight route (IsAnswerOf sight.hand route sight.answers answer) × HasGeneration answer (length sight.log)

-- the answer is a fault
abbrev pub IsFault : LocalFacts → Type 0
IsFault (fault_found generation) = Unit {0}
IsFault _ = ⊥

-- a file that is handed on was opened at the path that is told; its picture has as many bytes as its stamp says, and is one of a
-- version of the path and the stamp
abbrev pub HandsFile : Versions → LocalFacts → Type 0
HandsFile version (file_found from name path generation) =
    (name.path ≡ path) × HoldsPicture version name.path name.stamp from.picture
HandsFile version _ = Unit {0}

-- each version of that path and that stamp agrees with the picture
abbrev pub AgreesWithFile : Versions → LocalFacts → Type 0
AgreesWithFile version (file_found from name path generation) =
    (b : List ℕ) → version name.path name.stamp b → AgreesWithPicture b from.picture
AgreesWithFile version _ = Unit {0}

-- the answer by what was heard of these candidates, of which the hand was asked since the call began
pub record AnswersFrom
    (hand : Hand) (route : Route) (all : List Candidate) (generation : ℕ) (answer : LocalFacts) (now : ShownTree) : Type 0 where
  pub answers : List Heard
  pub hears : Hears hand now answers (IsFault answer)
  pub is : IsAnswerOf hand route answers answer all
  pub at : HasGeneration answer generation

-- the local answer to a route, for which the hand was asked since the call began
pub record AnswersRoute
    (true_row : RowFacts → Type 0) (log : List Change) (folders : List (List ℕ)) (hand : Hand) (route : Route)
    (answer : LocalFacts) (now : ShownTree) : Type 0 where
  pub answers : List Heard
  pub hears : Hears hand now answers (IsFault answer)
  pub says : IsLocal (record { true_row = true_row; log = log; folders = folders; hand = hand; answers = answers }) route answer

-- the answer that gives this
abbrev pub IsGiven : {F : Type 0} → Given F → List ℕ → ℕ → Local F → Type 0
IsGiven (given.File from file) path generation answer = answer ≡ local.File from file path generation
IsGiven (given.Section from) path generation answer = answer ≡ local.Section from path generation
IsGiven (given.Source bytes) path generation answer = answer ≡ local.Source bytes path generation
