-- The answer by the candidates, as the answer to the route; and the file that it hands on.
use Rattle.std.proofs.Common.{inr, ◌≡◌, ℕ, List, length, Option, Some, None, refl, sym, ◌∙◌, ap, subst, slice_index_or, Result, Ok, Err, IfOk}
use Rattle.file_picture.specs.Agrees.{AgreesWithPicture}
use Rattle.row_types.specs.Name.{NameFacts}
use Rattle.row_types.specs.Row.{RowFacts}
use Rattle.row_types.specs.Stamp.{StampFacts}
use Rattle.row_types.specs.declared.identity.Kind.{Kind}
use Rattle.index_rows.specs.declared.change.Change.{Change}
use Rattle.index_state.specs.Invariant.{AreRowsAt}
use Rattle.webapi_routes.specs.declared.route.Route.{Route}
use Rattle.webapi_routes.specs.declared.route.Route.TheVariants.{Debuginfo, Executable, Source, Section, Metrics}
use Rattle.tree_trait.specs.Found.{Versions}
use Rattle.tree_trait.specs.Heard.{Heard}
use Rattle.tree_trait.specs.Opened.{HoldsPicture}
use Rattle.tree_trait.specs.Shown.{ShownTree}
use Rattle.answer_check.specs.Checked.{CheckedFacts}
use Rattle.answer_core.specs.Candidates.{candidates}
use Rattle.answer_core.specs.Given.{GivesRead, file_given, given_facts}
use Rattle.answer_core.specs.Loads.{CandidatePasses, Hand, HasCandidatePassed}
use Rattle.answer_core.specs.Local.{AgreesWithFile, AnswersFrom, AnswersRoute, AreCandidatesAt, HandsFile, IsAnswerOf, IsGiven}
use Rattle.answer_core.specs.Local.{LocalFacts, local_facts}
use Rattle.answer_core.specs.Local.{file_found, section_found, source_found, nothing_found, fault_found, no_memory_found}
use Rattle.answer_core.specs.declared.candidate.Candidate.{Candidate}
use Rattle.answer_core.specs.declared.given.Given.{Given}
use Rattle.answer_core.specs.declared.given.Given.TheVariants as given
use Rattle.answer_core.specs.declared.local.Local.{Local}

-- the candidates by rows that stand at a log
pub candidates_at : {V E : Type 0} {true_row : RowFacts → Type 0} {log : List Change} {rows : List RowFacts}
    (folders : List (List ℕ)) (route : Route) (items : V → List Candidate) (list : Result V E)
    → AreRowsAt true_row log rows → IfOk list (λ v. items v ≡ candidates rows folders route)
    → IfOk list (λ v. AreCandidatesAt true_row log folders route (items v))
candidates_at {rows = rows} folders route items (Ok v) stood are = record { rows = rows; stood = stood; are = are }
candidates_at folders route items (Err fault) stood are = tt

-- what the first candidate that passed gives is the answer
pub from_first : {F : Type 0} (name_of : F → NameFacts) (hand : Hand) (route : Route) (all : List Candidate) (place : ℕ)
    (given : Given F) (path : List ℕ) (generation : ℕ) (answer : Local F) (now : ShownTree)
    → HasCandidatePassed hand route all place (given_facts name_of given) now
    → ((one : Candidate) → one ≡ slice_index_or all place one → path ≡ one.path)
    → IsGiven given path generation answer → AnswersFrom hand route all generation (local_facts name_of answer) now
from_first {F} name_of hand route all place (given.File from file) path generation answer now h named is =
    subst (λ (a : Local F). AnswersFrom hand route all generation (local_facts name_of a) now) (sym is) (record {
      answers = h.answers;
      hears = h.hears;
      is = record { place = place; first = h.first; told = named h.first.one h.first.there };
      at = refl;
    })
from_first {F} name_of hand route all place (given.Section from) path generation answer now h named is =
    subst (λ (a : Local F). AnswersFrom hand route all generation (local_facts name_of a) now) (sym is) (record {
      answers = h.answers;
      hears = h.hears;
      is = record { place = place; first = h.first; told = named h.first.one h.first.there };
      at = refl;
    })
from_first {F} name_of hand route all place (given.Source bytes) path generation answer now h named is =
    subst (λ (a : Local F). AnswersFrom hand route all generation (local_facts name_of a) now) (sym is) (record {
      answers = h.answers;
      hears = h.hears;
      is = record { place = place; first = h.first; told = named h.first.one h.first.there };
      at = refl;
    })

-- the answer by the candidates of a route at a log is the answer to the route
pub to_route : {true_row : RowFacts → Type 0} {log : List Change} {folders : List (List ℕ)} {hand : Hand} {route : Route}
    {now : ShownTree} (all : List Candidate) (generation : ℕ) (answer : LocalFacts) → AreCandidatesAt true_row log folders route all
    → generation ≡ length log → AnswersFrom hand route all generation answer now
    → AnswersRoute true_row log folders hand route answer now
to_route all generation (file_found from name path n) stood at a =
    record { answers = a.answers; hears = a.hears; says = (record { all = all; stood = stood; are = a.is }, a.at ∙ at) }
to_route all generation (section_found from path n) stood at a =
    record { answers = a.answers; hears = a.hears; says = (record { all = all; stood = stood; are = a.is }, a.at ∙ at) }
to_route all generation (source_found bytes path n) stood at a =
    record { answers = a.answers; hears = a.hears; says = (record { all = all; stood = stood; are = a.is }, a.at ∙ at) }
to_route all generation (nothing_found n) stood at a =
    record { answers = a.answers; hears = a.hears; says = (record { all = all; stood = stood; are = a.is }, a.at ∙ at) }
to_route all generation (fault_found n) stood at a =
    record { answers = a.answers; hears = a.hears; says = (record { all = all; stood = stood; are = a.is }, a.at ∙ at) }
to_route all generation no_memory_found stood at a =
    record { answers = a.answers; hears = a.hears; says = inr (record { all = all; stood = stood; are = a.is }) }

-- no file is given of a section
pub no_file : (version : Versions) (id section : List ℕ) (class : Option Kind) (name opened : NameFacts) (reads : List Heard)
    (from : CheckedFacts) → GivesRead version (Section id section) class name reads (file_given from opened) → ⊥
no_file version id section None name opened reads from g = g
no_file version id section (Some class) name opened reads from g = g

-- a file that a candidate gives was opened at the candidate's path
file_of : (hand : Hand) (route : Route) (one : Candidate) (from : CheckedFacts) (name : NameFacts) (part : List Heard)
    → CandidatePasses hand route one (file_given from name) part
    → (name.path ≡ one.path) × HoldsPicture hand.version name.path name.stamp from.picture
file_of hand (Debuginfo id) one from name part p = (
  ap (λ (n : NameFacts). n.path) p.gives.0,
  subst (λ (n : NameFacts). HoldsPicture hand.version n.path n.stamp from.picture) (sym p.gives.0) p.gives.1.holds,
)
file_of hand (Executable id) one from name part p = (
  ap (λ (n : NameFacts). n.path) p.gives.0,
  subst (λ (n : NameFacts). HoldsPicture hand.version n.path n.stamp from.picture) (sym p.gives.0) p.gives.1.holds,
)
file_of hand (Section id section) one from name part p =
    absurd (no_file hand.version id section one.class _ name p.reads from p.gives)
file_of hand (Source id path) one from name part p = let never = p.gives in absurd (cc)
file_of hand Metrics one from name part p = absurd (p.passes.is p.passes.bytes p.passes.has)

-- a file that is handed on
pub hands_file : (hand : Hand) (route : Route) (answers : List Heard) (answer : LocalFacts) (all : List Candidate)
    → IsAnswerOf hand route answers answer all → HandsFile hand.version answer
hands_file hand route answers (file_found from name path n) all h =
    let file = file_of hand route h.first.one from name h.first.last h.first.passes in (file.0 ∙ sym h.told, file.1)
hands_file hand route answers (section_found from path n) all h = tt
hands_file hand route answers (source_found bytes path n) all h = tt
hands_file hand route answers (nothing_found n) all h = tt
hands_file hand route answers (fault_found n) all h = tt
hands_file hand route answers no_memory_found all h = tt

-- and the file that the first candidate that passed gives
pub first_hands : {F : Type 0} (name_of : F → NameFacts) (hand : Hand) (route : Route) (all : List Candidate) (place : ℕ)
    (given : Given F) (path : List ℕ) (generation : ℕ) (answer : Local F) (now : ShownTree)
    → HasCandidatePassed hand route all place (given_facts name_of given) now
    → ((one : Candidate) → one ≡ slice_index_or all place one → path ≡ one.path)
    → IsGiven given path generation answer → HandsFile hand.version (local_facts name_of answer)
first_hands name_of hand route all place given path generation answer now h named is =
    let a = from_first name_of hand route all place given path generation answer now h named is in
    hands_file hand route a.answers (local_facts name_of answer) all a.is

-- in a told world a path and a stamp have one version, which agrees with the picture
pub agrees_with_file : (version : Versions)
    → ((path : List ℕ) (stamp : StampFacts) (a b : List ℕ) → version path stamp a → version path stamp b → a ≡ b)
    → (answer : LocalFacts) → HandsFile version answer → AgreesWithFile version answer
agrees_with_file version one (file_found from name path n) h = λ b known.
    subst (λ (x : List ℕ). AgreesWithPicture x from.picture)
    (one name.path name.stamp h.1.seen.bytes b h.1.seen.known known) h.1.seen.agrees
agrees_with_file version one (section_found from path n) h = tt
agrees_with_file version one (source_found bytes path n) h = tt
agrees_with_file version one (nothing_found n) h = tt
agrees_with_file version one (fault_found n) h = tt
agrees_with_file version one no_memory_found h = tt
