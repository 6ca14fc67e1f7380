-- Which answers pass (this project's rule): those of status 200 whose body passes for the route.
use Rattle.std.specs.Prelude.{◌≡◌, ◌≤◌, List, [], ◌∷◌, ◌++◌, length, Option, Some, None, All}
use Rattle.answer_check.specs.Passing.{GivesPassed, Passes}
use Rattle.answer_check.specs.declared.passed.Passed.{Passed}
use Rattle.federation.specs.Heard.{LinkHeard, LinkSaid, failed, memory, reply}
use Rattle.row_types.specs.declared.identity.Kind.{Kind}
use Rattle.row_types.specs.declared.identity.Kind.TheVariants as kind
use Rattle.webapi_routes.specs.declared.route.Route.{Route}
use Rattle.webapi_routes.specs.declared.route.Route.TheVariants.{Debuginfo, Executable, Metrics, Section, Source}

-- the files in which the answer to a route may be, in order: for a section the file with debug information, then the executable
abbrev pub files_of : Route → List Route
files_of (Debuginfo id) = Debuginfo id ∷ []
files_of (Executable id) = Executable id ∷ []
files_of (Section id name) = Debuginfo id ∷ Executable id ∷ []
files_of (Source id path) = []
files_of Metrics = []

-- what a link is asked for a route, in order: the files in which its answer may be, or else the route itself
abbrev pub questions_of : Route → List Route
questions_of (Source id path) = Source id path ∷ []
questions_of Metrics = Metrics ∷ []
questions_of route = files_of route

-- the class of the file that a question asks for, where it asks for one
abbrev pub class_asked : Route → Option Kind
class_asked (Debuginfo id) = Some kind.Debuginfo
class_asked (Executable id) = Some kind.Executable
class_asked (Section id name) = None
class_asked (Source id path) = None
class_asked Metrics = None

-- an answer to a question passes for a route: it has the status 200 and a body that passes
abbrev pub ReplyPasses : Route → Route → LinkSaid → Type 0
ReplyPasses route question (reply status body) = (status ≡ 200) × Passes route (class_asked question) body
ReplyPasses route question failed = ⊥
ReplyPasses route question memory = ⊥

-- what is given of an answer that passes
abbrev pub ReplyGives : Route → Route → LinkSaid → Passed → Type 0
ReplyGives route question (reply status body) given = GivesPassed route (class_asked question) body given
ReplyGives route question failed given = ⊥
ReplyGives route question memory given = ⊥

-- an answer that was heard doesn't pass
abbrev pub FailsToPass : Route → LinkHeard → Type 0
FailsToPass route h = ¬ ReplyPasses route h.route h.said

-- none of these answers passes
abbrev pub NoReplyPasses : Route → List LinkHeard → Type 0
NoReplyPasses route heard = All (FailsToPass route) heard

-- the last of these answers passes, and this is given of it; none before it passes
pub record LastReplyPasses (route : Route) (heard : List LinkHeard) (given : Passed) : Type 0 where
  pub before : List LinkHeard
  pub last : LinkHeard
  pub all : heard ≡ before ++ last ∷ []
  pub none : NoReplyPasses route before
  pub passes : ReplyPasses route last.route last.said
  pub gives : ReplyGives route last.route last.said given

-- none of these answers passes, but perhaps the last
pub record OnlyLastMayPass (route : Route) (heard : List LinkHeard) : Type 0 where
  pub before : List LinkHeard
  pub rest : List LinkHeard
  pub all : heard ≡ before ++ rest
  pub few : length rest ≤ 1
  pub none : NoReplyPasses route before
