-- What came of the check of an answer's body (this project's rule).
use Rattle.std.specs.Prelude.{ℕ, List, Option}
use Rattle.answer_check.specs.Passing.{GivesPassed, Passes}
use Rattle.federation.specs.declared.judging.QuestionEnd.{QuestionEnd}
use Rattle.federation.specs.declared.judging.QuestionEnd.TheVariants.{Failed, OutOfMemory, Passed, Refused}
use Rattle.row_types.specs.declared.identity.Kind.{Kind}
use Rattle.webapi_routes.specs.declared.route.Route.{Route}

-- by the body of an answer of status 200
abbrev pub JudgesBody : Route → Option Kind → List ℕ → QuestionEnd → Type 0
JudgesBody route class body (Passed given) = Passes route class body × GivesPassed route class body given
JudgesBody route class body Refused = ¬ Passes route class body
JudgesBody route class body Failed = ⊥
JudgesBody route class body OutOfMemory = Unit {0}
