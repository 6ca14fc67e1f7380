-- What asking one link, and the links from one on, leaves (this project's rule).
use Rattle.std.specs.Prelude.{◌≡◌, ◌≢◌, ℕ, ◌+◌, ◌≤◌, true, false, List, [], ◌∷◌, count_by}
use Rattle.row_types.specs.Faults.{Rose, summed}
use Rattle.http_wire.specs.Told.{Gains}
use Rattle.answer_check.specs.declared.passed.Passed.{Passed}
use Rattle.answer_check.specs.declared.passed.Passed.TheVariants as passed
use Rattle.federation.specs.AskAll.{AllAsked, AreFirstQuestions, AreQuestions, AsksInOrder, HearsEach, HearsPart, IsQuestion, all_heard, capped}
use Rattle.federation.specs.Heard.{LinkHeard, link_failed, link_refused}
use Rattle.federation.specs.Link.{ShownLink}
use Rattle.federation.specs.Replies.{FailsToPass, LastReplyPasses, NoReplyPasses, OnlyLastMayPass, ReplyGives, ReplyPasses, questions_of}
use Rattle.federation.specs.declared.asking.Upstream.{Upstream}
use Rattle.federation.specs.declared.asking.Upstream.TheVariants as upstream
use Rattle.federation.specs.declared.judging.QuestionEnd.{QuestionEnd}
use Rattle.federation.specs.declared.judging.QuestionEnd.TheVariants as ended
use Rattle.federation.specs.declared.link_row.RowEnd.{RowEnd}
use Rattle.federation.specs.declared.link_row.RowEnd.TheVariants as row
use Rattle.federation.specs.declared.one_link.LinkEnd.{LinkEnd}
use Rattle.federation.specs.declared.one_link.LinkEnd.TheVariants as link
use Rattle.webapi_routes.specs.declared.route.Route.{Route}

-- one question was heard, of which this is said
pub record HearsOne (before : ShownLink) (question : Route) (hops : ℕ) (after : ShownLink) (Is : LinkHeard → Type 0) : Type 0 where
  pub heard : LinkHeard
  pub is_question : IsQuestion hops question heard
  pub hears : Gains before.asked (heard ∷ []) after.asked
  pub says : Is heard

-- one question was heard, or none
pub record HearsAtMost (before : ShownLink) (question : Route) (hops : ℕ) (after : ShownLink) : Type 0 where
  pub heard : List LinkHeard
  pub are_first : AreFirstQuestions hops (question ∷ []) heard
  pub hears : Gains before.asked heard after.asked
  pub none_failed : count_by link_failed heard ≡ 0

-- what came of one question
abbrev pub JudgedOne : ShownLink → Route → Route → ℕ → ShownLink → QuestionEnd → Type 0
JudgedOne before route question hops after (ended.Passed given) =
    HearsOne before question hops after (λ h.
    ReplyPasses route h.route h.said × ReplyGives route h.route h.said given × (link_failed h ≡ false))
JudgedOne before route question hops after ended.Refused =
    HearsOne before question hops after (λ h. FailsToPass route h × (link_failed h ≡ false))
JudgedOne before route question hops after ended.Failed =
    HearsOne before question hops after (λ h. FailsToPass route h × (link_failed h ≡ true))
JudgedOne before route question hops after ended.OutOfMemory = HearsAtMost before question hops after

-- what came of one question; the link's count rose exactly where it failed
pub record JudgesOne (before : ShownLink) (route question : Route) (hops : ℕ) (after : ShownLink) (what : QuestionEnd) : Type 0 where
  pub judged : JudgedOne before route question hops after what
  pub later : before.faults ≤ after.faults
  pub rose : what ≡ ended.Failed → Rose before.faults after.faults
  pub stays : what ≢ ended.Failed → after.faults ≡ before.faults

-- the end of a link by its last question, behind so many refused and failed ones
abbrev pub link_end : QuestionEnd → ℕ → ℕ → LinkEnd
link_end (ended.Passed given) refused failed = link.Passed given
link_end ended.Refused refused failed = link.Nothing (refused + 1) failed
link_end ended.Failed refused failed = link.Nothing refused (failed + 1)
link_end ended.OutOfMemory refused failed = link.OutOfMemory

-- what the questions of a link gave
abbrev pub LinkTells : Route → ℕ → List LinkHeard → LinkEnd → Type 0
LinkTells route hops heard (link.Passed given) =
    AreFirstQuestions hops (questions_of route) heard × LastReplyPasses route heard given
LinkTells route hops heard (link.Nothing refused failed) =
    AreQuestions hops (questions_of route) heard × NoReplyPasses route heard
    × (refused ≡ count_by link_refused heard) × (failed ≡ count_by link_failed heard)
LinkTells route hops heard link.OutOfMemory =
    AreFirstQuestions hops (questions_of route) heard × OnlyLastMayPass route heard

-- one link was asked
pub record AsksOneLink (before : ShownLink) (route : Route) (hops : ℕ) (after : ShownLink) (told : LinkEnd) : Type 0 where
  pub heard : List LinkHeard
  pub part : HearsPart before heard after
  pub tells : LinkTells route hops heard told

-- what the links from one on gave
abbrev pub RowTells : Route → ℕ → List (List LinkHeard) → RowEnd → Type 0
RowTells route hops parts (row.Passed given) = LastReplyPasses route (all_heard parts) given
RowTells route hops parts (row.Nobody refused failed) =
    AllAsked hops (questions_of route) parts × NoReplyPasses route (all_heard parts)
    × (refused ≡ capped (count_by link_refused (all_heard parts)))
    × (failed ≡ capped (count_by link_failed (all_heard parts)))
RowTells route hops parts row.OutOfMemory = OnlyLastMayPass route (all_heard parts)

-- the links were asked in order
pub record AsksRow (olds : List ShownLink) (route : Route) (hops : ℕ) (news : List ShownLink) (told : RowEnd) : Type 0 where
  pub parts : List (List LinkHeard)
  pub hears : HearsEach olds parts news
  pub order : AsksInOrder hops (questions_of route) parts
  pub tells : RowTells route hops parts told

-- the same with the answers of a link before them
abbrev pub with_more : RowEnd → ℕ → ℕ → RowEnd
with_more (row.Nobody r f) refused failed = row.Nobody (summed refused r) (summed failed f)
with_more told refused failed = told

-- what is told of a given answer
abbrev pub upstream_given : Passed → Upstream
upstream_given (passed.File file) = upstream.File file
upstream_given (passed.Section section) = upstream.Section section
upstream_given (passed.Source bytes) = upstream.Source bytes

-- what is told of all links
abbrev pub upstream_of_row : RowEnd → Upstream
upstream_of_row (row.Passed given) = upstream_given given
upstream_of_row (row.Nobody refused failed) = upstream.Nobody refused failed
upstream_of_row row.OutOfMemory = upstream.OutOfMemory
