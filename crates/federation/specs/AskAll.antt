-- The first passing upstream answer (this project's rule): who is asked what, in order, and what is told of the answers.
use Rattle.std.specs.Prelude.{◌≡◌, ◌≢◌, ℕ, ◌-◌, ◌^◌, ◌<◌, ◌≤◌, ◌⊎◌, min, List, [], ◌∷◌, ◌++◌, All, count_by}
use Rattle.row_types.specs.Faults.{summed}
use Rattle.http_wire.specs.Told.{Gains}
use Rattle.answer_check.specs.declared.passed.Passed.TheVariants as passed
use Rattle.federation.specs.Heard.{LinkHeard, link_failed, link_refused}
use Rattle.federation.specs.Link.{ShownLink}
use Rattle.federation.specs.Replies.{LastReplyPasses, NoReplyPasses, OnlyLastMayPass, questions_of}
use Rattle.federation.specs.declared.asking.TheConstants.{HOP_LIMIT}
use Rattle.federation.specs.declared.asking.Upstream.{Upstream}
use Rattle.federation.specs.declared.asking.Upstream.TheVariants.{File, HopLimit, Nobody, OutOfMemory, Section, Source}
use Rattle.webapi_routes.specs.declared.route.Route.{Route}

-- all that was heard, of one link after the other
abbrev pub all_heard : List (List LinkHeard) → List LinkHeard
all_heard [] = []
all_heard (part ∷ parts) = part ++ all_heard parts

-- the question, with the hops given
pub record IsQuestion (hops : ℕ) (question : Route) (h : LinkHeard) : Type 0 where
  pub route : h.route ≡ question
  pub with_hops : h.hops ≡ hops

-- these questions, in order
abbrev pub AreQuestions : ℕ → List Route → List LinkHeard → Type 0
AreQuestions hops [] heard = heard ≡ []
AreQuestions hops (q ∷ qs) [] = ⊥
AreQuestions hops (q ∷ qs) (h ∷ heard) = IsQuestion hops q h × AreQuestions hops qs heard

-- the first of these questions, in order, or all of them
abbrev pub AreFirstQuestions : ℕ → List Route → List LinkHeard → Type 0
AreFirstQuestions hops qs [] = Unit {0}
AreFirstQuestions hops [] (h ∷ heard) = ⊥
AreFirstQuestions hops (q ∷ qs) (h ∷ heard) = IsQuestion hops q h × AreFirstQuestions hops qs heard

-- a link heard these, and its count of faults rose by each that failed, and stays where none did
pub record HearsPart (before : ShownLink) (part : List LinkHeard) (after : ShownLink) : Type 0 where
  pub hears : Gains before.asked part after.asked
  pub later : before.faults ≤ after.faults
  pub rose : summed before.faults (count_by link_failed part) ≤ after.faults
  pub stays : count_by link_failed part ≡ 0 → after.faults ≡ before.faults

-- each link heard its part
abbrev pub HearsEach : List ShownLink → List (List LinkHeard) → List ShownLink → Type 0
HearsEach [] parts news = (parts ≡ []) × (news ≡ [])
HearsEach (o ∷ olds) [] news = ⊥
HearsEach (o ∷ olds) (p ∷ parts) [] = ⊥
HearsEach (o ∷ olds) (p ∷ parts) (n ∷ news) = HearsPart o p n × HearsEach olds parts news

-- each link is asked all questions before the next is asked, and from some question on nothing more is asked
abbrev pub AsksInOrder : ℕ → List Route → List (List LinkHeard) → Type 0
AsksInOrder hops qs [] = Unit {0}
AsksInOrder hops qs (p ∷ parts) =
    (AreQuestions hops qs p × AsksInOrder hops qs parts)
    ⊎ (AreFirstQuestions hops qs p × All (λ part. part ≡ []) parts)

-- each link was asked all questions
abbrev pub AllAsked : ℕ → List Route → List (List LinkHeard) → Type 0
AllAsked hops qs parts = All (AreQuestions hops qs) parts

-- a number of answers, up to the largest `u64`
abbrev pub capped : ℕ → ℕ
capped n = min n (2 ^ 64 - 1)

-- what is told of the answers: the first that passes is the last that was heard; or each link was asked and none passes, with the
-- numbers of those that failed and of the others; or the hops are too many and no link was asked; where memory was refused none
-- passes but perhaps the last that was heard, of whose answer the section may have wanted it
abbrev pub TellsUpstream : Route → ℕ → List (List LinkHeard) → Upstream → Type 0
TellsUpstream route hops parts (File file) = LastReplyPasses route (all_heard parts) (passed.File file)
TellsUpstream route hops parts (Section section) = LastReplyPasses route (all_heard parts) (passed.Section section)
TellsUpstream route hops parts (Source bytes) = LastReplyPasses route (all_heard parts) (passed.Source bytes)
TellsUpstream route hops parts (Nobody refused failed) =
    AllAsked hops (questions_of route) parts × NoReplyPasses route (all_heard parts)
    × (refused ≡ capped (count_by link_refused (all_heard parts)))
    × (failed ≡ capped (count_by link_failed (all_heard parts)))
TellsUpstream route hops parts HopLimit = (HOP_LIMIT ≤ hops) × (parts ≢ []) × All (λ part. part ≡ []) parts
TellsUpstream route hops parts OutOfMemory = OnlyLastMayPass route (all_heard parts)

-- the links were asked in order, and this is told
pub record AsksLinks (olds : List ShownLink) (route : Route) (hops : ℕ) (news : List ShownLink) (told : Upstream) : Type 0 where
  pub parts : List (List LinkHeard)
  pub hears : HearsEach olds parts news
  pub order : AsksInOrder hops (questions_of route) parts
  pub tells : TellsUpstream route hops parts told
  pub limit : told ≢ HopLimit → (hops < HOP_LIMIT) ⊎ (olds ≡ [])
