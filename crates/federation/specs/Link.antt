-- Links (this project's rule): what one shows, and what a question changes.
use Rattle.std.specs.Prelude.{◌≡◌, ◌≢◌, ℕ, ◌⊎◌, List, [], ◌∷◌, Option}
use Rattle.row_types.specs.Faults.{HasCause, Rose}
use Rattle.http_wire.specs.Told.{Gains}
use Rattle.federation.specs.Heard.{LinkHeard, LinkSaid, failed, memory, said_by}
use Rattle.federation.specs.declared.link.LinkAnswer.{LinkAnswer}
use Rattle.webapi_routes.specs.declared.route.Route.{Route}

-- the questions so far with their answers, in order, where they are told; and the count of faults
pub record ShownLink : Type 0 where
  pub asked : Option (List LinkHeard)
  pub faults : ℕ

-- what a question adds: one for which memory was refused adds nothing
abbrev pub heard_by : Route → ℕ → LinkSaid → List LinkHeard
heard_by route hops memory = []
heard_by route hops said = record { route = route; hops = hops; said = said } ∷ []

-- a question was asked: it is told with its answer, and the count rose exactly where the link failed
pub record AsksOfLink (before : ShownLink) (route : Route) (hops : ℕ) (answer : LinkAnswer) (after : ShownLink) : Type 0 where
  pub hears : Gains before.asked (heard_by route hops (said_by answer)) after.asked
  pub cause : HasCause before.faults after.faults (said_by answer ≡ failed)
  pub stays : said_by answer ≢ failed → after.faults ≡ before.faults

-- the count of some of these links rose
abbrev pub SomeLinkRose : List ShownLink → List ShownLink → Type 0
SomeLinkRose [] news = ⊥
SomeLinkRose (o ∷ olds) [] = ⊥
SomeLinkRose (o ∷ olds) (n ∷ news) = Rose o.faults n.faults ⊎ SomeLinkRose olds news

-- the counts of these links are as they were
abbrev pub NoLinkRose : List ShownLink → List ShownLink → Type 0
NoLinkRose [] news = news ≡ []
NoLinkRose (o ∷ olds) [] = ⊥
NoLinkRose (o ∷ olds) (n ∷ news) = (n.faults ≡ o.faults) × NoLinkRose olds news
