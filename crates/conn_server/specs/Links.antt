-- What links are asked for a request (this project's rule): the questions of its route, in order, with the hops of its head; and
-- what follows of one request behind the other.
use Rattle.std.specs.Prelude.{◌≡◌, ◌≢◌, ℕ, ◌+◌, ◌-◌, ◌^◌, ◌<◌, ◌≤◌, ◌⊎◌, List, [], ◌∷◌, ◌++◌, length}
use Rattle.tree_trait.specs.Heard.{Heard}
use Rattle.webapi_routes.specs.declared.route.Route.{Route}
use Rattle.federation.specs.AskAll.{AsksInOrder, HearsEach, TellsUpstream}
use Rattle.federation.specs.Heard.{LinkHeard}
use Rattle.federation.specs.Link.{ShownLink}
use Rattle.federation.specs.Replies.{questions_of}
use Rattle.federation.specs.declared.asking.TheConstants.{HOP_LIMIT}
use Rattle.federation.specs.declared.asking.Upstream.{Upstream}
use Rattle.federation.specs.declared.asking.Upstream.TheVariants.{HopLimit}

-- what was asked for a request and answered: of the hand, to find the answer and while the reply was written, and of each link a
-- part; no part where no link was to be asked. Parts, and not one list of questions in the order of time: who is asked what, and in
-- which order, is said over them
pub record HeardFor : Type 0 where
  pub answers : List Heard
  pub sent : List Heard
  pub links : List (List LinkHeard)

-- nothing was asked
abbrev pub unheard : HeardFor
unheard = record { answers = []; sent = []; links = [] }

-- what the hand was asked in all
abbrev pub hand_heard : HeardFor → List Heard
hand_heard heard = heard.answers ++ heard.sent

-- so many links were asked for a route with these hops, each for its part, and this is told of their answers; below the limit
-- of hops each is asked until an answer passes
pub record AsksEachLink (links : ℕ) (route : Route) (hops : ℕ) (parts : List (List LinkHeard)) (told : Upstream) : Type 0 where
  pub each : length parts ≡ links
  pub order : AsksInOrder hops (questions_of route) parts
  pub tells : TellsUpstream route hops parts told
  pub limit : told ≢ HopLimit → (hops < HOP_LIMIT) ⊎ (links ≡ 0)

-- each link heard its part; or none was to be asked, and they show what they showed
abbrev pub LinksHear : List ShownLink → List (List LinkHeard) → List ShownLink → Type 0
LinksHear olds parts news = HearsEach olds parts news ⊎ ((parts ≡ []) × (news ≡ olds))

-- what each link heard for one request, and behind that for another
abbrev pub both_parts : List (List LinkHeard) → List (List LinkHeard) → List (List LinkHeard)
both_parts [] later = later
both_parts (part ∷ parts) [] = part ∷ parts
both_parts (part ∷ parts) (more ∷ later) = (part ++ more) ∷ both_parts parts later

-- what each link heard for all of these requests, in order
abbrev pub all_parts : List (List (List LinkHeard)) → List (List LinkHeard)
all_parts [] = []
all_parts (parts ∷ more) = both_parts parts (all_parts more)

-- the counts of faults of links, summed
abbrev pub faults_summed : List ShownLink → ℕ
faults_summed [] = 0
faults_summed (link ∷ links) = link.faults + faults_summed links

-- the count of some link stands at its last value
abbrev pub SomeIsFull : List ShownLink → Type 0
SomeIsFull [] = ⊥
SomeIsFull (link ∷ links) = (2 ^ 64 - 1 ≤ link.faults) ⊎ SomeIsFull links

-- the counts of the links, summed, rose by so many at least, unless one of them stands at its last value
abbrev pub LinksFailed : List ShownLink → ℕ → List ShownLink → Type 0
LinksFailed olds count news = SomeIsFull news ⊎ (faults_summed olds + count ≤ faults_summed news)
