-- The link in memory (this project's rule): it gives its answers in order, and then fails.
use Rattle.std.specs.Prelude.{◌≡◌, ℕ, ◌⊎◌, List, [], ◌∷◌, ◌++◌, Some}
use Rattle.row_types.specs.Faults.{raised}
use Rattle.federation.specs.Heard.{LinkHeard, LinkSaid, failed, memory, reply}
use Rattle.federation.specs.Link.{ShownLink, heard_by}
use Rattle.webapi_routes.specs.declared.route.Route.{Route}

-- the answers to come, the questions so far with their answers, and the count of faults
pub record MemLinkFacts : Type 0 where
  pub script : List LinkSaid
  pub asked : List LinkHeard
  pub faults : ℕ

-- what it shows
abbrev pub shown_mem_link : MemLinkFacts → ShownLink
shown_mem_link l = record { asked = Some l.asked; faults = l.faults }

-- a question with its answer
abbrev pub heard_one : Route → ℕ → LinkSaid → LinkHeard
heard_one route hops said = record { route = route; hops = hops; said = said }

-- what the next answer says, where these are to come
abbrev pub next_said : List LinkSaid → LinkSaid
next_said [] = failed
next_said (first ∷ later) = first

-- the answers that come behind the next
abbrev pub later_said : List LinkSaid → List LinkSaid
later_said [] = []
later_said (first ∷ later) = later

-- the count after an answer that says this
abbrev pub count_said : LinkSaid → ℕ → ℕ
count_said failed faults = raised faults
count_said (reply status body) faults = faults
count_said memory faults = faults

-- the next answer was given, and no question noted. What a link is to answer is said of this form alone: no clause above rests on
-- it
pub record GivesScripted (old : MemLinkFacts) (said : LinkSaid) (new : MemLinkFacts) (script : List LinkSaid) : Type 0 where
  pub gives : said ≡ next_said script
  pub after : new ≡ record old { script = later_said script; faults = count_said (next_said script) old.faults }

-- the link after the next answer
abbrev pub after_answer : MemLinkFacts → Route → ℕ → MemLinkFacts
after_answer old route hops = record {
  script = later_said old.script;
  asked = old.asked ++ heard_by route hops (next_said old.script);
  faults = count_said (next_said old.script) old.faults;
}

-- a question got the next answer, or memory was refused and nothing changed
abbrev pub AnswersScript : MemLinkFacts → Route → ℕ → LinkSaid → MemLinkFacts → Type 0
AnswersScript old route hops said new =
    ((said ≡ next_said old.script) × (new ≡ after_answer old route hops)) ⊎ ((said ≡ memory) × (new ≡ old))
