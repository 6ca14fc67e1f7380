-- What is decided for a request before its reply is written (this project's rule).
use Rattle.std.specs.Prelude.{◌≡◌, ℕ, ◌==◌, Bool, true, false, List, length, Option, Result, Ok, Err, String, if◌then◌else◌}
use Rattle.std.specs.Global.{Global}
use Rattle.tree_trait.specs.Heard.{Heard}
use Rattle.webapi_routes.specs.declared.route.Route.{Route}
use Rattle.webapi_routes.specs.declared.route.Route.TheVariants.{Metrics}
use Rattle.answer_core.specs.Loads.{Hears}
use Rattle.answer_core.specs.Local.{LocalFacts, file_found, section_found, source_found, nothing_found, fault_found, no_memory_found}
use Rattle.answer_check.specs.declared.passed.Passed.TheVariants as passing
use Rattle.dbgd_metrics.specs.Totals.{OnlyNotes}
use Rattle.federation.specs.AskAll.{AsksLinks}
use Rattle.federation.specs.Heard.{LinkHeard}
use Rattle.federation.specs.Link.{ShownLink}
use Rattle.federation.specs.declared.asking.Upstream.{Upstream}
use Rattle.federation.specs.declared.asking.Upstream.TheVariants as upstream
use Rattle.conn_server.specs.Asked.{AsksForRoute, HeadFacts, Request, readable}
use Rattle.conn_server.specs.Bodies.{BodyFacts, DecidedFacts, own_line, found_here, found_upstream, page_text}
use Rattle.conn_server.specs.Cases.{IsCase}
use Rattle.conn_server.specs.Exchange.{LoadFailed}
use Rattle.conn_server.specs.Lawful.{AsksLinksFor}
use Rattle.conn_server.specs.Links.{LinksHear}
use Rattle.conn_server.specs.Stage.{ConnSetting, ConnStage, hand_at}
use Rattle.conn_server.specs.declared.reason.Reason.{Reason}
use Rattle.conn_server.specs.declared.reason.Reason.TheVariants as reason
use Rattle.conn_server.specs.declared.report.Asked as given
use Rattle.conn_server.specs.declared.report.Asked.TheVariants as asked

-- what is decided without the index
abbrev pub plain : given.Asked → Reason → DecidedFacts
plain what why = record { asked = what; reason = why; generation = 0; body = own_line }

-- what is decided for a route
abbrev pub for_route : Route → Reason → ℕ → BodyFacts → DecidedFacts
for_route route why n carried = record { asked = asked.Route route; reason = why; generation = n; body = carried }

-- what is decided where nothing passed: a load that failed comes before what is said of the links
abbrev pub for_unfound : Route → ℕ → Bool → Reason → DecidedFacts
for_unfound route n failed why = for_route route (if failed then reason.ReadFault else why) n own_line

-- what is decided by what is told of the links, where no candidate passed at a generation, and perhaps a load failed
abbrev pub by_links : Route → ℕ → Bool → Upstream → DecidedFacts
by_links route n failed (upstream.File file) = for_route route reason.Upstream n (found_upstream (passing.File file))
by_links route n failed (upstream.Section section) = for_route route reason.Upstream n (found_upstream (passing.Section section))
by_links route n failed (upstream.Source bytes) = for_route route reason.Upstream n (found_upstream (passing.Source bytes))
by_links route n failed (upstream.Nobody refused faults) =
    for_unfound route n failed (if faults == 0 then reason.NotFound else reason.UpstreamFault)
by_links route n failed upstream.HopLimit = for_unfound route n failed reason.HopLimit
by_links route n failed upstream.OutOfMemory = plain (asked.Route route) reason.OutOfMemory

-- the links are asked, and what is told of them decides
pub record FollowsLinks
    (olds : List ShownLink) (route : Route) (hops n : ℕ) (failed : Bool) (decided : DecidedFacts) (news : List ShownLink)
    : Type 0 where
  pub told : Upstream
  pub asks : AsksLinks olds route hops news told
  pub by : decided ≡ by_links route n failed told

-- no link is asked, and what passed here is sent
abbrev pub FollowsPassed : List ShownLink → Route → ℕ → LocalFacts → DecidedFacts → List ShownLink → Type 0
FollowsPassed olds route n passed decided news = (decided ≡ for_route route reason.Local n (found_here passed)) × (news ≡ olds)

-- the local answer decides, and where no candidate passed the links do
abbrev pub FollowsLocal : List ShownLink → Route → ℕ → LocalFacts → DecidedFacts → List ShownLink → Type 0
FollowsLocal olds route hops (file_found from name path n) decided news = FollowsPassed olds route n (file_found from name path n) decided news
FollowsLocal olds route hops (section_found from path n) decided news =
    FollowsPassed olds route n (section_found from path n) decided news
FollowsLocal olds route hops (source_found bytes path n) decided news =
    FollowsPassed olds route n (source_found bytes path n) decided news
FollowsLocal olds route hops (nothing_found n) decided news = FollowsLinks olds route hops n false decided news
FollowsLocal olds route hops (fault_found n) decided news = FollowsLinks olds route hops n true decided news
FollowsLocal olds route hops no_memory_found decided news =
    (decided ≡ plain (asked.Route route) reason.OutOfMemory) × (news ≡ olds)

-- what is decided by the page of the counters, where there is memory for it
abbrev pub by_page : {E : Type 0} → Result (String Global) E → DecidedFacts
by_page (Ok text) = for_route Metrics reason.Metrics 0 (page_text text)
by_page (Err fault) = for_route Metrics reason.OutOfMemory 0 own_line

-- what is decided for a request is a case of the table, by the objects as they stood and by what they were asked and answered
pub record Decides
    {T : Type 0} (setting : ConnSetting T) (before : ConnStage T) (request : Request) (decided : DecidedFacts) (after : ConnStage T)
    : Type 0 where
  pub answers : List Heard
  pub parts : List (List LinkHeard)
  pub told : Option Upstream
  pub hears : Hears (hand_at setting before) (setting.shows after.hand) answers (LoadFailed decided.reason answers)
  pub links : LinksHear before.links parts after.links
  pub asks : AsksLinksFor told (length before.links) request decided.asked parts
  pub notes : OnlyNotes before.share after.share
  pub is : IsCase setting before before.share after.share after.log request decided.asked decided.reason decided.generation decided.body
      answers told

-- the same of whichever head asks for this route with these hops
abbrev pub DecidesRoute : {T : Type 0} → ConnSetting T → ConnStage T → Route → ℕ → DecidedFacts → ConnStage T → Type 0
DecidesRoute setting before route hops decided after =
    (head : HeadFacts) → AsksForRoute head route → head.hops ≡ hops → Decides setting before (readable head) decided after
