-- The table of lawful replies (this project's rule): for what is asked, why it may be answered so. A constructor is a line, in
-- the order in which they are looked for; a further case is one line more. `507` may stand for each reply from the route on.
use Rattle.std.specs.Prelude.{◌≡◌, ℕ, ◌<◌, true, false, List, [], Option, Some, None, Err, String, string_bytes}
use Rattle.std.specs.Global.{Global}
use Rattle.index_rows.specs.declared.change.Change.{Change}
use Rattle.tree_trait.specs.Heard.{Heard}
use Rattle.http_wire.specs.declared.head.HeadFault.TheVariants as head_fault
use Rattle.webapi_routes.specs.Targets.{IsSaidBy}
use Rattle.webapi_routes.specs.declared.fault.RouteFault.{RouteFault}
use Rattle.webapi_routes.specs.declared.route.Route.{Route}
use Rattle.webapi_routes.specs.declared.route.Route.TheVariants as route
use Rattle.answer_check.specs.declared.passed.Passed.{Passed}
use Rattle.answer_core.specs.Local.{IsLocal, LocalFacts, file_found, section_found, source_found, nothing_found, fault_found, no_memory_found}
use Rattle.dbgd_metrics.specs.Shares.{ShareFacts}
use Rattle.dbgd_metrics.specs.Totals.{IsPage}
use Rattle.federation.specs.Rows.{upstream_given}
use Rattle.federation.specs.declared.asking.Upstream.{Upstream}
use Rattle.federation.specs.declared.asking.Upstream.TheVariants as links
use Rattle.conn_server.specs.Asked.{AsksForRoute, HeadFacts, IsLookedUp, IsTaken, Request, is_served, readable, refused}
use Rattle.conn_server.specs.Bodies.{BodyFacts, DecidedFacts, own_line, found_here, found_upstream, page_text}
use Rattle.conn_server.specs.Pages.{IsPageReply}
use Rattle.conn_server.specs.Replies.{reason_of_route}
use Rattle.conn_server.specs.Stage.{ConnSetting, ConnStage, page_at, sight_at}
use Rattle.conn_server.specs.declared.reason.Reason.{Reason}
use Rattle.conn_server.specs.declared.reason.Reason.TheVariants as reason
use Rattle.conn_server.specs.declared.report.Asked as declared
use Rattle.conn_server.specs.declared.report.Asked.TheVariants as asked

-- a candidate passed
abbrev pub IsPassed : LocalFacts → Type 0
IsPassed (file_found from name path generation) = Unit {0}
IsPassed (section_found from path generation) = Unit {0}
IsPassed (source_found bytes path generation) = Unit {0}
IsPassed _ = ⊥

-- no candidate passed
abbrev pub IsUnfound : LocalFacts → Type 0
IsUnfound (nothing_found generation) = Unit {0}
IsUnfound (fault_found generation) = Unit {0}
IsUnfound _ = ⊥

-- no answer of a link passed
abbrev pub NothingPassed : Upstream → Type 0
NothingPassed (links.Nobody others failed) = Unit {0}
NothingPassed links.HopLimit = Unit {0}
NothingPassed _ = ⊥

-- the generation of an answer
abbrev pub generation_of : LocalFacts → ℕ
generation_of (file_found from name path generation) = generation
generation_of (section_found from path generation) = generation
generation_of (source_found bytes path generation) = generation
generation_of (nothing_found generation) = generation
generation_of (fault_found generation) = generation
generation_of no_memory_found = 0

-- the routes that a file answers; what the loads gave is the reply to these alone, so that no other route can be answered with 'not
-- found' by them
abbrev pub IsFileRoute : Route → Type 0
IsFileRoute (route.Debuginfo id) = Unit {0}
IsFileRoute (route.Executable id) = Unit {0}
IsFileRoute (route.Section id name) = Unit {0}
IsFileRoute (route.Source id path) = Unit {0}
IsFileRoute route.Metrics = ⊥

-- what is asked, the reason of the reply, its generation, what it carries, what the hand was asked and answered for it, and what
-- was told of the links, if they were to be asked; the page of the counters is by the own share as it was then, and by the loads
-- that it has noted behind it
pub data IsCase {T : Type 0} (setting : ConnSetting T) (at : ConnStage T) (own noted : ShareFacts) (log : List Change) (request : Request)
    : declared.Asked → Reason → ℕ → BodyFacts → List Heard → Option Upstream → Type 0 where
  bad_head : (len : ℕ) → request ≡ refused (head_fault.Bad len)
      → IsCase setting at own noted log request (asked.Head (head_fault.Bad len)) reason.BadHead 0 own_line [] None
  too_long : request ≡ refused head_fault.TooLong
      → IsCase setting at own noted log request (asked.Head head_fault.TooLong) reason.TooLarge 0 own_line [] None
  too_many : request ≡ refused head_fault.TooMany
      → IsCase setting at own noted log request (asked.Head head_fault.TooMany) reason.TooLarge 0 own_line [] None
  method : (head : HeadFacts) → request ≡ readable head → is_served head.method ≡ false
      → IsCase setting at own noted log request asked.Method reason.Method 0 own_line [] None
  has_body : (head : HeadFacts) → request ≡ readable head → is_served head.method ≡ true → head.body ≡ true
      → IsCase setting at own noted log request asked.Body reason.Body 0 own_line [] None
  page : (head : HeadFacts) (decided : DecidedFacts) → request ≡ readable head → IsTaken head
      → IsPageReply (page_at setting at log) head.target decided
      → IsCase setting at own noted log request decided.asked decided.reason decided.generation decided.body [] None
  no_route : (head : HeadFacts) (fault : RouteFault) → request ≡ readable head → IsLookedUp head
      → IsSaidBy head.target (Err fault)
      → IsCase setting at own noted log request (asked.NotRoute fault) (reason_of_route fault) 0 own_line [] None
  metrics : (head : HeadFacts) (text : String Global) → request ≡ readable head → AsksForRoute head route.Metrics
      → IsPage setting.rows own noted (string_bytes text)
      → IsCase setting at own noted log request (asked.Route route.Metrics) reason.Metrics 0 (page_text text) [] None
  no_page : (head : HeadFacts) → request ≡ readable head → AsksForRoute head route.Metrics
      → IsCase setting at own noted log request (asked.Route route.Metrics) reason.OutOfMemory 0 own_line [] None
  passed : (head : HeadFacts) (route : Route) (answer : LocalFacts) (answers : List Heard) → request ≡ readable head
      → AsksForRoute head route → IsFileRoute route → IsLocal (sight_at setting at log answers) route answer → IsPassed answer
      → IsCase setting at own noted log request (asked.Route route) reason.Local (generation_of answer) (found_here answer) answers None
  upstream : (head : HeadFacts) (route : Route) (answer : LocalFacts) (answers : List Heard) (given : Passed) → request ≡ readable head
      → AsksForRoute head route → IsFileRoute route → IsLocal (sight_at setting at log answers) route answer → IsUnfound answer
      → IsCase setting at own noted log request (asked.Route route) reason.Upstream (generation_of answer) (found_upstream given) answers
      (Some (upstream_given given))
  read_fault : (head : HeadFacts) (route : Route) (n : ℕ) (answers : List Heard) (told : Upstream) → request ≡ readable head
      → AsksForRoute head route → IsFileRoute route → IsLocal (sight_at setting at log answers) route (fault_found n)
      → NothingPassed told
      → IsCase setting at own noted log request (asked.Route route) reason.ReadFault n own_line answers (Some told)
  hop_limit : (head : HeadFacts) (route : Route) (n : ℕ) (answers : List Heard) → request ≡ readable head
      → AsksForRoute head route → IsFileRoute route → IsLocal (sight_at setting at log answers) route (nothing_found n)
      → IsCase setting at own noted log request (asked.Route route) reason.HopLimit n own_line answers (Some links.HopLimit)
  upstream_fault : (head : HeadFacts) (route : Route) (n : ℕ) (answers : List Heard) (others failed : ℕ) → request ≡ readable head
      → AsksForRoute head route → IsFileRoute route → IsLocal (sight_at setting at log answers) route (nothing_found n) → 0 < failed
      → IsCase setting at own noted log request (asked.Route route) reason.UpstreamFault n own_line answers
      (Some (links.Nobody others failed))
  not_found : (head : HeadFacts) (route : Route) (n : ℕ) (answers : List Heard) (others : ℕ) → request ≡ readable head
      → AsksForRoute head route → IsFileRoute route → IsLocal (sight_at setting at log answers) route (nothing_found n)
      → IsCase setting at own noted log request (asked.Route route) reason.NotFound n own_line answers
      (Some (links.Nobody others 0))
  no_memory : (head : HeadFacts) (route : Route) (answers : List Heard) → request ≡ readable head
      → AsksForRoute head route → IsFileRoute route → IsLocal (sight_at setting at log answers) route no_memory_found
      → IsCase setting at own noted log request (asked.Route route) reason.OutOfMemory 0 own_line answers None
  links_memory : (head : HeadFacts) (route : Route) (answer : LocalFacts) (answers : List Heard) → request ≡ readable head
      → AsksForRoute head route → IsFileRoute route → IsLocal (sight_at setting at log answers) route answer → IsUnfound answer
      → IsCase setting at own noted log request (asked.Route route) reason.OutOfMemory 0 own_line answers (Some links.OutOfMemory)
