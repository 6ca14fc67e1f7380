-- The generation that is told of a reply for which the index was asked: the length of the log.
use Rattle.std.proofs.Common.{◌≡◌, ℕ, Bool, List, length, Option, IsTrue}
use Rattle.std.proofs.lemmas.Bool.{false≢true}
use Rattle.index_rows.specs.declared.change.Change.{Change}
use Rattle.tree_trait.specs.Heard.{Heard}
use Rattle.webapi_routes.specs.declared.fault.RouteFault.{RouteFault}
use Rattle.webapi_routes.specs.declared.fault.RouteFault.TheVariants as route_fault
use Rattle.webapi_routes.specs.declared.route.Route.{Route}
use Rattle.answer_core.specs.Local.{IsLocal, LocalFacts, Sight}
use Rattle.answer_core.specs.Local.{file_found, section_found, source_found, nothing_found, fault_found, no_memory_found}
use Rattle.dbgd_metrics.specs.Shares.{ShareFacts}
use Rattle.federation.specs.declared.asking.Upstream.{Upstream}
use Rattle.conn_server.specs.Asked.{Request}
use Rattle.conn_server.specs.Cases.{IsCase, IsPassed, IsUnfound, generation_of}
use Rattle.conn_server.specs.Cases.{bad_head, too_long, too_many, method, has_body, page, no_route, metrics, no_page, passed, no_memory}
use Rattle.conn_server.specs.Cases.{upstream, read_fault, hop_limit, upstream_fault, not_found, links_memory}
use Rattle.conn_server.specs.Exchange.{Exchange, IsExchange}
use Rattle.conn_server.specs.Replies.{reason_of_route}
use Rattle.conn_server.specs.Stage.{ConnSetting, ConnStage, sight_at}
use Rattle.conn_server.specs.declared.reason.Reason.{Reason}
use Rattle.conn_server.specs.declared.report.Asked as given
use Rattle.dbgd_run.specs.Workers.{rests_on_index}

-- a target that is none of a route doesn't rest on the index
no_route_asks : (fault : RouteFault) → IsTrue (rests_on_index (reason_of_route fault)) → ⊥
no_route_asks route_fault.BadEscape h = false≢true h
no_route_asks route_fault.NoRoute h = false≢true h
no_route_asks route_fault.BadId h = false≢true h
no_route_asks route_fault.BadPath h = false≢true h
no_route_asks route_fault.OutOfMemory h = false≢true h

-- of an answer that passed
passed_at : (sight : Sight) (route : Route) (answer : LocalFacts) → IsLocal sight route answer → IsPassed answer
    → generation_of answer ≡ length sight.log
passed_at sight route (file_found from name path n) is files = is.1
passed_at sight route (section_found from path n) is files = is.1
passed_at sight route (source_found bytes path n) is files = is.1
passed_at sight route (nothing_found n) is files = absurd files
passed_at sight route (fault_found n) is files = absurd files
passed_at sight route no_memory_found is files = absurd files

-- of an answer behind which the links were asked
unfound_at : (sight : Sight) (route : Route) (answer : LocalFacts) → IsLocal sight route answer → IsUnfound answer
    → generation_of answer ≡ length sight.log
unfound_at sight route (nothing_found n) is missed = is.1
unfound_at sight route (fault_found n) is missed = is.1
unfound_at sight route (file_found from name path n) is missed = absurd missed
unfound_at sight route (section_found from path n) is missed = absurd missed
unfound_at sight route (source_found bytes path n) is missed = absurd missed
unfound_at sight route no_memory_found is missed = absurd missed

module _ {T : Type 0} (setting : ConnSetting T) (at : ConnStage T) (own noted : ShareFacts) (log : List Change) (request : Request) where
  at_log : {what : given.Asked} {why : Reason} {n : ℕ} {carried : _} {answers : List Heard} {told : Option Upstream}
      → IsCase setting at own noted log request what why n carried answers told → IsTrue (rests_on_index why) → n ≡ length log
  at_log (bad_head len e) h = absurd (false≢true h)
  at_log (too_long e) h = absurd (false≢true h)
  at_log (too_many e) h = absurd (false≢true h)
  at_log (method head e served) h = absurd (false≢true h)
  at_log (has_body head e served body) h = absurd (false≢true h)
  at_log (page head decided e taken is) h = absurd is
  at_log (no_route head fault e looked said) h = absurd (no_route_asks fault h)
  at_log (passed head route answer heard e asks file rests is) h = passed_at (sight_at setting at log heard) route answer rests is
  at_log (upstream head route answer heard given e asks file rests unfound) h =
      unfound_at (sight_at setting at log heard) route answer rests unfound
  at_log (read_fault head route m heard said e asks file rests none) h = rests.1
  at_log (hop_limit head route m heard e asks file rests) h = rests.1
  at_log (upstream_fault head route m heard refused failed e asks file rests some) h = rests.1
  at_log (not_found head route m heard refused e asks file rests) h = rests.1
  at_log (no_memory head route heard e asks files rests) h = absurd (false≢true h)
  at_log (links_memory head route answer heard e asks file rests unfound) h = absurd (false≢true h)
  at_log (metrics head text e asks shown) h = absurd (false≢true h)
  at_log (no_page head e asks) h = absurd (false≢true h)

pub generation_is : {T : Type 0} (setting : ConnSetting T) (last : Bool) (at : ConnStage T) (x : Exchange) → IsExchange setting last at x
    → IsTrue (rests_on_index x.served.reason) → x.served.gen_ ≡ length x.log
generation_is setting last at x is asked = at_log setting at x.own x.noted x.log x.request is.lawful.is asked
