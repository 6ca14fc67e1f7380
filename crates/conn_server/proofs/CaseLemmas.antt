-- What follows of each case of the table, a line a case.
use Rattle.std.proofs.Common.{◌≡◌, ℕ, ◌≤◌, inl, inr, true, List, [], Option, subst, arith}
use Rattle.std.proofs.lemmas.Bool.{false≢true}
use Rattle.std.specs.Prelude.{count_by}
use Rattle.index_rows.specs.declared.change.Change.{Change}
use Rattle.tree_trait.specs.Heard.{Heard}
use Rattle.webapi_routes.specs.declared.fault.RouteFault.{RouteFault}
use Rattle.webapi_routes.specs.declared.fault.RouteFault.TheVariants as route_fault
use Rattle.webapi_routes.specs.declared.route.Route.{Route}
use Rattle.answer_core.specs.Local.{IsLocal, LocalFacts}
use Rattle.answer_core.specs.Local.{nothing_found, fault_found, no_memory_found}
use Rattle.answer_core.proofs.RowsLemmas.{none_is_there}
use Rattle.federation.specs.AskAll.{all_heard}
use Rattle.federation.specs.Heard.{LinkHeard, link_failed}
use Rattle.federation.specs.declared.asking.Upstream.{Upstream}
use Rattle.conn_server.specs.Asked.{Request}
use Rattle.conn_server.specs.Bodies.{BodyFacts}
use Rattle.dbgd_metrics.specs.Shares.{ShareFacts}
use Rattle.conn_server.specs.Cases.{IsCase, IsUnfound, bad_head, too_long, too_many, method, has_body, page, no_route, metrics, no_page}
use Rattle.conn_server.specs.Cases.{passed, upstream, read_fault, hop_limit, upstream_fault, not_found, no_memory, links_memory}
use Rattle.conn_server.specs.Exchange.{LoadFailed}
use Rattle.conn_server.specs.Lawful.{AsksLinksFor, Carries}
use Rattle.conn_server.specs.Pages.{IsPageReply, page_sight}
use Rattle.conn_server.specs.PassedOver.{FindsAll}
use Rattle.conn_server.specs.Replies.{Shows, reason_of_route, says_upstream_fault, status_of}
use Rattle.conn_server.specs.Stage.{ConnSetting, ConnStage, hand_at, page_at, sight_at}
use Rattle.conn_server.specs.Sent.{CanCarry}
use Rattle.conn_server.specs.declared.reason.Reason.{Reason}
use Rattle.conn_server.specs.declared.reason.Reason.TheVariants as reason
use Rattle.conn_server.specs.declared.report.Asked as given
use Rattle.conn_server.specs.declared.report.Asked.TheVariants as asked
use Rattle.answer_core.proofs.SinceLemmas.{StillTo}
use Rattle.conn_server.proofs.CarriesLemmas.{carries_local, carries_upstream, holds_local}
use Rattle.conn_server.proofs.PageLemmas.{page_carries, page_is_plain, page_passes, text_carried}
use Rattle.conn_server.proofs.SinceLemmas.{local_at}

-- a target that is none of a route is no failed load
pub no_fault : (fault : RouteFault) → LoadFailed (reason_of_route fault) [] → ⊥
no_fault route_fault.BadEscape f = f
no_fault _ f = f

-- and no link that failed
no_link : (fault : RouteFault) → says_upstream_fault (reason_of_route fault) ≡ true → ⊥
no_link route_fault.BadEscape e = false≢true e
no_link _ e = false≢true e

module _ {T : Type 0} (setting : ConnSetting T) (at : ConnStage T) (own noted : ShareFacts) (log : List Change) (request : Request) where
  -- what is carried can be written
  pub can_send : {what : given.Asked} {why : Reason} {n : ℕ} {carried : BodyFacts} {answers : List Heard}
      {told : Option Upstream}
      → IsCase setting at own noted log request what why n carried answers told → CanCarry setting.version carried
  can_send (page head decided e taken is) = text_carried setting.version decided.body (page_is_plain (page_at setting at log) head.target decided is).body
  can_send (passed head route answer heard e asks file rests is) = holds_local (sight_at setting at log heard) route answer rests
  can_send _ = tt

  -- a body that passed is certified for what is asked
  pub carries : {what : given.Asked} {why : Reason} {n : ℕ} {carried : BodyFacts} {answers : List Heard} {told : Option Upstream}
      (links : ℕ) (parts : List (List LinkHeard)) (bytes : List ℕ) (file : Option (List ℕ))
      → IsCase setting at own noted log request what why n carried answers told → AsksLinksFor told links request what parts
      → Shows why carried bytes file → status_of why ≡ 200 → Carries what bytes
  carries links parts bytes file (page head decided e taken reply) a shows is =
      page_carries decided.asked bytes (page_is_plain (page_at setting at log) head.target decided reply).asked
  carries links parts bytes file (passed head route answer heard e asks routed rests is_passed) a shows is =
      carries_local (sight_at setting at log heard) route answer reason.Local bytes file rests is_passed shows
  carries links parts bytes file (upstream head route answer heard passing e asks routed rests unfound) a shows is =
      let each = rw e at a in
      carries_upstream route head.hops parts passing bytes each.tells shows.0
  carries links parts bytes file (no_route head fault e looked said) a shows is = tt
  carries links parts bytes file (metrics head text e asks is_page) a shows is = tt
  carries links parts bytes file _ a shows is = absurd (omega (arith, is))

  -- before what a link's answer gave
  found_before : (heard : List Heard) (route : Route) (answer : LocalFacts) → IsLocal (sight_at setting at log heard) route answer
      → IsUnfound answer → FindsAll (sight_at setting at log heard) (asked.Route route) reason.Upstream
  found_before heard route (nothing_found m) rests unfound told still =
      inr (none_is_there (sight_at setting at log heard) route rests.0.all rests.0.stood told still rests.0.are)
  found_before heard route (fault_found m) rests unfound told still = inl rests.0.are.failed
  found_before heard route _ rests unfound told still = absurd unfound

  -- no candidate is passed over
  pub finds_all : {what : given.Asked} {why : Reason} {n : ℕ} {carried : BodyFacts} {answers : List Heard}
      {told : Option Upstream}
      → IsCase setting at own noted log request what why n carried answers told → FindsAll (sight_at setting at log answers) what why
  finds_all (page head decided e taken is) told still =
      page_passes (sight_at setting at log []) decided.asked decided.reason (page_is_plain (page_at setting at log) head.target decided is).asked
  finds_all (upstream head route answer heard given e asks file rests unfound) told still =
      found_before heard route answer rests unfound told still
  finds_all (hop_limit head route m heard e asks file rests) told still =
      none_is_there (sight_at setting at log heard) route rests.0.all rests.0.stood told still rests.0.are
  finds_all (upstream_fault head route m heard refused failed e asks file rests some) told still =
      none_is_there (sight_at setting at log heard) route rests.0.all rests.0.stood told still rests.0.are
  finds_all (not_found head route m heard refused e asks file rests) told still =
      none_is_there (sight_at setting at log heard) route rests.0.all rests.0.stood told still rests.0.are
  finds_all _ told still = tt

  -- where the reply says that a link failed, one did
  pub a_link_failed : {what : given.Asked} {why : Reason} {n : ℕ} {carried : BodyFacts} {answers : List Heard} {told : Option Upstream}
      (links : ℕ) (parts : List (List LinkHeard)) → IsCase setting at own noted log request what why n carried answers told
      → AsksLinksFor told links request what parts → says_upstream_fault why ≡ true → 1 ≤ count_by link_failed (all_heard parts)
  a_link_failed links parts (page head decided e taken reply) a is = absurd ((page_is_plain (page_at setting at log) head.target decided reply).no_link is)
  a_link_failed links parts (no_route head fault e looked said) a is = absurd (no_link fault is)
  a_link_failed links parts (upstream_fault head route m heard refused failed e asks file rests some) a is =
      let each = rw e at a in
      let counted = each.tells.3 in
      omega (arith, counted, some)
  a_link_failed links parts _ a is = absurd (false≢true is)

-- the same case, as seen from an earlier stage
pub case_at : {T : Type 0} (setting : ConnSetting T) (a b : ConnStage T) → StillTo (hand_at setting a) (setting.shows b.hand)
    → b.epoch ≡ a.epoch → (log : List Change) {own noted : ShareFacts} {request : Request} {what : given.Asked} {why : Reason} {n : ℕ} {carried : BodyFacts}
    {answers : List Heard} {told : Option Upstream} → IsCase setting b own noted log request what why n carried answers told
    → IsCase setting a own noted log request what why n carried answers told
case_at setting a b keeps same log (bad_head len e) = bad_head len e
case_at setting a b keeps same log (too_long e) = too_long e
case_at setting a b keeps same log (too_many e) = too_many e
case_at setting a b keeps same log (method head e served) = method head e served
case_at setting a b keeps same log (has_body head e served body) = has_body head e served body
case_at setting a b keeps same log (page head decided e taken is) =
    page head decided e taken (subst (λ (epoch : ℕ). IsPageReply (page_sight setting.true_row epoch log) head.target decided) same is)
case_at setting a b keeps same log (no_route head fault e looked said) = no_route head fault e looked said
case_at setting a b keeps same log (passed head route answer heard e asks file rests is) =
    passed head route answer heard e asks file (local_at setting a b keeps log heard route answer rests) is
case_at setting a b keeps same log (upstream head route answer heard given e asks file rests unfound) =
    upstream head route answer heard given e asks file (local_at setting a b keeps log heard route answer rests) unfound
case_at setting a b keeps same log (read_fault head route m heard said e asks file rests none) =
    read_fault head route m heard said e asks file (local_at setting a b keeps log heard route (fault_found m) rests) none
case_at setting a b keeps same log (hop_limit head route m heard e asks file rests) =
    hop_limit head route m heard e asks file (local_at setting a b keeps log heard route (nothing_found m) rests)
case_at setting a b keeps same log (upstream_fault head route m heard refused failed e asks file rests some) =
    upstream_fault head route m heard refused failed e asks file (local_at setting a b keeps log heard route (nothing_found m) rests) some
case_at setting a b keeps same log (not_found head route m heard refused e asks file rests) =
    not_found head route m heard refused e asks file (local_at setting a b keeps log heard route (nothing_found m) rests)
case_at setting a b keeps same log (no_memory head route heard e asks files rests) =
    no_memory head route heard e asks files (local_at setting a b keeps log heard route no_memory_found rests)
case_at setting a b keeps same log (links_memory head route answer heard e asks file rests unfound) =
    links_memory head route answer heard e asks file (local_at setting a b keeps log heard route answer rests) unfound
case_at setting a b keeps same log (metrics head text e asks is_page) = metrics head text e asks is_page
case_at setting a b keeps same log (no_page head e asks) = no_page head e asks
