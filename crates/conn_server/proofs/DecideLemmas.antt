-- What is decided for a route by the local answer and the links, or by the page of the counters.
use Rattle.std.proofs.Common.{◌≡◌, ◌≢◌, ℕ, ◌<◌, Bool, true, false, inl, [], length, Some, None, Result, Ok, Err, IfOk, refl, sym, ◌∙◌, subst, arith}
use Rattle.std.specs.Prelude.{◌==◌, String, string_bytes, if◌then◌else◌}
use Rattle.std.specs.Global.{Global}
use Rattle.std.proofs.lemmas.Bool.{false≢true}
use Rattle.std.proofs.lemmas.Bool.Decides.{nat_tests}
use Rattle.webapi_routes.specs.declared.route.Route.{Route}
use Rattle.webapi_routes.specs.declared.route.Route.TheVariants.{Metrics}
use Rattle.answer_check.specs.declared.passed.Passed.TheVariants as passing
use Rattle.answer_core.specs.Local.{AnswersRoute, IsFault, LocalFacts}
use Rattle.answer_core.specs.Local.{file_found, section_found, source_found, nothing_found, fault_found, no_memory_found}
use Rattle.answer_core.proofs.HearLemmas.{hears_as, hears_none}
use Rattle.dbgd_metrics.specs.Shares.{ShareFacts}
use Rattle.dbgd_metrics.specs.Totals.{IsPage, OnlyNotes}
use Rattle.federation.specs.AskAll.{AsksLinks}
use Rattle.federation.specs.declared.asking.Upstream.{Upstream}
use Rattle.federation.specs.declared.asking.Upstream.TheVariants as told
use Rattle.answer_core.specs.Loads.{Hears}
use Rattle.conn_server.specs.Asked.{AsksForRoute, HeadFacts, Request, readable}
use Rattle.conn_server.specs.Bodies.{DecidedFacts, found_here, own_line}
use Rattle.conn_server.specs.Cases.{IsCase, IsFileRoute, metrics, no_page, passed, upstream, read_fault, hop_limit, upstream_fault, not_found, no_memory, links_memory}
use Rattle.conn_server.specs.Decided.{Decides, DecidesRoute, FollowsLocal, by_links, by_page, for_route, plain}
use Rattle.conn_server.specs.Exchange.{LoadFailed}
use Rattle.conn_server.specs.Lawful.{AsksLinksFor}
use Rattle.conn_server.specs.Links.{AsksEachLink, LinksHear}
use Rattle.conn_server.specs.Stage.{ConnSetting, ConnStage, hand_at, with_share}
use Rattle.conn_server.specs.declared.reason.Reason.TheVariants as reason
use Rattle.conn_server.specs.declared.report.Asked.TheVariants as asked
use Rattle.conn_server.proofs.LinksLemmas.{asks_each, links_none}

is_file : (route : Route) → route ≢ Metrics → IsFileRoute route
is_file Metrics other = absurd (other refl)
is_file _ other = tt

-- where the links are asked for a route behind the local answer, or aren't
module _ {T : Type 0} (setting : ConnSetting T) (a b : ConnStage T) (route : Route) (other : route ≢ Metrics)
    (notes : OnlyNotes a.share b.share) where
  -- no link is asked
  unasked : (answer : LocalFacts) (decided : DecidedFacts) (head : HeadFacts)
      → (given : AnswersRoute setting.true_row b.log setting.folders (hand_at setting a) route answer (setting.shows b.hand))
      → (LoadFailed decided.reason given.answers → IsFault answer) → b.links ≡ a.links
      → IsCase setting a a.share b.share b.log (readable head) decided.asked decided.reason decided.generation decided.body given.answers None
      → Decides setting a (readable head) decided b
  unasked answer decided head given fails same case_ = record {
    answers = given.answers;
    parts = [];
    told = None;
    hears = hears_as fails given.hears;
    links = subst (λ links. LinksHear a.links [] links) (sym same) (links_none a.links);
    asks = refl;
    notes = notes;
    is = case_;
  }

  -- what passed here is sent
  found : (answer : LocalFacts) (n : ℕ) (head : HeadFacts)
      → (given : AnswersRoute setting.true_row b.log setting.folders (hand_at setting a) route answer (setting.shows b.hand))
      → (decided : DecidedFacts) → decided ≡ for_route route reason.Local n (found_here answer) → b.links ≡ a.links
      → IsCase setting a a.share b.share b.log (readable head) (asked.Route route) reason.Local n (found_here answer) given.answers None
      → Decides setting a (readable head) decided b
  found answer n head given decided is same case_ =
      subst (λ (d : DecidedFacts). Decides setting a (readable head) d b) (sym is)
      (unasked answer (for_route route reason.Local n (found_here answer)) head given (λ f. absurd f) same case_)

  -- the links are asked, and this is told of them
  asked_them : (answer : LocalFacts) (decided : DecidedFacts) (hops : ℕ) (head : HeadFacts)
      → (given : AnswersRoute setting.true_row b.log setting.folders (hand_at setting a) route answer (setting.shows b.hand))
      → (said : Upstream) → AsksLinks a.links route hops b.links said → head.hops ≡ hops → decided.asked ≡ asked.Route route
      → (LoadFailed decided.reason given.answers → IsFault answer)
      → IsCase setting a a.share b.share b.log (readable head) decided.asked decided.reason decided.generation decided.body given.answers (Some said)
      → Decides setting a (readable head) decided b
  asked_them answer decided hops head given said asks same_hops what fails case_ =
      let each = asks_each a.links b.links route hops said asks in
      record {
        answers = given.answers;
        parts = asks.parts;
        told = Some said;
        hears = hears_as fails given.hears;
        links = inl asks.hears;
        asks = subst (λ w. AsksLinksFor (Some said) (length a.links) (readable head) w asks.parts) (sym what)
            (subst (λ (h : ℕ). AsksEachLink (length a.links) route h asks.parts said) (sym same_hops) each);
        notes = notes;
        is = case_;
      }

  -- of what was told, where no candidate passed and no load failed
  module _ (n hops : ℕ) (head : HeadFacts) (asks : AsksForRoute head route) (same_hops : head.hops ≡ hops)
      (given : AnswersRoute setting.true_row b.log setting.folders (hand_at setting a) route (nothing_found n) (setting.shows b.hand)) where
    none_failed : LoadFailed reason.Upstream given.answers → ⊥
    none_failed failed = false≢true (sym given.says.0.are.failed ∙ failed)

    behind_nothing : (said : Upstream) → AsksLinks a.links route hops b.links said
        → Decides setting a (readable head) (by_links route n false said) b
    behind_nothing (told.File file) links =
        asked_them (nothing_found n) (by_links route n false (told.File file)) hops head given (told.File file) links same_hops refl
        none_failed (upstream head route (nothing_found n) given.answers (passing.File file) refl asks (is_file route other) given.says tt)
    behind_nothing (told.Section section) links =
        asked_them (nothing_found n) (by_links route n false (told.Section section)) hops head given (told.Section section) links
        same_hops refl none_failed
        (upstream head route (nothing_found n) given.answers (passing.Section section) refl asks (is_file route other) given.says tt)
    behind_nothing (told.Source bytes) links =
        asked_them (nothing_found n) (by_links route n false (told.Source bytes)) hops head given (told.Source bytes) links same_hops
        refl none_failed
        (upstream head route (nothing_found n) given.answers (passing.Source bytes) refl asks (is_file route other) given.says tt)
    behind_nothing told.HopLimit links =
        asked_them (nothing_found n) (by_links route n false told.HopLimit) hops head given told.HopLimit links same_hops refl
        (λ f. f) (hop_limit head route n given.answers refl asks (is_file route other) given.says)
    behind_nothing told.OutOfMemory links =
        asked_them (nothing_found n) (by_links route n false told.OutOfMemory) hops head given told.OutOfMemory links same_hops refl
        (λ f. f) (links_memory head route (nothing_found n) given.answers refl asks (is_file route other) given.says tt)
    behind_nothing (told.Nobody refused failed) links = by_count (failed == 0) refl
      where
        by_count : (is : Bool) → (failed == 0) ≡ is
            → Decides setting a (readable head)
            (for_route route (if is then reason.NotFound else reason.UpstreamFault) n own_line) b
        by_count true e =
            let zero : failed ≡ 0 = grind (arith, nat_tests, e) in
            asked_them (nothing_found n) (for_route route reason.NotFound n own_line) hops head given (told.Nobody refused failed)
            links same_hops refl (λ f. f)
            (subst (λ (count : ℕ). IsCase setting a a.share b.share b.log (readable head) (asked.Route route) reason.NotFound n own_line
            given.answers (Some (told.Nobody refused count))) (sym zero)
            (not_found head route n given.answers refused refl asks (is_file route other) given.says))
        by_count false e =
            let some : 0 < failed = grind (arith, nat_tests, e) in
            asked_them (nothing_found n) (for_route route reason.UpstreamFault n own_line) hops head given
            (told.Nobody refused failed) links same_hops refl (λ f. f)
            (upstream_fault head route n given.answers refused failed refl asks (is_file route other) given.says some)

  -- and where a load failed
  module _ (n hops : ℕ) (head : HeadFacts) (asks : AsksForRoute head route) (same_hops : head.hops ≡ hops)
      (given : AnswersRoute setting.true_row b.log setting.folders (hand_at setting a) route (fault_found n) (setting.shows b.hand)) where
    behind_fault : (said : Upstream) → AsksLinks a.links route hops b.links said
        → Decides setting a (readable head) (by_links route n true said) b
    behind_fault (told.File file) links =
        asked_them (fault_found n) (by_links route n true (told.File file)) hops head given (told.File file) links same_hops refl
        (λ f. tt) (upstream head route (fault_found n) given.answers (passing.File file) refl asks (is_file route other) given.says tt)
    behind_fault (told.Section section) links =
        asked_them (fault_found n) (by_links route n true (told.Section section)) hops head given (told.Section section) links
        same_hops refl (λ f. tt)
        (upstream head route (fault_found n) given.answers (passing.Section section) refl asks (is_file route other) given.says tt)
    behind_fault (told.Source bytes) links =
        asked_them (fault_found n) (by_links route n true (told.Source bytes)) hops head given (told.Source bytes) links same_hops
        refl (λ f. tt)
        (upstream head route (fault_found n) given.answers (passing.Source bytes) refl asks (is_file route other) given.says tt)
    behind_fault told.HopLimit links =
        asked_them (fault_found n) (by_links route n true told.HopLimit) hops head given told.HopLimit links same_hops refl (λ f. tt)
        (read_fault head route n given.answers told.HopLimit refl asks (is_file route other) given.says tt)
    behind_fault told.OutOfMemory links =
        asked_them (fault_found n) (by_links route n true told.OutOfMemory) hops head given told.OutOfMemory links same_hops refl
        (λ f. tt) (links_memory head route (fault_found n) given.answers refl asks (is_file route other) given.says tt)
    behind_fault (told.Nobody refused failed) links =
        asked_them (fault_found n) (by_links route n true (told.Nobody refused failed)) hops head given (told.Nobody refused failed)
        links same_hops refl (λ f. tt)
        (read_fault head route n given.answers (told.Nobody refused failed) refl asks (is_file route other) given.says tt)

  pub decides_local : (answer : LocalFacts) (hops : ℕ) (decided : DecidedFacts)
      → AnswersRoute setting.true_row b.log setting.folders (hand_at setting a) route answer (setting.shows b.hand)
      → FollowsLocal a.links route hops answer decided b.links → DecidesRoute setting a route hops decided b
  decides_local (file_found from name path n) hops decided given follows head asks same_hops =
      found (file_found from name path n) n head given decided follows.0 follows.1
      (passed head route (file_found from name path n) given.answers refl asks (is_file route other) given.says tt)
  decides_local (section_found from path n) hops decided given follows head asks same_hops =
      found (section_found from path n) n head given decided follows.0 follows.1
      (passed head route (section_found from path n) given.answers refl asks (is_file route other) given.says tt)
  decides_local (source_found bytes path n) hops decided given follows head asks same_hops =
      found (source_found bytes path n) n head given decided follows.0 follows.1
      (passed head route (source_found bytes path n) given.answers refl asks (is_file route other) given.says tt)
  decides_local (nothing_found n) hops decided given follows head asks same_hops =
      subst (λ (d : DecidedFacts). Decides setting a (readable head) d b) (sym follows.by)
      (behind_nothing n hops head asks same_hops given follows.told follows.asks)
  decides_local (fault_found n) hops decided given follows head asks same_hops =
      subst (λ (d : DecidedFacts). Decides setting a (readable head) d b) (sym follows.by)
      (behind_fault n hops head asks same_hops given follows.told follows.asks)
  decides_local no_memory_found hops decided given follows head asks same_hops =
      subst (λ (d : DecidedFacts). Decides setting a (readable head) d b) (sym follows.0)
      (unasked no_memory_found (plain (asked.Route route) reason.OutOfMemory) head given (λ f. absurd f) follows.1
      (no_memory head route given.answers refl asks (is_file route other) given.says))

-- what is decided without the hand and the links
pub decides_alone : {T : Type 0} {setting : ConnSetting T} {a b : ConnStage T} {request : Request} {given : DecidedFacts} (decided : DecidedFacts)
    → given ≡ decided → b.hand ≡ a.hand → b.links ≡ a.links → OnlyNotes a.share b.share → (LoadFailed decided.reason [] → ⊥)
    → IsCase setting a a.share b.share b.log request decided.asked decided.reason decided.generation decided.body [] None
    → Decides setting a request given b
decides_alone {T} {setting} {a} {b} {request} decided is hand links notes sound case_ =
    subst (λ (d : DecidedFacts). Decides setting a request d b) (sym is) (record {
      answers = [];
      parts = [];
      told = None;
      hears = hears_as sound (subst (λ (h : T). Hears (hand_at setting a) (setting.shows h) [] ⊥) (sym hand) (hears_none (hand_at setting a)));
      links = subst (λ views. LinksHear a.links [] views) (sym links) (links_none a.links);
      asks = refl;
      notes = notes;
      is = case_;
    })

-- by the page of the counters
pub decides_page : {T E : Type 0} (setting : ConnSetting T) (a : ConnStage T) (later : ShareFacts) (page : Result (String Global) E) (hops : ℕ)
    → OnlyNotes a.share later → IfOk page (λ text. IsPage setting.rows a.share later (string_bytes text))
    → DecidesRoute setting a Metrics hops (by_page page) (with_share a later)
decides_page setting a later (Ok text) hops notes is head asks same_hops =
    decides_alone _ refl refl refl notes (λ f. f) (metrics head text refl asks is)
decides_page setting a later (Err fault) hops notes is head asks same_hops =
    decides_alone _ refl refl refl notes (λ f. f) (no_page head refl asks)
