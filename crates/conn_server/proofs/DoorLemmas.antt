-- The connections of a door, one after the other.
use Rattle.std.proofs.Common.{◌≡◌, ℕ, ◌+◌, ◌≤◌, List, inr, [], ◌∷◌, ◌++◌, map, length, Option, Some, refl, sym, ◌∙◌, ap, subst, append-nil, arith, cond}
use Rattle.std.proofs.lemmas.Grind.{flat_map-append}
use Rattle.std.proofs.lemmas.List.{map-append}
use Rattle.std.proofs.lemmas.List.Sums.{sum_by-append}
use Rattle.std.specs.List.{flat_map, count_by}
use mathlib.Core.List.{IsPrefix}
use Rattle.row_types.specs.Faults.{summed}
use Rattle.index_lock.proofs.Prefixes.{prefix_self, prefix_trans}
use Rattle.index_rows.specs.declared.change.Change.{Change}
use Rattle.tree_trait.specs.Heard.{Heard}
use Rattle.http_wire.specs.Door.{Accepts, DoorCall, ShownDoor, TakesConnectionBack, arrivals, arrived, handed_back, said_of}
use Rattle.http_wire.specs.Stream.{ShownStream}
use Rattle.http_wire.specs.Told.{Gains}
use Rattle.http_wire.proofs.CallLemmas.{gains_both, gains_nothing}
use Rattle.http_wire.specs.declared.door.DoorAnswer.{DoorAnswer}
use Rattle.http_wire.specs.declared.door.DoorAnswer.TheVariants.{Came}
use Rattle.http_wire.specs.declared.door.DoorSaid.TheVariants as said
use Rattle.answer_core.specs.Loads.{Hears}
use Rattle.answer_core.proofs.HearLemmas.{hears_none}
use Rattle.answer_core.proofs.SinceLemmas.{StillTo}
use Rattle.federation.specs.Heard.{LinkHeard}
use Rattle.conn_server.specs.Connection.{AreExchanges, LogsGrow, Serves, is_last_request, links_heard}
use Rattle.conn_server.specs.Tallied.{TalliesServed}
use Rattle.conn_server.specs.Doors.{AreVisits, ServesDoor, ServesVisits, TakesNextVisit, TakesNobody, TakesVisit, Visit, all_exchanges, another, nobody, said_at, visit_answers, visit_calls, visit_parts}
use Rattle.conn_server.specs.Exchange.{Exchange, asked_for}
use Rattle.conn_server.specs.Links.{HeardFor, LinksFailed, LinksHear, all_parts, both_parts, hand_heard}
use Rattle.conn_server.specs.Replies.{says_read_fault, says_upstream_fault}
use Rattle.conn_server.specs.Stage.{ConnSetting, ConnStage, hand_at}
use Rattle.conn_server.specs.declared.door.DoorEnd.{DoorEnd}
use Rattle.conn_server.specs.declared.door.DoorEnd.TheVariants as end
use Rattle.conn_server.specs.declared.report.ConnReport.{ConnReport}
use Rattle.conn_server.specs.declared.report.Served.{Served}
use Rattle.conn_server.proofs.CountLemmas.{notes_none, tallies_append, tallies_notes}
use Rattle.conn_server.proofs.JoinLemmas.{exchange_at, hears_append}
use Rattle.conn_server.proofs.LinksLemmas.{all_more, failed_then, links_none, links_then, same_links}

-- Parts of visits

-- the parts of the connections, and of one more
flat_last : {A : Type 0} (f : Visit → List A) (visits : List Visit) (one : Visit)
    → flat_map f visits ++ f one ≡ flat_map f (visits ++ one ∷ [])
flat_last f visits one =
    sym (flat_map-append f visits (one ∷ []) ∙ ap (λ l. flat_map f visits ++ l) (append-nil (f one)))

logs_earlier : (first log after : List Change) (ys : List Exchange) → IsPrefix first log → LogsGrow log ys after
    → LogsGrow first ys after
logs_earlier first log after [] p g = prefix_trans first log after p g
logs_earlier first log after (y ∷ ys) p g = (prefix_trans first log y.log p g.0, g.1)

logs_append : (first log after : List Change) (xs ys : List Exchange) → LogsGrow first xs log → LogsGrow log ys after
    → LogsGrow first (xs ++ ys) after
logs_append first log after [] ys one two = logs_earlier first log after ys one two
logs_append first log after (x ∷ xs) ys one two = (one.0, logs_append x.log log after xs ys one.1 two)

-- exchanges, as seen from an earlier moment
exchanges_at : {T : Type 0} (setting : ConnSetting T) (a b : ConnStage T) → StillTo (hand_at setting a) (setting.shows b.hand)
    → b.epoch ≡ a.epoch → length b.links ≡ length a.links → (place : ℕ) (xs : List Exchange) → AreExchanges setting b place xs → AreExchanges setting a place xs
exchanges_at setting a b keeps origin same place [] are = tt
exchanges_at setting a b keeps origin same place (x ∷ xs) are =
    (exchange_at setting (is_last_request place) a b x keeps origin same are.0, exchanges_at setting a b keeps origin same (place + 1) xs are.1)

visits_more : {T : Type 0} (setting : ConnSetting T) (a : ConnStage T) (visits : List Visit) (one : Visit) → AreVisits setting a visits
    → AreExchanges setting a 0 one.xs → AreVisits setting a (visits ++ one ∷ [])
visits_more setting a [] one are is = (is, tt)
visits_more setting a (v ∷ visits) one are is = (are.0, visits_more setting a visits one are.1 is)

-- All of them

-- before the first connection
pub visits_none : {T : Type 0} (setting : ConnSetting T) (a : ConnStage T) (door : ShownDoor) → ServesVisits setting a door a door
visits_none setting a door = record {
  visits = [];
  row = nobody;
  calls = gains_nothing door.calls;
  faults = omega arith;
  are = tt;
  logs = prefix_self a.log;
  epoch = refl;
  hears = hears_none (hand_at setting a);
  asks = links_none a.links;
  failed = omega arith;
  links_failed = inr (omega arith);
  tallies = tallies_notes a.share a.share (notes_none a.share);
}

-- one connection more
pub visits_then : {T : Type 0} (setting : ConnSetting T) (a b c : ConnStage T) (before mid after : ShownDoor)
    → ServesVisits setting a before b mid → TakesVisit setting b mid c after → ServesVisits setting a before c after
visits_then setting a b c before mid after some next =
    let one : Visit = next.one in
    let flat = next.is.serves.2.flat in
    let early = some.faults in
    let late = next.goes.faults in
    record {
      visits = some.visits ++ one ∷ [];
      row = another some.visits b one c some.row next.is;
      calls = subst (λ (l : List DoorCall). Gains before.calls l after.calls) (flat_last visit_calls some.visits one)
          (gains_both before.calls mid.calls after.calls (flat_map visit_calls some.visits) (visit_calls one) some.calls next.goes.calls);
      faults = omega (arith, early, late);
      are = visits_more setting a some.visits one some.are
          (subst (λ (xs : List Exchange). AreExchanges setting a 0 xs) (sym next.is.are)
          (exchanges_at setting a b (λ still. some.hears.hands.still still) some.epoch
          (same_links a.links b.links (all_parts (map visit_parts some.visits)) some.asks) 0 next.is.serves.2.xs flat.are));
      logs = subst (λ (xs : List Exchange). LogsGrow a.log xs c.log) (flat_last (λ v. v.xs) some.visits one)
          (logs_append a.log b.log c.log (all_exchanges some.visits) one.xs some.logs
          (subst (λ (xs : List Exchange). LogsGrow b.log xs c.log) (sym next.is.are) flat.logs));
      epoch = flat.epoch ∙ some.epoch;
      hears = subst (λ (es : List Heard). Hears (hand_at setting a) (setting.shows c.hand) es ⊥)
          (flat_last visit_answers some.visits one)
          (hears_append (hand_at setting a) (setting.shows b.hand) (setting.shows c.hand) (flat_map visit_answers some.visits)
          (visit_answers one) some.hears heard);
      asks = subst (λ (parts : List (List LinkHeard)). LinksHear a.links parts c.links)
          (all_more (map visit_parts some.visits) (visit_parts one)
          ∙ ap (λ (all : List (List (List LinkHeard))). all_parts all) (sym (map-append visit_parts some.visits (one ∷ []))))
          (links_then a.links b.links c.links (all_parts (map visit_parts some.visits)) (visit_parts one) some.asks asked);
      failed = subst (λ (xs : List Exchange). summed (setting.shows a.hand).faults
          (count_by (λ x. says_read_fault x.served.reason) xs) ≤ (setting.shows c.hand).faults)
          (flat_last (λ v. v.xs) some.visits one) failed_all;
      links_failed = subst (λ (xs : List Exchange). LinksFailed a.links (count_by (λ x. says_upstream_fault x.served.reason) xs) c.links)
          (flat_last (λ v. v.xs) some.visits one) links_failed_all;
      tallies = subst (λ (told : List Served). TalliesServed told a.share c.share)
          (flat_last (λ v. v.report.served.items) some.visits one)
          (tallies_append (flat_map (λ v. v.report.served.items) some.visits) one.report.served.items a.share b.share c.share
          some.tallies next.is.serves.2.tallies);
    }
  where
    heard : Hears (hand_at setting b) (setting.shows c.hand) (visit_answers next.one) ⊥
    heard =
        subst (λ (xs : List Exchange). Hears (hand_at setting b) (setting.shows c.hand) (flat_map asked_for xs ++ hand_heard next.one.rest) ⊥)
        (sym next.is.are)
        (subst (λ (rest : HeardFor). Hears (hand_at setting b) (setting.shows c.hand)
        (flat_map asked_for next.is.serves.2.xs ++ hand_heard rest) ⊥) (sym next.is.left) next.is.serves.2.flat.hears)

    asked : LinksHear b.links (visit_parts next.one) c.links
    asked =
        subst (λ (xs : List Exchange). LinksHear b.links (both_parts (links_heard xs) next.one.rest.links) c.links) (sym next.is.are)
        (subst (λ (rest : HeardFor). LinksHear b.links (both_parts (links_heard next.is.serves.2.xs) rest.links) c.links)
        (sym next.is.left) next.is.serves.2.flat.asks)

    more_links : LinksFailed b.links (count_by (λ x. says_upstream_fault x.served.reason) next.one.xs) c.links
    more_links =
        subst (λ (xs : List Exchange). LinksFailed b.links (count_by (λ x. says_upstream_fault x.served.reason) xs) c.links)
        (sym next.is.are) next.is.serves.2.flat.links_failed

    links_failed_all : LinksFailed a.links
        (count_by (λ x. says_upstream_fault x.served.reason) (all_exchanges some.visits ++ next.one.xs)) c.links
    links_failed_all = subst (λ (count : ℕ). LinksFailed a.links count c.links)
        (sym (sum_by-append (λ (x : Exchange). cond (says_upstream_fault x.served.reason) 1 0) (all_exchanges some.visits) next.one.xs))
        (failed_then a.links b.links c.links (visit_parts next.one)
        (count_by (λ x. says_upstream_fault x.served.reason) (all_exchanges some.visits))
        (count_by (λ x. says_upstream_fault x.served.reason) next.one.xs) asked some.links_failed more_links)

    more : summed (setting.shows b.hand).faults (count_by (λ x. says_read_fault x.served.reason) next.one.xs)
        ≤ (setting.shows c.hand).faults
    more = subst (λ (xs : List Exchange). summed (setting.shows b.hand).faults (count_by (λ x. says_read_fault x.served.reason) xs)
        ≤ (setting.shows c.hand).faults) (sym next.is.are) next.is.serves.2.flat.failed

    failed_all : summed (setting.shows a.hand).faults
        (count_by (λ x. says_read_fault x.served.reason) (all_exchanges some.visits ++ next.one.xs)) ≤ (setting.shows c.hand).faults
    failed_all =
        let first = some.failed in
        let second = more in
        let all = sum_by-append (λ (x : Exchange). cond (says_read_fault x.served.reason) 1 0) (all_exchanges some.visits) next.one.xs in
        omega (arith, first, second, all)

-- the door ends
pub visits_end : {T : Type 0} (setting : ConnSetting T) (a b c : ConnStage T) (before mid after : ShownDoor) (why : DoorEnd)
    → ServesVisits setting a before b mid → TakesNobody b mid why c after → ServesDoor setting a before why c after
visits_end {T} setting a b c before mid after why some last =
    subst (λ (s : ConnStage T). ServesDoor setting a before why s after) (sym last.stands) (record {
      serves = record {
        visits = some.visits;
        row = some.row;
        calls = subst (λ (l : List DoorCall). Gains before.calls l after.calls) (append-nil (flat_map visit_calls some.visits))
            (gains_both before.calls mid.calls after.calls (flat_map visit_calls some.visits) [] some.calls last.calls);
        faults =
            let early = some.faults in
            let late = last.ends.cause.later in
            omega (arith, early, late);
        are = some.are;
        logs = some.logs;
        epoch = some.epoch;
        hears = some.hears;
        asks = some.asks;
        failed = some.failed;
        links_failed = some.links_failed;
        tallies = some.tallies;
      };
      ends = record {
        last = last.ends.last;
        cause = record {
          later =
              let early = some.faults in
              let late = last.ends.cause.later in
              omega (arith, early, late);
          rose = λ failed.
              let early = some.faults in
              let risen = last.ends.cause.rose failed in
              omega (arith, early, risen);
        };
      };
    })

-- what came next, with the folders, the rows and what came as they are known to be
pub next_as : {T : Type 0} (setting : List (List ℕ) → ℕ → ConnSetting T) (a : ConnStage T) (before : ShownDoor) (b : ConnStage T) (after : ShownDoor)
    {folders known_folders : List (List ℕ)} {rows known_rows : ℕ} {what known : Option DoorEnd} → folders ≡ known_folders → rows ≡ known_rows → what ≡ known
    → TakesNextVisit (setting folders rows) a before what b after → TakesNextVisit (setting known_folders known_rows) a before known b after
next_as {T} setting a before b after {folders} {known_folders} {rows} {known_rows} {what} {known} same also is next =
    subst (λ (l : List (List ℕ)). TakesNextVisit (setting l known_rows) a before known b after) same
    (subst (λ (n : ℕ). TakesNextVisit (setting folders n) a before known b after) also
    (subst (λ (o : Option DoorEnd). TakesNextVisit (setting folders rows) a before o b after) is next))

-- one connection came, was served and was handed back
pub visit_of : {T C : Type 0} (shows : C → ShownStream) (conn back : C) (setting : ConnSetting T) (a b : ConnStage T)
    (before mid after : ShownDoor) (report : ConnReport) → Accepts shows before (Came conn) mid
    → TakesConnectionBack (shows back) mid after → Serves setting a (shows conn) report b (shows back)
    → TakesVisit setting a before b after
visit_of shows conn back setting a b before mid after report accepts takes serves =
    let early = accepts.cause.later in
    let late = takes.faults in
    record {
      one = record {
        came = shows conn;
        ended = shows back;
        report = report;
        xs = serves.2.xs;
        rest = serves.2.rest;
      };
      is = record { serves = serves; are = refl; left = refl };
      goes = record {
        calls = gains_both before.calls mid.calls after.calls (arrived (shows conn) ∷ []) (handed_back (shows back) ∷ []) accepts.told
            takes.told;
        faults = omega (arith, early, late);
      };
    }

-- no connection came
pub nobody_of : {T C : Type 0} (shows : C → ShownStream) (a : ConnStage T) (before after : ShownDoor) (answer : DoorAnswer C)
    (why : DoorEnd) → arrivals shows answer ≡ [] → said_of answer ≡ said_at why → (why ≡ end.Failed → said_of answer ≡ said.Failed)
    → Accepts shows before answer after → TakesNobody a before why a after
nobody_of shows a before after answer why none same fails accepts = record {
  stands = refl;
  calls = subst (λ (l : List DoorCall). Gains before.calls l after.calls) none accepts.told;
  ends = record {
    last = accepts.last ∙ ap (λ s. Some s) same;
    cause = record { later = accepts.cause.later; rose = λ failed. accepts.cause.rose (fails failed) };
  };
}
