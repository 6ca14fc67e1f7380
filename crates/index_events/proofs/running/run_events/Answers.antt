-- The events so far, and the next one.
use Rattle.std.proofs.Common.{◌≡◌, List, ◌∷◌, length, sym, subst, arith, rules}
use Rattle.std.specs.Prelude.{reverse}
use Rattle.index_events.specs.Events.{RunsFirst, StoredIndex}
use Rattle.index_events.specs.declared.events.EventAnswer.{EventAnswer}
use Rattle.index_events.proofs.PutsStand.{first_lasts, puts_last, stops_unbegun}
use Rattle.index_events.proofs.Runs.{closes_after, closes_later, first_ends, first_later, first_more, first_popped, stops_after, waits_later}
use Rattle.index_events.proofs.running.run_events.Goals as goal

pub returns-in_default-clause-ends : goal.returns-in_default-clause-ends
returns-in_default-clause-ends g c =
    stops_unbegun g.W.Truth.true_row g.S.K.Keeper.told g.S.K.Keeper.shows c.args.path.now
    (record { index = c.args.state; store = g.S.Store.shows c.args.store.now }) c.args.events.items (search rules) c.show_index.ensures

pub loop-event-preserved : goal.loop-event-preserved
loop-event-preserved g c =
    let started : StoredIndex g.row.S-K.Denot = record { index = c.args.state; store = g.S.Store.shows c.args.store.now } in
    let next : StoredIndex g.row.S-K.Denot = record { index = c.in-Answer.next; store = g.S.Store.shows c.run_event.new.store } in
    let P : List EventAnswer → Type 0 = λ l. RunsFirst g.W.Truth.true_row g.S.K.Keeper.told g.S.K.Keeper.shows c.args.path.now started c.args.events.items l (reverse c.pop.new.self.items) next in
    record {
      room = omega (arith, c.in-Some.ensures.cases);
      runs =
          subst P (sym c.push_reserved.ensures.items)
          (first_more (first_popped g.W.Truth.true_row g.S.K.Keeper.told g.S.K.Keeper.shows c.args.path.now c.loop-event.events.items c.pop.new.self.items c.in-Some.event c.loop-event.invariant.runs c.in-Some.ensures.items) c.in-Answer.ensures);
    }

pub returns-in-NoMemory-clause-ends : goal.returns-in-NoMemory-clause-ends
returns-in-NoMemory-clause-ends g c =
    let started : StoredIndex g.row.S-K.Denot = record { index = c.args.state; store = g.S.Store.shows c.args.store.now } in
    let middle : StoredIndex g.row.S-K.Denot = record { index = c.loop-event.state; store = g.S.Store.shows c.loop-event.store } in
    let runs = first_popped g.W.Truth.true_row g.S.K.Keeper.told g.S.K.Keeper.shows c.args.path.now c.loop-event.events.items c.pop.new.self.items c.in-Some.event c.loop-event.invariant.runs c.in-Some.ensures.items in
    stops_after g.W.Truth.true_row g.S.K.Keeper.told g.S.K.Keeper.shows c.args.path.now runs (search rules) c.in-NoMemory.ensures
    (first_lasts g.W.Truth.true_row g.S.K.Keeper.told g.S.K.Keeper.shows c.args.path.now started c.args.events.items c.loop-event.answers.items (c.in-Some.event ∷ reverse c.pop.new.self.items) middle c.in-NoMemory.state c.show_index.ensures runs c.in-NoMemory.ensures.wants.wants)

pub returns-in-NoMemory-clause-cause : goal.returns-in-NoMemory-clause-cause
returns-in-NoMemory-clause-cause g c =
    waits_later g.W.Truth.true_row g.S.K.Keeper.told g.S.K.Keeper.shows c.args.path.now c.loop-event.invariant.runs c.in-NoMemory.ensures

pub returns-in-Unopened-clause-ends : goal.returns-in-Unopened-clause-ends
returns-in-Unopened-clause-ends g c =
    closes_after g.W.Truth.true_row g.S.K.Keeper.told g.S.K.Keeper.shows c.args.path.now
    (first_popped g.W.Truth.true_row g.S.K.Keeper.told g.S.K.Keeper.shows c.args.path.now c.loop-event.events.items c.pop.new.self.items c.in-Some.event c.loop-event.invariant.runs c.in-Some.ensures.items)
    (search rules) c.in-Unopened.ensures

pub returns-in-Unopened-clause-cause : goal.returns-in-Unopened-clause-cause
returns-in-Unopened-clause-cause g c =
    closes_later g.W.Truth.true_row g.S.K.Keeper.told g.S.K.Keeper.shows c.args.path.now c.len-done.result c.in-Unopened.fault
    (first_popped g.W.Truth.true_row g.S.K.Keeper.told g.S.K.Keeper.shows c.args.path.now c.loop-event.events.items c.pop.new.self.items c.in-Some.event c.loop-event.invariant.runs c.in-Some.ensures.items)
    c.in-Unopened.ensures

pub returns-clause-cause : goal.returns-clause-cause
returns-clause-cause g c = record {
  later = first_later g.W.Truth.true_row g.S.K.Keeper.told g.S.K.Keeper.shows c.args.path.now c.loop-event.invariant.runs;
  rose = λ e. absurd e;
}

pub returns-clause-lasts : goal.returns-clause-lasts
returns-clause-lasts g c =
    let started : StoredIndex g.row.S-K.Denot = record { index = c.args.state; store = g.S.Store.shows c.args.store.now } in
    let ended : StoredIndex g.row.S-K.Denot = record { index = c.loop-event.state; store = g.S.Store.shows c.loop-event.store } in
    let none : length c.loop-event.events.items ≡ 0 = search rules in
    puts_last g.W.Truth.true_row g.S.K.Keeper.told g.S.K.Keeper.shows c.args.path.now started c.args.events.items c.loop-event.answers.items ended c.show_index.ensures
    (first_ends g.W.Truth.true_row g.S.K.Keeper.told g.S.K.Keeper.shows c.args.path.now c.loop-event.events.items c.loop-event.invariant.runs none)
