-- What the first candidate that passed gives is the answer.
use Rattle.std.proofs.Common.{List, subst}
use Rattle.answer_core.specs.Given.{given_facts}
use Rattle.answer_core.specs.Loads.{Hand, HasCandidatePassed, HasStopped}
use Rattle.answer_core.specs.Local.{local_facts}
use Rattle.answer_core.specs.declared.candidate.Candidate.{Candidate}
use Rattle.answer_core.proofs.HearLemmas.{hears_as}
use Rattle.answer_core.proofs.LocalLemmas.{agrees_with_file, first_hands, from_first}
use Rattle.answer_core.proofs.local.answer_from.Goals as goal

pub returns-in-Passed-clause-answer : goal.returns-in-Passed-clause-answer
returns-in-Passed-clause-answer g c =
    let hand : Hand = record { told = g.T.Tree.told; version = g.W.Truth.version; start = g.T.Tree.shows c.args.hand.now } in
    let passed = subst (λ (all : List Candidate). HasCandidatePassed hand c.args.route.now all c.in-Passed.place
    (given_facts g.T.Tree.opened c.in-Passed.given) (g.T.Tree.shows c.try_all.new.hand)) c.as_slice.ensures.value c.in-Passed.ensures in
    from_first g.T.Tree.opened hand c.args.route.now c.args.list.items c.in-Passed.place c.in-Passed.given c.take_path.result
    c.args.generation c.local_of.result (g.T.Tree.shows c.try_all.new.hand) passed c.take_path.ensures c.local_of.ensures

pub returns-in-Passed-clause-file : goal.returns-in-Passed-clause-file
returns-in-Passed-clause-file g c =
    let hand : Hand = record { told = g.T.Tree.told; version = g.W.Truth.version; start = g.T.Tree.shows c.args.hand.now } in
    let passed = subst (λ (all : List Candidate). HasCandidatePassed hand c.args.route.now all c.in-Passed.place
    (given_facts g.T.Tree.opened c.in-Passed.given) (g.T.Tree.shows c.try_all.new.hand)) c.as_slice.ensures.value c.in-Passed.ensures in
    first_hands g.T.Tree.opened hand c.args.route.now c.args.list.items c.in-Passed.place c.in-Passed.given c.take_path.result
    c.args.generation c.local_of.result (g.T.Tree.shows c.try_all.new.hand) passed c.take_path.ensures c.local_of.ensures

pub returns-in-Passed-clause-version : goal.returns-in-Passed-clause-version
returns-in-Passed-clause-version g c = λ told.
    let hand : Hand = record { told = g.T.Tree.told; version = g.W.Truth.version; start = g.T.Tree.shows c.args.hand.now } in
    let passed = subst (λ (all : List Candidate). HasCandidatePassed hand c.args.route.now all c.in-Passed.place
    (given_facts g.T.Tree.opened c.in-Passed.given) (g.T.Tree.shows c.try_all.new.hand)) c.as_slice.ensures.value c.in-Passed.ensures in
    agrees_with_file g.W.Truth.version (g.W.Truth.one_content told) (local_facts g.T.Tree.opened c.local_of.result)
    (first_hands g.T.Tree.opened hand c.args.route.now c.args.list.items c.in-Passed.place c.in-Passed.given c.take_path.result
    c.args.generation c.local_of.result (g.T.Tree.shows c.try_all.new.hand) passed c.take_path.ensures c.local_of.ensures)

pub returns-clause-answer : goal.returns-clause-answer
returns-clause-answer g c =
    let hand : Hand = record { told = g.T.Tree.told; version = g.W.Truth.version; start = g.T.Tree.shows c.args.hand.now } in
    let stopped : HasStopped hand c.args.route.now c.args.list.items (g.T.Tree.shows c.try_all.new.hand) =
    subst (λ (all : List Candidate). HasStopped hand c.args.route.now all (g.T.Tree.shows c.try_all.new.hand))
    c.as_slice.ensures.value c.in-OutOfMemory.ensures in
    record {
      answers = stopped.answers;
      hears = hears_as (λ f. absurd f) stopped.hears;
      is = stopped.stops;
      at = tt;
    }
