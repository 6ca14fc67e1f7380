-- One candidate after the other is tried.
use Rattle.std.proofs.Common.{ℕ, ◌+◌, ◌<◌, Bool, true, List, length, take, sym, subst, arith}
use Rattle.tree_trait.specs.Shown.{ShownTree}
use Rattle.answer_core.specs.Loads.{Hand, HasTried}
use Rattle.answer_core.specs.declared.candidate.Candidate.{Candidate}
use Rattle.answer_core.proofs.TryLemmas.{take_one, tried_failed, tried_memory, tried_none, tried_passed, tried_refused}
use Rattle.answer_core.proofs.attempts.try_all.Goals as goal
use Rattle.answer_core.proofs.attempts.try_all.Goals.{in-Refused, in-Failed}

pub loop-place-init : goal.loop-place-init
loop-place-init g c =
    tried_none (record { told = g.T.Tree.told; version = g.W.Truth.version; start = g.T.Tree.shows c.args.hand.now }) c.args.route.now

pub returns-in-Passed : goal.returns-in-Passed
returns-in-Passed g c =
    let all : List Candidate = c.args.all.now in
    let place : ℕ = c.loop-place.place in
    let within : place < length all = omega arith in
    tried_passed place c.index-all-place.result c.in-Passed.given within c.index-all-place.is
    c.loop-place.invariant c.in-Passed.ensures

pub returns-in-OutOfMemory : goal.returns-in-OutOfMemory
returns-in-OutOfMemory g c =
    let all : List Candidate = c.args.all.now in
    let place : ℕ = c.loop-place.place in
    let within : place < length all = omega arith in
    tried_memory place c.index-all-place.result within c.index-all-place.is c.loop-place.invariant c.in-OutOfMemory.ensures

pub loop-place-preserved : goal.loop-place-preserved
loop-place-preserved g c =
    let all : List Candidate = c.args.all.now in
    let place : ℕ = c.loop-place.place in
    let one : Candidate = c.index-all-place.result in
    let within : place < length all = omega arith in
    let hand : Hand = record { told = g.T.Tree.told; version = g.W.Truth.version; start = g.T.Tree.shows c.args.hand.now } in
    let now : ShownTree = g.T.Tree.shows c.try_one.new.hand in
    let tried = λ (done : List Candidate) (fails : Bool). HasTried hand c.args.route.now done fails now in
    elim c.match-try_one.branch [
      | in-Refused w ↦ subst (λ fails. tried (take (place + 1) all) fails) (sym w.fails-is)
          (subst (λ done. tried done c.loop-place.fails) (take_one all place within c.index-all-place.is)
          (tried_refused one c.loop-place.invariant w.in-Refused.ensures))
      | in-Failed w ↦ subst (λ fails. tried (take (place + 1) all) fails) (sym w.fails-is)
          (subst (λ done. tried done true) (take_one all place within c.index-all-place.is)
          (tried_failed one c.loop-place.invariant w.in-Failed.ensures))
    ]
