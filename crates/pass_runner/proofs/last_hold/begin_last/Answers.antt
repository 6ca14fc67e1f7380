-- A pass was begun again, or not.
use Rattle.std.proofs.Common.{inl}
use Rattle.row_types.specs.Rules.{rules}
use Rattle.pass_runner.proofs.LastLemmas.{opens_last, open_begun}
use Rattle.pass_runner.proofs.last_hold.begin_last.Goals as goal

pub end_begun-requires-clause-open : goal.end_begun-requires-clause-open
end_begun-requires-clause-open g c = λ κs within. open_begun c.in-Begun.ensures.step

pub returns-in-Begun-clause-begins : goal.returns-in-Begun-clause-begins
returns-in-Begun-clause-begins g c =
    opens_last (rules g.W.Truth.version g.W.Truth.true_row g.W.Truth.told) g.K.Keeper.told g.K.Keeper.shows
    c.args.plan.now c.args.own c.in-Begun.ensures.step c.end_begun.result c.end_begun.ensures

pub returns-in-Broken-clause-begins : goal.returns-in-Broken-clause-begins
returns-in-Broken-clause-begins g c = c.in-Broken.ensures.step

pub returns-in-OutOfMemory-clause-begins : goal.returns-in-OutOfMemory-clause-begins
returns-in-OutOfMemory-clause-begins g c = inl c.in-OutOfMemory.ensures.step
