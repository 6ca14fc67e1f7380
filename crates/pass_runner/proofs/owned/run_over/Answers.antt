use Rattle.std.proofs.Common.{ℕ, List, subst}
use Rattle.path_scope.specs.Scope.{scope_of}
use Rattle.row_types.specs.Rules.{rules}
use Rattle.index_state.specs.Step.{BeginsPass}
use Rattle.pass_runner.proofs.PassEnds.{fresh_after, over_begun}
use Rattle.pass_runner.proofs.owned.run_over.Goals as goal

pub settle_begun-requires-clause-fresh : goal.settle_begun-requires-clause-fresh
settle_begun-requires-clause-fresh g c = λ κs within. fresh_after {K = g.row.K.Denot} c.in-Begun.ensures.step

pub returns-in-Begun-clause-over : goal.returns-in-Begun-clause-over
returns-in-Begun-clause-over g c =
    over_begun {K = g.row.K.Denot} (rules g.W.Truth.version g.W.Truth.true_row g.W.Truth.told) g.T.Tree.told g.K.Keeper.told
    g.K.Keeper.shows g.T.Tree.shows c.args.hand.now c.settle_begun.new.hand c.settle_begun.new.state c.settle_begun.result
    (subst (λ (xs : List (List ℕ)). BeginsPass c.args.listing
    (scope_of xs (g.P.Selection.takes c.args.select.now)) c.in-Begun.plan c.args.state.now c.begin.new.self)
    c.in-Ok.ensures c.in-Begun.ensures.step)
    c.settle_begun.ensures.ends
