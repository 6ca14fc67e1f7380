-- The keeper of an index that is broken has counted a fault.
use Rattle.path_scope.specs.Scope.{scope_of}
use Rattle.row_types.specs.Rules.{rules}
use Rattle.pass_runner.proofs.BesideLemmas.{again_broken}
use Rattle.pass_runner.proofs.beside.settle_again.Goals as goal

pub returns-clause-keeper : goal.returns-clause-keeper
returns-clause-keeper g c = λ is.
    c.show_index.ensures.broken_means_a_void_last_change.counted
    (again_broken {K = g.row.K.Denot} (rules g.W.Truth.version g.W.Truth.true_row g.W.Truth.told) g.T.Tree.told g.K.Keeper.told
    g.K.Keeper.shows g.T.Tree.shows c.args.plan.now c.args.listing
    (scope_of c.args.roots.items (g.P.Selection.takes c.args.select.now)) c.args.hand.now c.begin_again-end.new.hand
    c.args.state.now c.begin_again-end.new.state c.begin_again-end.result c.begin_again-end.ensures.again is)
