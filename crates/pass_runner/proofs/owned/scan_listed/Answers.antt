-- With one hand the pass is its own; with more it is that of all.
use Rattle.std.proofs.Common.{◌<◌, ℕ, arith, slice_set, subst}
use Rattle.path_scope.specs.Scope.{scope_of}
use Rattle.row_types.specs.Rules.{rules}
use Rattle.index_rows.specs.Rows.{row_names}
use Rattle.pass_runner.specs.Passes.{EndsOver}
use Rattle.pass_runner.proofs.FirstHand.{loads_alone}
use Rattle.pass_runner.proofs.PassEnds.{rose_counted}
use Rattle.pass_runner.proofs.PassHands.{first_goes, hands_none}
use Rattle.pass_runner.proofs.PassWalks.{helps_none}
use Rattle.pass_runner.proofs.owned.scan_listed.Goals as goal

pub returns-clause-over : goal.returns-clause-over
returns-clause-over g c =
    first_goes _ _ c.args.hands.items c.index_mut.result.now c.run_over-end.new.hand
    (subst (λ n. 0 < n) c.args.hands.ok.0 c.requires.hand) c.index_mut.ensures.value
    (subst (λ (n : ℕ). EndsOver {K = g.row.K.Denot} (rules g.W.Truth.version g.W.Truth.true_row g.W.Truth.told) g.T.Tree.told
    g.K.Keeper.told g.K.Keeper.shows g.T.Tree.shows n c.args.listing (scope_of c.args.roots.now (g.P.Selection.takes c.args.select.now)) c.index_mut.result.now
    c.run_over-end.new.hand c.args.state c.run_over-end.new.state c.run_over-end.result)
    (omega (arith, c.requires.hand)) c.run_over-end.ensures.over)
    (helps_none g.T.Tree.shows g.T.Tree.told g.W.Truth.version c.args.listing (row_names c.args.state.rows))

pub returns-clause-hands : goal.returns-clause-hands
returns-clause-hands g c =
    first_goes _ _ c.args.hands.items c.index_mut.result.now c.run_over-end.new.hand
    (subst (λ n. 0 < n) c.args.hands.ok.0 c.requires.hand) c.index_mut.ensures.value
    c.run_over-end.ensures.hand (λ other. hands_none (λ never. never))

pub returns-clause-loads : goal.returns-clause-loads
returns-clause-loads g c =
    loads_alone g.T.Tree.shows c.args.hands.items (slice_set c.args.hands.items 0 c.run_over-end.new.hand) c.run_over-end.result (omega (arith, c.args.hands.ok.0))

pub returns-clause-keeper : goal.returns-clause-keeper
returns-clause-keeper g c = λ is. rose_counted _ _ (c.run_over-end.ensures.keeper.rose is)
