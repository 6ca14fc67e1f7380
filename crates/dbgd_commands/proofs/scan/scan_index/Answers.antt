-- What the pass was, of the hands that were lent.
use Rattle.std.proofs.Common.{◌<◌, ℕ, List, length, subst, arith, IsTrue}
use Rattle.path_scope.specs.Scope.{scope_of}
use Rattle.row_types.specs.Name.{NameFacts}
use Rattle.row_types.specs.Rules.{rules}
use Rattle.index_rows.specs.Rows.{row_names}
use Rattle.tree_trait.specs.Shown.{HandsOn}
use Rattle.pass_runner.specs.Owned.{EndsPass, HandsGo, Helps, is_hand_fault}
use Rattle.dbgd_commands.proofs.HandLemmas.{goes_length}
use Rattle.dbgd_commands.proofs.scan.scan_index.Goals as goal

pub returns-clause-pass : goal.returns-clause-pass
returns-clause-pass g c = record {
  new = c.scan_state-state.result.0;
  value = c.into_keeper.ensures.value;
  path = c.show_end.ensures;
  holds = c.into_keeper.ensures.holds;
  pass =
      subst (λ (n : ℕ). (listing : List NameFacts) × HandsGo
      (λ hand later. EndsPass {K = g.row.K.Denot} (rules g.W.Truth.version g.W.Truth.true_row g.W.Truth.told) g.T.Tree.told
      g.K.Keeper.told g.K.Keeper.shows n (scope_of c.args.roots.now (g.P.Selection.takes c.args.select.now)) listing (g.T.Tree.shows hand) (g.T.Tree.shows later) c.args.state
      c.scan_state-state.result.0 c.scan_state-state.result.2)
      (λ hand later. Helps g.T.Tree.told g.W.Truth.version listing (row_names c.args.state.rows) (g.T.Tree.shows hand)
      (g.T.Tree.shows later)) c.args.hands.now.items c.scan_state-state.result.1.items) c.args.hands.now.ok.0
      (rw c.replace-lent.ensures.value at c.scan_state-state.ensures.pass);
  idle = rw c.replace-lent.ensures.value at c.scan_state-state.ensures.idle;
  loads = rw c.replace-lent.ensures.value at c.scan_state-state.ensures.loads;
}

pub returns-clause-count : goal.returns-clause-count
returns-clause-count g c =
    let long = goes_length
    (λ hand later. HandsOn g.T.Tree.told g.W.Truth.version (g.T.Tree.shows hand) (g.T.Tree.shows later)
    (0 < length c.args.roots.now) (IsTrue (is_hand_fault c.scan_state-state.result.2)))
    (λ hand later. HandsOn g.T.Tree.told g.W.Truth.version (g.T.Tree.shows hand) (g.T.Tree.shows later) ⊥ ⊥)
    c.args.hands.now.items c.scan_state-state.result.1.items
    (rw c.replace-lent.ensures.value at c.scan_state-state.ensures.hands) in
    omega (arith, long, c.scan_state-state.result.1.ok.0, c.args.hands.now.ok.0)
