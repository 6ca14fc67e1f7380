use Rattle.row_types.specs.Rules.{rules}
use Rattle.pass_runner.proofs.PassEnds.{begun_done, begun_fault, handed_out, never_fault}
use Rattle.pass_runner.proofs.PassHands.{hands_so}
use Rattle.pass_runner.proofs.owned.settle_begun.Goals as goal

pub end_of-requires-clause-handed : goal.end_of-requires-clause-handed
end_of-requires-clause-handed g c = λ κs within. handed_out c.requires.fresh c.in-Empty.ensures.settles c.in-Empty.ensures.ends

pub returns-in-Empty-clause-ends : goal.returns-in-Empty-clause-ends
returns-in-Empty-clause-ends g c =
    begun_done (rules g.W.Truth.version g.W.Truth.true_row g.W.Truth.told) g.K.Keeper.told c.args.plan.now c.end_of.result
    c.in-Empty.ensures.settles c.in-Empty.ensures.ends.sound c.end_of.ensures

pub returns-in-Empty-clause-hand : goal.returns-in-Empty-clause-hand
returns-in-Empty-clause-hand g c =
    hands_so c.in-Empty.ensures.settles.does.listens.hand
    (begun_fault {K = g.row.K.Denot} (rules g.W.Truth.version g.W.Truth.true_row g.W.Truth.told) g.T.Tree.told g.K.Keeper.told
    g.K.Keeper.shows c.args.plan.now (g.T.Tree.shows c.args.hand.now) (g.T.Tree.shows c.settle_pass.new.hand) c.args.state.now
    c.settle_pass.new.state c.end_of.result c.requires.fresh
    (begun_done (rules g.W.Truth.version g.W.Truth.true_row g.W.Truth.told) g.K.Keeper.told c.args.plan.now c.end_of.result
    c.in-Empty.ensures.settles c.in-Empty.ensures.ends.sound c.end_of.ensures))

pub returns-in-Empty-clause-keeper : goal.returns-in-Empty-clause-keeper
returns-in-Empty-clause-keeper g c = record {
  later = c.in-Empty.ensures.keeper.later;
  rose = λ is. absurd (never_fault {K = g.row.K.Denot} (rules g.W.Truth.version g.W.Truth.true_row g.W.Truth.told) g.K.Keeper.told
      g.K.Keeper.shows c.args.plan.now c.settle_pass.new.state c.end_of.result c.end_of.ensures is);
}
