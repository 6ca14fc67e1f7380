-- The pass was begun again, or could not be.
use Rattle.std.proofs.Common.{inr, refl, sym}
use Rattle.std.proofs.lemmas.Bool.{true≢false}
use Rattle.row_types.specs.Rules.{rules}
use Rattle.pass_runner.proofs.PassEnds.{again_begun, fresh_after}
use Rattle.pass_runner.proofs.PassHands.{hands_none}
use Rattle.pass_runner.proofs.beside.begin_again.Goals as goal

pub settle_begun-requires-clause-fresh : goal.settle_begun-requires-clause-fresh
settle_begun-requires-clause-fresh g c = λ κs within. fresh_after {K = g.row.K.Denot} c.in-Begun.ensures.step

pub returns-in-Begun-clause-again : goal.returns-in-Begun-clause-again
returns-in-Begun-clause-again g c =
    again_begun {K = g.row.K.Denot} (rules g.W.Truth.version g.W.Truth.true_row g.W.Truth.told) g.T.Tree.told g.K.Keeper.told
    g.K.Keeper.shows g.T.Tree.shows c.args.plan.now c.args.hand.now c.settle_begun.new.hand c.settle_begun.new.state
    c.settle_begun.result c.in-Begun.ensures.step c.settle_begun.ensures.ends

pub returns-in-Broken-clause-again : goal.returns-in-Broken-clause-again
returns-in-Broken-clause-again g c =
    inr (record { hand = refl; state = c.in-Broken.ensures.step.same; why = c.in-Broken.ensures.step.why })

pub returns-in-Broken-clause-hand : goal.returns-in-Broken-clause-hand
returns-in-Broken-clause-hand g c = hands_none (λ f. true≢false (sym f))

pub returns-in-OutOfMemory-clause-again : goal.returns-in-OutOfMemory-clause-again
returns-in-OutOfMemory-clause-again g c =
    inr (record { hand = refl; state = c.in-OutOfMemory.ensures.step.same; why = c.in-OutOfMemory.ensures.step.why })

pub returns-in-OutOfMemory-clause-hand : goal.returns-in-OutOfMemory-clause-hand
returns-in-OutOfMemory-clause-hand g c = hands_none (λ f. true≢false (sym f))
