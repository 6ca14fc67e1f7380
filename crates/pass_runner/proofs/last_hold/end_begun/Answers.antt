-- What is to be done of a pass that was begun again decides its end.
use Rattle.std.proofs.Common.{sym, ◌∙◌}
use Rattle.row_types.specs.Rules.{rules}
use Rattle.pass_runner.proofs.LastLemmas.{done_again, shut_again}
use Rattle.pass_runner.proofs.last_hold.end_begun.Goals as goal

pub returns-then-is_done : goal.returns-then-is_done
returns-then-is_done g c =
    done_again (rules g.W.Truth.version g.W.Truth.true_row g.W.Truth.told) g.K.Keeper.told g.K.Keeper.shows c.args.plan.now
    c.requires.open c.standing-standing.ensures.value c.standing-standing.ensures.whole
    (sym c.is_done.ensures ∙ c.if-is_done.true) c.summary_of.ensures

pub returns-then-standing : goal.returns-then-standing
returns-then-standing g c =
    shut_again c.standing-standing.ensures.value (sym c.is_done.ensures ∙ c.if-is_done.false) c.if-standing.true

pub returns-in-Some : goal.returns-in-Some
returns-in-Some g c = c.in-Some.is
