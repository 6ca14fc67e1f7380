-- What was picked in the hold is by the log that the token has seen.
use Rattle.std.proofs.Common.{List, rules, sym, ◌∙◌, ap, subst}
use Rattle.index_rows.specs.declared.change.Change.{Change}
use Rattle.answer_core.specs.Local.{Picks}
use Rattle.answer_core.proofs.look_up.look_up.Goals as goal

pub returns-clause-picks : goal.returns-clause-picks
returns-clause-picks g c =
    let held = c.look_once.ensures in
    let called = held.does.1.1 in
    let picks : Picks g.W.Truth.true_row held.does.1.0.now.log c.args.folders.now c.args.route.now c.look_once.result.1 =
    search rules in
    subst (λ (log : List Change). Picks g.W.Truth.true_row log c.args.folders.now c.args.route.now c.look_once.result.1)
    (ap (λ s. s.log) (held.does.1.2 ∙ sym held.does.0) ∙ sym held.seen) picks
