-- The walk is one of the log that the token has seen.
use Rattle.std.proofs.Common.{List, rules, sym, ◌∙◌, ap, subst}
use Rattle.index_rows.specs.declared.change.Change.{Change}
use Rattle.row_walk.specs.Holds.{IsNewWalk}
use Rattle.row_walk.specs.Walk.{IsWalk}
use Rattle.row_walk.proofs.holds.begin.Goals as goal

pub returns-clause-walk : goal.returns-clause-walk
returns-clause-walk g c = λ keeps.
    let held = c.look_once.ensures in
    let called = held.does.1.1 in
    let fresh : IsNewWalk g.W.Truth.true_row held.does.1.0.now.log c.look_once.result.1 =
    search rules in
    subst (λ (log : List Change). IsWalk g.W.Truth.true_row keeps log c.look_once.result.1)
    (ap (λ s. s.log) (held.does.1.2 ∙ sym held.does.0) ∙ sym held.seen) (fresh.any keeps)
