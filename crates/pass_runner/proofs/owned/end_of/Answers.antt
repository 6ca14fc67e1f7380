use Rattle.std.proofs.Common.{Some, ap, sym, ◌∙◌}
use Rattle.row_types.specs.Rules.{rules}
use Rattle.scan_queue.specs.declared.miss.Miss.{Miss}
use Rattle.pass_runner.proofs.Appearing.{first_apart}
use Rattle.pass_runner.proofs.PassEnds.{whole_done}
use Rattle.pass_runner.proofs.owned.end_of.Goals as goal

pub returns-in-Ok : goal.returns-in-Ok
returns-in-Ok g c =
    first_apart c.in-Ok.miss c.show_index.ensures c.requires.handed
    (sym c.in-Some.ensures.first ∙ ap (λ (m : Miss). Some m) (sym c.in-Ok.ensures))

pub returns-in-None : goal.returns-in-None
returns-in-None g c =
    whole_done (rules g.W.Truth.version g.W.Truth.true_row g.W.Truth.told) g.K.Keeper.told g.K.Keeper.shows c.requires.handed
    c.in-None.ensures.first c.standing-standing.ensures.value c.standing-standing.ensures.whole c.summary_of.ensures
