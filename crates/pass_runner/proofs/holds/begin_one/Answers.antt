-- What the first hold shows.
use Rattle.path_scope.specs.Scope.{scope_of}
use Rattle.pass_runner.proofs.HoldLemmas.{begin_none, begin_shown}
use Rattle.pass_runner.proofs.holds.begin_one.Goals as goal

pub returns-clause-later : goal.returns-clause-later
returns-clause-later g c = c.begin-desk.ensures.holds.later

pub returns-clause-none : goal.returns-clause-none
returns-clause-none g c =
    begin_none g.K.Keeper.told g.K.Keeper.shows c.args.listing
    (scope_of c.args.roots.items (g.P.Selection.takes c.args.select.now)) c.begin-desk.result.1 c.begin-desk.ensures.holds c.requires

pub returns-clause-shows : goal.returns-clause-shows
returns-clause-shows g c =
    begin_shown g.K.Keeper.told g.K.Keeper.shows c.args.listing
    (scope_of c.args.roots.items (g.P.Selection.takes c.args.select.now)) c.begin-desk.result.1 c.begin-desk.ensures.holds
