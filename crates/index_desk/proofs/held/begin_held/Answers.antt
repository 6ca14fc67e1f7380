-- The log goes on.
use Rattle.path_scope.specs.Scope.{scope_of}
use Rattle.index_desk.proofs.Goes.{begin_goes}
use Rattle.index_desk.proofs.held.begin_held.Goals as goal

pub returns-clause-goes_on : goal.returns-clause-goes_on
returns-clause-goes_on g c =
    begin_goes c.args.listing (scope_of c.args.roots.items (g.P.Selection.takes c.args.select.now)) c.requires (c.rows-rows.ensures.holds.skipped_names_stand.none c.requires)
    c.begin-begun.result c.begin-begun.ensures.step
