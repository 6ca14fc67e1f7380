-- What each hand came to, by the names that the index skips.
use Rattle.std.proofs.Common.{List, ap, subst}
use Rattle.std.specs.List.{AllZip}
use Rattle.row_types.specs.Name.{NameFacts}
use Rattle.index_state.specs.State.{Origin}
use Rattle.lock_crew.proofs.Zips.{zip_weaker}
use Rattle.pass_runner.specs.Helped.{HelpedFrom}
use Rattle.pass_runner.proofs.shared.run_shared.Goals as goal

pub returns-in-Ok-clause-ran : goal.returns-in-Ok-clause-ran
returns-in-Ok-clause-ran g c =
    subst (λ (spared : List NameFacts). AllZip (HelpedFrom g.T.Tree.shows g.T.Tree.told g.W.Truth.version spared)
    c.args.helpers.items c.run_crew-desk.result.1.items)
    (ap (λ (o : Origin). o.spared) c.in-Ok.ensures.seen.1)
    (zip_weaker (λ before after ran. ran.made) c.args.helpers.items c.run_crew-desk.result.1.items c.run_crew-desk.ensures.ran)
