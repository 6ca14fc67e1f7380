use Rattle.std.proofs.Common.{Bool, subst}
use Rattle.index_events.specs.Puts.{EndLasts}
use Rattle.store_tests.proofs.events.run_told.Goals as goal

-- the keeper tells
pub returns : goal.returns
returns g c = subst (λ (t : Bool). EndLasts t g.S.K.Keeper.shows c.args.events.items c.run_events.result) c.requires c.run_events.ensures.lasts
