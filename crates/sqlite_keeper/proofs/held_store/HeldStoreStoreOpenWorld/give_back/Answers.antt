use Rattle.std.proofs.Common.{rules, refl}
use Rattle.sqlite_keeper.proofs.KeeperLemmas.{shown_told}
use Rattle.sqlite_keeper.proofs.held_store.HeldStoreStoreOpenWorld.give_back.Goals as goal

-- the tables that are told are the connection's
pub returns-clause-takes : goal.returns-clause-takes
returns-clause-takes g c =
    rw (← c.self.view_is, ← c.keeper.view_is) (record { image = λ is. shown_told g.F.Telling.tells _ is; made = refl; counted = search rules; later = search rules; number = refl; paths = refl })
