use Rattle.std.proofs.Common.{refl}
use Rattle.std.specs.Prelude.{option_copied}
use Rattle.sqlite.specs.Held.{state}
use Rattle.sqlite_keeper.specs.Statements.{edit_of}
use Rattle.sqlite_keeper.proofs.KeeperLemmas.{asks_change, by_laws, told_after}
use Rattle.sqlite_keeper.proofs.keeper.SqliteKeeper.edit.Goals as goal

-- a told database is told after the change
pub invariant_of-self : goal.invariant_of-self
invariant_of-self g c is =
    let before = c.self.inside.connection in
    let after = c.edit-answer.new.connection in
    told_after c.edit-answer.result (edit_of c.args.path.now (option_copied c.args.bytes)) (state g.F.Store before) (state g.F.Store after)
    (by_laws g.F.Store g.F.Telling.tells (record { clean = g.met.F.Telling.clean; opened = g.met.F.Telling.opened; numbered = g.met.F.Telling.numbered }) before after _ c.self.invariant c.edit-answer.ensures.tells is)

-- what the change tells is what keepers are asked for
pub returns-clause-asks : goal.returns-clause-asks
returns-clause-asks g c =
    let before = c.self.inside.connection in
    let after = c.edit-answer.new.connection in
    let told = by_laws g.F.Store g.F.Telling.tells (record { clean = g.met.F.Telling.clean; opened = g.met.F.Telling.opened; numbered = g.met.F.Telling.numbered }) before after _ c.self.invariant c.edit-answer.ensures.tells in
    rw (← c.self.view_is)
    (asks_change g.F.Store (record { connection = before; faults = c.self.inside.faults; epoch = c.self.inside.epoch }) (record { connection = after; faults = c.count.new.faults; epoch = c.self.inside.epoch })
    g.F.Telling.tells (edit_of c.args.path.now (option_copied c.args.bytes)) c.edit-answer.result told (c.count.ensures (edit_of c.args.path.now (option_copied c.args.bytes))) refl)
