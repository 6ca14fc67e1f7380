use Rattle.std.proofs.Common.{None, Some, refl, sym, arith}
use Rattle.std.proofs.lemmas.Bool.{false≢true}
use Rattle.index_keeper.specs.declared.answer.KeptAnswer.TheVariants.{All, Failed, OutOfMemory}
use Rattle.sqlite_keeper.specs.Reading.{LooksUpRows}
use Rattle.sqlite_keeper.proofs.KeeperLemmas.{asks_rows, by_laws, not_counted}
use Rattle.sqlite_keeper.proofs.ToldLemmas.{rows_told}
use Rattle.sqlite_keeper.proofs.keeper.SqliteKeeper.read.Goals as goal

-- rows strictly by path are the tables
pub returns-in-Ok-clause-tells : goal.returns-in-Ok-clause-tells
returns-in-Ok-clause-tells g c =
    rw (← c.self.view_is) (rows_told g.F.Store c.self.inside.connection c.read_all.new.connection (Some c.read_all.new.kept.items) c.read_all.ensures.ascends
    (record { gives = c.in-Ok.ensures.gives; leaves = c.read_all.ensures.leaves; outside = c.read_all.ensures.outside; survives = c.read_all.ensures.survives }))

pub returns-in-Ok-clause-asks : goal.returns-in-Ok-clause-asks
returns-in-Ok-clause-asks g c =
    let before = c.self.inside.connection in
    let after = c.read_all.new.connection in
    let looks : LooksUpRows g.F.Store before after (Some c.read_all.new.kept.items) =
    record { gives = c.in-Ok.ensures.gives; leaves = c.read_all.ensures.leaves; outside = c.read_all.ensures.outside; survives = c.read_all.ensures.survives } in
    let told = by_laws g.F.Store g.F.Telling.tells (record { clean = g.met.F.Telling.clean; opened = g.met.F.Telling.opened; numbered = g.met.F.Telling.numbered }) before after _ c.self.invariant (rows_told g.F.Store before after (Some c.read_all.new.kept.items) c.read_all.ensures.ascends looks) in
    rw (← c.self.view_is)
    (asks_rows g.F.Store (record { connection = before; faults = c.self.inside.faults; epoch = c.self.inside.epoch }) (record { connection = after; faults = c.self.inside.faults; epoch = c.self.inside.epoch })
    g.F.Telling.tells (All c.read_all.new.kept) told (not_counted c.self.inside.faults) refl)

-- a told database is told after a reading that fails
pub invariant_of-self-in-Err-OutOfMemory : goal.invariant_of-self-in-Err-OutOfMemory
invariant_of-self-in-Err-OutOfMemory g c is =
    let before = c.self.inside.connection in
    let after = c.read_all.new.connection in
    let looks : LooksUpRows g.F.Store before after None =
    record { gives = λ clean. tt; leaves = c.read_all.ensures.leaves; outside = c.read_all.ensures.outside; survives = c.read_all.ensures.survives } in
    (by_laws g.F.Store g.F.Telling.tells (record { clean = g.met.F.Telling.clean; opened = g.met.F.Telling.opened; numbered = g.met.F.Telling.numbered }) before after _ c.self.invariant (rows_told g.F.Store before after None tt looks) is).stays.told

pub invariant_of-self-in-Err-Failed : goal.invariant_of-self-in-Err-Failed
invariant_of-self-in-Err-Failed g c is =
    let before = c.self.inside.connection in
    let after = c.read_all.new.connection in
    let looks : LooksUpRows g.F.Store before after None =
    record { gives = λ clean. tt; leaves = c.read_all.ensures.leaves; outside = c.read_all.ensures.outside; survives = c.read_all.ensures.survives } in
    (by_laws g.F.Store g.F.Telling.tells (record { clean = g.met.F.Telling.clean; opened = g.met.F.Telling.opened; numbered = g.met.F.Telling.numbered }) before after _ c.self.invariant (rows_told g.F.Store before after None tt looks) is).stays.told

-- and asked for in vain
pub returns-in-Err-OutOfMemory-clause-asks : goal.returns-in-Err-OutOfMemory-clause-asks
returns-in-Err-OutOfMemory-clause-asks g c =
    let before = c.self.inside.connection in
    let after = c.read_all.new.connection in
    let looks : LooksUpRows g.F.Store before after None =
    record { gives = λ clean. tt; leaves = c.read_all.ensures.leaves; outside = c.read_all.ensures.outside; survives = c.read_all.ensures.survives } in
    let told = by_laws g.F.Store g.F.Telling.tells (record { clean = g.met.F.Telling.clean; opened = g.met.F.Telling.opened; numbered = g.met.F.Telling.numbered }) before after _ c.self.invariant (rows_told g.F.Store before after None tt looks) in
    rw (← c.self.view_is)
    (asks_rows g.F.Store (record { connection = before; faults = c.self.inside.faults; epoch = c.self.inside.epoch }) (record { connection = after; faults = c.self.inside.faults; epoch = c.self.inside.epoch })
    g.F.Telling.tells OutOfMemory told (not_counted c.self.inside.faults) refl)

pub returns-clause-asks : goal.returns-clause-asks
returns-clause-asks g c =
    let before = c.self.inside.connection in
    let after = c.read_all.new.connection in
    let looks : LooksUpRows g.F.Store before after None =
    record { gives = λ clean. tt; leaves = c.read_all.ensures.leaves; outside = c.read_all.ensures.outside; survives = c.read_all.ensures.survives } in
    let told = by_laws g.F.Store g.F.Telling.tells (record { clean = g.met.F.Telling.clean; opened = g.met.F.Telling.opened; numbered = g.met.F.Telling.numbered }) before after _ c.self.invariant (rows_told g.F.Store before after None tt looks) in
    rw (← c.self.view_is)
    (asks_rows g.F.Store (record { connection = before; faults = c.self.inside.faults; epoch = c.self.inside.epoch }) (record { connection = after; faults = c.raise.new.self; epoch = c.self.inside.epoch })
    g.F.Telling.tells Failed told
    (record { cause = record { later = c.raise.ensures.later; rose = λ _. omega (arith, c.raise.ensures.value) }; faultless = λ e. absurd (false≢true (sym e)) }) refl)

-- it tells the same
pub returns-in-Err-OutOfMemory-clause-tells : goal.returns-in-Err-OutOfMemory-clause-tells
returns-in-Err-OutOfMemory-clause-tells g c =
    let before = c.self.inside.connection in
    let after = c.read_all.new.connection in
    let looks : LooksUpRows g.F.Store before after None =
    record { gives = λ clean. tt; leaves = c.read_all.ensures.leaves; outside = c.read_all.ensures.outside; survives = c.read_all.ensures.survives } in
    rw (← c.self.view_is) (rows_told g.F.Store before after None tt looks)

pub returns-clause-tells : goal.returns-clause-tells
returns-clause-tells g c =
    let before = c.self.inside.connection in
    let after = c.read_all.new.connection in
    let looks : LooksUpRows g.F.Store before after None =
    record { gives = λ clean. tt; leaves = c.read_all.ensures.leaves; outside = c.read_all.ensures.outside; survives = c.read_all.ensures.survives } in
    rw (← c.self.view_is) (rows_told g.F.Store before after None tt looks)

-- and the database is told after rows that were given
pub invariant_of-self : goal.invariant_of-self
invariant_of-self g c is =
    let before = c.self.inside.connection in
    let after = c.read_all.new.connection in
    let looks : LooksUpRows g.F.Store before after (Some c.read_all.new.kept.items) =
    record { gives = c.in-Ok.ensures.gives; leaves = c.read_all.ensures.leaves; outside = c.read_all.ensures.outside; survives = c.read_all.ensures.survives } in
    (by_laws g.F.Store g.F.Telling.tells (record { clean = g.met.F.Telling.clean; opened = g.met.F.Telling.opened; numbered = g.met.F.Telling.numbered }) before after _ c.self.invariant (rows_told g.F.Store before after (Some c.read_all.new.kept.items) c.read_all.ensures.ascends looks) is).stays.told

pub returns-in-Ok-clause-looks : goal.returns-in-Ok-clause-looks
returns-in-Ok-clause-looks g c =
    rw (← c.self.view_is) (record { gives = c.in-Ok.ensures.gives; leaves = c.read_all.ensures.leaves; outside = c.read_all.ensures.outside; survives = c.read_all.ensures.survives })

pub returns-in-Err-OutOfMemory-clause-looks : goal.returns-in-Err-OutOfMemory-clause-looks
returns-in-Err-OutOfMemory-clause-looks g c =
    rw (← c.self.view_is) (record { gives = λ clean. tt; leaves = c.read_all.ensures.leaves; outside = c.read_all.ensures.outside; survives = c.read_all.ensures.survives })

pub returns-clause-looks : goal.returns-clause-looks
returns-clause-looks g c =
    rw (← c.self.view_is) (record { gives = λ clean. tt; leaves = c.read_all.ensures.leaves; outside = c.read_all.ensures.outside; survives = c.read_all.ensures.survives })
