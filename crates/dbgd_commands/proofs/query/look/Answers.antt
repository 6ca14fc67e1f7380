use Rattle.dbgd_commands.proofs.QueryLemmas.{queries_closed, queries_opened, queries_wanting}
use Rattle.dbgd_commands.proofs.query.look.Goals as goal

pub returns-in-Opened : goal.returns-in-Opened
returns-in-Opened g c =
    queries_opened g.S.K.Keeper.told c.args.path.now c.args.id.now c.look_keeper-end.result.0 c.in-Opened.ensures c.give_back.ensures
    (c.look_keeper-end.ensures.ends (g.S.Store.shows c.args.store.now) (g.S.Store.shows c.open_store.new.self)
    (g.S.Store.shows c.give_back.new.self) c.in-Opened.ensures.holds c.give_back.ensures)
    c.look_keeper-end.ensures.keeper

pub returns-in-Failed : goal.returns-in-Failed
returns-in-Failed g c = queries_closed g.S.K.Keeper.told c.args.path.now c.args.id.now c.in-Failed.ensures

pub returns-in-OutOfMemory : goal.returns-in-OutOfMemory
returns-in-OutOfMemory g c = queries_wanting g.S.K.Keeper.told c.args.path.now c.args.id.now c.in-OutOfMemory.ensures
