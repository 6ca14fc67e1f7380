-- What came of the store, by how the server ended.
use Rattle.std.proofs.Common.{◌<◌, length, refl, arith}
use Rattle.dbgd_commands.proofs.StoreLemmas.{scans_closed, scans_wanting}
use Rattle.dbgd_run.proofs.StoreServed.{store_opened}
use Rattle.dbgd_run.proofs.serving.serve_store.Goals as goal

pub returns-in-Opened-clause-serves : goal.returns-in-Opened-clause-serves
returns-in-Opened-clause-serves g c =
    let some : 0 < length c.args.crew.hands.items = omega arith in
    store_opened _ g.X.S.K.Keeper.shows _ _ _ _ _ _ _ _ _ _ _ c.in-Opened.ensures c.give_back.ensures some
    c.serve_keeper-keeper.ensures.serves

pub returns-in-Failed-clause-serves : goal.returns-in-Failed-clause-serves
returns-in-Failed-clause-serves g c =
    let some : 0 < length c.args.crew.hands.items = omega arith in
    rw (c.unserved.ensures.hands, c.unserved.ensures.workers, c.unserved.ensures.end)
    (record { scans = scans_closed _ c.args.site.now.path.now some c.in-Failed.ensures; quiet = refl; same = (refl, refl, refl) })

pub returns-in-OutOfMemory-clause-serves : goal.returns-in-OutOfMemory-clause-serves
returns-in-OutOfMemory-clause-serves g c =
    let some : 0 < length c.args.crew.hands.items = omega arith in
    rw (c.unserved-in-OutOfMemory.ensures.hands, c.unserved-in-OutOfMemory.ensures.workers, c.unserved-in-OutOfMemory.ensures.end)
    (record { scans = scans_wanting _ c.args.site.now.path.now some c.in-OutOfMemory.ensures; quiet = refl; same = (refl, refl, refl) })
