use Rattle.std.proofs.Common.{◌<◌, length, arith}
use Rattle.row_types.specs.Rules.{rules}
use Rattle.dbgd_commands.specs.Stage.{setting}
use Rattle.dbgd_commands.proofs.StoreLemmas.{scans_closed, scans_opened, scans_wanting}
use Rattle.dbgd_commands.proofs.scan.scan.Goals as goal

pub returns-in-Opened-clause-scans : goal.returns-in-Opened-clause-scans
returns-in-Opened-clause-scans g c =
    let s = setting (rules g.W.Truth.version g.W.Truth.true_row g.W.Truth.told) g.T.Tree.told g.T.Tree.shows g.S.K.Keeper.told in
    scans_opened s c.args.path.now c.scan_keeper-end.result.0 c.in-Opened.ensures c.give_back.ensures
    (c.scan_keeper-end.ensures.ends (g.S.Store.shows c.args.store.now) (g.S.Store.shows c.open_store.new.self)
    (g.S.Store.shows c.give_back.new.self) c.in-Opened.ensures.holds c.give_back.ensures)
    c.scan_keeper-end.ensures.hands c.scan_keeper-end.ensures.loads c.scan_keeper-end.ensures.keeper

pub returns-in-Failed-clause-scans : goal.returns-in-Failed-clause-scans
returns-in-Failed-clause-scans g c =
    let some : 0 < length c.args.hands.now.items = omega arith in
    scans_closed (setting (rules g.W.Truth.version g.W.Truth.true_row g.W.Truth.told) g.T.Tree.told g.T.Tree.shows g.S.K.Keeper.told)
    c.args.path.now some c.in-Failed.ensures

pub returns-in-OutOfMemory-clause-scans : goal.returns-in-OutOfMemory-clause-scans
returns-in-OutOfMemory-clause-scans g c =
    let some : 0 < length c.args.hands.now.items = omega arith in
    scans_wanting (setting (rules g.W.Truth.version g.W.Truth.true_row g.W.Truth.told) g.T.Tree.told g.T.Tree.shows g.S.K.Keeper.told)
    c.args.path.now some c.in-OutOfMemory.ensures
