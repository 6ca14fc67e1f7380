-- The hands that were lent, and behind them the others again.
use Rattle.std.proofs.Common.{◌≡◌, ◌+◌, ◌<◌, ◌≤◌, length, min, refl, arith}
use Rattle.row_types.specs.Rules.{rules}
use Rattle.dbgd_commands.specs.Stage.{setting}
use Rattle.dbgd_commands.proofs.OtherHands.{others_stay_behind, scans_lent}
use Rattle.dbgd_commands.proofs.StoreLemmas.{scans_wanting}
use Rattle.dbgd_commands.proofs.scan.scan_by.Goals as goal

pub returns-in-Ok-clause-scans : goal.returns-in-Ok-clause-scans
returns-in-Ok-clause-scans g c =
    let some : 3 ≤ c.args.workers + 2 = omega (arith, c.requires.fits.one) in
    let few : c.asked-count.result ≡ min (c.args.workers + 2) (length c.args.outside.now.hands.items) =
    omega (arith, c.asked-count.ensures, c.args.outside.now.hands.ok.0) in
    scans_lent (setting (rules g.X.W.Truth.version g.X.W.Truth.true_row g.X.W.Truth.told) g.X.T.Tree.told g.X.T.Tree.shows g.X.S.K.Keeper.told)
    c.args.path.now c.scan-end.result (c.args.workers + 2) c.asked-count.result c.args.outside.now.hands.items
    c.scan-end.new.hands.items c.rejoin.new.hands.items some few
    (rw c.in-Ok.ensures.others at c.rejoin.ensures.all) (rw c.in-Ok.ensures.front at c.scan-end.ensures.scans)

pub returns-in-Ok-clause-others : goal.returns-in-Ok-clause-others
returns-in-Ok-clause-others g c =
    let few : c.asked-count.result ≡ min (c.args.workers + 2) (length c.args.outside.now.hands.items) =
    omega (arith, c.asked-count.ensures, c.args.outside.now.hands.ok.0) in
    let long : length c.scan-end.new.hands.items ≡ c.asked-count.result =
    omega (arith, c.scan-end.ensures.count, c.scan-end.new.hands.ok.0, c.in-Ok.ensures.count) in
    others_stay_behind (c.args.workers + 2) c.asked-count.result c.args.outside.now.hands.items c.scan-end.new.hands.items
    c.rejoin.new.hands.items few long (rw c.in-Ok.ensures.others at c.rejoin.ensures.all)

pub returns-in-Err-clause-scans : goal.returns-in-Err-clause-scans
returns-in-Err-clause-scans g c =
    let some : 0 < length c.args.outside.now.hands.items = omega (arith, c.requires.hand, c.args.outside.now.hands.ok.0) in
    rw c.in-Err.ensures.err
    (scans_wanting (setting (rules g.X.W.Truth.version g.X.W.Truth.true_row g.X.W.Truth.told) g.X.T.Tree.told g.X.T.Tree.shows g.X.S.K.Keeper.told)
    c.args.path.now some refl)
