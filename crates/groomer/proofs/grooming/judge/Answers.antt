-- A name is judged in one hold.
use Rattle.std.proofs.Common.{arith}
use Rattle.groomer.proofs.MissLemmas.{judged_missed}
use Rattle.groomer.proofs.grooming.judge.Goals as goal

pub returns-clause-later : goal.returns-clause-later
returns-clause-later g c = c.judge-desk.ensures.holds.later

pub returns-clause-most : goal.returns-clause-most
returns-clause-most g c =
    let missed =
    judged_missed g.K.Keeper.told g.K.Keeper.shows c.args.name.now c.args.seen c.judge-desk.ensures.holds.old
    c.judge-desk.ensures.holds.new c.judge-desk.result.1 c.judge-desk.ensures.holds.does.does in
    omega arith

pub returns-clause-ends : goal.returns-clause-ends
returns-clause-ends g c = c.end_by.ensures c.judge-desk.result.0.seat.seen c.judge-desk.ensures.shows
