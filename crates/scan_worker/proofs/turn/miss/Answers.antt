-- A name is missed in one hold, which puts nothing.
use Rattle.std.proofs.Common.{arith}
use Rattle.index_desk.proofs.Shown.{puts_grow}
use Rattle.scan_worker.proofs.turn.miss.Goals as goal

pub returns-then-was_out-clause-later : goal.returns-then-was_out-clause-later
returns-then-was_out-clause-later g c = c.miss-desk.ensures.later

pub returns-then-was_out-clause-counted : goal.returns-then-was_out-clause-counted
returns-then-was_out-clause-counted g c =
    let grows = puts_grow c.args.desk.seat.seen c.miss-desk.result.0.seat.seen c.miss-desk.ensures.later.log in omega arith

pub returns-else-was_out-clause-later : goal.returns-else-was_out-clause-later
returns-else-was_out-clause-later g c = c.miss-desk.ensures.later

pub returns-else-was_out-clause-counted : goal.returns-else-was_out-clause-counted
returns-else-was_out-clause-counted g c =
    let grows = puts_grow c.args.desk.seat.seen c.miss-desk.result.0.seat.seen c.miss-desk.ensures.later.log in omega arith
