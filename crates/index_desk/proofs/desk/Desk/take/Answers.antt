-- One hold.
use Rattle.std.proofs.Common.{rules}
use Rattle.index_desk.proofs.Goes.{index_held}
use Rattle.index_desk.proofs.desk.Desk.take.Goals as goal

pub returns-clause-holds : goal.returns-clause-holds
returns-clause-holds g c =
    index_held c.args.self.seat c.leave-seat.result c.enter-held.result.value c.value_mut.result.now c.take_held-name.new.state
    c.enter-held.ensures.begins c.enter-held.ensures.origin c.value_mut.ensures.value c.take_held-name.ensures.step
    c.take_held-name.ensures.goes_on c.take_held-name.ensures.holds (search rules) c.leave-seat.ensures.seen (search rules)
