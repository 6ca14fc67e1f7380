-- One hold.
use Rattle.std.proofs.Common.{rules}
use Rattle.index_desk.proofs.Goes.{index_held}
use Rattle.index_desk.proofs.desk.Desk.groom_take.Goals as goal

pub returns : goal.returns
returns g c =
    index_held c.args.self.seat c.leave-seat.result c.enter-held.result.value c.value_mut.result.now c.groom_held-task.new.state
    c.enter-held.ensures.begins c.enter-held.ensures.origin c.value_mut.ensures.value c.groom_held-task.ensures.step
    c.groom_held-task.ensures.goes_on c.groom_held-task.ensures.holds (search rules) c.leave-seat.ensures.seen (search rules)
