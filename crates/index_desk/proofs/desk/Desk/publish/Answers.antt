-- One hold, and what its log shows.
use Rattle.std.proofs.Common.{rules}
use Rattle.index_state.specs.Step.{publishes, to_publish}
use Rattle.index_desk.specs.Holds.{HoldsEvent}
use Rattle.index_desk.proofs.Goes.{index_held}
use Rattle.index_desk.proofs.Shown.{publish_puts, publish_shows}
use Rattle.index_desk.proofs.desk.Desk.publish.Goals as goal

pub returns : goal.returns
returns g c =
    let holds : HoldsEvent {K = g.row.K.Denot} g.W.Truth.true_row g.K.Keeper.told g.K.Keeper.shows (publishes c.args.row)
    (to_publish c.publish_held-answer.result) c.args.self.seat c.leave-seat.result =
    index_held c.args.self.seat c.leave-seat.result c.enter-held.result.value c.value_mut.result.now c.publish_held-answer.new.state
    c.enter-held.ensures.begins c.enter-held.ensures.origin c.value_mut.ensures.value c.publish_held-answer.ensures.step
    c.publish_held-answer.ensures.goes_on c.publish_held-answer.ensures.holds (search rules) c.leave-seat.ensures.seen (search rules) in
    record {
      holds = holds;
      puts = publish_puts g.K.Keeper.told g.K.Keeper.shows c.args.self.seat c.leave-seat.result c.args.row c.publish_held-answer.result holds;
      shows = publish_shows g.K.Keeper.told g.K.Keeper.shows c.args.self.seat c.leave-seat.result c.args.row c.publish_held-answer.result holds;
    }
