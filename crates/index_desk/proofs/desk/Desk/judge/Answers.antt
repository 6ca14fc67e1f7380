-- One hold, and what its log shows.
use Rattle.std.proofs.Common.{rules}
use Rattle.index_state.specs.Step.{judges, to_judge}
use Rattle.index_desk.specs.Holds.{HoldsEvent}
use Rattle.index_desk.proofs.Goes.{index_held}
use Rattle.index_desk.proofs.Shown.{judge_drops, judge_shows}
use Rattle.index_desk.proofs.desk.Desk.judge.Goals as goal

pub returns : goal.returns
returns g c =
    let holds : HoldsEvent {K = g.row.K.Denot} g.W.Truth.true_row g.K.Keeper.told g.K.Keeper.shows (judges c.args.name.now c.args.seen)
    (to_judge c.judge_held-answer.result) c.args.self.seat c.leave-seat.result =
    index_held c.args.self.seat c.leave-seat.result c.enter-held.result.value c.value_mut.result.now c.judge_held-answer.new.state
    c.enter-held.ensures.begins c.enter-held.ensures.origin c.value_mut.ensures.value c.judge_held-answer.ensures.step
    c.judge_held-answer.ensures.goes_on c.judge_held-answer.ensures.holds (search rules) c.leave-seat.ensures.seen (search rules) in
    record {
      holds = holds;
      drops = judge_drops g.K.Keeper.told g.K.Keeper.shows c.args.self.seat c.leave-seat.result c.args.name.now c.args.seen c.judge_held-answer.result holds;
      shows = judge_shows g.K.Keeper.told g.K.Keeper.shows c.args.self.seat c.leave-seat.result c.args.name.now c.args.seen c.judge_held-answer.result holds;
    }
