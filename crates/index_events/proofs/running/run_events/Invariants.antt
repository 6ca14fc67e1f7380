-- Of the events those so far happened, and there is room for the other answers.
use Rattle.std.proofs.Common.{◌+◌, ◌≤◌, vec_capacity, vec_len}
use Rattle.std.specs.Prelude.{reverse}
use Rattle.index_events.specs.Events.{RunsFirst}
use Rattle.index_events.proofs.running.run_events.Given as goal

abbrev pub invariant-loop-event : goal.invariant-loop-event
invariant-loop-event g l = record {
  room : vec_len l.answers + vec_len l.events ≤ vec_capacity l.answers;
  runs : RunsFirst g.W.Truth.true_row g.S.K.Keeper.told g.S.K.Keeper.shows l.path (record { index = l.fn.state; store = g.S.Store.shows l.fn.store }) l.fn.events.items l.answers.items (reverse l.events.items) (record { index = l.state; store = g.S.Store.shows l.store });
}

abbrev pub decreases-loop-event : goal.decreases-loop-event
decreases-loop-event g l = vec_len l.events
