-- The runs of all slots are those of all hands.
use Rattle.index_rows.specs.declared.change.Change.{Change}
use Rattle.index_state.specs.declared.spare.Opening.{Opening}
use Rattle.index_state.specs.declared.state.State.{State}
use Rattle.lock_crew.specs.declared.crew.Slot.{Slot}
use Rattle.lock_crew.proofs.Slots.{run_places}
use Rattle.pass_runner.specs.Helped.{HelpsFrom}
use Rattle.pass_runner.specs.declared.helper.Helper.{Helper}
use Rattle.pass_runner.proofs.crew.run_crew.Goals as goal

pub returns-clause-ran : goal.returns-clause-ran
returns-clause-ran g c =
    run_places {C = Slot (State g.row.W.Denot g.row.K.Denot) (Helper g.row.T.Denot) Change Opening} (λ slot. slot.seat) (λ slot. slot.place)
    (HelpsFrom g.T.Tree.shows g.T.Tree.told g.W.Truth.version) c.args.desk.seat c.seats_in-seat.result.0
    _ _ _ _ c.seats_out-seat.ensures.slots c.run_slots.ensures.ran c.seats_in-seat.ensures.places
