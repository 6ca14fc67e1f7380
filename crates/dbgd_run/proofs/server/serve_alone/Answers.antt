-- Each door was served by a token that was split off, at beginnings of what the token of all has seen.
use Rattle.index_rows.specs.declared.change.Change.{Change}
use Rattle.index_state.specs.declared.spare.Opening.{Opening}
use Rattle.index_state.specs.declared.state.State.{State}
use Rattle.lock_crew.specs.declared.crew.Slot.{Slot}
use Rattle.lock_crew.proofs.Slots.{run_places}
use Rattle.conn_server.specs.Stage.{conn_setting}
use Rattle.conn_server.specs.Tallied.{HasRowIn}
use Rattle.dbgd_run.specs.Workers.{RunsWorker}
use Rattle.dbgd_run.specs.declared.worker.Worker.{Worker}
use Rattle.dbgd_run.proofs.WorkerLemmas.{all_served, ready_all}
use Rattle.dbgd_run.proofs.server.serve_alone.Goals as goal

-- the slots have the shares of the places
pub run_doors-requires-clause-filled : goal.run_doors-requires-clause-filled
run_doors-requires-clause-filled g c = λ κs within.
    ready_all {C = Slot (State g.row.X-W.Denot g.row.X-S-K.Denot) (Worker g.row.X-T.Denot g.row.X-D.Denot g.row.X-L.Denot) Change Opening} (λ slot. slot.seat) (λ slot. slot.place) (λ place. HasRowIn c.args.workers.book.now place.share)
    c.args.lead.lock.now c.args.lead.tools.seat c.args.lead.locked c.args.workers.all.items _ c.args.workers.rows c.seats_out-seat.ensures.slots

pub returns-clause-doors : goal.returns-clause-doors
returns-clause-doors g c =
    let setting = (conn_setting g.X.W.Truth.true_row g.X.T.Tree.told g.X.W.Truth.version g.X.T.Tree.shows c.args.site.now.folders.now c.args.workers.book.now.rows) in
    all_served setting g.X.D.Door.shows g.X.L.Link.shows c.args.lead.tools.seat c.seats_in-seat.result.0
    c.args.workers.all.items c.seats_in-seat.result.1.items
    (run_places {C = Slot (State g.row.X-W.Denot g.row.X-S-K.Denot) (Worker g.row.X-T.Denot g.row.X-D.Denot g.row.X-L.Denot) Change Opening} (λ slot. slot.seat) (λ slot. slot.place)
    (RunsWorker setting g.X.D.Door.shows g.X.L.Link.shows) c.args.lead.tools.seat c.seats_in-seat.result.0
    _ _ _ _ c.seats_out-seat.ensures.slots c.run_doors.ensures.ran c.seats_in-seat.ensures.places)
