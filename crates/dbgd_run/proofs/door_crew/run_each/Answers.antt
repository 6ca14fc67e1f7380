-- Each slot may be run, and what the closure made of it is what its place is left with.
use denote.Exit.{unseen}
use denote.Param.Send.{Quiet-if}
use mir.Syntax.{of_param}
use Rattle.std.proofs.Common.{◌≡◌, slice_index_or, sym, subst}
use Rattle.index_rows.specs.declared.change.Change.{Change}
use Rattle.index_state.specs.declared.spare.Opening.{Opening}
use Rattle.index_state.specs.declared.state.State.{State}
use Rattle.lock_crew.specs.Runs.{SlotHas, SlotRan}
use Rattle.lock_crew.specs.declared.crew.Slot.{Slot}
use Rattle.lock_crew.proofs.Slots.{RanSlot}
use Rattle.conn_server.specs.Stage.{conn_setting}
use Rattle.conn_server.specs.Tallied.{HasRowIn}
use Rattle.dbgd_run.specs.Workers.{RunsWorker}
use Rattle.dbgd_run.specs.declared.worker.Worker.{Worker}
use Rattle.dbgd_run.proofs.door_crew.run_each.Goals as goal

pub for_each_mut-requires-clause-accepts : goal.for_each_mut-requires-clause-accepts
for_each_mut-requires-clause-accepts g c κs within = λ i p below is. (
  subst (SlotHas {C = Slot (State g.row.Y-W.Denot g.row.Y-K.Denot) (Worker g.row.Y-T.Denot g.row.Y-D.Denot g.row.Y-L.Denot) Change Opening}
      (λ slot. (slot.seat.lock ≡ c.args.shared.now.lock.now) × HasRowIn c.args.shared.now.book.now slot.place.share))
      (sym is) (c.requires.filled i p.now below),
  (
    record {
      owned = c.type_bounds.send-Y.owned;
      leaving = λ k. Quiet-if {D = g.row.Y.Denot} (k (of_param 0)) unseen unseen (λ x w. tt) (λ x w. tt);
    },
    record {
      owned = c.type_bounds.send-Y-W.owned;
      leaving = λ k. Quiet-if {D = g.row.Y-W.Denot} (k (of_param 3)) unseen unseen (λ x w. tt) (λ x w. tt);
    },
    record {
      owned = c.type_bounds.send-Y-K.owned;
      leaving = λ k. Quiet-if {D = g.row.Y-K.Denot} (k (of_param 4)) unseen unseen (λ x w. tt) (λ x w. tt);
    },
    record {
      owned = c.type_bounds.send-Y-T.owned;
      leaving = λ k. Quiet-if {D = g.row.Y-T.Denot} (k (of_param 5)) unseen unseen (λ x w. tt) (λ x w. tt);
    },
    record {
      owned = c.type_bounds.send-Y-D.owned;
      leaving = λ k. Quiet-if {D = g.row.Y-D.Denot} (k (of_param 6)) unseen unseen (λ x w. tt) (λ x w. tt);
    },
    record {
      owned = c.type_bounds.send-Y-L.owned;
      leaving = λ k. Quiet-if {D = g.row.Y-L.Denot} (k (of_param 7)) unseen unseen (λ x w. tt) (λ x w. tt);
    },
    record {
      owned = c.type_bounds.send-Y-T-File.owned;
      leaving = λ k. Quiet-if {D = g.row.Y-T-File.Denot} (k (of_param 8)) unseen unseen (λ x w. tt) (λ x w. tt);
    },
    record {
      owned = c.type_bounds.send-Y-D-Conn.owned;
      leaving = λ k. Quiet-if {D = g.row.Y-D-Conn.Denot} (k (of_param 9)) unseen unseen (λ x w. tt) (λ x w. tt);
    },
    record { shared = c.type_bounds.sync-G.shared },
    record { shared = c.type_bounds.sync-Rt.shared },
    record { shared = c.type_bounds.sync-Y-W.shared },
  ),
)

pub returns-clause-each : goal.returns-clause-each
returns-clause-each g c = λ i d below.
    let at = (c.for_each_mut.ensures i d below).1 in
    let way = SlotRan (RanSlot {C = Slot (State g.row.Y-W.Denot g.row.Y-K.Denot) (Worker g.row.Y-T.Denot g.row.Y-D.Denot g.row.Y-L.Denot) Change Opening} (λ slot. slot.seat) (λ slot. slot.place)
    (RunsWorker (conn_setting g.Y.W.Truth.true_row g.Y.T.Tree.told g.Y.W.Truth.version g.Y.T.Tree.shows c.args.shared.now.site.now.folders.now c.args.shared.now.book.now.rows) g.Y.D.Door.shows g.Y.L.Link.shows)) in
    subst (way (slice_index_or c.args.slots.now i d)) at.left (subst (λ old. way old at.after_call.now) at.argument_is at.call)
