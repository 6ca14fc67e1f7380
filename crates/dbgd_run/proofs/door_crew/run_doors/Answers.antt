-- What each run made of its slot, as of the lists.
use Rattle.std.proofs.Common.{◌≡◌, All, length, drop, refl, sym, subst, ◌∙◌}
use Rattle.std.specs.List.{AllZip}
use Rattle.index_rows.specs.declared.change.Change.{Change}
use Rattle.index_state.specs.declared.spare.Opening.{Opening}
use Rattle.index_state.specs.declared.state.State.{State}
use Rattle.lock_crew.specs.Runs.{SlotHas, SlotRan}
use Rattle.lock_crew.specs.declared.crew.Slot.{Slot}
use Rattle.lock_crew.proofs.Slots.{RanSlot, ran_locks}
use Rattle.lock_crew.proofs.Zips.{front_all, zip_by_index}
use Rattle.conn_server.specs.Stage.{conn_setting}
use Rattle.conn_server.specs.Tallied.{HasRowIn}
use Rattle.dbgd_run.specs.Workers.{RunsWorker}
use Rattle.dbgd_run.specs.declared.worker.Worker.{Worker}
use Rattle.dbgd_run.proofs.WorkerLemmas.{locks_of}
use Rattle.dbgd_run.proofs.door_crew.run_doors.Goals as goal

pub returns : goal.returns
returns g c =
    let before = c.as_mut_slice.ensures in
    let each = c.run_each.ensures in
    let old = c.args.slots.now.items in
    let new = c.run_each.new.slots in
    let runs = RunsWorker (conn_setting g.Y.W.Truth.true_row g.Y.T.Tree.told g.Y.W.Truth.version g.Y.T.Tree.shows c.args.shared.now.site.now.folders.now c.args.shared.now.book.now.rows) g.Y.D.Door.shows g.Y.L.Link.shows in
    let way = SlotRan (RanSlot {C = Slot (State g.row.Y-W.Denot g.row.Y-K.Denot) (Worker g.row.Y-T.Denot g.row.Y-D.Denot g.row.Y-L.Denot) Change Opening} (λ slot. slot.seat) (λ slot. slot.place) runs) in
    let long : c.args.slots.now.len ≡ length new = sym (each.length ∙ before.len) in
    let ran = subst (λ xs. AllZip way xs new) before.value (zip_by_index way c.as_mut_slice.result.now new each.length each.each) in
    let same = sym (front_all c.args.slots.now.len new (drop (length new) old) long) in record {
      ran = subst (AllZip way old) same ran;
      locks = subst (All (SlotHas {C = Slot (State g.row.Y-W.Denot g.row.Y-K.Denot) (Worker g.row.Y-T.Denot g.row.Y-D.Denot g.row.Y-L.Denot) Change Opening} (λ slot. slot.seat.lock ≡ c.args.shared.now.lock.now))) same
          (ran_locks (λ slot. slot.seat) (λ slot. slot.place) runs c.args.shared.now.lock.now old new
          (locks_of {C = Slot (State g.row.Y-W.Denot g.row.Y-K.Denot) (Worker g.row.Y-T.Denot g.row.Y-D.Denot g.row.Y-L.Denot) Change Opening} (λ slot. slot.seat)
          (λ slot. HasRowIn c.args.shared.now.book.now slot.place.share) c.args.shared.now.lock.now old c.requires.filled) ran);
      count = refl;
    }
