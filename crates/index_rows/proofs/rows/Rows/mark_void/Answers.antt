-- The change that is listed leaves the names that the log left.
use Rattle.std.proofs.Common.{◌<◌, vec_len}
use Rattle.std.specs.Vec.{vec_capacity}
use Rattle.index_rows.specs.Slots.{rows_in_slots}
use Rattle.index_rows.specs.Table.{HasRoom}
use Rattle.index_rows.proofs.KeptLemmas.{facts_from, at_rest, void_index, void_same}
use Rattle.index_rows.proofs.rows.Rows.mark_void.Goals as goal

pub returns-clause-void : goal.returns-clause-void
returns-clause-void g c =
    void_same c.self.view_is c.self.invariant.index c.requires c.replace-prepared.ensures.value c.void_change.ensures c.list_change.ensures

pub returns-clause-holds : goal.returns-clause-holds
returns-clause-holds g c =
    void_index c.self.view_is c.self.invariant.index c.requires c.replace-prepared.ensures.value c.void_change.ensures c.give_up.ensures c.list_change.ensures c.replace-prepared.ensures.after

pub invariant_of-self : goal.invariant_of-self
invariant_of-self g c =
    at_rest g.W.Truth.true_row (facts_from (rows_in_slots c.give_up.new.rows.slots) c.list_change.new.log.items c.replace-prepared.new.dest)
    (λ row. HasRoom row c.give_up.new.rows) (vec_len c.list_change.new.log < vec_capacity c.list_change.new.log) c.replace-prepared.ensures.after
    (void_index c.self.view_is c.self.invariant.index c.requires c.replace-prepared.ensures.value c.void_change.ensures c.give_up.ensures c.list_change.ensures c.replace-prepared.ensures.after)
