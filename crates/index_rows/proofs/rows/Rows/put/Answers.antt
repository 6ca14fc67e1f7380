-- The prepared row is the one that is put, so the log has its name.
use Rattle.std.proofs.Common.{◌<◌, vec_len}
use Rattle.std.specs.Vec.{vec_capacity}
use Rattle.index_rows.specs.Slots.{rows_in_slots}
use Rattle.index_rows.specs.Table.{HasRoom}
use Rattle.index_rows.proofs.KeptLemmas.{facts_from, at_rest, put_fits, put_index}
use Rattle.index_rows.proofs.rows.Rows.put.Goals as goal

pub put-requires-clause-fits : goal.put-requires-clause-fits
put-requires-clause-fits g c = put_fits c.self.view_is c.self.invariant.index c.requires

pub returns-clause-holds : goal.returns-clause-holds
returns-clause-holds g c =
    put_index c.self.view_is c.self.invariant.index c.requires c.in-Put.ensures.value c.into_row.ensures.value c.into_row.ensures.holds c.into_name-name.ensures
    c.put.ensures c.list_change.ensures c.replace.ensures.after

pub invariant_of-self : goal.invariant_of-self
invariant_of-self g c =
    at_rest g.W.Truth.true_row (facts_from (rows_in_slots c.put.new.self.slots) c.list_change.new.log.items c.replace.new.dest)
    (λ row. HasRoom row c.put.new.self) (vec_len c.list_change.new.log < vec_capacity c.list_change.new.log) c.replace.ensures.after
    (put_index c.self.view_is c.self.invariant.index c.requires c.in-Put.ensures.value c.into_row.ensures.value c.into_row.ensures.holds c.into_name-name.ensures
    c.put.ensures c.list_change.ensures c.replace.ensures.after)
