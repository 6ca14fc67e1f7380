-- The prepared name is that of the path's row, so its drop is replayed.
use Rattle.std.proofs.Common.{◌<◌, vec_len}
use Rattle.std.specs.Vec.{vec_capacity}
use Rattle.index_rows.specs.Slots.{rows_in_slots}
use Rattle.index_rows.specs.Table.{HasRoom}
use Rattle.index_rows.proofs.KeptLemmas.{facts_from, at_rest, drop_index}
use Rattle.index_rows.proofs.rows.Rows.drop_path.Goals as goal

pub returns-clause-holds : goal.returns-clause-holds
returns-clause-holds g c =
    drop_index c.args.path.now c.self.view_is c.self.invariant.index c.requires c.in-Drop.ensures.value c.remove.ensures c.list_change.ensures c.replace.ensures.after

pub invariant_of-self : goal.invariant_of-self
invariant_of-self g c =
    at_rest g.W.Truth.true_row (facts_from (rows_in_slots c.remove.new.self.slots) c.list_change.new.log.items c.replace.new.dest)
    (λ row. HasRoom row c.remove.new.self) (vec_len c.list_change.new.log < vec_capacity c.list_change.new.log) c.replace.ensures.after
    (drop_index c.args.path.now c.self.view_is c.self.invariant.index c.requires c.in-Drop.ensures.value c.remove.ensures c.list_change.ensures c.replace.ensures.after)
