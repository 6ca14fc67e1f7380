-- What stands at the path's place is what is found.
use Rattle.std.proofs.Common.{refl, sym}
use Rattle.index_rows.proofs.TallyLemmas.{count_is, counts_none}
use Rattle.index_rows.proofs.tally.count_in.Goals as goal

pub returns-in-Ok : goal.returns-in-Ok
returns-in-Ok c = count_is c.args.path.now c.args.entries.now c.args.entries.now c.in-Ok.place refl c.in-Ok.ensures c.count_there.result c.count_there.ensures

pub returns-in-Err : goal.returns-in-Err
returns-in-Err c = sym (counts_none c.args.path.now c.args.entries.now c.args.entries.now c.in-Err.field-0 c.in-Err.ensures)
