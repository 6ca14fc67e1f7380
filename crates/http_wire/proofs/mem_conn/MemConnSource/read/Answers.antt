use Rattle.http_wire.proofs.ConnLemmas.{reads_is}
use Rattle.http_wire.proofs.mem_conn.MemConnSource.read.Goals as goal

pub returns-clause-reads : goal.returns-clause-reads
returns-clause-reads c =
    let later = rw c.give.ensures.state at c.give.ensures.later in
    let told = rw c.give.ensures.exact at c.give.ensures.told in
    rw (c.give.ensures.state, c.give.ensures.exact)
    (reads_is c.args.self.now c.give.new.self.calls c.args.room.now c.give.new.room c.requires c.give.ensures.cuts c.give.ensures.came
    c.give.auto.room later told)
