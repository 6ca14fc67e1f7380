use Rattle.upstream_wire.proofs.MemDialLemmas.{connects_by}
use Rattle.upstream_wire.proofs.mem_dial.MemDialDial.connect.Goals as goal

pub returns-clause-connects : goal.returns-clause-connects
returns-clause-connects g c =
    connects_by c.args.self.now c.args.host.now c.args.port c.next.result c.next.new.self c.args.self.now.waiting c.next.ensures
