use Rattle.upstream_wire.proofs.DialLemmas.{exchanges, exchanges_none}
use Rattle.upstream_wire.proofs.exchange.exchange.Goals as goal

pub returns-in-Ok : goal.returns-in-Ok
returns-in-Ok g c =
    exchanges (g.N.Stream.shows c.args.conn.now) (g.N.Stream.shows c.write_all.new.sink) (g.N.Stream.shows c.read_answer.new.conn)
    c.args.request.now c.read_answer.result c.in-Ok.ensures c.read_answer.ensures

pub returns-in-Err : goal.returns-in-Err
returns-in-Err g c =
    exchanges_none (g.N.Stream.shows c.args.conn.now) (g.N.Stream.shows c.write_all.new.sink) c.args.request.now c.in-Err.ensures
