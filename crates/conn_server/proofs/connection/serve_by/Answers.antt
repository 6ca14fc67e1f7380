-- There was no memory for the report or for what is read into: nothing was read or written.
use Rattle.std.proofs.Common.{refl}
use Rattle.conn_server.specs.declared.report.ConnEnd.TheVariants as end
use Rattle.conn_server.proofs.EndLemmas.{ends_at_once}
use Rattle.conn_server.proofs.connection.serve_by.Goals as goal

pub returns-in_default-clause-serves : goal.returns-in_default-clause-serves
returns-in_default-clause-serves g c =
    ends_at_once _ _ (g.N.Stream.shows c.args.conn.now) (record { served = c.new.result; end = end.OutOfMemory }) c.new.ensures.items refl
