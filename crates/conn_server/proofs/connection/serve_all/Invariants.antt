-- The requests so far were answered by replies behind which the connection goes on.
use Rattle.std.proofs.Common.{◌-◌, ◌<◌, ◌≤◌, length, vec_capacity}
use Rattle.index_lock.specs.Tokens.{IsLater}
use Rattle.conn_server.specs.Connection.{fresh_wire}
use Rattle.conn_server.specs.Objects.{StayLent, setting_by, stage_by}
use Rattle.conn_server.specs.Stage.{wire_of}
use Rattle.conn_server.specs.declared.connection.TheConstants.{REQUESTS}
use Rattle.conn_server.proofs.EndLemmas.{IsOpen}
use Rattle.conn_server.proofs.connection.serve_all.Given as goal

abbrev pub invariant-loop-entry : goal.invariant-loop-entry
invariant-loop-entry g l =
    IsOpen (setting_by g.W.Truth.true_row g.T.Tree.told g.W.Truth.version g.T.Tree.shows l.service.folders.now l.fn.objects)
    (stage_by g.L.Link.shows l.fn.desk.seat l.fn.objects) (fresh_wire (g.N.Stream.shows l.fn.conn)) l.served.items
    (stage_by g.L.Link.shows l.desk.seat l.objects) (wire_of (g.N.Stream.shows l.conn) l.buffers.reader)
    × IsLater l.fn.desk.seat l.desk.seat
    × StayLent l.fn.objects l.objects
    × (length l.served.items < REQUESTS)
    × (REQUESTS ≤ vec_capacity l.served)

abbrev pub decreases-loop-entry : goal.decreases-loop-entry
decreases-loop-entry g l = REQUESTS - length l.served.items
