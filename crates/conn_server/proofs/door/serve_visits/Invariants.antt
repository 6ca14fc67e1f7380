-- The connections so far were served.
use Rattle.std.proofs.Common.{◌≡◌}
use Rattle.index_lock.specs.Tokens.{IsLater}
use Rattle.conn_server.specs.Doors.{ServesVisits}
use Rattle.conn_server.specs.Objects.{StayLent, setting_by, stage_by}
use Rattle.conn_server.proofs.door.serve_visits.Given as goal

abbrev pub invariant-loop : goal.invariant-loop
invariant-loop g l =
    ServesVisits (setting_by g.W.Truth.true_row g.T.Tree.told g.W.Truth.version g.T.Tree.shows l.fn.service.folders.now l.fn.objects)
    (stage_by g.L.Link.shows l.fn.desk.seat l.fn.objects) (g.D.Door.shows l.fn.door)
    (stage_by g.L.Link.shows l.desk.seat l.objects) (g.D.Door.shows l.door)
    × IsLater l.fn.desk.seat l.desk.seat
    × StayLent l.fn.objects l.objects
    × (l.service.folders.now ≡ l.fn.service.folders.now)
