-- One connection, or none.
use Rattle.std.proofs.Common.{refl}
use Rattle.http_wire.specs.declared.door.DoorAnswer.TheVariants.{Closed, Failed}
use Rattle.conn_server.specs.declared.door.DoorEnd.TheVariants as end
use Rattle.conn_server.proofs.DoorLemmas.{nobody_of, visit_of}
use Rattle.conn_server.proofs.door.serve_next.Goals as goal

pub returns-in-Came-clause-next : goal.returns-in-Came-clause-next
returns-in-Came-clause-next g c =
    visit_of g.D.Conn.Stream.shows c.in-Came.conn c.serve_by-desk.new.conn _ _ _ (g.D.Door.shows c.args.door.now)
    (g.D.Door.shows c.accept.new.self) (g.D.Door.shows c.ended.new.self) c.serve_by-desk.result.1 c.in-Came.ensures.accepts
    c.ended.ensures.takes_back c.serve_by-desk.ensures.serves

pub returns-in-Closed-clause-next : goal.returns-in-Closed-clause-next
returns-in-Closed-clause-next g c =
    nobody_of g.D.Conn.Stream.shows _ (g.D.Door.shows c.args.door.now) (g.D.Door.shows c.accept.new.self) Closed end.Closed refl refl
    (λ f. absurd (cc f)) c.in-Closed.ensures.accepts

pub returns-in-Failed-clause-next : goal.returns-in-Failed-clause-next
returns-in-Failed-clause-next g c =
    nobody_of g.D.Conn.Stream.shows _ (g.D.Door.shows c.args.door.now) (g.D.Door.shows c.accept.new.self) Failed end.Failed refl refl
    (λ f. refl) c.in-Failed.ensures.accepts
