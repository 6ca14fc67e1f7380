-- What was read and answered is one exchange, or what is left without one.
use Rattle.std.proofs.Common.{ap}
use Rattle.conn_server.specs.Objects.{stage_by}
use Rattle.conn_server.proofs.TurnLemmas.{turn_of}
use Rattle.conn_server.proofs.turn.next_turn.Goals as goal

pub returns-clause-turn : goal.returns-clause-turn
returns-clause-turn g c =
    let planned = c.plan_next-desk.ensures in
    turn_of _ c.args.last (stage_by g.L.Link.shows c.args.desk.seat c.args.objects.now)
    (stage_by g.L.Link.shows c.plan_next-desk.result.0.seat c.plan_next-desk.new.objects) c.carry_out-turn.new.hand
    c.carry_out-turn.new.share c.args.buffers.now.reader c.plan_next-desk.new.reader (g.N.Stream.shows c.args.conn.now)
    (g.N.Stream.shows c.plan_next-desk.new.conn) (g.N.Stream.shows c.carry_out-turn.new.conn) _ c.carry_out-turn.result
    c.requires.open planned.later.log (ap (λ origin. origin.epoch) planned.later.origin) planned.plans c.carry_out-turn.ensures.does
