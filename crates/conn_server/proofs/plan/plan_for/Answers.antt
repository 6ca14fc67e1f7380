-- A reply to bytes that are no head can be written.
use Rattle.conn_server.specs.Plans.{turn_plan}
use Rattle.conn_server.proofs.PlanLemmas.{can_refuse}
use Rattle.conn_server.proofs.plan.plan_for.Goals as goal

pub returns-in-Refused-clause-can : goal.returns-in-Refused-clause-can
returns-in-Refused-clause-can g c =
    can_refuse g.W.Truth.version c.in-Refused.fault (turn_plan g.T.Tree.opened c.plan_refusal.result)
    (c.plan_refusal.ensures g.T.Tree.opened)
