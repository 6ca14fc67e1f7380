-- A head is decided, and its reply can be written.
use Rattle.conn_server.specs.Asked.{readable, told_facts}
use Rattle.conn_server.specs.Bodies.{decided_facts}
use Rattle.conn_server.proofs.CaseLemmas.{can_send}
use Rattle.conn_server.proofs.PlanLemmas.{replies_as}
use Rattle.conn_server.proofs.plan.plan_head.Goals as goal

pub returns-clause-plans : goal.returns-clause-plans
returns-clause-plans g c = record {
  decided = decided_facts g.T.Tree.opened c.decide-desk.result.1;
  decides = c.decide-desk.ensures.decided;
  is = replies_as (decided_facts g.T.Tree.opened c.decide-desk.result.1) c.form_of-form.ensures.close
      c.form_of-form.ensures.with_body c.end_behind-end.ensures;
}

pub returns-clause-can : goal.returns-clause-can
returns-clause-can g c = can_send _ _ _ _ _ (readable (told_facts c.args.head.now)) c.decide-desk.ensures.decided.is
