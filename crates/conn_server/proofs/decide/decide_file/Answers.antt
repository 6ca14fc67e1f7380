-- What is decided by the local answer and the links.
use Rattle.answer_core.specs.Local.{local_facts}
use Rattle.conn_server.specs.Bodies.{decided_facts}
use Rattle.conn_server.proofs.CountLemmas.{notes_none}
use Rattle.conn_server.proofs.DecideLemmas.{decides_local}
use Rattle.conn_server.proofs.decide.decide_file.Goals as goal

pub returns-clause-decided : goal.returns-clause-decided
returns-clause-decided g c =
    decides_local _ _ _ c.args.route c.requires.route (notes_none _) (local_facts g.T.Tree.opened c.answer_local-seat.result.1)
    c.args.hops (decided_facts g.T.Tree.opened c.follow_local-decided.result) c.answer_local-seat.ensures.answer
    (c.follow_local-decided.ensures g.T.Tree.opened)
