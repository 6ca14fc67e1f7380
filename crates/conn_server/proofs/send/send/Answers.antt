-- What is decided was written, and is told so.
use Rattle.conn_server.proofs.SentLemmas.{carries_any}
use Rattle.conn_server.proofs.send.send.Goals as goal

pub send_body-sent-requires-clause-carry : goal.send_body-sent-requires-clause-carry
send_body-sent-requires-clause-carry g c = λ κs within. λ n.
    carries_any g.T.Tree.opened g.W.Truth.version c.args.decided.body c.args.decided.generation n c.requires.send

pub returns-clause-sends : goal.returns-clause-sends
returns-clause-sends g c = record {
  result = c.send_body-sent.result;
  sends = c.send_body-sent.ensures c.args.decided.generation;
  is = c.told.ensures.value;
}
