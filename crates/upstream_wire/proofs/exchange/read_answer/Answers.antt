use Rattle.std.proofs.Common.{sym, subst}
use Rattle.upstream_wire.specs.Ask.{ReadsAnswerOf}
use Rattle.upstream_wire.proofs.DialLemmas.{answers_failed}
use Rattle.upstream_wire.proofs.exchange.read_answer.Goals as goal

pub returns-in-Ok : goal.returns-in-Ok
returns-in-Ok g c = record {
  says = λ held tells. (c.in-Ok.ensures.reads held tells, c.in-Ok.ensures.only held tells);
  later = c.in-Ok.ensures.later;
  given = c.in-Ok.ensures.given;
  writing = c.in-Ok.ensures.apart;
}

pub returns-in-Err : goal.returns-in-Err
returns-in-Err g c =
    subst (λ answer. ReadsAnswerOf (g.N.Stream.shows c.args.conn.now) answer (g.N.Stream.shows c.read_response.new.source))
    (sym c.failed_by.ensures)
    (answers_failed (g.N.Stream.shows c.args.conn.now) (g.N.Stream.shows c.read_response.new.source) c.in-Err.fault
    c.in-Err.ensures.reads c.in-Err.ensures.later c.in-Err.ensures.given c.in-Err.ensures.apart)
