-- What is planned is done.
use Rattle.std.proofs.Common.{◌∙◌, refl, sym, ap, subst}
use Rattle.answer_core.proofs.HearLemmas.{hears_none}
use Rattle.conn_server.specs.Plans.{CanPlan, CarriesOut, turn_plan}
use Rattle.conn_server.specs.Sent.{CountsSent}
use Rattle.conn_server.specs.Turns.{turn_by}
use Rattle.conn_server.specs.declared.turn.ConnTurn.TheVariants.{Ended}
use Rattle.conn_server.proofs.turn.carry_out.Goals as goal

pub send-sent-requires-clause-send : goal.send-sent-requires-clause-send
send-sent-requires-clause-send g c = λ κs within.
    subst (λ plan. CanPlan g.W.Truth.version (turn_plan g.T.Tree.opened plan)) c.in-Reply.is c.requires.can

pub returns-in-End-clause-does : goal.returns-in-End-clause-does
returns-in-End-clause-does g c =
    subst (λ plan. CarriesOut
    (record { told = g.T.Tree.told; version = g.W.Truth.version; start = g.T.Tree.shows c.args.hand.now })
    (turn_plan g.T.Tree.opened plan) c.args.share.now (g.N.Stream.shows c.args.conn.now) (Ended c.in-End.end) c.args.share.now
    (g.T.Tree.shows c.args.hand.now) (g.N.Stream.shows c.args.conn.now)) (sym c.in-End.is)
    (record { is = refl; uncounted = refl; hears = hears_none _; same = refl })

pub returns-in-Reply-clause-does : goal.returns-in-Reply-clause-does
returns-in-Reply-clause-does g c =
    let sends = c.send-sent.ensures.sends in
    subst (λ plan. CarriesOut
    (record { told = g.T.Tree.told; version = g.W.Truth.version; start = g.T.Tree.shows c.args.hand.now })
    (turn_plan g.T.Tree.opened plan) c.args.share.now (g.N.Stream.shows c.args.conn.now) c.turn_by.result c.count_sent.new.share
    (g.T.Tree.shows c.send-sent.new.hand) (g.N.Stream.shows c.send-sent.new.conn)) (sym c.in-Reply.is)
    (record {
      result = sends.result;
      sends = sends.sends;
      counts = subst (λ told. CountsSent told c.args.share.now c.count_sent.new.share) sends.is c.count_sent.ensures.counts;
      is = c.turn_by.ensures ∙ ap (λ told. turn_by told c.in-Reply.form.close c.in-Reply.end) sends.is;
    })
