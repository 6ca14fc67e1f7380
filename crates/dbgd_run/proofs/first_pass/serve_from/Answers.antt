-- The first pass, and then the doors with or without passes beside them.
use Rattle.index_lock.proofs.Later.{later_trans}
use Rattle.dbgd_commands.specs.Endings.{streams}
use Rattle.dbgd_run.specs.Rounds.{pass_stage}
use Rattle.dbgd_run.proofs.ServeSteps.{serves_from}
use Rattle.dbgd_run.proofs.first_pass.serve_from.Goals as goal

pub returns-clause-later : goal.returns-clause-later
returns-clause-later g c = later_trans c.pass_first-lead.ensures.later c.serve_all-tools.ensures.later

pub returns-clause-serves : goal.returns-clause-serves
returns-clause-serves g c =
    let made = c.pass_first-lead.ensures.made in
    let on = rw c.pass_first-lead.ensures.select at c.serve_all-tools.ensures.passes in
    serves_from _ _ _
    (record {
      end = made.0;
      fate = c.pass_first-lead.result.1;
      after =
          pass_stage c.pass_first-lead.result.0.tools.seat.seen c.pass_first-lead.result.0.tools.hands.items (g.X.C.Clock.woke c.args.clock.now)
          (streams g.X.O.Stream.shows c.pass_first-lead.new.out c.pass_first-lead.new.err) c.pass_first-lead.result.0.tools.share;
    })
    _ _ _ c.goes_on-passing.result (made.1 (g.X.C.Clock.woke c.args.clock.now)) c.goes_on-passing.ensures
    c.serve_all-tools.ensures.later.log c.serve_all-tools.ensures.doors on
