-- What came of a keeper, by how the server ended.
use Rattle.std.proofs.Common.{Bool, refl, subst}
use Rattle.dbgd_commands.specs.Endings.{streams}
use Rattle.dbgd_commands.proofs.StoreLemmas.{rose_some}
use Rattle.dbgd_run.specs.ServeSaid.{Announces}
use Rattle.dbgd_run.proofs.ServeSteps.{keeper_opened}
use Rattle.dbgd_run.proofs.serving.serve_keeper.Goals as goal

pub returns-then-announce-clause-serves : goal.returns-then-announce-clause-serves
returns-then-announce-clause-serves g c =
    keeper_opened _ _ _ _ _ _ _ c.serve_index.result.1.end _
    c.in-Ok.ensures.ok
    (subst (λ (told : Bool). Announces c.args.site.now.line.now told (streams g.X.O.Stream.shows c.args.out.now c.args.err.now)
    (streams g.X.O.Stream.shows c.announce.new.out c.announce.new.err)) c.if-announce.true c.announce.ensures)
    c.serve_index.ensures.serves

pub returns-else-announce-clause-serves : goal.returns-else-announce-clause-serves
returns-else-announce-clause-serves g c = rw (c.unserved.ensures.hands, c.unserved.ensures.workers, c.unserved.ensures.end)
    (record {
      old = c.in-Ok.state;
      opens = c.in-Ok.ensures.ok;
      holds = c.into_keeper.ensures.holds;
      value = c.into_keeper.ensures.value;
      says = subst (λ (told : Bool). Announces c.args.site.now.line.now told (streams g.X.O.Stream.shows c.args.out.now c.args.err.now)
          (streams g.X.O.Stream.shows c.announce.new.out c.announce.new.err)) c.if-announce.false c.announce.ensures;
      same = (refl, refl, refl);
    })

pub returns-in-Err-clause-serves : goal.returns-in-Err-clause-serves
returns-in-Err-clause-serves g c =
    rw (c.unserved-in-Err.ensures.hands, c.unserved-in-Err.ensures.workers, c.unserved-in-Err.ensures.end)
    (record {
      refuses = c.in-Err.ensures.err;
      left = c.in-Err.ensures.left;
      counted = λ is.
          rose_some (g.X.S.K.Keeper.shows c.args.keeper).faults (g.X.S.K.Keeper.shows c.in-Err.keeper).faults (c.in-Err.ensures.cause.rose is);
      quiet = refl;
      same = (refl, refl, refl);
    })
