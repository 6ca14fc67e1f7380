-- What the words that are neither a scan nor a server ask was done.
use Rattle.std.proofs.Common.{inl, inr, refl, ap}
use Rattle.std.specs.Prelude.{map}
use Rattle.dbgd_commands.specs.Stage.{rows_shown}
use Rattle.dbgd_run.proofs.RunLemmas.{runs_apart, runs_words}
use Rattle.dbgd_run.proofs.outside.run_local.Goals as goal

pub returns-in-Ok-clause-run : goal.returns-in-Ok-clause-run
returns-in-Ok-clause-run g c =
    runs_words _ _ _ _ c.run_alone.result _ c.code.ensures.code
    (inl (rw (← c.in-Ok.ensures.line)
    (runs_apart _ _ _ _ _ c.run_alone.ensures.law
    (record {
      doors = ap (λ doors. map g.D.Door.shows doors.items) c.run_alone.ensures.rest.0;
      links = ap (λ links. rows_shown g.L.Link.shows links.items) c.run_alone.ensures.rest.1;
      woke = ap g.C.Clock.woke c.run_alone.ensures.rest.2;
      cache = ap g.H.Cache.shows c.run_alone.ensures.rest.3;
    }))))

pub returns-in-Err-clause-run : goal.returns-in-Err-clause-run
returns-in-Err-clause-run g c =
    runs_words _ _ _ _ c.say_no_memory.result _ c.code-in-Err.ensures.code
    (inr (record {
      options = c.in-Err.ensures.memory;
      alone = record { says = c.say_no_memory.ensures; hands = refl; store = refl };
      rest = record { doors = refl; links = refl; woke = refl; cache = refl };
    }))
