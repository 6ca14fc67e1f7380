-- The first pass, whatever the clock told.
use Rattle.std.proofs.Common.{refl, arith}
use Rattle.dbgd_commands.proofs.HandLemmas.{goes_length}
use Rattle.dbgd_run.proofs.first_pass.pass_first.Goals as goal

pub returns-clause-made : goal.returns-clause-made
returns-clause-made g c =
    let ran = c.run_pass-seat.ensures in
    let noted = c.note_pass-fate.ensures in (
      c.run_pass-seat.result.2,
      λ woke. record {
        passes = record {
          later = ran.later.log;
          ends = ran.pass;
          goes = ran.hands;
          idle = ran.idle;
          complete = ran.complete;
        };
        tells = noted.tells;
        counts = noted.counts;
        woke = refl;
      },
    )

pub returns-clause-hands : goal.returns-clause-hands
returns-clause-hands g c =
    let back = goes_length _ _ c.args.lead.tools.hands.items c.run_pass-seat.result.1.items c.run_pass-seat.ensures.pass in
    omega (arith, back, c.run_pass-seat.result.1.ok.0, c.args.lead.tools.hands.ok.0)
