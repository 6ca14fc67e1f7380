-- Memory was refused before the store was opened: hands, store, doors, links and clock are as they were.
use Rattle.std.proofs.Common.{◌<◌, length, refl, arith}
use Rattle.dbgd_run.proofs.ServeLemmas.{serve_wanting}
use Rattle.dbgd_run.proofs.serve.run_serve.Goals as goal

pub returns-in-Err-clause-runs : goal.returns-in-Err-clause-runs
returns-in-Err-clause-runs g c = λ upstream linked.
    let some : 0 < length c.args.outside.now.hands.items = omega (arith, c.requires.hands, c.args.outside.now.hands.ok.0) in
    let same = c.in-Err.ensures.err in
    rw same
    (serve_wanting _ _ _ _ c.say_no_memory.result some refl refl (rw same at c.say_no_memory.ensures)
    (record { doors = refl; links = refl; woke = refl; cache = refl }))
