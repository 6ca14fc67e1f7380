-- A port that fits is a number of 16 bits.
use Rattle.std.proofs.Common.{arith}
use Rattle.dbgd_run.proofs.demands.doors_for.Goals as goal

pub returns-in-Serve-clause-port : goal.returns-in-Serve-clause-port
returns-in-Serve-clause-port c =
    let fits = (rw c.in-Serve.is at c.requires).highest in
    rw c.in-Serve.is (omega (arith, fits))
