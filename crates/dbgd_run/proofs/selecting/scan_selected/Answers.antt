-- There is no memory for the matchers.
use Rattle.std.proofs.Common.{refl}
use Rattle.path_canon.specs.declared.fault.SelectFault.TheVariants.{OutOfMemory}
use Rattle.dbgd_run.specs.Selecting.{unselected}
use Rattle.dbgd_run.proofs.selecting.scan_selected.Goals as goal

pub returns-clause-runs : goal.returns-clause-runs
returns-clause-runs g c = unselected (record {
  fault = OutOfMemory;
  why = tt;
  alone = record { says = c.say_unselected-in-Err-matching.ensures; hands = refl; store = refl };
  rest = record { doors = refl; links = refl; woke = refl; cache = refl };
})
