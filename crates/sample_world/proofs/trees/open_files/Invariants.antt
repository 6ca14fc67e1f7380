-- The files so far are those of the samples so far.
use Rattle.std.proofs.Common.{◌≡◌, take, map}
use Rattle.sample_world.specs.Samples.{sample_found}
use Rattle.sample_world.proofs.trees.open_files.Given as goal

abbrev pub invariant-loop-sample : goal.invariant-loop-sample
invariant-loop-sample l = l.files.items ≡ map sample_found (take l.sample-index l.samples)
