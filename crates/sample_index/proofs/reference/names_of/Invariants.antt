-- The names so far are those of the samples so far.
use Rattle.std.proofs.Common.{◌≡◌, take, map}
use Rattle.tree_trait.specs.Found.{found_name}
use Rattle.sample_world.specs.Samples.{sample_found}
use Rattle.sample_index.proofs.reference.names_of.Given as goal

abbrev pub invariant-loop-sample : goal.invariant-loop-sample
invariant-loop-sample l = l.names.items ≡ map (λ sample. found_name (sample_found sample)) (take l.sample-index l.samples)
