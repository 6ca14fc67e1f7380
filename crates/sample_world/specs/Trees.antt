-- The scripts of the sample world's trees (this project's example).
use Rattle.std.specs.Prelude.{ℕ, List, [], ◌∷◌, map}
use Rattle.tree_trait.specs.Script.{ScriptFacts}
use Rattle.sample_world.specs.Samples.{sample_found}
use Rattle.sample_world.specs.declared.sample.TheConstants.{REFERENCE_TREE}
use Rattle.sample_world.specs.declared.sample.Sample.TheVariants.{Before, After}

-- the reference tree, whose calls of these numbers fail
abbrev pub reference_facts : List ℕ → ScriptFacts
reference_facts bad_calls =
    record { stages = map sample_found REFERENCE_TREE ∷ []; moves = []; bad_calls = bad_calls }

-- the file that changes before the call of this number
abbrev pub changed_file_facts : ℕ → ScriptFacts
changed_file_facts call = record {
  stages = (sample_found Before ∷ []) ∷ (sample_found After ∷ []) ∷ [];
  moves = call ∷ [];
  bad_calls = [];
}
