-- An opening answers as the load of the same file.
use Rattle.std.proofs.Common.{◌∙◌, ap, map, subst, sym}
use Rattle.row_types.specs.Name.{NameFacts}
use Rattle.tree_trait.specs.Found.{FoundFacts, found_name}
use Rattle.tree_trait.specs.Heard.{open_file}
use Rattle.tree_trait.specs.Load.{loaded, too_large, gone, failed, no_memory}
use Rattle.tree_trait.specs.MemTree.{IsStageAnswer}
use Rattle.tree_trait.specs.Open.{was_opened}
use Rattle.tree_trait.proofs.OpenLemmas.{found_as_asked, opens_as_loads}
use Rattle.tree_trait.proofs.stage.open_in.Goals as goal

pub returns-in-Found-clause-answer : goal.returns-in-Found-clause-answer
returns-in-Found-clause-answer g c =
    subst (λ (found : FoundFacts). IsStageAnswer g.W.Truth.version c.args.bad (map found_name c.args.files.now)
    (open_file c.args.path.now c.args.limit (was_opened found.stamp))) (sym c.found.view_is)
    (opens_as_loads (loaded c.in-Found.found) c.in-Found.ensures)

pub returns-in-Found-clause-name : goal.returns-in-Found-clause-name
returns-in-Found-clause-name g c =
    found_as_asked c.in-Found.found c.in-Found.ensures
    ∙ ap {B = NameFacts} (λ (found : FoundFacts). record { path = c.args.path.now; stamp = found.stamp }) (sym c.found.view_is)

pub returns-in-TooLarge-clause-answer : goal.returns-in-TooLarge-clause-answer
returns-in-TooLarge-clause-answer g c = opens_as_loads (too_large c.in-TooLarge.stamp) c.in-TooLarge.ensures

pub returns-in-Gone-clause-answer : goal.returns-in-Gone-clause-answer
returns-in-Gone-clause-answer g c = opens_as_loads gone c.in-Gone.ensures

pub returns-in-Failed-clause-answer : goal.returns-in-Failed-clause-answer
returns-in-Failed-clause-answer g c = opens_as_loads failed c.in-Failed.ensures

pub returns-in-OutOfMemory-clause-answer : goal.returns-in-OutOfMemory-clause-answer
returns-in-OutOfMemory-clause-answer g c = opens_as_loads no_memory c.in-OutOfMemory.ensures
