-- The first file of the path is the file at the path.
use Rattle.tree_trait.proofs.NameLemmas.{found_at}
use Rattle.tree_trait.proofs.stage.file_at.Goals as goal

pub returns : goal.returns
returns g c = found_at c.args.files.now c.args.path.now c.first_at.result c.first_at.ensures
