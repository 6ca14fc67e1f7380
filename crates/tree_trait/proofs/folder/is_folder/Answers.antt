-- A search among the names is one among the files.
use Rattle.std.proofs.Common.{sym, ◌∙◌}
use Rattle.tree_trait.proofs.FolderLemmas.{any_names}
use Rattle.tree_trait.proofs.folder.is_folder.Goals as goal

pub returns : goal.returns
returns g c = c.any_under.ensures ∙ sym (any_names c.args.path.now c.args.files.now)
