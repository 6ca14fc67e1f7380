-- The pieces of all files are the folder's listing.
use Rattle.std.proofs.Common.{◌≡◌, [], map, sym, subst}
use Rattle.std.proofs.lemmas.Result.{IfOk-weaker}
use Rattle.tree_trait.specs.Dir.{IsFolderListing}
use Rattle.tree_trait.specs.Folder.{with_pieces}
use Rattle.tree_trait.specs.Found.{found_name}
use Rattle.tree_trait.proofs.ListingLemmas.{listing}
use Rattle.tree_trait.proofs.folder.entries_of.Goals as goal

pub returns : goal.returns
returns g c =
    IfOk-weaker c.collected.result
    (λ v. v.items ≡ with_pieces c.args.folder.now [] (map found_name c.args.files.now))
    (λ v. IsFolderListing (map found_name c.args.files.now) c.args.folder.now v.items)
    (λ v e. subst (IsFolderListing (map found_name c.args.files.now) c.args.folder.now) (sym e)
    (listing c.args.folder.now (map found_name c.args.files.now))) c.collected.ensures
