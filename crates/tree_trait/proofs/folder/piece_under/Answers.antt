-- The piece is the first of what follows the folder.
use Rattle.std.proofs.Common.{Some, None, ◌∙◌, ap}
use Rattle.tree_trait.proofs.FolderLemmas.{piece_of_rest}
use Rattle.tree_trait.proofs.folder.piece_under.Goals as goal

pub returns-in-Some : goal.returns-in-Some
returns-in-Some c = ap (λ p. Some p) c.first_piece.ensures
    ∙ piece_of_rest c.args.folder.now c.args.path.now (Some c.in-Some.rest) c.in-Some.ensures

pub returns-in-None : goal.returns-in-None
returns-in-None c = piece_of_rest c.args.folder.now c.args.path.now None c.in-None.ensures
