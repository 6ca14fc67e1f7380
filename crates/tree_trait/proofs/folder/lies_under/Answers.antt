-- The path begins with the folder's path and a slash, and is another.
use Rattle.std.proofs.Common.{not, ◌&&◌, sym, ◌∙◌, ap}
use Rattle.std.specs.Str.{bytes_eq}
use Rattle.row_types.specs.Under.{front_under}
use Rattle.tree_trait.proofs.FolderLemmas.{is_some_starts}
use Rattle.tree_trait.proofs.folder.lies_under.Goals as goal

pub returns-then-is_some : goal.returns-then-is_some
returns-then-is_some c =
    let starts = sym (is_some_starts
    (front_under c.args.folder.now) c.args.path.now c.rest_under.result c.rest_under.ensures)
    ∙ sym c.is_some.ensures ∙ c.if-is_some.true in
    ap not c.eq.ensures ∙ ap (λ b. b && not (bytes_eq c.args.path.now c.args.folder.now)) (sym starts)

pub returns-else-is_some : goal.returns-else-is_some
returns-else-is_some c =
    let starts = sym (is_some_starts
    (front_under c.args.folder.now) c.args.path.now c.rest_under.result c.rest_under.ensures)
    ∙ sym c.is_some.ensures ∙ c.if-is_some.false in
    c.if-is_some.false ∙ ap (λ b. b && not (bytes_eq c.args.path.now c.args.folder.now)) (sym starts)
