-- The folder's path is cut off, and the slash behind it.
use Rattle.std.proofs.Common.{◌++◌, sym, ◌∙◌, ap, lit<}
use Rattle.std.proofs.lemmas.Str.Pattern.{strip_prefix_char}
use Rattle.tree_trait.proofs.FolderLemmas.{rest_of}
use Rattle.tree_trait.proofs.folder.rest_under.Goals as goal

pub returns-in-Some : goal.returns-in-Some
returns-in-Some c =
    let cut = c.in-Some.ensures.cases in
    let after = c.strip_prefix-in-Some.ensures.cases in
    let inner = strip_prefix_char 47 c.in-Some.rest.now c.strip_prefix-in-Some.result after (lit< tt) in
    rest_of c.parent.result.now c.args.folder.now c.in-Some.rest.now c.strip_prefix-in-Some.result
    c.parent.ensures
    (cut.1.1 ∙ ap (λ t. c.parent.result.now ++ t) (sym cut.2)) inner
