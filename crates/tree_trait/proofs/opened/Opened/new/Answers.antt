-- A version of the name is there, and nothing is known of it.
use Rattle.std.proofs.Common.{◌∙◌, ap, subst, sym}
use Rattle.std.specs.String.{string_bytes}
use Rattle.row_types.specs.Stamp.{StampFacts}
use Rattle.tree_trait.specs.Opened.{HoldsPicture, unread_picture}
use Rattle.tree_trait.proofs.OpenedLemmas.{holds_new}
use Rattle.tree_trait.proofs.opened.Opened.new.Goals as goal

pub invariant_of-result : goal.invariant_of-result
invariant_of-result g c =
    subst (HoldsPicture g.W.Truth.version (string_bytes c.args.path) c.args.stamp)
    (sym (c.new-picture.ensures ∙ ap (λ (s : StampFacts). unread_picture s.size) c.stamp.view_is))
    (holds_new g.W.Truth.told g.W.Truth.sized g.W.Truth.any_content (string_bytes c.args.path) c.args.stamp c.requires)
