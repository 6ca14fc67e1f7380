-- The ranges so far were read, and the file keeps its name.
use Rattle.std.proofs.Common.{◌≡◌, ◌-◌}
use Rattle.file_picture.specs.Passed.{HasPassed}
use Rattle.file_picture.specs.Picture.{sum_of}
use Rattle.row_types.specs.declared.limits.TheConstants.{READ_LIMIT}
use Rattle.tree_trait.specs.Needs.{ReadsSoFar}
use Rattle.tree_trait.specs.Opened.{opened_name}
use Rattle.file_parts.specs.Found.{IsFoundSoFar}
use Rattle.file_parts.specs.Wholes.{needs_of}
use Rattle.file_parts.proofs.found.fill_found.Given as goal

abbrev pub invariant-steps : goal.invariant-steps
invariant-steps g l =
    ReadsSoFar (needs_of l.part) g.T.Tree.told g.W.Truth.version (opened_name l.fn.opened) (g.T.Tree.shows l.fn.hand)
    (g.T.Tree.shows l.hand) l.opened.picture
    × (opened_name l.opened ≡ opened_name l.fn.opened)
    × (g.T.Tree.opened l.opened.file ≡ opened_name l.opened)
    × HasPassed l.opened.picture l.from
    × IsFoundSoFar (needs_of l.part) l.opened.picture

abbrev pub decreases-steps : goal.decreases-steps
decreases-steps g l = READ_LIMIT - sum_of l.opened.picture.pieces
