-- The parts so far were read, and the file keeps its name.
use Rattle.std.proofs.Common.{◌≡◌, ◌-◌}
use Rattle.file_picture.specs.Passed.{HasPassed}
use Rattle.file_picture.specs.Picture.{sum_of}
use Rattle.file_picture.specs.ReadSoFar.{IsReadSoFar}
use Rattle.row_types.specs.declared.limits.TheConstants.{READ_LIMIT}
use Rattle.tree_trait.specs.Opened.{opened_name}
use Rattle.tree_trait.specs.Needs.{ReadsSoFar}
use Rattle.tree_trait.specs.Reader.{IsReadPart}
use Rattle.scan_worker.proofs.parts.read_parts.Given as goal

abbrev pub invariant-parts : goal.invariant-parts
invariant-parts g l =
    ReadsSoFar (IsReadPart l.fn.own.stamp) g.T.Tree.told g.W.Truth.version l.fn.own (g.T.Tree.shows l.fn.hand) (g.T.Tree.shows l.hand)
    l.opened.picture
    × (l.own ≡ l.fn.own)
    × (opened_name l.opened ≡ l.fn.own)
    × (g.T.Tree.opened l.opened.file ≡ opened_name l.opened)
    × HasPassed l.opened.picture l.from
    × IsReadSoFar READ_LIMIT l.opened.picture

abbrev pub decreases-parts : goal.decreases-parts
decreases-parts g l = l.fn.own.stamp.size - sum_of l.opened.picture.pieces
