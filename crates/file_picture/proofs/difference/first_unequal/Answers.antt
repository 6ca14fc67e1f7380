-- At the end no place is left at which they differ.
use Rattle.std.proofs.Common.{arith}
use Rattle.file_picture.proofs.DifferenceLemmas.{none_unequal}
use Rattle.file_picture.proofs.difference.first_unequal.Goals as goal

pub returns : goal.returns
returns c =
    none_unequal c.args.known.now c.args.seen.now c.loop-index.index c.requires (omega (arith, c.loop-index-test.false))
    c.loop-index.invariant
