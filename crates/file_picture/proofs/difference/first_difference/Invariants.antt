-- So far the bytes agree with each piece.
use Rattle.file_picture.proofs.DifferenceLemmas.{AgreesBelow}
use Rattle.file_picture.proofs.difference.first_difference.Given as goal

abbrev pub invariant-loop-index : goal.invariant-loop-index
invariant-loop-index l = AgreesBelow l.pieces l.at l.bytes l.index
