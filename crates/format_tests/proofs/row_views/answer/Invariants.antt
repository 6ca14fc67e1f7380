use Rattle.file_picture.specs.Passed.{HasPassed}
use Rattle.file_picture.specs.ReadSoFar.{IsReadSoFar}
use Rattle.row_types.specs.declared.limits.TheConstants.{READ_LIMIT}
use Rattle.format_tests.proofs.row_views.answer.Given as goal

abbrev pub invariant-loop-part : goal.invariant-loop-part
invariant-loop-part g l = HasPassed l.picture l.from × IsReadSoFar READ_LIMIT l.picture
