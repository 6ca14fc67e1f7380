use Rattle.file_picture.specs.Passed.{HasPassed}
use Rattle.file_picture.specs.ReadSoFar.{IsReadSoFar}
use Rattle.format_tests.proofs.reading_on.read_within.Given as goal

abbrev pub invariant-loop-part : goal.invariant-loop-part
invariant-loop-part g l = HasPassed l.picture l.from × IsReadSoFar l.limit l.picture
