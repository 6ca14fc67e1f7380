use Rattle.file_picture.specs.ReadSoFar.{IsReadOn}
use Rattle.format_tests.proofs.reading_on.put_range.Given as goal

abbrev pub invariant-loop : goal.invariant-loop
invariant-loop g l = IsReadOn l.fn.picture l.at l.len l.picture
