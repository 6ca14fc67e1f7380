use Rattle.std.proofs.Common.{All}
use Rattle.source_paths.specs.Lately.{is_empty}
use Rattle.source_paths.proofs.found.empty_texts.Given as goal

abbrev pub invariant-loop-slot : goal.invariant-loop-slot
invariant-loop-slot l = All is_empty l.texts.items
