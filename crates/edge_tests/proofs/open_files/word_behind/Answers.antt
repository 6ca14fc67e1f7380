-- The open file has the stamp that was answered.
use Rattle.std.proofs.Common.{sym, ◌∙◌, ap}
use Rattle.row_types.specs.Name.{NameFacts}
use Rattle.row_types.specs.Stamp.{StampFacts}
use Rattle.edge_tests.proofs.open_files.word_behind.Goals as goal

pub first_word-requires-clause-size : goal.first_word-requires-clause-size
first_word-requires-clause-size g c κs within =
    ap (λ (n : NameFacts). n.stamp.size) c.in-Opened.ensures.name ∙ ap (λ (s : StampFacts). s.size) (sym c.stamp.view_is)
