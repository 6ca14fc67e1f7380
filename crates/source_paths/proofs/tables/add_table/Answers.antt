use Rattle.dwarf_forms.specs.Parts.{sections_of}
use Rattle.source_paths.proofs.KeyLemmas.{fixed-by}
use Rattle.source_paths.proofs.tables.add_table.Goals as goal

pub returns-clause-fixed : goal.returns-clause-fixed
returns-clause-fixed c = λ none. fixed-by (sections_of c.args.parts.now) c.in_ok-last.ensures.of none
