-- Sources that ascend are listed once.
use Rattle.std.proofs.Common.{sym, ◌∙◌, ap}
use Rattle.row_types.specs.Row.{RowFacts}
use Rattle.index_rows.proofs.TotalLemmas.{listed_once}
use Rattle.index_rows.proofs.table.count_in.Goals as goal

pub returns-in-Elf-clause-once : goal.returns-in-Elf-clause-once
returns-in-Elf-clause-once c =
    listed_once c.args.row.now.reading c.in-Elf.ident c.in-Elf.listed (sym (ap (λ (r : RowFacts). r.reading) c.row.view_is) ∙ c.in-Elf.is) c.paths.ensures.ascends
