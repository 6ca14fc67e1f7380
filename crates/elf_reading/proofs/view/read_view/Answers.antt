use Rattle.std.proofs.Common.{rules, refl}
use Rattle.elf_reading.proofs.ViewLemmas.{large_seen, row_asked, row_seen}
use Rattle.elf_reading.proofs.view.read_view.Goals as goal

pub returns-then-name-gt-FILE_LIMIT : goal.returns-then-name-gt-FILE_LIMIT
returns-then-name-gt-FILE_LIMIT g c =
    large_seen c.args.name c.args.picture.now c.large_row.result c.large_row.ensures
    (search rules)

pub returns-in-Need : goal.returns-in-Need
returns-in-Need g c =
    (refl, row_asked c.args.name c.args.picture.now c.in-Need.at c.in-Need.len (search rules) c.in-Need.ensures.0, c.in-Need.ensures.1, c.in-Need.ensures.2)

pub returns-in-Read : goal.returns-in-Read
returns-in-Read g c =
    row_seen c.args.name c.args.picture.now c.in-Read.reading c.row_of.result c.row_of.ensures
    (search rules) c.in-Read.ensures
