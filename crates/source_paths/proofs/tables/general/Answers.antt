use Rattle.std.proofs.Common.{None, sym, ◌∙◌}
use Rattle.std.specs.Option.{option_copied}
use Rattle.source_paths.proofs.KeyLemmas.{fixed-at, same-bases}
use Rattle.source_paths.proofs.tables.general.Goals as goal

pub returns-then-contains : goal.returns-then-contains
returns-then-contains c = λ s all.
    same-bases s (fixed-at s c.args.key.offset c.args.fixed.now (sym c.contains.ensures ∙ c.if-contains.true) all)
    (option_copied c.args.key.directory) None c.args.key.base
