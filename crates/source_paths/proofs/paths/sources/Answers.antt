use Rattle.std.proofs.Common.{◌∙◌}
use Rattle.source_paths.proofs.AddLemmas.{listed-exact}
use Rattle.source_paths.proofs.TextsLemmas.{exact_same}
use Rattle.source_paths.proofs.paths.sources.Goals as goal

pub returns-clause-exact : goal.returns-clause-exact
returns-clause-exact c =
    let parts = c.args.parts.now in
    listed-exact c.in_ok-all_paths.field-0 (c.in-Ok.ensures.value ∙ c.in_ok-paths.ensures.same)
    (exact_same c.texts_in.ensures.same c.texts_in-2.ensures.same parts.info.now parts.abbrev.now parts.line.now
    parts.str_offsets.now parts.order c.in_ok-all_paths.ensures.exact)
