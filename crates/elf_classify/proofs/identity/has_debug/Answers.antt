use Rattle.file_picture.specs.Agrees.{filled_with_zeros}
use Rattle.std.proofs.Common.{sym, ◌∙◌, ap}
use Rattle.file_formats.specs.Identity.{is_debug}
use Rattle.file_formats.specs.Table.{given_name}
use Rattle.elf_file.proofs.SectionLemmas.{none_more, differ}
use Rattle.elf_classify.proofs.identity.has_debug.Goals as goal

pub loop-index-preserved : goal.loop-index-preserved
loop-index-preserved c =
    let file = c.args.file.now in
    let so = c.holds_debug.ensures
    ∙ ap (λ s. is_debug s (given_name (filled_with_zeros file.file) file.table s)) c.header.ensures in
    none_more c.loop-index.invariant (λ index debug. differ (sym c.if-holds_debug.false ∙ so) debug)
