use Rattle.std.proofs.Common.{sym, ◌∙◌, ap}
use Rattle.file_formats.specs.Identity.{is_code}
use Rattle.elf_file.proofs.SectionLemmas.{none_more, differ}
use Rattle.elf_classify.proofs.identity.has_code.Goals as goal

pub loop-index-preserved : goal.loop-index-preserved
loop-index-preserved c =
    let so = c.holds_code.ensures ∙ ap is_code c.header.ensures in
    none_more c.loop-index.invariant (λ index code. differ (sym c.if-holds_code.false ∙ so) code)
