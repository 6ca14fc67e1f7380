-- The file is checked for what the route asks.
use Rattle.std.proofs.Common.{sym, ◌∙◌, ap, subst}
use Rattle.std.proofs.lemmas.Bool.{false≢true}
use Rattle.file_parts.specs.Wholes.{IsThereWhole}
use Rattle.webapi_routes.specs.declared.route.Route.{Route}
use Rattle.answer_core.specs.Given.{asks_source, needs_for}
use Rattle.answer_core.proofs.FitLemmas.{fits_debuginfo, fits_executable}
use Rattle.answer_core.proofs.fitting.check_opened.Goals as goal

pub check_file-requires : goal.check_file-requires
check_file-requires g c =
    subst (λ (r : Route). IsThereWhole (needs_for r) c.args.opened.picture) c.in-Debuginfo.is c.requires.there

pub returns-in-Debuginfo : goal.returns-in-Debuginfo
returns-in-Debuginfo g c =
    rw c.in-Debuginfo.is
    (fits_debuginfo c.in-Debuginfo.id c.args.class c.args.opened c.check_file.result c.check_file.ensures)

pub check_file-requires-in-Executable : goal.check_file-requires-in-Executable
check_file-requires-in-Executable g c =
    subst (λ (r : Route). IsThereWhole (needs_for r) c.args.opened.picture) c.in-Executable.is c.requires.there

pub returns-in-Executable : goal.returns-in-Executable
returns-in-Executable g c =
    rw c.in-Executable.is
    (fits_executable c.in-Executable.id c.args.class c.args.opened c.check_file-in-Executable.result
    c.check_file-in-Executable.ensures)

pub check_section-requires : goal.check_section-requires
check_section-requires g c =
    subst (λ (r : Route). IsThereWhole (needs_for r) c.args.opened.picture) c.in-Section.is c.requires.there

pub returns-in-Section : goal.returns-in-Section
returns-in-Section g c = rw c.in-Section.is c.check_section.ensures

pub unreachable-requires : goal.unreachable-requires
unreachable-requires g c = false≢true (sym c.requires.file ∙ ap (λ (r : Route). asks_source r) c.in-Source.is)

pub returns-in-Metrics : goal.returns-in-Metrics
returns-in-Metrics g c = rw c.in-Metrics.is (λ b f never. never)
