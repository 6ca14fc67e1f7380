use Rattle.std.proofs.Common.{sym, subst}
use Rattle.file_formats.proofs.IdentityLemmas.{section-unique}
use Rattle.elf_file.specs.Parsed.{IsPictureWhole}
use Rattle.elf_file.proofs.WholeLemmas.{is_whole}
use Rattle.elf_classify.proofs.PlacedLemmas.{never_needs_section, section_whole, section_fault}
use Rattle.elf_classify.proofs.named.section_of.Goals as goal

pub returns-in-Err-clause-answer : goal.returns-in-Err-clause-answer
returns-in-Err-clause-answer c = section_fault c.args.bytes.now c.args.name.now c.in-Err.field-0 c.in-Err.ensures

pub returns-in-Err-clause-only : goal.returns-in-Err-clause-only
returns-in-Err-clause-only c = λ r is.
    section-unique (section_fault c.args.bytes.now c.args.name.now c.in-Err.field-0 c.in-Err.ensures) is

pub unreachable-requires : goal.unreachable-requires
unreachable-requires c =
    never_needs_section c.in-Ok.file.file c.args.name.now c.in-Err-section_in.field-0
    (subst IsPictureWhole (sym c.in-Ok.ensures.same) (is_whole c.args.bytes.now)) c.in-Err-section_in.ensures

pub returns-clause-answer : goal.returns-clause-answer
returns-clause-answer c =
    section_whole c.args.bytes.now c.in-Ok.file.file c.args.name.now _ c.in-Ok.ensures.same c.in-Ok-section_in.ensures.is

pub returns-clause-only : goal.returns-clause-only
returns-clause-only c = λ r is.
    section-unique
    (section_whole c.args.bytes.now c.in-Ok.file.file c.args.name.now _ c.in-Ok.ensures.same c.in-Ok-section_in.ensures.is) is
