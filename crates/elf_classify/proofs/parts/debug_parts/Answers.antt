use Rattle.std.proofs.Common.{sym, refl, subst, None}
use Rattle.file_formats.proofs.DwarfSectionLemmas.{debug-unique}
use Rattle.file_picture.specs.Whole.{whole}
use Rattle.elf_file.specs.Parsed.{IsPictureWhole}
use Rattle.elf_file.proofs.WholeLemmas.{is_whole}
use Rattle.elf_classify.proofs.DebugLemmas.{never_needs_debug, debug_whole, debug_fault}
use Rattle.elf_classify.proofs.parts.debug_parts.Goals as goal

pub returns-in-Err-clause-answer : goal.returns-in-Err-clause-answer
returns-in-Err-clause-answer c =
    debug_whole c.args.bytes.now (whole c.args.bytes.now) None refl
    (debug_fault (whole c.args.bytes.now) c.in-Err.field-0 c.in-Err.ensures)

pub returns-in-Err-clause-only : goal.returns-in-Err-clause-only
returns-in-Err-clause-only c = λ r is.
    debug-unique
    (debug_whole c.args.bytes.now (whole c.args.bytes.now) None refl
    (debug_fault (whole c.args.bytes.now) c.in-Err.field-0 c.in-Err.ensures)) is

pub unreachable-requires : goal.unreachable-requires
unreachable-requires c =
    never_needs_debug c.in-Ok.file.file c.in-Err-debug_in.field-0
    (subst IsPictureWhole (sym c.in-Ok.ensures.same) (is_whole c.args.bytes.now)) c.in-Err-debug_in.ensures

pub returns-clause-answer : goal.returns-clause-answer
returns-clause-answer c =
    debug_whole c.args.bytes.now c.in-Ok.file.file _ c.in-Ok.ensures.same c.in-Ok-debug_in.ensures

pub returns-clause-only : goal.returns-clause-only
returns-clause-only c = λ r is.
    debug-unique (debug_whole c.args.bytes.now c.in-Ok.file.file _ c.in-Ok.ensures.same c.in-Ok-debug_in.ensures) is
