use Rattle.std.proofs.Common.{subst}
use Rattle.elf_file.specs.Steps.{StopsBefore}
use Rattle.elf_classify.proofs.DebugLemmas.{debug_fault, debug_part}
use Rattle.elf_classify.proofs.parts.debug_seen.Goals as goal

pub returns-in-Err-Fault : goal.returns-in-Err-Fault
returns-in-Err-Fault c =
    debug_fault c.args.seen c.in-Err-Fault.field-0-0
    (subst (StopsBefore c.args.seen) c.in-Err-Fault.field-0-is c.in-Err-Fault.ensures)

pub returns-in-Err : goal.returns-in-Err
returns-in-Err c =
    debug_part c.args.seen c.in-Ok.file c.in-Err.need _ c.in-Ok.ensures.same c.needs-in-Err.ensures c.in-Err.ensures
