use Rattle.elf_classify.proofs.PlacedLemmas.{sees_absent, sees_present, needs_present}
use Rattle.elf_classify.proofs.named.section_in.Goals as goal

pub returns-in_default : goal.returns-in_default
returns-in_default c = sees_absent c.args.file.now c.args.name.now c.knows.ensures c.in_default.ensures.none

pub returns-in-Ok : goal.returns-in-Ok
returns-in-Ok c =
    sees_present c.args.file.now c.args.name.now c.in-Ok.bytes.now c.in-Some.at c.knows.ensures c.in-Some.ensures.found
    c.in-Ok.ensures.0 c.in-Ok.ensures.1

pub returns-in-Err : goal.returns-in-Err
returns-in-Err c =
    needs_present c.args.file.now c.args.name.now c.in-Some.at c.in-Err.need c.knows.ensures c.in-Some.ensures.found
    c.in-Err.ensures.0 c.in-Err.ensures.1
