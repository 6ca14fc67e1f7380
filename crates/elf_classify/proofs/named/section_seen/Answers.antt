use Rattle.std.proofs.Common.{inl, inr, sym, subst}
use Rattle.file_picture.specs.Passed.{HasPassed}
use Rattle.file_picture.specs.Picture.{IsPicture}
use Rattle.elf_file.specs.Steps.{StopsBefore}
use Rattle.elf_classify.proofs.PlaceLemmas.{needs_from}
use Rattle.elf_classify.proofs.PlacedLemmas.{named_fault, named_found, named_section}
use Rattle.elf_classify.proofs.named.section_seen.Goals as goal

pub returns-in-Err-Need : goal.returns-in-Err-Need
returns-in-Err-Need c = (inl (subst (StopsBefore c.args.seen) c.in-Err-Need.field-0-is c.in-Err-Need.ensures), c.requires)

pub returns-in-Err-Fault : goal.returns-in-Err-Fault
returns-in-Err-Fault c =
    named_fault c.args.seen c.args.name.now c.in-Err-Fault.field-0-0
    (subst (StopsBefore c.args.seen) c.in-Err-Fault.field-0-is c.in-Err-Fault.ensures)

pub windows-requires-clause-picture : goal.windows-requires-clause-picture
windows-requires-clause-picture c = subst IsPicture (sym c.in-Ok.ensures.same) c.size-size.ensures.holds

pub windows-requires-clause-passed : goal.windows-requires-clause-passed
windows-requires-clause-passed c = subst (λ v. HasPassed v c.args.from) (sym c.in-Ok.ensures.same) c.requires

pub returns-in-Err : goal.returns-in-Err
returns-in-Err c =
    let stop = needs_from c.args.seen c.in-Ok.file c.in-Err.stop c.in-Ok.ensures.same c.size-size.ensures.holds c.in-Err.ensures in
    (inl stop.needs, stop.passed)

pub returns-in-Ok-section_in : goal.returns-in-Ok-section_in
returns-in-Ok-section_in c =
    named_found c.args.seen c.in-Ok.file c.args.name.now _ c.in-Ok.ensures.same c.in_default.ensures c.in-Ok-section_in.ensures

pub returns-in-Err-section_in : goal.returns-in-Err-section_in
returns-in-Err-section_in c = (
  inr (named_section c.args.seen c.in-Ok.file c.args.name.now c.in-Err-section_in.need c.in-Ok.ensures.same
      c.in_default.ensures c.in-Err-section_in.ensures),
  c.requires,
)
