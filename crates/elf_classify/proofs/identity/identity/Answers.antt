use Rattle.std.proofs.Common.{sym, ◌∙◌, subst}
use Rattle.file_picture.specs.Passed.{HasPassed}
use Rattle.file_picture.specs.Picture.{IsPicture}
use Rattle.elf_file.specs.Steps.{StopsBefore}
use Rattle.elf_classify.specs.Ids.{Finds}
use Rattle.elf_classify.proofs.PlaceLemmas.{needs_from}
use Rattle.elf_classify.proofs.SeenLemmas.{sees_fault, sees_core, sees_none, sees_id}
use Rattle.elf_classify.proofs.identity.identity.Goals as goal

pub build_id-requires-clause-other : goal.build_id-requires-clause-other
build_id-requires-clause-other c = λ is. c.if-kind-eq-ET_CORE.false (c.kind.ensures ∙ is)

pub build_id-requires-clause-picture : goal.build_id-requires-clause-picture
build_id-requires-clause-picture c = subst IsPicture (sym c.in-Ok.ensures.same) c.size-size.ensures.holds

pub build_id-requires-clause-passed : goal.build_id-requires-clause-passed
build_id-requires-clause-passed c = subst (λ v. HasPassed v c.args.from) (sym c.in-Ok.ensures.same) c.requires

pub returns-in-Err-Need : goal.returns-in-Err-Need
returns-in-Err-Need c = record {
  needs = subst (StopsBefore c.args.seen) c.in-Err-Need.field-0-is c.in-Err-Need.ensures;
  passed = c.requires;
}

pub returns-in-Err : goal.returns-in-Err
returns-in-Err c =
    needs_from c.args.seen c.in-Ok.file c.in-Err.stop c.in-Ok.ensures.same c.size-size.ensures.holds c.in-Err.ensures

pub returns-in-Err-Fault : goal.returns-in-Err-Fault
returns-in-Err-Fault c =
    sees_fault c.args.seen c.in-Err-Fault.fault c.reason.result c.reason.ensures
    (subst (StopsBefore c.args.seen) c.in-Err-Fault.field-0-is c.in-Err-Fault.ensures)

pub returns-then-kind-eq-ET_CORE : goal.returns-then-kind-eq-ET_CORE
returns-then-kind-eq-ET_CORE c =
    sees_core c.args.seen c.in-Ok.file c.in-Ok.ensures (sym c.kind.ensures ∙ c.if-kind-eq-ET_CORE.true)

pub returns-in-Ok-Some : goal.returns-in-Ok-Some
returns-in-Ok-Some c =
    sees_id c.args.seen c.in-Ok.file c.in-Ok-Some.id c.has_code.result c.has_debug.result c.in-Ok.ensures
    (λ is. c.if-kind-eq-ET_CORE.false (c.kind.ensures ∙ is))
    (subst (Finds c.in-Ok.file) c.in-Ok-Some.field-0-is c.in-Ok-Some.ensures) c.has_code.ensures c.has_debug.ensures

pub returns-in-Ok-None : goal.returns-in-Ok-None
returns-in-Ok-None c =
    sees_none c.args.seen c.in-Ok.file c.in-Ok.ensures (λ is. c.if-kind-eq-ET_CORE.false (c.kind.ensures ∙ is))
    (subst (Finds c.in-Ok.file) c.in-Ok-None.field-0-is c.in-Ok-None.ensures)
