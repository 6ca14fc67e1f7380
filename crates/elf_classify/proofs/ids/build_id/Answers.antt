use Rattle.std.proofs.Common.{subst, arith}
use Rattle.elf_classify.specs.Ids.{FindsAt}
use Rattle.elf_classify.proofs.IdLemmas.{finds_first, looks_next}
use Rattle.elf_classify.proofs.PlaceLemmas.{looks_from}
use Rattle.elf_classify.proofs.ids.build_id.Goals as goal

pub loop-index-init : goal.loop-index-init
loop-index-init c =
    looks_from c.args.file.now c.args.from c.requires.picture c.knows.ensures c.requires.other c.requires.passed

pub id_at-requires-clause-index : goal.id_at-requires-clause-index
id_at-requires-clause-index c = record { below = omega arith; above = c.loop-index.invariant.above }

pub loop-index-preserved : goal.loop-index-preserved
loop-index-preserved c =
    looks_next c.args.file.now c.loop-index.index c.loop-index.invariant
    (subst (FindsAt c.args.file.now c.loop-index.index) c.in-Ok-None.field-0-is c.in-Ok-None.ensures)

pub returns-in-Ok-Some : goal.returns-in-Ok-Some
returns-in-Ok-Some c =
    finds_first c.args.file.now c.loop-index.index c.in-Ok-Some.id c.loop-index.invariant
    (subst (FindsAt c.args.file.now c.loop-index.index) c.in-Ok-Some.field-0-is c.in-Ok-Some.ensures)

pub returns-in-Err : goal.returns-in-Err
returns-in-Err c = record { needs = c.in-Err.ensures; looks = c.loop-index.invariant }
