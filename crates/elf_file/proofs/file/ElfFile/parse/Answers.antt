use Rattle.std.proofs.Common.{sym, ◌∙◌, ap, subst}
use Rattle.file_picture.specs.Agrees.{filled_with_zeros}
use Rattle.file_picture.proofs.WholeLaws.{filled-whole}
use Rattle.elf_file.specs.Parsed.{IsPictureWhole}
use Rattle.elf_file.proofs.WholeLemmas.{is_whole, table_whole}
use Rattle.elf_file.proofs.file.ElfFile.parse.Goals as goal

pub invariant_of-result : goal.invariant_of-result
invariant_of-result c = subst IsPictureWhole (sym c.in-Ok.ensures.same) (is_whole c.args.bytes.now)

pub returns-in-Ok-clause-ok : goal.returns-in-Ok-clause-ok
returns-in-Ok-clause-ok c =
    (ap filled_with_zeros c.in-Ok.ensures.same ∙ filled-whole c.args.bytes.now, table_whole c.args.bytes.now _ c.in-Ok.ensures.is_table)

pub returns-in-Err-clause-err : goal.returns-in-Err-clause-err
returns-in-Err-clause-err c = table_whole c.args.bytes.now _ c.in-Err.ensures.is
