use Rattle.std.proofs.Common.{sym, subst}
use Rattle.elf_file.specs.Parsed.{IsPictureWhole}
use Rattle.elf_file.specs.Steps.{StopsBefore}
use Rattle.elf_file.proofs.WholeLemmas.{is_whole, never_needs}
use Rattle.elf_file.proofs.view.ElfView.of_bytes.Goals as goal

pub unreachable-requires : goal.unreachable-requires
unreachable-requires c =
    never_needs c.whole.result c.in-Err-Need.field-0-0 (subst IsPictureWhole (sym c.whole.ensures) (is_whole c.args.bytes.now))
    (subst (StopsBefore c.whole.result) c.in-Err-Need.field-0-is c.in-Err-Need.ensures)
