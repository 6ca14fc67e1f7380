use Rattle.std.proofs.Common.{sym, ◌∙◌}
use Rattle.elf_file.proofs.StartLemmas.{head_ok}
use Rattle.elf_file.proofs.TestLemmas.{head_err}
use Rattle.elf_file.proofs.start.head_in.Goals as goal

pub returns-in-Ok : goal.returns-in-Ok
returns-in-Ok c = head_ok _ _ _ c.in_ok-front.ensures (sym c.head.ensures ∙ c.in-Ok.is)

pub returns-in-Err : goal.returns-in-Err
returns-in-Err c = head_err _ _ _ c.in_ok-front.ensures (sym c.head.ensures ∙ c.in-Err.is)
