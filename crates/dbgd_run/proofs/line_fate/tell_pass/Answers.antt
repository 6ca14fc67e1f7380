-- What came of the line, by the status with which it was said.
use Rattle.std.proofs.Common.{sym, subst}
use Rattle.dbgd_commands.specs.Endings.{streams}
use Rattle.dbgd_run.specs.RoundSaid.{TellsPass}
use Rattle.dbgd_run.specs.declared.line_fate.LineFate.{LineFate}
use Rattle.dbgd_run.proofs.TellLemmas.{told_by}
use Rattle.dbgd_run.proofs.line_fate.tell_pass.Goals as goal

pub returns : goal.returns
returns g c =
    let old = streams g.O.Stream.shows c.args.out.now c.args.err.now in
    let new = streams g.O.Stream.shows c.say_pass.new.out c.say_pass.new.err in
    subst (λ (fate : LineFate). TellsPass c.args.end.now old new fate) (sym c.fate_by.ensures)
    (told_by c.args.end.now old new c.say_pass.result c.say_pass.ensures)
