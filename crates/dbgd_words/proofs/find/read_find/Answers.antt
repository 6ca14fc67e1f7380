use Rattle.std.specs.Prelude.{map}
use Rattle.std.specs.String.{string_bytes}
use Rattle.dbgd_words.specs.Lines.{asked_by}
use Rattle.dbgd_words.proofs.FaultLemmas.{find_refused}
use Rattle.dbgd_words.proofs.find.read_find.Goals as goal

pub returns-in-Err : goal.returns-in-Err
returns-in-Err c =
    find_refused asked_by (map string_bytes c.args.words.now) c.in-Err.error.kind c.refused.result c.in-Err.ensures.faults
    c.refused.ensures.kind c.refused.ensures.line
