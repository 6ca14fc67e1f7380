use Rattle.std.specs.Prelude.{map}
use Rattle.std.specs.String.{string_bytes}
use Rattle.dbgd_words.specs.Lines.{asked_by}
use Rattle.dbgd_words.proofs.FaultLemmas.{serve_refused}
use Rattle.dbgd_words.proofs.serve.read_serve.Goals as goal

pub returns-in-Err : goal.returns-in-Err
returns-in-Err c =
    serve_refused asked_by (map string_bytes c.args.words.now) c.in-Err.error.kind c.refused.result c.in-Err.ensures.faults
    c.refused.ensures.kind c.refused.ensures.line

pub returns-in-Ok : goal.returns-in-Ok
returns-in-Ok c = rw (c.in-Ok.ensures.faults, ← c.in-Ok.ensures.rows) c.serve_of.ensures
