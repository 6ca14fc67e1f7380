use Rattle.upstream_wire.proofs.BodyLemmas.{fails_by_body, fails_by_head, whole_of}
use Rattle.upstream_wire.proofs.response.read_whole.Goals as goal

pub returns-in-Err : goal.returns-in-Err
returns-in-Err g c = fails_by_head c.in-Err.fault c.in-Err.ensures

pub returns-in-Ok-read_body : goal.returns-in-Ok-read_body
returns-in-Ok-read_body g c = whole_of c.in-Ok.found c.in-Ok.ensures c.in-Ok-read_body.ensures

pub returns-in-Err-read_body : goal.returns-in-Err-read_body
returns-in-Err-read_body g c = fails_by_body c.in-Ok.found c.in-Err-read_body.fault c.in-Ok.ensures c.in-Err-read_body.ensures
