use Rattle.http_wire.proofs.LineLemmas.{found_in_lines}
use Rattle.http_wire.proofs.find.look_at_lines.Goals as goal

pub returns : goal.returns
returns c =
    found_in_lines c.args.room.now c.lines.result.now c.look_at.result c.lines.ensures.value c.look_at.ensures
