use Rattle.upstream_wire.proofs.RoomLemmas.{fill_some, takes_fill, takes_none}
use Rattle.upstream_wire.proofs.data.need_some.Goals as goal

pub returns-in-Bytes : goal.returns-in-Bytes
returns-in-Bytes g c = (
  takes_fill (takes_none c.args.room.now (g.S.Stream.shows c.args.source.now)) c.in-Bytes.ensures,
  fill_some c.in-Bytes.ensures,
)
