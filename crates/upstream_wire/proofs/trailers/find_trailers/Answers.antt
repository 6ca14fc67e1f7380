use Rattle.upstream_wire.specs.Chunked.{HasNoTrailers}
use Rattle.upstream_wire.proofs.FailLemmas.{fails_by_memory}
use Rattle.upstream_wire.proofs.RoomLemmas.{takes_none}
use Rattle.upstream_wire.proofs.trailers.find_trailers.Goals as goal

pub returns-in_default : goal.returns-in_default
returns-in_default g c = fails_by_memory HasNoTrailers (takes_none c.args.room.now (g.S.Stream.shows c.args.source.now))
