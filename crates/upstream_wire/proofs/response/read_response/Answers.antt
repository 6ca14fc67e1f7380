use Rattle.upstream_wire.proofs.BodyLemmas.{reads_apart, reads_given, reads_later, reads_of_left}
use Rattle.upstream_wire.proofs.UniqueLemmas.{reads_only}
use Rattle.upstream_wire.proofs.response.read_response.Goals as goal

pub returns-clause-reads : goal.returns-clause-reads
returns-clause-reads g c =
    reads_of_left c.in-Ok.room (g.S.Stream.shows c.args.source.now) (g.S.Stream.shows c.read_whole.new.source)
    c.read_whole.result c.in-Ok.ensures c.read_whole.ensures

pub returns-clause-later : goal.returns-clause-later
returns-clause-later g c =
    reads_later c.in-Ok.room (g.S.Stream.shows c.args.source.now) (g.S.Stream.shows c.read_whole.new.source)
    c.read_whole.result c.read_whole.ensures

pub returns-clause-apart : goal.returns-clause-apart
returns-clause-apart g c =
    reads_apart c.in-Ok.room (g.S.Stream.shows c.args.source.now) (g.S.Stream.shows c.read_whole.new.source)
    c.read_whole.result c.read_whole.ensures

pub returns-clause-given : goal.returns-clause-given
returns-clause-given g c =
    reads_given c.in-Ok.room (g.S.Stream.shows c.args.source.now) (g.S.Stream.shows c.read_whole.new.source)
    c.read_whole.result c.read_whole.ensures

pub returns-clause-only : goal.returns-clause-only
returns-clause-only g c =
    reads_only (g.S.Stream.shows c.args.source.now) (g.S.Stream.shows c.read_whole.new.source) c.read_whole.result
    (reads_of_left c.in-Ok.room (g.S.Stream.shows c.args.source.now) (g.S.Stream.shows c.read_whole.new.source)
    c.read_whole.result c.in-Ok.ensures c.read_whole.ensures)
