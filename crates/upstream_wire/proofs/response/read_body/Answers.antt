use Rattle.std.proofs.Common.{◌<◌, MatchResult, length, subst, sym}
use Rattle.upstream_wire.specs.Bodies.{FailsBody}
use Rattle.upstream_wire.specs.Chunked.{HasNoChunked}
use Rattle.upstream_wire.specs.Reads.{HasNoBody, ReadsBody}
use Rattle.upstream_wire.specs.declared.fault.ResponseFault.TheVariants.{NoResponse}
use Rattle.upstream_wire.specs.declared.framing.Framing.TheVariants.{BadLength, Chunked, OtherEncoding, Sized, ToEnd}
use Rattle.upstream_wire.proofs.BodyLemmas.{body_chunked, body_sized, body_to_end, match_each, no_body_to_end, no_chunked_body, no_sized_body}
use Rattle.upstream_wire.proofs.FailLemmas.{fails_as, fails_lacking}
use Rattle.upstream_wire.proofs.RoomLemmas.{takes_none}
use Rattle.upstream_wire.proofs.response.read_body.Goals as goal

pub returns-in-Chunked : goal.returns-in-Chunked
returns-in-Chunked g c =
    subst (λ f. MatchResult c.read_chunked.result
    (λ _. ReadsBody f c.args.room.now (g.S.Stream.shows c.args.source.now) c.read_chunked.new.body.items (g.S.Stream.shows c.read_chunked.new.source))
    (λ fault. FailsBody fault (HasNoBody f) c.args.room.now (g.S.Stream.shows c.args.source.now) (g.S.Stream.shows c.read_chunked.new.source)))
    (sym c.in-Chunked.is)
    (match_each c.read_chunked.result (λ _ reads. body_chunked reads)
    (λ fault fails. fails_as fault (HasNoChunked 1073741824) (HasNoBody Chunked) no_chunked_body fails)
    c.read_chunked.ensures)

pub returns-in-Sized : goal.returns-in-Sized
returns-in-Sized g c =
    subst (λ f. MatchResult c.read_data.result
    (λ _. ReadsBody f c.args.room.now (g.S.Stream.shows c.args.source.now) c.read_data.new.body.items (g.S.Stream.shows c.read_data.new.source))
    (λ fault. FailsBody fault (HasNoBody f) c.args.room.now (g.S.Stream.shows c.args.source.now) (g.S.Stream.shows c.read_data.new.source)))
    (sym c.in-Sized.is)
    (match_each c.read_data.result (λ _ reads. body_sized c.in-Sized.size c.requires reads)
    (λ fault fails. fails_as fault (λ all. length all < c.in-Sized.size) (HasNoBody (Sized c.in-Sized.size))
    (no_sized_body c.in-Sized.size) fails)
    c.read_data.ensures)

pub returns-in-ToEnd : goal.returns-in-ToEnd
returns-in-ToEnd g c =
    subst (λ f. MatchResult c.read_to_end.result
    (λ _. ReadsBody f c.args.room.now (g.S.Stream.shows c.args.source.now) c.read_to_end.new.body.items (g.S.Stream.shows c.read_to_end.new.source))
    (λ fault. FailsBody fault (HasNoBody f) c.args.room.now (g.S.Stream.shows c.args.source.now) (g.S.Stream.shows c.read_to_end.new.source)))
    (sym c.in-ToEnd.is)
    (match_each c.read_to_end.result (λ _ reads. body_to_end reads)
    (λ fault fails. fails_as fault (λ all. 1073741824 < length all) (HasNoBody ToEnd) no_body_to_end fails)
    c.read_to_end.ensures)

pub returns-in-OtherEncoding : goal.returns-in-OtherEncoding
returns-in-OtherEncoding g c =
    subst (λ f. FailsBody NoResponse (HasNoBody f) c.args.room.now (g.S.Stream.shows c.args.source.now) (g.S.Stream.shows c.args.source.now))
    (sym c.in-OtherEncoding.is)
    (fails_lacking (HasNoBody OtherEncoding) (takes_none c.args.room.now (g.S.Stream.shows c.args.source.now))
    (λ left tells body framed. framed))

pub returns-in-BadLength : goal.returns-in-BadLength
returns-in-BadLength g c =
    subst (λ f. FailsBody NoResponse (HasNoBody f) c.args.room.now (g.S.Stream.shows c.args.source.now) (g.S.Stream.shows c.args.source.now))
    (sym c.in-BadLength.is)
    (fails_lacking (HasNoBody BadLength) (takes_none c.args.room.now (g.S.Stream.shows c.args.source.now))
    (λ left tells body framed. framed))
