-- The exits of reading a chunk and a chunked body.
use Rattle.std.proofs.Common.{ℕ, ◌<◌, List, length}
use Rattle.httparse.specs.Grammar.{crlf, print_end}
use Rattle.http_wire.specs.Stream.{ShownStream}
use Rattle.upstream_wire.specs.Bodies.{FailsBody, ReadsData, ReadsLine}
use Rattle.upstream_wire.specs.Chunked.{HasNoChunked, HasNoSizeLine, HasNoTrailers, LacksFront}
use Rattle.upstream_wire.specs.declared.fault.ResponseFault.{ResponseFault}
use Rattle.upstream_wire.specs.declared.fault.ResponseFault.TheVariants.{NoResponse}
use Rattle.upstream_wire.proofs.ChunkedLemmas.{IsSoFar, line_front, none_by_data, none_by_end, none_by_size, none_by_trailers, none_so_far, reads_chunked, so_far_more, so_far_none}
use Rattle.upstream_wire.proofs.FailLemmas.{fails_as, fails_behind, fails_lacking}
use Rattle.upstream_wire.proofs.RoomLemmas.{takes_both}

-- no line is in front
pub fails_by_line : {held : List ℕ} {before after : ShownStream} (most : ℕ) (fault : ResponseFault)
    → FailsBody fault HasNoSizeLine held before after → FailsBody fault (HasNoChunked most) held before after
fails_by_line {held} {before} {after} most fault fails =
    fails_as fault HasNoSizeLine (HasNoChunked most) (λ all none body rest x short. line_front all body rest x none) fails

-- the size of a line is too large
pub fails_by_size : {held now : List ℕ} {before after : ShownStream} (most size : ℕ) → ReadsLine held before size now after
    → most < size → FailsBody NoResponse (HasNoChunked most) held before after
fails_by_size most size line large = fails_lacking (HasNoChunked most) line.takes (none_by_size most size line large)

-- the data isn't read
pub fails_by_data : {held mid : List ℕ} {before between after : ShownStream} (most size : ℕ) (fault : ResponseFault)
    → ReadsLine held before size mid between → 0 < size → FailsBody fault (λ all. length all < size) mid between after
    → FailsBody fault (HasNoChunked most) held before after
fails_by_data {held} {mid} {before} {between} {after} most size fault line some fails =
    fails_behind fault (λ all. length all < size) (HasNoChunked most) line.takes (none_by_data most size line some) fails

-- the line end behind the data isn't read
pub fails_by_end : {held mid then old new : List ℕ} {before between later after : ShownStream} (most size : ℕ) (fault : ResponseFault)
    → ReadsLine held before size mid between → 0 < size → ReadsData mid between size old then later new
    → FailsBody fault (LacksFront (print_end crlf)) then later after → FailsBody fault (HasNoChunked most) held before after
fails_by_end {held} {mid} {then} {old} {new} {before} {between} {later} {after} most size fault line some data_of fails =
    fails_behind fault (LacksFront (print_end crlf)) (HasNoChunked most) (takes_both line.takes data_of.takes)
    (none_by_end most size line some data_of) fails

-- the next chunk isn't read
pub fails_so_far : {held mid body : List ℕ} {before between after : ShownStream} {left : ℕ} (fault : ResponseFault)
    → IsSoFar held before mid between body left → FailsBody fault (HasNoChunked left) mid between after
    → FailsBody fault (HasNoChunked 1073741824) held before after
fails_so_far {held} {mid} {body} {before} {between} {after} {left} fault had fails =
    fails_behind fault (HasNoChunked left) (HasNoChunked 1073741824) had.takes (none_so_far had) fails

-- the trailers aren't read
pub fails_by_trailers : {held mid then body : List ℕ} {before between later after : ShownStream} {left : ℕ} (fault : ResponseFault)
    → IsSoFar held before mid between body left → ReadsLine mid between 0 then later
    → FailsBody fault HasNoTrailers then later after → FailsBody fault (HasNoChunked 1073741824) held before after
fails_by_trailers {held} {mid} {then} {body} {before} {between} {later} {after} {left} fault had line fails =
    fails_behind fault HasNoTrailers (HasNoChunked 1073741824) (takes_both had.takes line.takes)
    (λ none. none_so_far had (none_by_trailers left line none)) fails

pub ruleset body_steps = (so_far_none, so_far_more, reads_chunked)
