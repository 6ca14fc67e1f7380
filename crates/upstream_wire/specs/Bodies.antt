-- What reading the parts of a body answers (this project's rule).
use Rattle.std.specs.Prelude.{◌≡◌, ℕ, ◌<◌, ◌≤◌, List, [], ◌++◌, take, drop, length}
use Rattle.httparse.specs.Grammar.{ChunkLine, Field, HasNoChunkLine, HasNoSection, LineEnd, NeverHasChunkLine, ReadsSection, chunk_size, print_chunk_line, print_section}
use Rattle.httparse.specs.Spans.{IsChunkLineAt, SectionOverflows}
use Rattle.row_types.specs.Faults.{Rose}
use Rattle.http_wire.specs.Source.{HasEnded}
use Rattle.http_wire.specs.Stream.{ShownStream}
use Rattle.upstream_wire.specs.Chunked.{Chunk, IsChunk, IsChunked, IsSizeLine, IsTrailers, print_chunk}
use Rattle.upstream_wire.specs.Takes.{OfAll, Takes}
use Rattle.upstream_wire.specs.declared.chunked.Step.{Step}
use Rattle.upstream_wire.specs.declared.chunked.Step.TheVariants as step
use Rattle.upstream_wire.specs.declared.fault.ResponseFault.{ResponseFault}
use Rattle.upstream_wire.specs.declared.fault.ResponseFault.TheVariants.{NoResponse, OutOfMemory, ReadFault}
use Rattle.upstream_wire.specs.declared.limits.TheConstants.{BODY_LIMIT, TRAILERS}
use Rattle.upstream_wire.specs.declared.lines.LineLook.{LineLook}
use Rattle.upstream_wire.specs.declared.lines.LineLook.TheVariants as line_look
use Rattle.upstream_wire.specs.declared.trailers.TrailerLook.{TrailerLook}
use Rattle.upstream_wire.specs.declared.trailers.TrailerLook.TheVariants as trailer_look

-- why a part wasn't read: what was held and left lacks its form, or a read failed
abbrev pub FaultSays : ResponseFault → (List ℕ → Type 0) → List ℕ → ShownStream → ShownStream → Type 0
FaultSays NoResponse Lacks held before after = OfAll held before Lacks
FaultSays ReadFault Lacks held before after = Rose before.read_faults after.read_faults
FaultSays OutOfMemory Lacks held before after = Unit {0}

-- a part wasn't read; some of it may have been taken
pub record FailsBody
    (fault : ResponseFault) (Lacks : List ℕ → Type 0)
    (held : List ℕ) (before after : ShownStream) : Type 0 where
  pub taken : List ℕ
  pub now : List ℕ
  pub takes : Takes held before taken now after
  pub says : FaultSays fault Lacks held before after

-- what bytes in front of which a line may stand are
abbrev pub IsLineLook : List ℕ → LineLook → Type 0
IsLineLook bytes (line_look.Whole len size) = (l : ChunkLine) × IsChunkLineAt bytes len size l
IsLineLook bytes line_look.Partial = HasNoChunkLine bytes
IsLineLook bytes line_look.Bad = NeverHasChunkLine bytes

-- a line is in front of what is held, so long and of this size
pub record FindsLine (held : List ℕ) (before : ShownStream) (found : ℕ × ℕ) (now : List ℕ) (after : ShownStream) : Type 0 where
  pub line : ChunkLine
  pub is : IsSizeLine line
  pub takes : Takes held before (print_chunk_line line) (drop found.0 now) after
  pub inside : found.0 ≤ length now
  pub size : found.1 ≡ chunk_size line

-- a line was taken, of this size
pub record ReadsLine (held : List ℕ) (before : ShownStream) (size : ℕ) (now : List ℕ) (after : ShownStream) : Type 0 where
  pub line : ChunkLine
  pub is : IsSizeLine line
  pub takes : Takes held before (print_chunk_line line) now after
  pub says : size ≡ chunk_size line

-- so many of the held bytes were moved behind a body
pub record MovesBytes (held : List ℕ) (most : ℕ) (old : List ℕ) (n : ℕ) (now new : List ℕ) : Type 0 where
  pub some : 0 < n
  pub few : n ≤ most
  pub inside : n ≤ length held
  pub rest : now ≡ drop n held
  pub body : new ≡ old ++ take n held

-- why no byte is held: none was left, or a read failed
abbrev pub SomeSays : ResponseFault → ShownStream → List ℕ → ShownStream → Type 0
SomeSays NoResponse before now after = (now ≡ []) × HasEnded after.left
SomeSays ReadFault before now after = Rose before.read_faults after.read_faults
SomeSays OutOfMemory before now after = ⊥

-- no byte was held, and none came
pub record FailsSome (fault : ResponseFault) (held : List ℕ) (before after : ShownStream) : Type 0 where
  pub now : List ℕ
  pub takes : Takes held before [] now after
  pub says : SomeSays fault before now after

-- so many bytes were taken, and added to a body
pub record ReadsData
    (held : List ℕ) (before : ShownStream) (size : ℕ) (old now : List ℕ) (after : ShownStream) (new : List ℕ) : Type 0 where
  pub data_of : List ℕ
  pub count : length data_of ≡ size
  pub takes : Takes held before data_of now after
  pub body : new ≡ old ++ data_of

-- what bytes in front of which trailers may stand are: of the sections that bytes which are no such front can begin with, each
-- has too many fields for its bytes
abbrev pub IsTrailerLook : List ℕ → TrailerLook → Type 0
IsTrailerLook bytes (trailer_look.Whole len) =
    (fields : List Field) × (end : LineEnd) × ReadsSection bytes fields end (drop len bytes)
    × (len ≡ length (print_section fields end))
IsTrailerLook bytes trailer_look.Partial = HasNoSection bytes
IsTrailerLook bytes trailer_look.Bad = SectionOverflows TRAILERS bytes

-- trailers are in front of what is held
pub record FindsTrailers (held : List ℕ) (before : ShownStream) (len : ℕ) (now : List ℕ) (after : ShownStream) : Type 0 where
  pub fields : List Field
  pub end : LineEnd
  pub is : IsTrailers fields end
  pub takes : Takes held before (print_section fields end) (drop len now) after
  pub inside : len ≤ length now

-- trailers were taken
pub record ReadsTrailers (held : List ℕ) (before : ShownStream) (now : List ℕ) (after : ShownStream) : Type 0 where
  pub fields : List Field
  pub end : LineEnd
  pub is : IsTrailers fields end
  pub takes : Takes held before (print_section fields end) now after

-- a chunk with data was taken, and its data added to a body
pub record TakesChunk
    (held : List ℕ) (before : ShownStream) (size : ℕ) (old now : List ℕ) (after : ShownStream) (new : List ℕ) : Type 0 where
  pub chunk : Chunk
  pub is : IsChunk chunk
  pub says : size ≡ length chunk.data_of
  pub takes : Takes held before (print_chunk chunk) now after
  pub body : new ≡ old ++ chunk.data_of

-- the line of the last chunk was taken, or a chunk with data of a size within the limit
abbrev pub StepsChunk : List ℕ → ShownStream → ℕ → Step → List ℕ → List ℕ → ShownStream → List ℕ → Type 0
StepsChunk held before most step.Last old now after new = ReadsLine held before 0 now after × (new ≡ old)
StepsChunk held before most (step.Chunk n) old now after new =
    (0 < n) × (n ≤ most) × TakesChunk held before n old now after new

-- a chunked body was taken
pub record ReadsChunked (held : List ℕ) (before : ShownStream) (now : List ℕ) (after : ShownStream) (body : List ℕ) : Type 0 where
  pub taken : List ℕ
  pub takes : Takes held before taken now after
  pub is : IsChunked taken body []
  pub short : length body ≤ BODY_LIMIT

-- all that was held and left was taken
pub record ReadsToEnd (held : List ℕ) (before : ShownStream) (body : List ℕ) (after : ShownStream) : Type 0 where
  pub takes : Takes held before body [] after
  pub ended : HasEnded after.left
  pub short : length body ≤ BODY_LIMIT
