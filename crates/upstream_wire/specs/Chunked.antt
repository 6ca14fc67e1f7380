-- Chunked bodies (RFC 9112, section 7.1), by the lines and sections of `httparse`. The limits are this project's.
use Rattle.std.specs.Prelude.{◌≡◌, ℕ, ◌<◌, ◌≤◌, List, ◌++◌, length, All}
use Rattle.std.specs.List.{flat_map}
use Rattle.httparse.specs.Grammar.{ChunkLine, Field, IsChunkLine, IsField, LineEnd, chunk_size, crlf, print_chunk_line, print_end, print_section}
use Rattle.http_wire.specs.declared.limits.TheConstants.{HEAD_LIMIT}

-- a line in front of a chunk that is read: within the limit, with its line end; what is behind a semicolon in it says nothing
pub record IsSizeLine (l : ChunkLine) : Type 0 where
  pub valid : IsChunkLine l
  pub short : length (print_chunk_line l) ≤ HEAD_LIMIT

-- chunk = line, data, line end
pub record Chunk : Type 0 where
  pub line : ChunkLine
  pub data_of : List ℕ

-- the bytes of a chunk
abbrev pub print_chunk : Chunk → List ℕ
print_chunk c = print_chunk_line c.line ++ (c.data_of ++ print_end crlf)

-- a chunk has data, of the size that its line says
pub record IsChunk (c : Chunk) : Type 0 where
  pub line : IsSizeLine c.line
  pub some : 0 < length c.data_of
  pub size : chunk_size c.line ≡ length c.data_of

-- the last chunk, and the section of trailers behind it
pub record LastChunk : Type 0 where
  pub line : ChunkLine
  pub fields : List Field
  pub end : LineEnd

-- their bytes
abbrev pub print_last_chunk : LastChunk → List ℕ
print_last_chunk e = print_chunk_line e.line ++ print_section e.fields e.end

-- trailers that are read: within the limit, with their line ends and the empty line
pub record IsTrailers (fields : List Field) (end : LineEnd) : Type 0 where
  pub valid : All IsField fields
  pub short : length (print_section fields end) ≤ HEAD_LIMIT

-- the last chunk has the size 0, and trailers that are read
pub record IsLastChunk (e : LastChunk) : Type 0 where
  pub line : IsSizeLine e.line
  pub size : chunk_size e.line ≡ 0
  pub trailers : IsTrailers e.fields e.end

-- chunked-body = *chunk last-chunk: these bytes, and then the rest; the body is the data of the chunks
pub record IsChunked (bytes body rest : List ℕ) : Type 0 where
  pub chunks : List Chunk
  pub last : LastChunk
  pub are : All IsChunk chunks
  pub ends : IsLastChunk last
  pub front : bytes ≡ flat_map print_chunk chunks ++ (print_last_chunk last ++ rest)
  pub gives : body ≡ flat_map (λ c. c.data_of) chunks

-- no chunked body of at most so many bytes is in front
abbrev pub HasNoChunked : ℕ → List ℕ → Type 0
HasNoChunked most bytes = (body rest : List ℕ) → IsChunked bytes body rest → length body ≤ most → ⊥

-- no line of a chunk is in front
abbrev pub HasNoSizeLine : List ℕ → Type 0
HasNoSizeLine bytes = (l : ChunkLine) (rest : List ℕ) → IsSizeLine l → bytes ≡ print_chunk_line l ++ rest → ⊥

-- no trailers are in front
abbrev pub HasNoTrailers : List ℕ → Type 0
HasNoTrailers bytes =
    (fields : List Field) (end : LineEnd) (rest : List ℕ) → IsTrailers fields end
    → bytes ≡ print_section fields end ++ rest → ⊥

-- these bytes aren't in front
abbrev pub LacksFront : List ℕ → List ℕ → Type 0
LacksFront wanted bytes = (rest : List ℕ) → bytes ≡ wanted ++ rest → ⊥
