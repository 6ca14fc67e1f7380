-- Bytes begin with one response.
use Rattle.std.proofs.Common.{◌≡◌, ℕ, ◌<◌, List, [], ◌∷◌, ◌++◌, length, All, Result, Ok, Err, IfOk, MatchResult, refl, sym, ap, ◌∙◌, subst, arith, append_assoc}
use Rattle.std.specs.List.{flat_map}
use Rattle.std.proofs.lemmas.List.Elements.{All-head, All-tail}
use Rattle.httparse.specs.Grammar.{ChunkLine, chunk_size, crlf, print_chunk_line, print_end, print_section, status_code}
use Rattle.httparse.proofs.ChunkLemmas.{chunk_line_unique}
use Rattle.httparse.proofs.GrammarLemmas.{response_unique}
use Rattle.http_wire.specs.Stream.{ShownStream}
use Rattle.upstream_wire.specs.Chunked.{Chunk, IsChunk, IsChunked, IsLastChunk, IsSizeLine, LastChunk, print_chunk, print_last_chunk}
use Rattle.upstream_wire.specs.Reads.{FailsResponse, IsOnlyResponse, OfLeft, ReadsResponseOf}
use Rattle.upstream_wire.specs.Response.{IsFramed, IsWholeResponse, framing_by}
use Rattle.upstream_wire.specs.declared.fault.ResponseFault.{ResponseFault}
use Rattle.upstream_wire.specs.declared.framing.Framing.{Framing}
use Rattle.upstream_wire.specs.declared.framing.Framing.TheVariants.{BadLength, Chunked, OtherEncoding, Sized, ToEnd}
use Rattle.upstream_wire.specs.declared.response.Response.{Response}
use Rattle.upstream_wire.proofs.ChunkedLemmas.{chunk_front, cut, last_front, opens}

no_size : (a b n : ℕ) → 0 < n → a ≡ b → a ≡ 0 → b ≡ n → ⊥
no_size a b n some same none size = omega arith

-- behind a line of size 0 there is no data
zero_body : (l : ChunkLine) (w body rest : List ℕ) (chunks : List Chunk) (last : LastChunk) → IsSizeLine l → chunk_size l ≡ 0
    → All IsChunk chunks → IsLastChunk last
    → print_chunk_line l ++ w ≡ flat_map print_chunk chunks ++ (print_last_chunk last ++ rest)
    → body ≡ flat_map (λ c. c.data_of) chunks → body ≡ []
zero_body l w body rest [] last is zero are ends front gives = gives
zero_body l w body rest (c ∷ chunks) last is zero are ends front gives =
    let first = All-head IsChunk c chunks are in
    let tail = flat_map print_chunk chunks ++ (print_last_chunk last ++ rest) in
    let whole : print_chunk_line l ++ w ≡ print_chunk_line c.line ++ (c.data_of ++ (print_end crlf ++ tail)) =
    front ∙ append_assoc (print_chunk c) (flat_map print_chunk chunks) (print_last_chunk last ++ rest) ∙ chunk_front c tail in
    let same = chunk_line_unique (print_chunk_line l ++ w) l c.line w (c.data_of ++ (print_end crlf ++ tail))
    (is.valid, refl) (first.line.valid, whole) in
    let size = ap chunk_size same.0 in
    let a = first.some in
    let b = first.size in
    absurd (no_size (chunk_size l) (chunk_size c.line) (length c.data_of) a size zero b)

-- a chunked body is one
chunked_unique : (chunks : List Chunk) (all body other rest more : List ℕ) (last : LastChunk) → All IsChunk chunks
    → IsLastChunk last → all ≡ flat_map print_chunk chunks ++ (print_last_chunk last ++ rest)
    → body ≡ flat_map (λ c. c.data_of) chunks → IsChunked all other more → body ≡ other
chunked_unique [] all body other rest more last are ends front gives x =
    gives ∙ sym (zero_body last.line (print_section last.fields last.end ++ rest) other more x.chunks x.last ends.line ends.size
    x.are x.ends (sym (front ∙ last_front last rest) ∙ x.front) x.gives)
chunked_unique (c ∷ chunks) all body other rest more last are ends front gives x =
    let first = All-head IsChunk c chunks are in
    let tail = flat_map print_chunk chunks ++ (print_last_chunk last ++ rest) in
    let some : 0 < chunk_size c.line = (let a = first.some in let b = first.size in omega arith) in
    let whole : all ≡ print_chunk_line c.line ++ (c.data_of ++ (print_end crlf ++ tail)) =
    front ∙ append_assoc (print_chunk c) (flat_map print_chunk chunks) (print_last_chunk last ++ rest) ∙ chunk_front c tail in
    let o = opens first.line some whole x in
    let size : length c.data_of ≡ length o.chunk.data_of = sym first.size ∙ ap chunk_size (sym o.line) ∙ o.is.size in
    let parts = cut c.data_of o.chunk.data_of (print_end crlf ++ tail) (print_end crlf ++ o.tail) size o.splits in
    let tails = cut (print_end crlf) (print_end crlf) tail o.tail refl parts.1 in
    let inner = chunked_unique chunks tail (flat_map (λ d. d.data_of) chunks) o.inner rest more last (All-tail IsChunk c chunks are)
    ends refl refl (subst (λ t. IsChunked t o.inner more) (sym tails.1) o.more) in
    gives ∙ ap (λ t. t ++ flat_map (λ d. d.data_of) chunks) parts.0 ∙ ap (λ t. o.chunk.data_of ++ t) inner ∙ sym o.gives

-- fronts of one length are one
same_front : (a b x y : List ℕ) (n : ℕ) → length a ≡ n → length b ≡ n → a ++ x ≡ b ++ y → a ≡ b
same_front a b x y n one other same = (cut a b x y (one ∙ sym other) same).0

-- a body that is framed so is one
framed_unique : (framing : Framing) (bytes body other : List ℕ) → IsFramed framing bytes body → IsFramed framing bytes other
    → body ≡ other
framed_unique Chunked bytes body other x y =
    chunked_unique x.1.chunks bytes body other x.0 y.0 x.1.last x.1.are x.1.ends x.1.front x.1.gives y.1
framed_unique (Sized n) bytes body other x y = same_front body other x.0 y.0 n x.2 y.2 (sym x.1 ∙ y.1)
framed_unique ToEnd bytes body other x y = x.0 ∙ sym y.0
framed_unique OtherEncoding bytes body other x y = absurd x
framed_unique BadLength bytes body other x y = absurd x

-- and so is a response
pub whole_unique : (bytes : List ℕ) (status other : ℕ) (body one : List ℕ) → IsWholeResponse bytes status body
    → IsWholeResponse bytes other one → (status ≡ other) × (body ≡ one)
whole_unique bytes status other body one x y =
    let same = response_unique bytes x.head y.head x.behind y.behind (x.is.valid, x.front) (y.is.valid, y.front) in
    let framed : IsFramed (framing_by y.head) y.behind body =
    subst (λ k. IsFramed (framing_by k) y.behind body) same.0
    (subst (λ b. IsFramed (framing_by x.head) b body) same.1 x.framed) in (
      x.says ∙ ap status_code same.0 ∙ sym y.says,
      framed_unique (framing_by y.head) y.behind body one framed y.framed,
    )

-- what was read is the only response there
pub reads_only : (before after : ShownStream) (r : Result Response ResponseFault)
    → MatchResult r (λ x. ReadsResponseOf before x.status x.body.items) (λ fault. FailsResponse fault before after)
    → IfOk r (λ x. OfLeft before (λ left. IsOnlyResponse left x.status x.body.items))
reads_only before after (Ok x) reads = λ left tells status body other.
    whole_unique left x.status status x.body.items body (reads left tells) other
reads_only before after (Err fault) reads = tt
