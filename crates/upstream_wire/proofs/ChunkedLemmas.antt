-- Chunked bodies are read in one way, from the front.
use Rattle.std.proofs.Common.{◌≡◌, ℕ, ◌+◌, ◌<◌, List, [], ◌∷◌, ◌++◌, length, take, drop, All, refl, sym, ap, ◌∙◌, subst, arith, append_assoc, length-append}
use Rattle.std.specs.List.{flat_map}
use Rattle.std.proofs.Math.Seq.{drop-append_seam, take-append_seam}
use Rattle.std.proofs.lemmas.List.{append-nil}
use Rattle.std.proofs.lemmas.List.Elements.{All-cons, All-head, All-nil, All-tail}
use Rattle.httparse.specs.Grammar.{ChunkLine, chunk_size, crlf, print_chunk_line, print_end, print_section}
use Rattle.httparse.proofs.ChunkLemmas.{chunk_line_unique}
use Rattle.upstream_wire.specs.Bodies.{ReadsChunked, ReadsData, ReadsLine, ReadsTrailers, TakesChunk}
use Rattle.upstream_wire.specs.Chunked.{Chunk, HasNoChunked, HasNoSizeLine, HasNoTrailers, IsChunk, IsChunked, IsLastChunk, IsSizeLine, LacksFront, LastChunk, print_chunk, print_last_chunk}
use Rattle.upstream_wire.specs.Takes.{OfAll, Takes}
use Rattle.http_wire.specs.Stream.{ShownStream}
use Rattle.upstream_wire.proofs.RoomLemmas.{behind, takes_both, takes_none}

-- fronts of one length are one
pub cut : (a b x y : List ℕ) → length a ≡ length b → a ++ x ≡ b ++ y → (a ≡ b) × (x ≡ y)
cut a b x y size same = (
  sym (take-append_seam a x) ∙ ap (λ all. take (length a) all) same ∙ ap (λ n. take n (b ++ y)) size ∙ take-append_seam b y,
  sym (drop-append_seam a x) ∙ ap (λ all. drop (length a) all) same ∙ ap (λ n. drop n (b ++ y)) size ∙ drop-append_seam b y,
)

-- what stands behind a line in front
pub record Opens (l : ChunkLine) (w body rest : List ℕ) : Type 0 where
  pub chunk : Chunk
  pub is : IsChunk chunk
  pub line : chunk.line ≡ l
  pub tail : List ℕ
  pub splits : w ≡ chunk.data_of ++ (print_end crlf ++ tail)
  pub inner : List ℕ
  pub more : IsChunked tail inner rest
  pub gives : body ≡ chunk.data_of ++ inner

pub last_front : (last : LastChunk) (rest : List ℕ) → print_last_chunk last ++ rest
    ≡ print_chunk_line last.line ++ (print_section last.fields last.end ++ rest)
last_front last rest = append_assoc (print_chunk_line last.line) (print_section last.fields last.end) rest

pub chunk_front : (c : Chunk) (rest : List ℕ) → print_chunk c ++ rest
    ≡ print_chunk_line c.line ++ (c.data_of ++ (print_end crlf ++ rest))
chunk_front c rest =
    append_assoc (print_chunk_line c.line) (c.data_of ++ print_end crlf) rest
    ∙ ap (λ t. print_chunk_line c.line ++ t) (append_assoc c.data_of (print_end crlf) rest)

opens_by : (l : ChunkLine) (w body rest : List ℕ) (chunks : List Chunk) (last : LastChunk) → IsSizeLine l → 0 < chunk_size l
    → All IsChunk chunks → IsLastChunk last
    → print_chunk_line l ++ w ≡ flat_map print_chunk chunks ++ (print_last_chunk last ++ rest)
    → body ≡ flat_map (λ c. c.data_of) chunks → Opens l w body rest
opens_by l w body rest [] last is some are ends front gives =
    let same = chunk_line_unique (print_chunk_line l ++ w) l last.line w (print_section last.fields last.end ++ rest)
    (is.valid, refl) (ends.line.valid, front ∙ last_front last rest) in
    let size = ap chunk_size same.0 in
    let zero = ends.size in
    absurd (the_less (chunk_size l) (chunk_size last.line) some size zero)
  where
    the_less : (a b : ℕ) → 0 < a → a ≡ b → b ≡ 0 → ⊥
    the_less a b some same none = omega arith
opens_by l w body rest (c ∷ chunks) last is some are ends front gives =
    let first = All-head IsChunk c chunks are in
    let tail = flat_map print_chunk chunks ++ (print_last_chunk last ++ rest) in
    let whole : print_chunk_line l ++ w ≡ print_chunk_line c.line ++ (c.data_of ++ (print_end crlf ++ tail)) =
    front ∙ append_assoc (print_chunk c) (flat_map print_chunk chunks) (print_last_chunk last ++ rest) ∙ chunk_front c tail in
    let same = chunk_line_unique (print_chunk_line l ++ w) l c.line w (c.data_of ++ (print_end crlf ++ tail))
    (is.valid, refl) (first.line.valid, whole) in
    record {
      chunk = c;
      is = first;
      line = sym same.0;
      tail = tail;
      splits = same.1;
      inner = flat_map (λ d. d.data_of) chunks;
      more = record { chunks = chunks; last = last; are = All-tail IsChunk c chunks are; ends = ends; front = refl; gives = refl };
      gives = gives;
    }

pub opens : {l : ChunkLine} {all w body rest : List ℕ} → IsSizeLine l → 0 < chunk_size l → all ≡ print_chunk_line l ++ w
    → IsChunked all body rest → Opens l w body rest
opens {l} {all} {w} {body} {rest} is some splits x =
    opens_by l w body rest x.chunks x.last is some x.are x.ends (sym splits ∙ x.front) x.gives

-- a chunk in front of what has no body
pub none_behind : (most left : ℕ) (c : Chunk) (w : List ℕ) → IsChunk c → length c.data_of + left ≡ most
    → HasNoChunked left w → HasNoChunked most (print_chunk c ++ w)
none_behind most left c w is sum none body rest x short =
    let some : 0 < chunk_size c.line = (let a = is.some in let b = is.size in omega arith) in
    let o = opens is.line some (chunk_front c w) x in
    let size : length c.data_of ≡ length o.chunk.data_of = sym is.size ∙ ap chunk_size (sym o.line) ∙ o.is.size in
    let parts = cut c.data_of o.chunk.data_of (print_end crlf ++ w) (print_end crlf ++ o.tail) size o.splits in
    let tails = cut (print_end crlf) (print_end crlf) w o.tail refl parts.1 in
    let total = ap length o.gives ∙ length-append o.chunk.data_of o.inner in
    none o.inner rest (subst (λ t. IsChunked t o.inner rest) (sym tails.1) o.more) (omega arith)

-- a body has a line in front
pub line_front : (all body rest : List ℕ) → IsChunked all body rest → HasNoSizeLine all → ⊥
line_front all body rest x none = by_chunks x.chunks x.last x.are x.ends x.front
  where
    by_chunks : (chunks : List Chunk) (last : LastChunk) → All IsChunk chunks → IsLastChunk last
        → all ≡ flat_map print_chunk chunks ++ (print_last_chunk last ++ rest) → ⊥
    by_chunks [] last are ends front =
        none last.line (print_section last.fields last.end ++ rest) ends.line (front ∙ last_front last rest)
    by_chunks (c ∷ chunks) last are ends front =
        let tail = flat_map print_chunk chunks ++ (print_last_chunk last ++ rest) in
        none c.line (c.data_of ++ (print_end crlf ++ tail)) (All-head IsChunk c chunks are).line
        (front ∙ append_assoc (print_chunk c) (flat_map print_chunk chunks) (print_last_chunk last ++ rest) ∙ chunk_front c tail)

-- behind a line of too large a size there is no body
pub none_by_size : {held now : List ℕ} {before after : ShownStream} (most size : ℕ) → ReadsLine held before size now after
    → most < size → OfAll held before (HasNoChunked most)
none_by_size {held} {now} {before} {after} most size line large left tells body rest x short =
    let found = behind left line.takes tells in
    let says = line.says in
    let some : 0 < chunk_size line.line = omega arith in
    let o = opens line.is some found.2 x in
    let same : size ≡ length o.chunk.data_of = says ∙ ap chunk_size (sym o.line) ∙ o.is.size in
    let total = ap length o.gives ∙ length-append o.chunk.data_of o.inner in
    omega arith

-- nor behind one with too few bytes
pub none_by_data : {held mid : List ℕ} {before between : ShownStream} (most size : ℕ) → ReadsLine held before size mid between
    → 0 < size → OfAll mid between (λ all. length all < size) → OfAll held before (HasNoChunked most)
none_by_data {held} {mid} {before} {between} most size line positive few left tells body rest x short =
    let found = behind left line.takes tells in
    let says = line.says in
    let some : 0 < chunk_size line.line = omega arith in
    let o = opens line.is some found.2 x in
    let same : size ≡ length o.chunk.data_of = says ∙ ap chunk_size (sym o.line) ∙ o.is.size in
    let total = ap length o.splits ∙ length-append o.chunk.data_of (print_end crlf ++ o.tail) in
    let fewer = few found.0 found.1 in
    omega arith

-- nor behind data without its line end
pub none_by_end : {held mid now old new : List ℕ} {before between after : ShownStream} (most size : ℕ)
    → ReadsLine held before size mid between → 0 < size → ReadsData mid between size old now after new
    → OfAll now after (LacksFront (print_end crlf)) → OfAll held before (HasNoChunked most)
none_by_end {held} {mid} {now} {old} {new} {before} {between} {after} most size line positive data_of lacks left tells body rest x short =
    let found = behind left line.takes tells in
    let then = behind found.0 data_of.takes found.1 in
    let says = line.says in
    let some : 0 < chunk_size line.line = omega arith in
    let o = opens line.is some found.2 x in
    let same : length data_of.data_of ≡ length o.chunk.data_of = data_of.count ∙ says ∙ ap chunk_size (sym o.line) ∙ o.is.size in
    let parts = cut data_of.data_of o.chunk.data_of (now ++ then.0) (print_end crlf ++ o.tail) same (sym then.2 ∙ o.splits) in
    lacks then.0 then.1 o.tail parts.1

no_size : (a b n : ℕ) → 0 < n → a ≡ b → a ≡ 0 → b ≡ n → ⊥
no_size a b n some same none size = omega arith

-- nor behind the last line without trailers
zero_by : (l : ChunkLine) (w body rest : List ℕ) (chunks : List Chunk) (last : LastChunk) → IsSizeLine l → chunk_size l ≡ 0
    → All IsChunk chunks → IsLastChunk last
    → print_chunk_line l ++ w ≡ flat_map print_chunk chunks ++ (print_last_chunk last ++ rest) → HasNoTrailers w → ⊥
zero_by l w body rest [] last is zero are ends front none =
    let same = chunk_line_unique (print_chunk_line l ++ w) l last.line w (print_section last.fields last.end ++ rest)
    (is.valid, refl) (ends.line.valid, front ∙ last_front last rest) in
    none last.fields last.end rest ends.trailers same.1
zero_by l w body rest (c ∷ chunks) last is zero are ends front none =
    let first = All-head IsChunk c chunks are in
    let tail = flat_map print_chunk chunks ++ (print_last_chunk last ++ rest) in
    let whole : print_chunk_line l ++ w ≡ print_chunk_line c.line ++ (c.data_of ++ (print_end crlf ++ tail)) =
    front ∙ append_assoc (print_chunk c) (flat_map print_chunk chunks) (print_last_chunk last ++ rest) ∙ chunk_front c tail in
    let same = chunk_line_unique (print_chunk_line l ++ w) l c.line w (c.data_of ++ (print_end crlf ++ tail))
    (is.valid, refl) (first.line.valid, whole) in
    let size = ap chunk_size same.0 in
    let a = first.some in
    let b = first.size in
    no_size (chunk_size l) (chunk_size c.line) (length c.data_of) a size zero b

pub none_by_trailers : {held mid : List ℕ} {before between : ShownStream} (most : ℕ) → ReadsLine held before 0 mid between
    → OfAll mid between HasNoTrailers → OfAll held before (HasNoChunked most)
none_by_trailers {held} {mid} {before} {between} most line none left tells body rest x short =
    let found = behind left line.takes tells in
    zero_by line.line (mid ++ found.0) body rest x.chunks x.last line.is (sym line.says) x.are x.ends
    (sym found.2 ∙ x.front) (none found.0 found.1)

-- a chunk was taken
pub takes_chunk : {held mid then now old new : List ℕ} {before between later after : ShownStream} (size : ℕ)
    → ReadsLine held before size mid between → 0 < size → ReadsData mid between size old then later new
    → Takes then later (print_end crlf) now after → TakesChunk held before size old now after new
takes_chunk {held} {mid} {then} {now} {old} {new} {before} {between} {later} {after} size line positive data_of end =
    let chunk : Chunk = record { line = line.line; data_of = data_of.data_of } in
    let says = line.says in
    let count = data_of.count in
    record {
      chunk = chunk;
      is = record { line = line.is; some = omega arith; size = sym says ∙ sym count };
      says = sym count;
      takes = takes_both line.takes (takes_both data_of.takes end);
      body = data_of.body;
    }

-- so far: these bytes were taken and this body read, so much may follow, and what behind them is none makes the whole none
pub record IsSoFar (held : List ℕ) (before : ShownStream) (now : List ℕ) (after : ShownStream) (body : List ℕ) (left : ℕ) : Type 0 where
  pub taken : List ℕ
  pub takes : Takes held before taken now after
  pub sum : length body + left ≡ 1073741824
  pub grows : (w inner rest : List ℕ) → IsChunked w inner rest → IsChunked (taken ++ w) (body ++ inner) rest
  pub none : (w : List ℕ) → HasNoChunked left w → HasNoChunked 1073741824 (taken ++ w)

pub so_far_none : (held : List ℕ) (shown : ShownStream) (body : List ℕ) → body ≡ [] → IsSoFar held shown held shown body 1073741824
so_far_none held shown body empty = record {
  taken = [];
  takes = takes_none held shown;
  sum = let size = ap length empty in omega arith;
  grows = λ w inner rest x. subst (λ b. IsChunked w (b ++ inner) rest) (sym empty) x;
  none = λ w none. none;
}

-- one chunk more
grown : (c : Chunk) (w inner rest : List ℕ) → IsChunk c → IsChunked w inner rest
    → IsChunked (print_chunk c ++ w) (c.data_of ++ inner) rest
grown c w inner rest is x = record {
  chunks = c ∷ x.chunks;
  last = x.last;
  are = All-cons IsChunk c x.chunks is x.are;
  ends = x.ends;
  front = ap (λ t. print_chunk c ++ t) x.front
      ∙ sym (append_assoc (print_chunk c) (flat_map print_chunk x.chunks) (print_last_chunk x.last ++ rest));
  gives = ap (λ t. c.data_of ++ t) x.gives;
}

pub so_far_more : {held mid now body new : List ℕ} {before between after : ShownStream} {left size less : ℕ}
    → IsSoFar held before mid between body left → TakesChunk mid between size body now after new → less + size ≡ left
    → IsSoFar held before now after new less
so_far_more {held} {mid} {now} {body} {new} {before} {between} {after} {left} {size} {less} had step sum = record {
  taken = had.taken ++ print_chunk step.chunk;
  takes = takes_both had.takes step.takes;
  sum =
      let a = had.sum in
      let b = step.says in
      let c = ap length step.body ∙ length-append body step.chunk.data_of in
      omega arith;
  grows = λ w inner rest x.
      let one = had.grows (print_chunk step.chunk ++ w) (step.chunk.data_of ++ inner) rest (grown step.chunk w inner rest step.is x) in
      let bytes : had.taken ++ (print_chunk step.chunk ++ w) ≡ (had.taken ++ print_chunk step.chunk) ++ w =
      sym (append_assoc had.taken (print_chunk step.chunk) w) in
      let text : body ++ (step.chunk.data_of ++ inner) ≡ new ++ inner =
      sym (append_assoc body step.chunk.data_of inner) ∙ ap (λ b. b ++ inner) (sym step.body) in
      subst (λ b. IsChunked b (new ++ inner) rest) bytes (subst (λ t. IsChunked (had.taken ++ (print_chunk step.chunk ++ w)) t rest) text one);
  none = λ w none.
      let says = step.says in
      let bytes : had.taken ++ (print_chunk step.chunk ++ w) ≡ (had.taken ++ print_chunk step.chunk) ++ w =
      sym (append_assoc had.taken (print_chunk step.chunk) w) in
      subst (λ b. HasNoChunked 1073741824 b) bytes
      (had.none (print_chunk step.chunk ++ w) (none_behind left less step.chunk w step.is (omega arith) none));
}

-- what has no body behind has none as a whole
pub none_so_far : {held mid body : List ℕ} {before between : ShownStream} {left : ℕ}
    → IsSoFar held before mid between body left → OfAll mid between (HasNoChunked left)
    → OfAll held before (HasNoChunked 1073741824)
none_so_far {held} {mid} {body} {before} {between} {left} had none rest tells =
    let found = behind rest had.takes tells in
    subst (λ b. HasNoChunked 1073741824 b) (sym found.2) (had.none (mid ++ found.0) (none found.0 found.1))

-- the last chunk ends the body
pub reads_chunked : {held mid then now body : List ℕ} {before between later after : ShownStream} {left : ℕ}
    → IsSoFar held before mid between body left → ReadsLine mid between 0 then later → ReadsTrailers then later now after
    → ReadsChunked held before now after body
reads_chunked {held} {mid} {then} {now} {body} {before} {between} {later} {after} {left} had line trailers =
    let last : LastChunk = record { line = line.line; fields = trailers.fields; end = trailers.end } in
    let w = print_last_chunk last in
    let is : IsChunked w [] [] = record {
      chunks = [];
      last = last;
      are = All-nil IsChunk;
      ends = record { line = line.is; size = sym line.says; trailers = trailers.is };
      front = sym (append-nil w);
      gives = refl;
    } in
    record {
      taken = had.taken ++ w;
      takes = takes_both had.takes (takes_both line.takes trailers.takes);
      is = subst (λ b. IsChunked (had.taken ++ w) b []) (append-nil body) (had.grows w [] [] is);
      short = let a = had.sum in omega arith;
    }
