-- Lines in front of chunks.
use Rattle.std.proofs.Common.{◌≡◌, ℕ, ◌≤◌, List, [], ◌++◌, length, take, drop, sym, ap, ◌∙◌, arith, take-append-drop, length-append}
use Rattle.std.proofs.lemmas.List.{take-append-le}
use Rattle.std.proofs.Math.Seq.{take-append_seam}
use Rattle.httparse.specs.Grammar.{ChunkLine, HasNoChunkLine, NeverHasChunkLine, ReadsChunkLine, print_chunk_line}
use Rattle.httparse.specs.Spans.{IsChunkLineAt}
use Rattle.upstream_wire.specs.Bodies.{FindsLine}
use Rattle.upstream_wire.specs.Chunked.{HasNoSizeLine, IsSizeLine}
use Rattle.upstream_wire.specs.Takes.{OfAll, Takes}
use Rattle.http_wire.specs.Stream.{ShownStream}
use Rattle.upstream_wire.proofs.RoomLemmas.{of_all, takes_front}

-- the line that was found
pub finds : {held now : List ℕ} {before after : ShownStream} (found : ℕ × ℕ) (l : ChunkLine) → Takes held before [] now after
    → length now ≤ 16384 → IsChunkLineAt now found.0 found.1 l → FindsLine held before found now after
finds {held} {now} {before} {after} found l had short is =
    let size = ap length is.reads.1 ∙ length-append (print_chunk_line l) (drop found.0 now) in
    let same = is.len_is in
    record {
      line = l;
      is = record { valid = is.reads.0; short = omega arith };
      takes = takes_front (print_chunk_line l) (drop found.0 now) had is.reads.1;
      inside = omega arith;
      size = is.size_is;
    }

-- no line can be
pub no_line_ever : {held now : List ℕ} {before after : ShownStream} → Takes held before [] now after → NeverHasChunkLine now
    → OfAll held before HasNoSizeLine
no_line_ever had never = of_all HasNoSizeLine had (λ rest _ l behind_it is reads. never rest l behind_it (is.valid, reads))

-- a line that lies in the bytes in front is one of them
within_front : (a b : List ℕ) (l : ChunkLine) (rest : List ℕ) → IsSizeLine l → a ++ b ≡ print_chunk_line l ++ rest
    → length (print_chunk_line l) ≤ length a → ReadsChunkLine a l (drop (length (print_chunk_line l)) a)
within_front a b l rest is reads fits =
    let n = length (print_chunk_line l) in
    let front : take n a ≡ print_chunk_line l =
    sym (take-append-le n a b fits) ∙ ap (λ bytes. take n bytes) reads ∙ take-append_seam (print_chunk_line l) rest in
    (is.valid, sym (take-append-drop n a) ∙ ap (λ p. p ++ drop n a) front)

-- no line is in front of as many bytes as a line has at most
pub no_line_in : {held now : List ℕ} {before after : ShownStream} → Takes held before [] now after
    → HasNoChunkLine now → length now ≡ 16384 → OfAll held before HasNoSizeLine
no_line_in {held} {now} {before} {after} had none full = of_all HasNoSizeLine had
    (λ rest tells l behind_it is reads.
    let short = is.short in
    none l _ (within_front now rest l behind_it is reads (omega arith)))
