-- Heads of responses in front of what is held.
use Rattle.std.proofs.Common.{◌≡◌, ℕ, ◌≤◌, List, [], ◌++◌, length, take, drop, sym, ap, ◌∙◌, arith, take-append-drop}
use Rattle.std.proofs.lemmas.List.{take-append-le}
use Rattle.std.proofs.Math.Seq.{take-append_seam}
use Rattle.httparse.specs.Grammar.{HasNoResponse, ResponseHead, print_response}
use Rattle.httparse.specs.Spans.{ResponseOverflows}
use Rattle.http_wire.specs.Stream.{ShownStream}
use Rattle.upstream_wire.specs.Heads.{CoversResponse, FindsHeadOf, HasNoReadHead}
use Rattle.upstream_wire.specs.Response.{IsReadHead}
use Rattle.upstream_wire.specs.Takes.{OfAll, Takes}
use Rattle.upstream_wire.specs.declared.head.FoundResponse.{FoundResponse}
use Rattle.upstream_wire.proofs.RoomLemmas.{of_all, takes_front}

-- the head that was found
pub finds_head : {held now : List ℕ} {before after : ShownStream} (found : FoundResponse) (h : ResponseHead)
    → Takes held before [] now after → IsReadHead h → CoversResponse now found h → FindsHeadOf held before found now after
finds_head {held} {now} {before} {after} found h had is covers = record {
  head = h;
  is = is;
  takes = takes_front (print_response h) (drop found.len now) had covers.reads;
  inside = covers.len;
  status = covers.status;
  framing = covers.framing;
}

-- too many fields, or bytes that begin no head
pub no_head_ever : {held now : List ℕ} {before after : ShownStream} → Takes held before [] now after
    → ResponseOverflows 64 now → OfAll held before HasNoReadHead
no_head_ever had over = of_all HasNoReadHead had
    (λ left _ h rest is reads.
    let many = over left h rest (is.valid, reads) in
    let few = is.few in
    omega arith)

-- no head is in front of as many bytes as one has at most
pub no_head_in : {held now : List ℕ} {before after : ShownStream} → Takes held before [] now after
    → HasNoResponse now → length now ≡ 16384 → OfAll held before HasNoReadHead
no_head_in {held} {now} {before} {after} had none full = of_all HasNoReadHead had
    (λ left tells h rest is reads.
    let n = length (print_response h) in
    let short = is.short in
    let fits : n ≤ length now = omega arith in
    let front : take n now ≡ print_response h =
    sym (take-append-le n now left fits) ∙ ap (λ bytes. take n bytes) reads ∙ take-append_seam (print_response h) rest in
    none h (drop n now)
    (is.valid, sym (take-append-drop n now) ∙ ap (λ p. p ++ drop n now) front))
