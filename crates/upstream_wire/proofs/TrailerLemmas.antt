-- Trailers.
use Rattle.std.proofs.Common.{◌≡◌, ℕ, ◌+◌, ◌*◌, ◌≤◌, List, [], ◌∷◌, ◌++◌, length, take, drop, All, sym, ap, ◌∙◌, arith, take-append-drop, length-append}
use Rattle.std.specs.List.{flat_map}
use Rattle.std.proofs.lemmas.List.{take-append-le}
use Rattle.std.proofs.lemmas.List.Elements.{All-head, All-tail}
use Rattle.std.proofs.Math.Seq.{take-append_seam}
use Rattle.httparse.specs.Grammar.{Field, HasNoSection, IsField, LineEnd, crlf, lf, print_end, print_field, print_section}
use Rattle.httparse.specs.Spans.{SectionOverflows}
use Rattle.upstream_wire.specs.Bodies.{FindsTrailers}
use Rattle.upstream_wire.specs.Chunked.{HasNoTrailers}
use Rattle.upstream_wire.specs.Takes.{OfAll, Takes}
use Rattle.http_wire.specs.Stream.{ShownStream}
use Rattle.upstream_wire.proofs.RoomLemmas.{of_all, takes_front}

end_size : (end : LineEnd) → 1 ≤ length (print_end end)
end_size crlf = omega arith
end_size lf = omega arith

-- each field has at least three bytes
field_size : (f : Field) → IsField f → 3 ≤ length (print_field f)
field_size f is =
    let name = is.name.0 in
    let all = length-append (f.name ++ 58 ∷ f.raw) (print_end f.end) in
    let rest = length-append f.name (58 ∷ f.raw) in
    let end = end_size f.end in
    omega arith

fields_size : (fields : List Field) → All IsField fields → 3 * length fields ≤ length (flat_map print_field fields)
fields_size [] all = omega arith
fields_size (f ∷ fields) all =
    let here = field_size f (All-head IsField f fields all) in
    let others = fields_size fields (All-tail IsField f fields all) in
    let both = length-append (print_field f) (flat_map print_field fields) in
    omega arith

section_size : (fields : List Field) (end : LineEnd) → All IsField fields
    → 3 * length fields + 1 ≤ length (print_section fields end)
section_size fields end all =
    let lines = fields_size fields all in
    let last = end_size end in
    let both = length-append (flat_map print_field fields) (print_end end) in
    omega arith

-- the trailers that were found
pub finds_trailers : {held now : List ℕ} {before after : ShownStream} (len : ℕ) (fields : List Field) (end : LineEnd)
    → Takes held before [] now after → length now ≤ 16384
    → (All IsField fields × (now ≡ print_section fields end ++ drop len now)) → len ≡ length (print_section fields end)
    → FindsTrailers held before len now after
finds_trailers {held} {now} {before} {after} len fields end had short reads len_is =
    let size = ap length reads.1 ∙ length-append (print_section fields end) (drop len now) in
    record {
      fields = fields;
      end = end;
      is = record { valid = reads.0; short = omega arith };
      takes = takes_front (print_section fields end) (drop len now) had reads.1;
      inside = omega arith;
    }

-- too many fields, or bytes that are none
pub no_trailers_ever : {held now : List ℕ} {before after : ShownStream} → Takes held before [] now after
    → SectionOverflows 5461 now → OfAll held before HasNoTrailers
no_trailers_ever had over = of_all HasNoTrailers had
    (λ left _ fields end rest is reads.
    let many = over left fields end rest (is.valid, reads) in
    let size = section_size fields end is.valid in
    let short = is.short in
    omega arith)

-- no trailers are in front of as many bytes as they have at most
pub no_trailers_in : {held now : List ℕ} {before after : ShownStream} → Takes held before [] now after
    → HasNoSection now → length now ≡ 16384 → OfAll held before HasNoTrailers
no_trailers_in {held} {now} {before} {after} had none full = of_all HasNoTrailers had
    (λ left tells fields end rest is reads.
    let n = length (print_section fields end) in
    let short = is.short in
    let fits : n ≤ length now = omega arith in
    let front : take n now ≡ print_section fields end =
    sym (take-append-le n now left fits) ∙ ap (λ bytes. take n bytes) reads ∙ take-append_seam (print_section fields end) rest in
    none fields end (drop n now)
    (is.valid, sym (take-append-drop n now) ∙ ap (λ p. p ++ drop n now) front))
