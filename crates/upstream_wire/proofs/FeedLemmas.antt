-- Forms that end in a line feed: bytes without one complete none.
use Rattle.std.proofs.Common.{◌≡◌, ℕ, ◌≤◌, inl, inr, true, false, List, [], ◌∷◌, ◌++◌, length, take, drop}
use Rattle.std.proofs.Common.{refl, sym, ap, ◌∙◌, arith, append_assoc, length-append, take-append-drop}
use Rattle.std.specs.List.{flat_map, list_any}
use Rattle.std.proofs.lemmas.Bool.{cases_lt}
use Rattle.std.proofs.lemmas.List.{drop-append-le, take-append-le}
use Rattle.std.proofs.lemmas.List.Folds.{list_any-append}
use Rattle.std.proofs.Math.Seq.{drop-append_seam, take-append_seam}
use Rattle.std.proofs.Math.Bool.{or-true}
use Rattle.httparse.specs.Grammar.{ChunkLine, Field, HasNoChunkLine, HasNoResponse, HasNoSection, LineEnd, ResponseHead, crlf, lf, print_blank, print_chunk_line, print_end, print_extension, print_field, print_reason, print_response, print_section, print_version}
use Rattle.http_wire.specs.Room.{is_feed}

-- where a form goes on behind the bytes in front, a line feed lies behind them
feed_behind : (a b q rest : List ℕ) → a ++ b ≡ q ++ 10 ∷ rest → length a ≤ length q → list_any is_feed b ≡ true
feed_behind a b q rest same fits =
    let seam : drop (length a) (a ++ b) ≡ b = drop-append_seam a b in
    let behind : b ≡ drop (length a) q ++ 10 ∷ rest =
    sym seam ∙ ap (λ bytes. drop (length a) bytes) same ∙ drop-append-le (length a) q (10 ∷ rest) fits in
    ap (λ bytes. list_any is_feed bytes) behind ∙ list_any-append is_feed (drop (length a) q) (10 ∷ rest) ∙ or-true _

-- a form in front of bytes stands in front of those before the last of them, if no line feed is among these
front_before : (a b p q rest : List ℕ) → p ≡ q ++ 10 ∷ [] → a ++ b ≡ p ++ rest → list_any is_feed b ≡ false
    → (behind : List ℕ) × (a ≡ p ++ behind)
front_before a b p q rest ends same quiet =
    let size = ap length ends ∙ length-append q (10 ∷ []) in
    elim (cases_lt (length a) (length p)) [
      | inl longer ↦
          let whole : a ++ b ≡ q ++ 10 ∷ rest = same ∙ ap (λ bytes. bytes ++ rest) ends ∙ append_assoc q (10 ∷ []) rest in
          let wrong = sym quiet ∙ feed_behind a b q rest whole (omega arith) in
          absurd (cc)
      | inr fits ↦
          let front : take (length p) a ≡ p =
          sym (take-append-le (length p) a b fits) ∙ ap (λ bytes. take (length p) bytes) same ∙ take-append_seam p rest in (
            drop (length p) a,
            sym (take-append-drop (length p) a) ∙ ap (λ t. t ++ drop (length p) a) front,
          )
    ]

-- a section ends in a line feed
section_ends : (fields : List Field) (end : LineEnd) → (q : List ℕ) × (print_section fields end ≡ q ++ 10 ∷ [])
section_ends fields lf = (flat_map print_field fields, refl)
section_ends fields crlf = (flat_map print_field fields ++ 13 ∷ [], sym (append_assoc (flat_map print_field fields) (13 ∷ []) (10 ∷ [])))

-- and so does a line of a chunk
line_ends : (l : ChunkLine) → (q : List ℕ) × (print_chunk_line l ≡ q ++ 10 ∷ [])
unfolding print_chunk_line
line_ends l =
    let front = l.digits ++ l.pad ++ print_extension l.extension in (
      front ++ 13 ∷ [],
      sym (append_assoc front (13 ∷ []) (10 ∷ [])),
    )

-- and a head
response_ends : (h : ResponseHead) → (q : List ℕ) × (print_response h ≡ q ++ 10 ∷ [])
unfolding print_response
response_ends h =
    let front = print_blank h.blank ++ print_version h.minor ++ 32 ∷ h.digits ++ print_reason h.reason ++ print_end h.line_end in
    by_end front (flat_map print_field h.fields) h.last
  where
    by_end : (front fields : List ℕ) (end : LineEnd)
        → (q : List ℕ) × (front ++ (fields ++ print_end end) ≡ q ++ 10 ∷ [])
    by_end front fields lf = (front ++ fields, sym (append_assoc front fields (10 ∷ [])))
    by_end front fields crlf = (
      front ++ (fields ++ 13 ∷ []),
      ap (λ tail. front ++ tail) (sym (append_assoc fields (13 ∷ []) (10 ∷ [])))
          ∙ sym (append_assoc front (fields ++ 13 ∷ []) (10 ∷ [])),
    )

-- bytes in which no line ends complete no line of a chunk
pub quiet_line : (a b : List ℕ) → HasNoChunkLine a → list_any is_feed b ≡ false → HasNoChunkLine (a ++ b)
quiet_line a b none quiet l rest reads =
    let end = line_ends l in
    let found = front_before a b (print_chunk_line l) end.0 rest end.1 reads.1 quiet in
    none l found.0 (reads.0, found.1)

-- no trailers
pub quiet_section : (a b : List ℕ) → HasNoSection a → list_any is_feed b ≡ false → HasNoSection (a ++ b)
quiet_section a b none quiet fields last rest reads =
    let end = section_ends fields last in
    let found = front_before a b (print_section fields last) end.0 rest end.1 reads.1 quiet in
    none fields last found.0 (reads.0, found.1)

-- and no head
pub quiet_response : (a b : List ℕ) → HasNoResponse a → list_any is_feed b ≡ false → HasNoResponse (a ++ b)
quiet_response a b none quiet h rest reads =
    let end = response_ends h in
    let found = front_before a b (print_response h) end.0 rest end.1 reads.1 quiet in
    none h found.0 (reads.0, found.1)
