-- Line feeds of heads, and bytes in which none came.
use Rattle.std.proofs.Common.{◌≡◌, ℕ, ◌+◌, ◌-◌, ◌≤◌, inl, inr, true, false, List, [], ◌∷◌, ◌++◌, length, take, drop}
use Rattle.std.proofs.Common.{refl, sym, ap, ◌∙◌, ◌||◌, Bool, subst, arith, append_assoc, length-append, length-drop, take-append-drop}
use Rattle.std.specs.Prelude.{count_by}
use Rattle.std.specs.List.{flat_map, list_any}
use Rattle.std.proofs.lemmas.Bool.{cases_lt}
use Rattle.std.proofs.lemmas.List.{append-nil, drop-append-le, take-append-le}
use Rattle.std.proofs.lemmas.List.Folds.{list_any-append}
use Rattle.std.proofs.lemmas.List.Sums.{sum_by-append}
use Rattle.std.proofs.Math.Seq.{drop-append_seam, take-append_seam}
use Rattle.std.proofs.Math.Bool.{or-true}
use Rattle.httparse.specs.Grammar.{Field, HasNoRequest, LineEnd, NeverHasRequest, ReadsRequest, RequestHead, crlf, lf, print_blank, print_end, print_field, print_request, print_section, print_version}
use Rattle.httparse.specs.Spans.{IsWithin, RequestExceeds, RequestOverflows, span_bytes}
use Rattle.httparse.specs.declared.spans.Span.{Span}
use Rattle.http_wire.specs.Heads.{HasTooMany, IsRuledOut, IsStillOpen}
use Rattle.http_wire.specs.Look.{Covers, IsFoundIn, IsFoundInLines}
use Rattle.http_wire.specs.Room.{AreLines, is_feed}
use Rattle.http_wire.specs.declared.look.Found.{Found}
use Rattle.http_wire.specs.declared.look.Look.{Look}
use Rattle.http_wire.specs.declared.look.Look.TheVariants.{Bad, Partial, TooMany, Whole}

-- how many line feeds there are
abbrev feeds : List ℕ → ℕ
feeds bytes = count_by is_feed bytes

feeds-append : (a b : List ℕ) → feeds (a ++ b) ≡ feeds a + feeds b
feeds-append a b = sum_by-append _ a b

-- a line end has one
end_feeds : (end : LineEnd) → feeds (print_end end) ≡ 1
end_feeds crlf = refl
end_feeds lf = refl

-- each field has one
fields_feeds : (fields : List Field) → length fields ≤ feeds (flat_map print_field fields)
fields_feeds [] = omega arith
fields_feeds (f ∷ fields) =
    let others = fields_feeds fields in
    let here = feeds-append (f.name ++ 58 ∷ f.raw) (print_end f.end) in
    let both = feeds-append (print_field f) (flat_map print_field fields) in
    let end = end_feeds f.end in
    omega arith

-- and so have the start line and the empty one
request_feeds : (h : RequestHead) → length h.fields + 2 ≤ feeds (print_request h)
unfolding print_request
request_feeds h =
    let front = print_blank h.blank ++ h.method ++ 32 ∷ h.target ++ 32 ∷ print_version h.minor in
    let fields = fields_feeds h.fields in
    let first = feeds-append front (print_end h.line_end) in
    let start = end_feeds h.line_end in
    let section = feeds-append (flat_map print_field h.fields) (print_end h.last) in
    let last = end_feeds h.last in
    let all = feeds-append (front ++ print_end h.line_end) (print_section h.fields h.last) in
    omega arith

-- bytes in which too many fields begin a head hold a line feed for each
pub has_too_many : (bytes : List ℕ) → RequestOverflows 64 bytes → RequestExceeds 64 bytes → HasTooMany bytes
has_too_many bytes none more = record {
  none = none;
  more = more;
  lines =
      let split = ap feeds more.2 ∙ feeds-append more.0 more.1 in
      let whole = sym (feeds-append more.0 (10 ∷ [])) ∙ ap feeds (more.4.1 ∙ append-nil (print_request more.3)) in
      let enough = request_feeds more.3 in
      let fields = more.5 in
      omega arith;
}

-- a head ends in a line feed
pub ends_in_feed : (h : RequestHead) → (q : List ℕ) × (print_request h ≡ q ++ 10 ∷ [])
unfolding print_request
ends_in_feed h =
    let front = print_blank h.blank ++ h.method ++ 32 ∷ h.target ++ 32 ∷ print_version h.minor ++ print_end h.line_end in
    by_end front (flat_map print_field h.fields) h.last
  where
    by_end : (front fields : List ℕ) (end : LineEnd)
        → (q : List ℕ) × (front ++ (fields ++ print_end end) ≡ q ++ 10 ∷ [])
    by_end front fields lf = (front ++ fields, sym (append_assoc front fields (10 ∷ [])))
    by_end front fields crlf = (
      front ++ (fields ++ 13 ∷ []),
      ap (λ tail. front ++ tail) (sym (append_assoc fields (13 ∷ []) (10 ∷ [])))
          ∙ sym (append_assoc front (fields ++ 13 ∷ []) (10 ∷ [])),
    )

-- a head that lies in the bytes in front is one of them
pub within_front : (a b : List ℕ) (h : RequestHead) (rest : List ℕ) → ReadsRequest (a ++ b) h rest
    → length (print_request h) ≤ length a → ReadsRequest a h (drop (length (print_request h)) a)
within_front a b h rest reads fits =
    let front : take (length (print_request h)) a ≡ print_request h =
    sym (take-append-le (length (print_request h)) a b fits)
    ∙ ap (λ bytes. take (length (print_request h)) bytes) reads.1 ∙ take-append_seam (print_request h) rest in
    (reads.0, sym (take-append-drop (length (print_request h)) a) ∙ ap (λ p. p ++ drop (length (print_request h)) a) front)

-- where a head goes on behind the bytes in front, a line feed lies behind them
feed_behind : (a b q rest : List ℕ) → a ++ b ≡ q ++ 10 ∷ rest → length a ≤ length q → list_any is_feed b ≡ true
feed_behind a b q rest same fits =
    let seam : drop (length a) (a ++ b) ≡ b = drop-append_seam a b in
    let behind : b ≡ drop (length a) q ++ 10 ∷ rest =
    sym seam ∙ ap (λ bytes. drop (length a) bytes) same ∙ drop-append-le (length a) q (10 ∷ rest) fits in
    ap (λ bytes. list_any is_feed bytes) behind ∙ list_any-append is_feed (drop (length a) q) (10 ∷ rest) ∙ or-true _

-- bytes in which no line ends complete no head
pub no_head_yet : (a b : List ℕ) → HasNoRequest a → list_any is_feed b ≡ false → HasNoRequest (a ++ b)
no_head_yet a b none quiet h rest reads =
    let end = ends_in_feed h in
    let size = ap length end.1 ∙ length-append end.0 (10 ∷ []) in
    elim (cases_lt (length a) (length (print_request h))) [
      | inl longer ↦
          let same : a ++ b ≡ end.0 ++ 10 ∷ rest =
          reads.1 ∙ ap (λ bytes. bytes ++ rest) end.1 ∙ append_assoc end.0 (10 ∷ []) rest in
          let wrong = sym quiet ∙ feed_behind a b end.0 rest same (omega arith) in
          absurd (cc)
      | inr fits ↦ none h _ (within_front a b h rest reads fits)
    ]

-- where no line ends in what comes, the lines are those of before
lines_quiet : {bytes lines : List ℕ} (came : List ℕ) → AreLines bytes lines → list_any is_feed came ≡ false
    → AreLines (bytes ++ came) lines
lines_quiet {bytes} {lines} came are quiet = record {
  rest = are.rest ++ came;
  all = ap (λ b. b ++ came) are.all ∙ append_assoc lines are.rest came;
  quiet = list_any-append is_feed are.rest came ∙ ap (λ (b : Bool). b || list_any is_feed came) are.quiet ∙ quiet;
  ends = are.ends;
}

pub open_more : {bytes : List ℕ} (came : List ℕ) → IsStillOpen bytes → list_any is_feed came ≡ false
    → IsStillOpen (bytes ++ came)
open_more came still quiet = record { lines = still.lines; are = lines_quiet came still.are quiet; may = still.may }

-- what can follow lines that never begin with a head can follow the bytes
pub never_by_lines : (bytes : List ℕ) → IsRuledOut bytes → NeverHasRequest bytes
never_by_lines bytes out more =
    subst HasNoRequest (sym (ap (λ b. b ++ more) out.are.all ∙ append_assoc out.lines out.are.rest more))
    (out.never (out.are.rest ++ more))

-- the bytes that a span in the front covers
span_front : (a b : List ℕ) (s : Span) → IsWithin (length a) s → span_bytes (a ++ b) s ≡ span_bytes a s
span_front a b s within =
    let order = within.0 in
    let inside = within.1 in
    let fits : s.end - s.start ≤ length (drop s.start a) = omega (arith, length-drop s.start a) in
    ap (take (s.end - s.start)) (drop-append-le s.start a b (omega arith))
    ∙ take-append-le (s.end - s.start) (drop s.start a) b fits

within_more : (a b : List ℕ) (s : Span) → IsWithin (length a) s → IsWithin (length (a ++ b)) s
within_more a b s within =
    let size = length-append a b in
    let inside = within.1 in
    (within.0, omega arith)

-- a head in front stays one where bytes follow
covers_more : (a b : List ℕ) (found : Found) (h : RequestHead) → Covers a found h → Covers (a ++ b) found h
covers_more a b found h covers = record {
  len = let size = length-append a b in let inside = covers.len in omega arith;
  reads = ap (λ bytes. bytes ++ b) covers.reads ∙ append_assoc (print_request h) (drop found.len a) b
      ∙ ap (λ tail. print_request h ++ tail) (sym (drop-append-le found.len a b covers.len));
  method_in = within_more a b found.method covers.method_in;
  target_in = within_more a b found.target covers.target_in;
  method = span_front a b found.method covers.method_in ∙ covers.method;
  target = span_front a b found.target covers.target_in ∙ covers.target;
  minor = covers.minor;
  close = covers.close;
  has_body = covers.has_body;
  hops = covers.hops;
}

-- and so do too many fields
many_more : (a b : List ℕ) → HasTooMany a → HasTooMany (a ++ b)
many_more a b many = record {
  none = λ more h rest reads. many.none (b ++ more) h rest (reads.0, sym (append_assoc a b more) ∙ reads.1);
  more = (
    many.more.0,
    many.more.1 ++ b,
    ap (λ bytes. bytes ++ b) many.more.2 ∙ append_assoc many.more.0 many.more.1 b,
    many.more.3,
    many.more.4,
    many.more.5,
  );
  lines = let all = feeds-append a b in let had = many.lines in omega arith;
}

-- what is found in the lines is found in the bytes
pub found_in_lines : (bytes lines : List ℕ) (look : Look) → AreLines bytes lines → IsFoundIn lines look
    → IsFoundInLines bytes look
found_in_lines bytes lines (Whole found) are found_is = (
  found_is.0,
  found_is.1,
  subst (λ b. Covers b found found_is.0) (sym are.all) (covers_more lines are.rest found found_is.0 found_is.2),
)
found_in_lines bytes lines Partial are found_is = (
  subst HasNoRequest (sym are.all) (no_head_yet lines are.rest found_is.0 are.quiet),
  record { lines = lines; are = are; may = found_is.1 },
)
found_in_lines bytes lines Bad are found_is = record { lines = lines; are = are; never = found_is }
found_in_lines bytes lines TooMany are found_is = subst HasTooMany (sym are.all) (many_more lines are.rest found_is)
