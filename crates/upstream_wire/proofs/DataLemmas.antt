-- Bytes of a chunk that are taken.
use Rattle.std.proofs.Common.{◌≡◌, ℕ, ◌+◌, ◌-◌, ◌<◌, List, [], ◌++◌, length, take, sym, ap, ◌∙◌, subst, arith, append_assoc, take-append-drop, length-append, length-take-le}
use Rattle.std.proofs.lemmas.List.{append-nil}
use Rattle.httparse.specs.Grammar.{crlf, print_end}
use Rattle.upstream_wire.specs.Bodies.{FailsBody, FailsSome, FaultSays, MovesBytes, ReadsData, SomeSays}
use Rattle.upstream_wire.specs.Chunked.{LacksFront}
use Rattle.upstream_wire.specs.Takes.{OfAll, Takes}
use Rattle.upstream_wire.specs.declared.fault.ResponseFault.{ResponseFault}
use Rattle.upstream_wire.specs.declared.fault.ResponseFault.TheVariants.{NoResponse, OutOfMemory, ReadFault}
use Rattle.upstream_wire.proofs.FailLemmas.{fails_lacking}
use Rattle.http_wire.specs.Source.{HasEnded}
use Rattle.http_wire.specs.Stream.{ShownStream}
use Rattle.upstream_wire.proofs.RoomLemmas.{at_end, behind, of_all, takes_both, takes_front, takes_none}

-- nothing was moved yet
pub data_none : (held : List ℕ) (shown : ShownStream) (size : ℕ) (old : List ℕ)
    → ReadsData held shown (size - size) old held shown old
data_none held shown size old = record {
  data_of = [];
  count = omega arith;
  takes = takes_none held shown;
  body = sym (append-nil old);
}

-- some of the data was moved
pub moves_more : {held mid now old mid_body new : List ℕ} {before between : ShownStream} {had_count most n size : ℕ}
    → ReadsData held before had_count old mid between mid_body → MovesBytes mid most mid_body n now new → had_count + n ≡ size
    → ReadsData held before size old now between new
moves_more {held} {mid} {now} {old} {mid_body} {new} {before} {between} {had_count} {most} {n} {size} had moves sum = record {
  data_of = had.data_of ++ take n mid;
  count =
      let a = had.count in
      let b = length-take-le n mid moves.inside in
      let c = length-append had.data_of (take n mid) in
      omega arith;
  takes = takes_front (take n mid) now had.takes
      (sym (take-append-drop n mid) ∙ ap (λ tail. take n mid ++ tail) (sym moves.rest));
  body = moves.body ∙ ap (λ front. front ++ take n mid) had.body ∙ append_assoc old had.data_of (take n mid);
}

-- more came behind the data
pub data_waits : {held mid now old body : List ℕ} {before between after : ShownStream} {count : ℕ}
    → ReadsData held before count old mid between body → Takes mid between [] now after
    → ReadsData held before count old now after body
data_waits {held} {mid} {now} {old} {body} {before} {between} {after} {count} had waits = record {
  data_of = had.data_of;
  count = had.count;
  takes = subst (λ b. Takes held before b now after) (append-nil had.data_of) (takes_both had.takes waits);
  body = had.body;
}

-- too few bytes are there
pub too_few : {held old now body : List ℕ} {before after : ShownStream} {count size : ℕ}
    → ReadsData held before count old now after body → now ≡ [] → HasEnded after.left → count < size
    → OfAll held before (λ all. length all < size)
too_few {held} {old} {now} {body} {before} {after} {count} {size} had empty ended fewer left tells =
    let found = behind left had.takes tells in
    let none = at_end after.left found.0 found.1 ended in
    let whole : held ++ left ≡ had.data_of =
    found.2 ∙ ap (λ t. had.data_of ++ (t ++ found.0)) empty ∙ ap (λ t. had.data_of ++ t) none ∙ append-nil had.data_of in
    let size_is = ap length whole in
    let counted = had.count in
    omega arith

-- another byte is in front
pub no_end_ever : {held now : List ℕ} {before after : ShownStream} → Takes held before [] now after
    → ((more rest : List ℕ) → now ++ more ≡ print_end crlf ++ rest → ⊥) → OfAll held before (LacksFront (print_end crlf))
no_end_ever had never = of_all (LacksFront (print_end crlf)) had (λ left _ rest reads. never left rest reads)

-- fewer than two bytes are there
pub no_end_at_end : {held now : List ℕ} {before after : ShownStream} → Takes held before [] now after → length now < 2
    → HasEnded after.left → OfAll held before (LacksFront (print_end crlf))
no_end_at_end {held} {now} {before} {after} had few ended = of_all (LacksFront (print_end crlf)) had
    (λ left tells rest reads.
    let none = at_end after.left left tells ended in
    let size = ap length reads ∙ length-append (print_end crlf) rest in
    let other = length-append now left in
    let nothing = ap length none in
    omega arith)

-- the line end behind the data isn't there
pub bad_end : {held now : List ℕ} {before after : ShownStream} → Takes held before [] now after
    → ((more rest : List ℕ) → now ++ more ≡ print_end crlf ++ rest → ⊥) → FailsBody NoResponse (LacksFront (print_end crlf)) held before after
bad_end had never = fails_lacking (LacksFront (print_end crlf)) had (no_end_ever had never)

pub cut_end : {held now : List ℕ} {before after : ShownStream} → Takes held before [] now after → length now < 2
    → HasEnded after.left → FailsBody NoResponse (LacksFront (print_end crlf)) held before after
cut_end had few ended = fails_lacking (LacksFront (print_end crlf)) had (no_end_at_end had few ended)

data_says : (held mid old body now : List ℕ) (before between after : ShownStream) (count size : ℕ) (fault : ResponseFault)
    → ReadsData held before count old mid between body → Takes mid between [] now after → SomeSays fault between now after
    → count < size → FaultSays fault (λ all. length all < size) held before after
data_says held mid old body now before between after count size NoResponse had waits says fewer =
    too_few (data_waits had waits) says.0 says.1 fewer
data_says held mid old body now before between after count size ReadFault had waits says fewer =
    let earlier = had.takes.later in omega (arith, says)
data_says held mid old body now before between after count size OutOfMemory had waits says fewer = absurd says

-- no more of the data came
pub data_stops : {held mid old body : List ℕ} {before between after : ShownStream} {count : ℕ} (size : ℕ) (fault : ResponseFault)
    → ReadsData held before count old mid between body → FailsSome fault mid between after → count < size
    → FailsBody fault (λ all. length all < size) held before after
data_stops {held} {mid} {old} {body} {before} {between} {after} {count} size fault had stops fewer = record {
  taken = had.data_of ++ [];
  now = stops.now;
  takes = takes_both had.takes stops.takes;
  says = data_says held mid old body stops.now before between after count size fault had stops.takes stops.says fewer;
}
