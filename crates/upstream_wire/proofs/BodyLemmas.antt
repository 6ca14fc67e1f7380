-- Bodies by their frames, and whole responses.
use Rattle.std.proofs.Common.{◌≡◌, ℕ, ◌<◌, ◌≤◌, List, [], ◌++◌, length, Result, Ok, Err, sym, ap, ◌∙◌, subst, arith, append_assoc, length-append, MatchResult}
use Rattle.std.specs.List.{flat_map}
use Rattle.std.proofs.lemmas.List.{append-nil}
use Rattle.httparse.specs.Grammar.{ResponseHead, print_response}
use Rattle.httparse.proofs.GrammarLemmas.{response_unique}
use Rattle.http_wire.specs.Stream.{LeavesWriting, ShownStream}
use Rattle.upstream_wire.specs.Bodies.{FailsBody, FaultSays, ReadsChunked, ReadsData, ReadsToEnd}
use Rattle.upstream_wire.specs.Chunked.{HasNoChunked, IsChunked, print_chunk, print_last_chunk}
use Rattle.upstream_wire.specs.Heads.{HasNoReadHead, ReadsHeadOf}
use Rattle.upstream_wire.specs.Reads.{FailsResponse, HasNoBody, ReadsBody, ReadsResponseOf, ReadsWhole}
use Rattle.upstream_wire.specs.Takes.{OnlyGives}
use Rattle.upstream_wire.specs.Response.{HasNoWholeResponse, IsFramed, IsReadHead, IsWholeResponse, framing_by}
use Rattle.upstream_wire.specs.declared.fault.ResponseFault.{ResponseFault}
use Rattle.upstream_wire.specs.declared.fault.ResponseFault.TheVariants.{NoResponse, OutOfMemory, ReadFault}
use Rattle.upstream_wire.specs.declared.framing.Framing.TheVariants.{Chunked, Sized, ToEnd}
use Rattle.upstream_wire.specs.declared.head.FoundResponse.{FoundResponse}
use Rattle.upstream_wire.specs.declared.response.Response.{Response}
use Rattle.upstream_wire.proofs.FailLemmas.{fails_as, fails_behind}
use Rattle.upstream_wire.proofs.RoomLemmas.{at_end, behind, gives_of, takes_both}

-- what follows from both answers
pub match_each : {A E : Type 0} {P Q : A → Type 0} {F G : E → Type 0} (r : Result A E) → ((a : A) → P a → Q a)
    → ((e : E) → F e → G e) → MatchResult r P F → MatchResult r Q G
match_each (Ok a) ok err found = ok a found
match_each (Err e) ok err found = err e found

-- a chunked body, and what is behind it
chunked_more : {taken body : List ℕ} (rest : List ℕ) → IsChunked taken body [] → IsChunked (taken ++ rest) body rest
chunked_more {taken} {body} rest x =
    let chunks = flat_map print_chunk x.chunks in
    let last = print_last_chunk x.last in
    record {
      chunks = x.chunks;
      last = x.last;
      are = x.are;
      ends = x.ends;
      front = ap (λ t. t ++ rest) x.front ∙ append_assoc chunks (last ++ []) rest
          ∙ ap (λ t. chunks ++ (t ++ rest)) (append-nil last);
      gives = x.gives;
    }

pub body_chunked : {held now body : List ℕ} {before after : ShownStream} → ReadsChunked held before now after body
    → ReadsBody Chunked held before body after
body_chunked {held} {now} {body} {before} {after} x = record {
  taken = x.taken;
  now = now;
  takes = x.takes;
  is = λ left tells.
      let found = behind left x.takes tells in (
        now ++ found.0,
        subst (λ b. IsChunked b body (now ++ found.0)) (sym found.2) (chunked_more (now ++ found.0) x.is),
        x.short,
      );
}

pub body_sized : {held old now new : List ℕ} {before after : ShownStream} (n : ℕ) → old ≡ []
    → ReadsData held before n old now after new → ReadsBody (Sized n) held before new after
body_sized {held} {old} {now} {new} {before} {after} n empty x =
    let whole : new ≡ x.data_of = x.body ∙ ap (λ t. t ++ x.data_of) empty in
    record {
      taken = x.data_of;
      now = now;
      takes = x.takes;
      is = λ left tells.
          let found = behind left x.takes tells in (
            now ++ found.0,
            found.2 ∙ ap (λ t. t ++ (now ++ found.0)) (sym whole),
            ap length whole ∙ x.count,
          );
    }

pub body_to_end : {held body : List ℕ} {before after : ShownStream} → ReadsToEnd held before body after
    → ReadsBody ToEnd held before body after
body_to_end {held} {body} {before} {after} x = record {
  taken = body;
  now = [];
  takes = x.takes;
  is = λ left tells.
      let found = behind left x.takes tells in
      let none = at_end after.left found.0 found.1 x.ended in
      (sym (found.2 ∙ ap (λ t. body ++ t) none ∙ append-nil body), x.short);
}

pub no_chunked_body : (all : List ℕ) → HasNoChunked 1073741824 all → HasNoBody Chunked all
no_chunked_body all none body framed = none body framed.0 framed.1 framed.2

pub no_sized_body : (n : ℕ) (all : List ℕ) → length all < n → HasNoBody (Sized n) all
no_sized_body n all few body framed =
    let size = ap length framed.1 ∙ length-append body framed.0 in
    let count = framed.2 in
    omega arith

pub no_body_to_end : (all : List ℕ) → 1073741824 < length all → HasNoBody ToEnd all
no_body_to_end all many body framed =
    let same = ap length framed.0 in
    let short = framed.1 in
    omega arith

-- the head in front of a response is the one that is there
behind_head : {all : List ℕ} {status : ℕ} (w body : List ℕ) (h : ResponseHead) → IsReadHead h → all ≡ print_response h ++ w
    → IsWholeResponse all status body → IsFramed (framing_by h) w body
behind_head {all} {status} w body h is splits whole =
    let same = response_unique all h whole.head w whole.behind (is.valid, splits) (whole.is.valid, whole.front) in
    subst (λ k. IsFramed (framing_by k) w body) (sym same.0)
    (subst (λ b. IsFramed (framing_by whole.head) b body) (sym same.1) whole.framed)

-- a head and a body are a response
pub whole_of : {held mid body : List ℕ} {before between after : ShownStream} (found : FoundResponse)
    → ReadsHeadOf held before found mid between → ReadsBody found.framing mid between body after
    → ReadsWhole held before found.status body after
whole_of {held} {mid} {body} {before} {between} {after} found h b = record {
  taken = print_response h.head ++ b.taken;
  now = b.now;
  takes = takes_both h.takes b.takes;
  is = λ left tells.
      let spot = behind left h.takes tells in
      record {
        head = h.head;
        behind = mid ++ spot.0;
        is = h.is;
        front = spot.2;
        says = h.status;
        framed = subst (λ f. IsFramed f (mid ++ spot.0) body) h.framing (b.is spot.0 spot.1);
      };
}

-- no head is in front
pub fails_by_head : {held : List ℕ} {before after : ShownStream} (fault : ResponseFault)
    → FailsBody fault HasNoReadHead held before after → FailsBody fault HasNoWholeResponse held before after
fails_by_head {held} {before} {after} fault fails =
    fails_as fault HasNoReadHead HasNoWholeResponse
    (λ all none status body whole. none whole.head whole.behind whole.is whole.front) fails

-- no body is behind the head
pub fails_by_body : {held mid : List ℕ} {before between after : ShownStream} (found : FoundResponse) (fault : ResponseFault)
    → ReadsHeadOf held before found mid between → FailsBody fault (HasNoBody found.framing) mid between after
    → FailsBody fault HasNoWholeResponse held before after
fails_by_body {held} {mid} {before} {between} {after} found fault h fails =
    fails_behind fault (HasNoBody found.framing) HasNoWholeResponse h.takes
    (λ none left tells status body whole.
    let spot = behind left h.takes tells in
    none spot.0 spot.1 body
    (subst (λ f. IsFramed f (mid ++ spot.0) body) (sym h.framing) (behind_head (mid ++ spot.0) body h.head h.is spot.2 whole)))
    fails

top_fault : (held : List ℕ) (before after : ShownStream) (fault : ResponseFault) → held ≡ []
    → FaultSays fault HasNoWholeResponse held before after → FailsResponse fault before after
top_fault held before after NoResponse empty says = λ left tells.
    subst (λ h. HasNoWholeResponse (h ++ left)) empty (says left tells)
top_fault held before after ReadFault empty says = says
top_fault held before after OutOfMemory empty says = tt

-- where nothing was held, the response is that of what was left
pub reads_of_left : (held : List ℕ) (before after : ShownStream) (r : Result Response ResponseFault) → held ≡ []
    → MatchResult r (λ x. ReadsWhole held before x.status x.body.items after)
    (λ fault. FailsBody fault HasNoWholeResponse held before after)
    → MatchResult r (λ x. ReadsResponseOf before x.status x.body.items) (λ fault. FailsResponse fault before after)
reads_of_left held before after (Ok x) empty reads = λ left tells.
    subst (λ h. IsWholeResponse (h ++ left) x.status x.body.items) empty (reads.is left tells)
reads_of_left held before after (Err fault) empty fails = top_fault held before after fault empty fails.says

-- the count doesn't fall
pub reads_later : (held : List ℕ) (before after : ShownStream) (r : Result Response ResponseFault)
    → MatchResult r (λ x. ReadsWhole held before x.status x.body.items after)
    (λ fault. FailsBody fault HasNoWholeResponse held before after)
    → before.read_faults ≤ after.read_faults
reads_later held before after (Ok x) reads = reads.takes.later
reads_later held before after (Err fault) fails = fails.takes.later

-- and the written side is as it was
pub reads_apart : (held : List ℕ) (before after : ShownStream) (r : Result Response ResponseFault)
    → MatchResult r (λ x. ReadsWhole held before x.status x.body.items after)
    (λ fault. FailsBody fault HasNoWholeResponse held before after)
    → LeavesWriting before after
reads_apart held before after (Ok x) reads = reads.takes.writing
reads_apart held before after (Err fault) fails = fails.takes.writing

-- and each call gave some of what came
pub reads_given : (held : List ℕ) (before after : ShownStream) (r : Result Response ResponseFault)
    → MatchResult r (λ x. ReadsWhole held before x.status x.body.items after)
    (λ fault. FailsBody fault HasNoWholeResponse held before after)
    → OnlyGives before after
reads_given held before after (Ok x) reads = gives_of reads.takes
reads_given held before after (Err fault) fails = gives_of fails.takes
