-- Bodies up to the end.
use Rattle.std.proofs.Common.{◌≡◌, ℕ, ◌+◌, ◌<◌, List, [], ◌++◌, length, refl, sym, ap, subst, ◌∙◌, arith, length-append}
use Rattle.std.proofs.lemmas.List.{append-nil}
use Rattle.http_wire.specs.Stream.{ShownStream}
use Rattle.http_wire.specs.declared.source.ReadAnswer.{ReadAnswer}
use Rattle.http_wire.specs.declared.source.ReadAnswer.TheVariants.{Failed}
use Rattle.upstream_wire.specs.Bodies.{FailsBody}
use Rattle.http_wire.specs.Room.{Fills}
use Rattle.upstream_wire.specs.Takes.{OfAll, Takes}
use Rattle.upstream_wire.specs.declared.fault.ResponseFault.TheVariants.{NoResponse, ReadFault}
use Rattle.upstream_wire.proofs.FailLemmas.{fails_lacking}
use Rattle.upstream_wire.proofs.RoomLemmas.{behind, takes_fill, takes_front}

too_many : {held body now : List ℕ} {before after : ShownStream} → Takes held before body now after
    → 1073741824 < length body + length now → OfAll held before (λ all. 1073741824 < length all)
too_many {held} {body} {now} {before} {after} had many left tells =
    let found = behind left had tells in
    let size = ap length found.2 ∙ length-append body (now ++ found.0) in
    let rest = length-append now found.0 in
    omega arith

-- more than a body has is there
pub fails_by_length : {held body now : List ℕ} {before after : ShownStream} → Takes held before body now after
    → 1073741824 < length body + length now → FailsBody NoResponse (λ all. 1073741824 < length all) held before after
fails_by_length had many = fails_lacking (λ all. 1073741824 < length all) had (too_many had many)

-- all that was held was taken, and a read came behind it
pub took_all : {held body now mid new more : List ℕ} {before between after : ShownStream} {answer : ReadAnswer}
    → Takes held before body now between → mid ≡ [] → new ≡ body ++ now → Fills mid between more after answer
    → Takes held before new more after
took_all {held} {body} {now} {mid} {new} {more} {before} {between} {after} {answer} had none is fills =
    subst (λ b. Takes held before b more after) (sym is)
    (takes_fill (takes_front now [] had (sym (append-nil now))) (subst (λ h. Fills h between more after answer) none fills))

-- a read failed behind it
pub took_failed : {held body now mid new more : List ℕ} {before between after : ShownStream} (Lacks : List ℕ → Type 0)
    → Takes held before body now between → mid ≡ [] → new ≡ body ++ now → Fills mid between more after Failed
    → FailsBody ReadFault Lacks held before after
took_failed {held} {body} {now} {mid} {new} {more} {before} {between} {after} Lacks had none is fills = record {
  taken = new;
  now = more;
  takes = took_all had none is fills;
  says =
      let first = had.later in
      let rose = fills.cause.rose refl in
      omega arith;
}
