-- Why a part of a response wasn't read.
use Rattle.std.proofs.Common.{◌≡◌, ℕ, ◌≤◌, false, List, [], ◌++◌, refl, sym, subst, arith}
use Rattle.std.specs.List.{list_any}
use Rattle.std.proofs.lemmas.List.{append-nil}
use Rattle.http_wire.specs.Stream.{ShownStream}
use Rattle.http_wire.specs.declared.source.ReadAnswer.TheVariants.{Failed}
use Rattle.upstream_wire.specs.Bodies.{FailsBody, FaultSays}
use Rattle.http_wire.specs.Room.{Fills}
use Rattle.upstream_wire.specs.Takes.{OfAll, Takes}
use Rattle.http_wire.specs.Room.{is_feed}
use Rattle.upstream_wire.specs.Waits.{StopSays, StopsWaiting}
use Rattle.upstream_wire.specs.declared.fault.ResponseFault.{ResponseFault}
use Rattle.upstream_wire.specs.declared.fault.ResponseFault.TheVariants.{NoResponse, OutOfMemory, ReadFault}
use Rattle.upstream_wire.proofs.RoomLemmas.{at_end, of_all, takes_both, takes_fill}

-- what was held and left lacks the form
pub fails_lacking : {held taken now : List ℕ} {before after : ShownStream} (Lacks : List ℕ → Type 0)
    → Takes held before taken now after → OfAll held before Lacks → FailsBody NoResponse Lacks held before after
fails_lacking {held} {taken} {now} {before} {after} Lacks had lacks = record { taken = taken; now = now; takes = had; says = lacks }

-- a read failed
pub fails_by_read : {held taken mid now : List ℕ} {before between after : ShownStream} (Lacks : List ℕ → Type 0)
    → Takes held before taken mid between → Fills mid between now after Failed → FailsBody ReadFault Lacks held before after
fails_by_read {held} {taken} {mid} {now} {before} {between} {after} Lacks had fills = record {
  taken = taken;
  now = now;
  takes = takes_fill had fills;
  says =
      let first = had.later in
      let rose = fills.cause.rose refl in
      omega arith;
}

-- memory was refused
pub fails_by_memory : {held taken now : List ℕ} {before after : ShownStream} (Lacks : List ℕ → Type 0)
    → Takes held before taken now after → FailsBody OutOfMemory Lacks held before after
fails_by_memory {held} {taken} {now} {before} {after} Lacks had = record { taken = taken; now = now; takes = had; says = tt }

says_behind : (held mid : List ℕ) (before between after : ShownStream) (fault : ResponseFault) (Lacks More : List ℕ → Type 0)
    → before.read_faults ≤ between.read_faults → (OfAll mid between Lacks → OfAll held before More)
    → FaultSays fault Lacks mid between after → FaultSays fault More held before after
says_behind held mid before between after NoResponse Lacks More later turn says = turn says
says_behind held mid before between after ReadFault Lacks More later turn says = omega (arith, later, says)
says_behind held mid before between after OutOfMemory Lacks More later turn says = tt

-- a part behind others wasn't read
pub fails_behind : {held one mid : List ℕ} {before between after : ShownStream} (fault : ResponseFault)
    (Lacks More : List ℕ → Type 0) → Takes held before one mid between → (OfAll mid between Lacks → OfAll held before More)
    → FailsBody fault Lacks mid between after → FailsBody fault More held before after
fails_behind {held} {one} {mid} {before} {between} {after} fault Lacks More first turn fails = record {
  taken = one ++ fails.taken;
  now = fails.now;
  takes = takes_both first fails.takes;
  says = says_behind held mid before between after fault Lacks More first.later turn fails.says;
}

says_as : (held : List ℕ) (before after : ShownStream) (fault : ResponseFault) (Lacks More : List ℕ → Type 0)
    → ((all : List ℕ) → Lacks all → More all) → FaultSays fault Lacks held before after → FaultSays fault More held before after
says_as held before after NoResponse Lacks More turn says = λ left tells. turn (held ++ left) (says left tells)
says_as held before after ReadFault Lacks More turn says = says
says_as held before after OutOfMemory Lacks More turn says = tt

-- what lacks one form lacks another
pub fails_as : {held : List ℕ} {before after : ShownStream} (fault : ResponseFault) (Lacks More : List ℕ → Type 0)
    → ((all : List ℕ) → Lacks all → More all) → FailsBody fault Lacks held before after → FailsBody fault More held before after
fails_as {held} {before} {after} fault Lacks More turn fails = record {
  taken = fails.taken;
  now = fails.now;
  takes = fails.takes;
  says = says_as held before after fault Lacks More turn fails.says;
}

stop_says : (held mid now : List ℕ) (before between after : ShownStream) (fault : ResponseFault)
    (HasNone Lacks : List ℕ → Type 0) → Takes held before [] mid between → HasNone mid
    → ((a b : List ℕ) → HasNone a → list_any is_feed b ≡ false → HasNone (a ++ b))
    → ((all : List ℕ) → HasNone all → Lacks all)
    → Takes mid between [] now after → StopSays fault mid between now after → FaultSays fault Lacks held before after
stop_says held mid now before between after NoResponse HasNone Lacks had none quiet lacks takes says =
    of_all Lacks (takes_both had takes) (λ rest tells.
    let whole : HasNone now =
    subst HasNone (sym says.0.all) (quiet mid says.0.came none says.0.quiet) in
    subst (λ r. Lacks (now ++ r)) (sym (at_end after.left rest tells says.1))
    (subst Lacks (sym (append-nil now)) (lacks now whole)))
stop_says held mid now before between after ReadFault HasNone Lacks had none quiet lacks takes says =
    let earlier = had.later in omega (arith, says)
stop_says held mid now before between after OutOfMemory HasNone Lacks had none quiet lacks takes says = absurd says

-- no line ended in what came, so that no form stands there
pub fails_waiting : {held mid : List ℕ} {before between after : ShownStream} (fault : ResponseFault)
    (HasNone Lacks : List ℕ → Type 0) → Takes held before [] mid between → HasNone mid
    → ((a b : List ℕ) → HasNone a → list_any is_feed b ≡ false → HasNone (a ++ b))
    → ((all : List ℕ) → HasNone all → Lacks all)
    → StopsWaiting fault mid between after → FailsBody fault Lacks held before after
fails_waiting {held} {mid} {before} {between} {after} fault HasNone Lacks had none quiet lacks stops = record {
  taken = [];
  now = stops.now;
  takes = takes_both had stops.takes;
  says = stop_says held mid stops.now before between after fault HasNone Lacks had none quiet lacks stops.takes stops.says;
}
