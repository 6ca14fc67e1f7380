-- The line of one more worker, and in the end no worker is left.
use Rattle.std.proofs.Common.{◌≡◌, ◌<◌, ◌≤◌, ◌+◌, ◌∙◌, ℕ, List, ◌∷◌, ◌++◌, drop, length, sym, ap, subst, arith}
use Rattle.std.specs.List.{flat_map}
use Rattle.std.proofs.Common.{length-append, rules}
use Rattle.std.proofs.lemmas.List.{drop_all, drop_more, take-append-le}
use Rattle.http_wire.specs.Sink.{GetsAll, GetsPart}
use Rattle.http_wire.specs.Stream.{ShownStream}
use Rattle.http_wire.proofs.Pieces.{gets_both, gets_none, gets_then_part}
use Rattle.dbgd_run.specs.ServeSaid.{end_line}
use Rattle.dbgd_run.specs.Workers.{ends_at}
use Rattle.dbgd_run.proofs.serve_said.write_doors.Goals as goal

-- a proper part of some bytes is one of these and more
part_of_more : {before after : ShownStream} {a : List ℕ} (b : List ℕ) → GetsPart a before after → GetsPart (a ++ b) before after
part_of_more {before} {after} {a} b part =
    let short : part.count ≤ length a = let proper = part.proper in omega (arith, proper) in
    record {
      count = part.count;
      proper = let proper = part.proper in omega (arith, length-append a b, proper);
      appends = rw (take-append-le part.count a b short) part.appends;
      calls = rw (take-append-le part.count a b short) part.calls;
      later = part.later;
      rose = part.rose;
      reading = part.reading;
    }

pub loop-worker-preserved : goal.loop-worker-preserved
loop-worker-preserved g c = λ new.
    let at = c.loop-worker in
    let workers = c.args.workers.now in
    let x = c.worker-item.result in
    let rest = drop (at.worker-index + 1) workers in
    let below : at.worker-index < length workers = omega arith in
    let steps : drop at.worker-index workers ≡ x ∷ rest
    = drop_more workers at.worker-index x below ∙ ap (λ y. y ∷ rest) (sym c.worker-item.is) in (
      λ gets.
          (at.invariant new).0
          (subst (λ left. GetsAll (flat_map end_line (ends_at left)) (g.O.Stream.shows at.err) new) (sym steps)
          (gets_both c.in_ok-say_door.ensures gets)),
      λ gets.
          (at.invariant new).1
          (subst (λ left. GetsPart (flat_map end_line (ends_at left)) (g.O.Stream.shows at.err) new) (sym steps)
          (gets_then_part c.in_ok-say_door.ensures gets)),
    )

pub returns-in_err-say_door : goal.returns-in_err-say_door
returns-in_err-say_door g c =
    let at = c.loop-worker in
    let workers = c.args.workers.now in
    let x = c.worker-item.result in
    let rest = drop (at.worker-index + 1) workers in
    let below : at.worker-index < length workers = omega arith in
    let steps : drop at.worker-index workers ≡ x ∷ rest
    = drop_more workers at.worker-index x below ∙ ap (λ y. y ∷ rest) (sym c.worker-item.is) in
    let part : GetsPart (flat_map end_line (ends_at workers)) (g.O.Stream.shows c.args.err.now) (g.O.Stream.shows c.say_door.new.err) =
    (at.invariant (g.O.Stream.shows c.say_door.new.err)).1
    (subst (λ left. GetsPart (flat_map end_line (ends_at left)) (g.O.Stream.shows at.err) (g.O.Stream.shows c.say_door.new.err)) (sym steps)
    (part_of_more (flat_map end_line (ends_at rest)) c.in_err-say_door.ensures)) in
    search rules

pub returns : goal.returns
returns g c =
    let at = c.loop-worker in
    let workers = c.args.workers.now in
    let none : length workers ≤ at.worker-index = omega arith in
    (at.invariant (g.O.Stream.shows at.err)).0
    (subst (λ left. GetsAll (flat_map end_line (ends_at left)) (g.O.Stream.shows at.err) (g.O.Stream.shows at.err))
    (sym (drop_all at.worker-index workers none)) (gets_none (g.O.Stream.shows at.err)))
