use Rattle.std.proofs.Common.{◌≡◌, ◌+◌, ◌-◌, ◌≤◌, length, take, drop, ap, ◌∙◌, arith, length-drop}
use lib.Seq.{paste}
use Rattle.std.proofs.lemmas.List.Edits.{take-paste}
use Rattle.std.proofs.lemmas.Slice.{between_is}
use Rattle.http_wire.proofs.room.move_to_front.Goals as goal

pub returns-clause-front : goal.returns-clause-front
returns-clause-front c =
    let room = c.args.room.now in
    let held = drop c.args.start room in
    let n = c.args.end - c.args.start in
    let ordered : c.args.start ≤ c.args.end = c.requires.0 in
    let inside : c.args.end ≤ length room = c.requires.1 in
    let same : n ≡ 0 + n = omega arith in
    let fits : n ≤ length held = omega (arith, length-drop c.args.start room) in
    ap (take n) c.copy_within.ensures.after ∙ ap (λ k. take k (paste room 0 held n)) same
    ∙ take-paste room 0 held n (omega arith) fits ∙ between_is room c.args.start c.args.end
