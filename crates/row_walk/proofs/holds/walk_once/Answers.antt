-- The walk is one of the log of this hold, which the token has seen, or it is over.
use Rattle.std.proofs.Common.{List, IfOk, rules, sym, ◌∙◌, ap, subst}
use mathlib.Core.List.{IsPrefix}
use Rattle.index_rows.specs.declared.change.Change.{Change}
use Rattle.row_walk.specs.Holds.{GoesOn, LooksOn, walked_by}
use Rattle.row_walk.proofs.HoldLemmas.{answers_one, goes_on}
use Rattle.row_walk.proofs.holds.walk_once.Goals as goal

pub returns-in-Ok-clause-goes : goal.returns-in-Ok-clause-goes
returns-in-Ok-clause-goes g c = λ w.
    let held = c.look_once-seat.ensures in
    let called = held.does.1.1 in
    let index = held.does.1.0.now in
    let keeps = g.T.Wants.wants c.args.wanted.now in
    let answered : IfOk c.look_once-seat.result.1 (LooksOn g.W.Truth.told g.W.Truth.true_row index c.args.walk) =
    search rules in
    let looks : LooksOn g.W.Truth.told g.W.Truth.true_row index c.args.walk c.in-Ok.looked = rw c.in-Ok.is at answered in
    let before : IsPrefix c.args.seat.seen index.log =
    subst (IsPrefix c.args.seat.seen) (sym (ap (λ s. s.log) held.does.1.2)) held.began in
    let log_is = ap (λ s. s.log) (held.does.1.2 ∙ sym held.does.0) ∙ sym held.seen in
    answers_one (GoesOn g.W.Truth.true_row keeps c.args.enough c.look_once-seat.result.0.seen)
    (walked_by keeps c.args.enough c.in-Ok.looked c.args.walk) c.go_on.result c.go_on.ensures
    (subst (λ (log : List Change). GoesOn g.W.Truth.true_row keeps c.args.enough log (walked_by keeps c.args.enough c.in-Ok.looked c.args.walk)) log_is
    (goes_on keeps c.args.enough index c.args.walk c.in-Ok.looked looks.step (looks.goes keeps c.args.seat.seen before w)))
