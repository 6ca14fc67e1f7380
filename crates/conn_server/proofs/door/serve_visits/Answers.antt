-- One connection more, and the end.
use Rattle.std.proofs.Common.{◌∙◌, ap, refl}
use Rattle.index_lock.proofs.Later.{later_self, later_trans}
use Rattle.conn_server.specs.Stage.{conn_setting}
use Rattle.conn_server.proofs.DoorLemmas.{next_as, visits_end, visits_none, visits_then}
use Rattle.conn_server.proofs.door.serve_visits.Goals as goal

pub loop-init : goal.loop-init
loop-init g c = (visits_none _ _ _, later_self c.args.desk.seat, (refl, refl, refl, refl), refl)

pub loop-preserved : goal.loop-preserved
loop-preserved g c =
    let base = c.loop.invariant in
    let next = c.serve_next-next.ensures in (
      visits_then _ _ _ _ _ _ _ base.0
          (next_as (conn_setting g.W.Truth.true_row g.T.Tree.told g.W.Truth.version g.T.Tree.shows) _ _ _ _ base.3 (ap (λ book. book.rows) base.2.3)
          c.in-None-end.is next.next),
      later_trans base.1 next.later,
      (next.same.0 ∙ base.2.0, next.same.1 ∙ base.2.1, next.same.2 ∙ base.2.2, next.same.3 ∙ base.2.3),
      base.3,
    )

pub returns-in-Some-end-clause-serves : goal.returns-in-Some-end-clause-serves
returns-in-Some-end-clause-serves g c =
    let base = c.loop.invariant in
    visits_end _ _ _ _ _ _ _ c.in-Some-end.end base.0
    (next_as (conn_setting g.W.Truth.true_row g.T.Tree.told g.W.Truth.version g.T.Tree.shows) _ _ _ _ base.3 (ap (λ book. book.rows) base.2.3)
    c.in-Some-end.is c.serve_next-next.ensures.next)
