use Rattle.std.proofs.Common.{rules, ap, ◌∙◌}
use Rattle.index_lock.specs.Rule.{known_to, joined_known, joined_view}
use Rattle.index_lock.proofs.Steps.{joins, settles, joined_and_settled}
use Rattle.index_lock.proofs.lock.TurnLock.join.Goals as goal

pub join_seat-requires : goal.join_seat-requires
join_seat-requires g c = (
  search rules,
  search rules,
  search rules,
  search rules,
  joins g.S.Logged.log g.S.Logged.origin _ _
      (ap (λ m. m.0) c.into_token-token.ensures.me) (ap (λ m. m.0) c.into_token.ensures.me),
)

pub load-requires : goal.load-requires
load-requires g c = (
  search rules,
  search rules,
  settles g.S.Logged.log g.S.Logged.origin _ _ _
      (ap (λ m. m.0) c.join_seat.ensures.2
      ∙ λ k. joined_view (c.into_token-token.ensures.me k).0 (c.into_token.ensures.me k).0),
)

pub of-requires : goal.of-requires
of-requires g c = (
  joined_known (known_to c.args.first) (known_to c.args.second),
  (joined_and_settled g.S.Logged.log g.S.Logged.origin 0 0
      c.into_token-token.ensures.me c.into_token.ensures.me
      c.join_seat.ensures.2 c.load.ensures.2).0,
)
