use Rattle.std.proofs.Common.{rules, ap, ◌∙◌, []}
use Rattle.index_lock.specs.Rule.{known_to}
use Rattle.index_lock.proofs.Steps.{splits}
use Rattle.index_lock.proofs.lock.TurnLock.split.Goals as goal

pub split_seat-other-requires : goal.split_seat-other-requires
split_seat-other-requires g c = (
  search rules,
  search rules,
  splits g.S.Logged.log g.S.Logged.origin _ (ap (λ m. m.0) c.into_token-token.ensures.me),
)

pub of-requires : goal.of-requires
of-requires g c =
    (known_to c.args.seat, c.split_seat-other.ensures.2 ∙ c.into_token-token.ensures.me)

pub of-requires-2 : goal.of-requires-2
of-requires-2 g c = (
  known_to c.args.seat,
  c.split_seat-other.ensures.4 ∙ ap (λ m. (m.0, [])) c.into_token-token.ensures.me,
)
