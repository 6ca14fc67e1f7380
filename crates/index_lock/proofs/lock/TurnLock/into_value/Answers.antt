use Rattle.std.proofs.Common.{rules, ap, sym, ◌≡◌, ◌∙◌, None}
use mathlib.Core.Option.{some}
use Rattle.index_lock.specs.Rule.{known_under}
use Rattle.index_lock.proofs.Steps.{ends, empty_at_end}
use Rattle.index_lock.proofs.lock.TurnLock.into_value.Goals as goal

pub load-requires : goal.load-requires
load-requires g c = (
  search rules,
  search rules,
  ends g.S.Logged.log g.S.Logged.origin _ _ c.into_parts-value.ensures.token.me,
)

pub unreachable-requires : goal.unreachable-requires
unreachable-requires g c =
    let ended =
    c.load.ensures.2
    (known_under c.args.held) (ap (λ m. m.0) c.into_parts-value.ensures.token.me) in
    let empty =
    empty_at_end g.S.Logged.log g.S.Logged.origin _ _ _ (ap (λ m. m.0) ended)
    c.close_with-closed.ensures.values.2 in
    let same : some c.take-empty.result ≡ some None = sym c.take-empty.ensures.value ∙ empty in
    c.in_default.not-None (cc)
