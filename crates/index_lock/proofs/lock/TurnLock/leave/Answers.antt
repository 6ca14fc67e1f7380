use Rattle.std.proofs.Common.{rules, ap, ◌≡◌, ℕ, ◌*◌}
use Rattle.index_lock.specs.Rule.{known_of}
use Rattle.index_lock.proofs.Steps.{releases}
use Rattle.index_lock.proofs.InHand.{put_in}
use Rattle.index_lock.proofs.lock.TurnLock.leave.Goals as goal

pub store-requires : goal.store-requires
store-requires g c =
    let value = c.into_parts-value.result.0 in
    let same : value ≡ c.args.held.value = c.into_parts-value.ensures.value in (
      search rules,
      search rules,
      releases g.S.Logged.log g.S.Logged.origin _ _ _
          (put_in c.into_parts-value.ensures.token.me c.exchange-empty.ensures.3)
          (record { log = rw same c.requires.log; origin = rw same c.requires.origin })
          (ap (λ (n : ℕ). 2 * n) c.count-length.ensures.value),
    )

pub of-requires : goal.of-requires
of-requires g c =
    let value = c.into_parts-value.result.0 in (
      known_of g.S.Logged.log g.S.Logged.origin value,
      c.store.ensures.2 value
          (ap (λ m. m.1)
          (put_in c.into_parts-value.ensures.token.me c.exchange-empty.ensures.3)),
    )
