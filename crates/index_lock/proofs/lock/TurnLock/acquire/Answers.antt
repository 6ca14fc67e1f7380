use Rattle.std.proofs.Common.{rules, refl, ◌∙◌, arith}
use Rattle.index_lock.proofs.Steps.{acquires}
use Rattle.index_lock.proofs.lock.TurnLock.acquire.Goals as goal

pub compare_exchange-requires : goal.compare_exchange-requires
compare_exchange-requires g c = let rests = c.requires.rests in (
  search rules,
  search rules,
  acquires g.S.Logged.log g.S.Logged.origin _ _ _ _
      (c.loop.invariant.1 ∙ rests.1) (omega arith) refl,
)
