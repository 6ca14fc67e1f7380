-- The shares so far have their rows, and the one that is left has none yet.
use Rattle.std.proofs.Common.{◌≡◌, All, vec_len}
use Rattle.dbgd_metrics.specs.Shares.{IsNewShare}
use Rattle.dbgd_run.specs.Workers.{IsFreshShare}
use Rattle.dbgd_run.proofs.shares.split_shares.Given as goal

abbrev pub invariant-loop : goal.invariant-loop
invariant-loop g l =
    IsNewShare l.book.id l.own
    × All (IsFreshShare l.book) l.others.items
    × (vec_len l.others ≡ l.counter)
