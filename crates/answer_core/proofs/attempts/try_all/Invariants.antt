-- The candidates so far were tried, and none passed.
use Rattle.std.proofs.Common.{take}
use Rattle.answer_core.specs.Loads.{HasTried}
use Rattle.answer_core.proofs.attempts.try_all.Given as goal

abbrev pub invariant-loop-place : goal.invariant-loop-place
invariant-loop-place g l =
    HasTried (record { told = g.T.Tree.told; version = g.W.Truth.version; start = g.T.Tree.shows l.fn.hand })
    l.route (take l.place l.all) l.fails (g.T.Tree.shows l.hand)
