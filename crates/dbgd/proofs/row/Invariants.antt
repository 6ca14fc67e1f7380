-- The links so far are those to the first servers.
use Rattle.std.proofs.Common.{◌≡◌, ◌++◌, map, drop}
use Rattle.dbgd.specs.Servers.{server_of}
use Rattle.dbgd.proofs.row.Given as goal

abbrev pub invariant-loop-at : goal.invariant-loop-at
invariant-loop-at g l = map server_of l.links.items ++ drop l.at-index l.upstream ≡ l.upstream
