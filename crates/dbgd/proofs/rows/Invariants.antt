-- There are as many rows as were asked for so far, and each has a link to each server.
use Rattle.std.proofs.Common.{◌≡◌, All, map, vec_len}
use Rattle.dbgd.specs.Servers.{server_of}
use Rattle.dbgd.proofs.rows.Given as goal

abbrev pub invariant-loop : goal.invariant-loop
invariant-loop g l = (vec_len l.rows ≡ l.counter) × All (λ row. map server_of row.items ≡ l.upstream) l.rows.items
