use Rattle.std.proofs.Common.{◌≡◌, false, List, [], map}
use Rattle.sqlite.specs.Given.{HasGiven}
use Rattle.sqlite.specs.Held.{state}
use Rattle.sqlite.specs.Order.{Row}
use Rattle.sqlite.specs.State.{HasCleanDisk, IsUnchanged, Survives}
use Rattle.index_keeper.specs.Tables.{AscendsByPath}
use Rattle.sqlite_keeper.specs.Reading.{shown_kept}
use Rattle.sqlite_keeper.specs.Statements.{rows_query}
use Rattle.sqlite_keeper.proofs.rows.read_from.Given as goal

-- the rows so far are those that were given, by path, and the database is as it was
abbrev pub invariant-rows : goal.invariant-rows
invariant-rows g l =
    let first = l.fn.rows.conn.now in
    let last = l.rows.conn.now in
    AscendsByPath l.kept.items
    × (l.rows.conn.ghost_name ≡ l.fn.rows.conn.ghost_name)
    × Survives (state g.F.Store first) (state g.F.Store last) (λ _. ⊥)
    × (first.in_transaction ≡ false → last.in_transaction ≡ false)
    × (HasCleanDisk (state g.F.Store last) → HasGiven g.F.Store rows_query [] first []
    → IsUnchanged (state g.F.Store first) (state g.F.Store last) × ((given : List Row) × HasGiven g.F.Store rows_query [] last given × (l.kept.items ≡ map shown_kept given)))
