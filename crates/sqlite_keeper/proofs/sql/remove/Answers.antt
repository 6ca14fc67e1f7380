use Rattle.std.proofs.Common.{[], ◌∷◌}
use Rattle.sqlite.specs.Held.{state}
use Rattle.sqlite.specs.declared.types.Value.TheVariants.{Text}
use Rattle.index_keeper.specs.Tables.{removal_of}
use Rattle.sqlite_keeper.specs.Statements.{remove_text}
use Rattle.sqlite_keeper.proofs.OutsideLemmas.{changes_by}
use Rattle.sqlite_keeper.proofs.TextLemmas.{remove_begins_none}
use Rattle.sqlite_keeper.proofs.ToldLemmas.{change_told, removes_told}
use Rattle.sqlite_keeper.proofs.sql.remove.Goals as goal

-- the clauses of the change that was run, on the bytes of the path; its text begins no transaction
pub returns-clause-changes : goal.returns-clause-changes
returns-clause-changes g c =
    changes_by g.F.Store remove_text (Text c.args.path.now ∷ []) c.args.connection.now c.change.new.connection c.change.result (remove_begins_none _)
    (rw c.as_bytes.ensures.value at c.change.ensures.runs) c.change.ensures.committed (rw c.as_bytes.ensures.value at c.change.ensures.survives)

-- in a told database the statement does what the change says
pub returns-clause-tells : goal.returns-clause-tells
returns-clause-tells g c =
    change_told g.F.Store (removal_of c.args.path.now) remove_text (Text c.args.path.now ∷ []) c.args.connection.now c.change.new.connection c.change.result
    (λ count told was is ran. removes_told (state g.F.Store c.args.connection.now) (state g.F.Store c.change.new.connection) c.args.path.now count told was is ran)
    (rw c.as_bytes.ensures.value at c.change.ensures.runs)
