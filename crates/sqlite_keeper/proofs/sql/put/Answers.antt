use Rattle.std.proofs.Common.{[], ◌∷◌}
use Rattle.sqlite.specs.Held.{state}
use Rattle.sqlite.specs.declared.types.Value.TheVariants.{Blob, Text}
use Rattle.index_keeper.specs.Tables.{put_bytes}
use Rattle.sqlite_keeper.specs.Statements.{put_text}
use Rattle.sqlite_keeper.proofs.OutsideLemmas.{changes_by}
use Rattle.sqlite_keeper.proofs.TextLemmas.{put_begins_none}
use Rattle.sqlite_keeper.proofs.ToldLemmas.{change_told, puts_told}
use Rattle.sqlite_keeper.proofs.sql.put.Goals as goal

-- the clauses of the change that was run, on the bytes of the path; its text begins no transaction
pub returns-clause-changes : goal.returns-clause-changes
returns-clause-changes g c =
    changes_by g.F.Store put_text (Text c.args.path.now ∷ Blob c.args.bytes.now ∷ []) c.args.connection.now c.change.new.connection c.change.result (put_begins_none _)
    (rw c.as_bytes.ensures.value at c.change.ensures.runs) c.change.ensures.committed (rw c.as_bytes.ensures.value at c.change.ensures.survives)

-- in a told database the statement does what the change says
pub returns-clause-tells : goal.returns-clause-tells
returns-clause-tells g c =
    change_told g.F.Store (put_bytes c.args.path.now c.args.bytes.now) put_text (Text c.args.path.now ∷ Blob c.args.bytes.now ∷ []) c.args.connection.now c.change.new.connection c.change.result
    (λ count told was is ran. puts_told (state g.F.Store c.args.connection.now) (state g.F.Store c.change.new.connection) c.args.path.now c.args.bytes.now count told was is ran)
    (rw c.as_bytes.ensures.value at c.change.ensures.runs)
