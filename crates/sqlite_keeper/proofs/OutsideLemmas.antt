-- Outside a transaction a statement that begins none leaves it outside.
use Rattle.std.proofs.Common.{◌≡◌, inl, inr, ℕ, true, false, List, [], Result, Ok, Err, Option, ◌∙◌, subst, arith}
use Rattle.std.proofs.lemmas.Bool.{cases_Bool, false≢true}
use Rattle.sqlite_schema.specs.declared.command.Command.{Command}
use Rattle.sqlite_schema.specs.declared.command.Command.TheVariants.{Select, Insert, InsertOr, Update, Delete, CreateTable, CreateIndex, DropTable, DropIndex, Begin, Commit, Rollback, Savepoint, Release, RollbackTo, Nothing, CreateView, DropView, Rows}
use Rattle.sqlite_schema.specs.declared.command.Returning.{Returning}
use Rattle.sqlite.specs.Held.{Held, state}
use Rattle.sqlite.specs.Order.{Row}
use Rattle.sqlite.specs.Store.{Ghosts}
use Rattle.sqlite.specs.Tree.{Trees}
use Rattle.sqlite.specs.Listing.{understood}
use Rattle.sqlite.specs.State.{State, CommitsBy, HasCleanDisk, Survives, Executes, ExecutesIn, Runs, shows_rows}
use Rattle.sqlite.specs.declared.error.Error.{Error}
use Rattle.index_keeper.specs.declared.answer.KeepAnswer.{KeepAnswer}
use Rattle.index_keeper.specs.declared.answer.KeepAnswer.TheVariants as answer
use Rattle.sqlite_keeper.specs.Statements.{Changes, HasRun, IsCommitted, StaysOutside, WasRun}
use Rattle.sqlite_keeper.proofs.TextLemmas.{BeginsNone, begins_none}
use Rattle.sqlite_keeper.proofs.UndoneLemmas.{executes_undone}

ran_out : (old new : State) (returning : Option Returning) (command : Command) (text : List ℕ) (params : Row) (count : ℕ) → begins_none command ≡ true → old.in_transaction ≡ false
    → Runs old new returning command text params count → new.in_transaction ≡ false
ran_out old new returning (Select q names) text params count is out h = absurd h
ran_out old new returning (Insert at from) text params count is out h = h.shown.mode ∙ out
ran_out old new returning (InsertOr at how from clauses) text params count is out h = h.shown.mode ∙ out
ran_out old new returning (Update at q) text params count is out h = h.shown.mode ∙ out
ran_out old new returning (Delete at q) text params count is out h = h.shown.mode ∙ out
ran_out old new returning CreateTable text params count is out h = h.shown.mode ∙ out
ran_out old new returning (CreateIndex at) text params count is out h = h.shown.mode ∙ out
ran_out old new returning (DropTable at) text params count is out h = h.shown.mode ∙ out
ran_out old new returning (DropIndex at) text params count is out h = h.shown.mode ∙ out
ran_out old new returning (Rows values width names) text params count is out h = h.0.0.mode ∙ out
ran_out old new returning Begin text params count is out h = absurd (false≢true is)
ran_out old new returning Commit text params count is out h = h.1.mode
ran_out old new returning Rollback text params count is out h = h.1.autocommit
ran_out old new returning (Savepoint name) text params count is out h = absurd (false≢true is)
ran_out old new returning (Release name) text params count is out h = absurd (false≢true is)
ran_out old new returning (RollbackTo name) text params count is out h = absurd (false≢true is)
ran_out old new returning Nothing text params count is out h = h.0.0.mode ∙ out
ran_out old new returning CreateView text params count is out h = h.shown.mode ∙ out
ran_out old new returning (DropView at) text params count is out h = h.shown.mode ∙ out

pub executed_out : (sql : List ℕ) (params : Row) (old new : State) (came : Result ℕ Error) → BeginsNone (understood old.now.schema sql) → old.in_transaction ≡ false
    → Executes sql params old new came → new.in_transaction ≡ false
unfolding ExecutesIn
executed_out sql params old new (Ok count) none out h =
    elim (cases_Bool (shows_rows false h.0)) [
      | inl shows ↦ absurd (let e = (rw shows at h.2).0 in cc)
      | inr runs ↦ ran_out old new _ h.0.command _ _ count (subst BeginsNone h.1.is none) out (rw runs at h.2)
    ]
executed_out sql params old new (Err e) none out h = elim (executes_undone sql params old new e h) [ inl same ↦ same.0.mode ∙ out | inr back ↦ back.autocommit ]

-- a disk that has returned what was written has done so before
pub clean_before : (a b : State) (P : Trees → Type 0) → Survives a b P → HasCleanDisk b → HasCleanDisk a
clean_before a b P it clean = omega (arith, it.clean, clean)

-- outside before and after each of two calls
pub outside_both : {S : Type 0} (g : Ghosts S) (a b c : Held S) (P : Trees → Type 0) → Survives (state g b) (state g c) P → StaysOutside g a b → StaysOutside g b c → StaysOutside g a c
outside_both g a b c P it first then clean out = then clean (first (clean_before (state g b) (state g c) P it clean) out)

-- a statement that was run without parameters, and begins no transaction
pub was_run : {S : Type 0} (g : Ghosts S) (sql : List ℕ) (before after : Held S) (came : Result ℕ Error) → BeginsNone (understood before.schema sql)
    → (HasCleanDisk (state g after) → Executes sql [] (state g before) (state g after) came) → Survives (state g before) (state g after) (CommitsBy sql [] (state g before)) → WasRun g sql before after came
was_run g sql before after came none ran survives = record {
  ran = ran;
  survives = survives;
  outside = λ clean out. executed_out sql [] (state g before) (state g after) came none out (ran clean);
}

-- the same of a change with its parameters
pub changes_by : {S : Type 0} (g : Ghosts S) (sql : List ℕ) (params : Row) (before after : Held S) (given : KeepAnswer) → BeginsNone (understood before.schema sql)
    → (HasCleanDisk (state g after) → HasRun g sql params before after given) → (given ≡ answer.Done → IsCommitted (state g after))
    → Survives (state g before) (state g after) (CommitsBy sql params (state g before)) → Changes g sql params before after given
changes_by g sql params before after given none runs committed survives = record {
  runs = runs;
  committed = committed;
  survives = survives;
  outside = λ clean out. executed_out sql params (state g before) (state g after) _ none out (runs clean).ran;
}
