-- A statement that is refused or fails changes nothing, or is rolled back.
use Rattle.std.proofs.Common.{◌≡◌, ◌⊎◌, inl, inr, ℕ, true, false, List, Err, Result, Option, None, Some}
use Rattle.std.specs.Prelude.{MatchBool}
use Rattle.sqlite_resolve.specs.declared.compiled.Compiled.{Compiled}
use Rattle.sqlite_schema.specs.declared.command.Returning.{Returning}
use Rattle.sqlite.specs.Order.{Row}
use Rattle.sqlite.specs.State.{State, Executes, ExecutesIn, FailsToQuery, FailsToShow, IsNotRun, IsRolledBack, IsUnchanged, RunsAlone, RunsCommand, shows_rows}
use Rattle.sqlite.specs.declared.error.Error.{Error}
use Rattle.sqlite.specs.declared.error.Error.TheVariants.{ExecuteReturnedResults}

-- nothing was changed, or what was begun is rolled back
abbrev pub IsUndone : State → State → Type 0
IsUndone old new = IsUnchanged old new ⊎ IsRolledBack old new

command_undone : (old new : State) (sql : List ℕ) (c : Compiled) (ps : Row) (e : Error) → RunsCommand old new sql c ps (Err e) → IsUndone old new
command_undone old new sql c ps e (inl it) = inl it.1
command_undone old new sql c ps e (inr failed) = inr failed.3

not_run : (old new : State) (sql : List ℕ) (params : Row) (e : Error) → IsNotRun old new sql params e → IsUndone old new
unfolding IsNotRun
not_run old new sql params e (inl no_text) = inl no_text.1
not_run old new sql params e (inr failed) = inr failed.3

pub executes_undone : (sql : List ℕ) (params : Row) (old new : State) (e : Error) → Executes sql params old new (Err e) → IsUndone old new
unfolding ExecutesIn
executes_undone sql params old new e h = elim h [ inl none ↦ not_run old new sql params e none | inr run ↦ alone run.0 _ run.2 ]
  where
    alone : (c : Compiled) (ps : Row) → RunsAlone false old new sql c ps (Err e) → IsUndone old new
    alone c ps h =
        elim (shows_rows false c) as (λ b. MatchBool b ((◌≡◌ {A = Result ℕ Error} (Err e) (Err ExecuteReturnedResults)) × IsUnchanged old new) (RunsCommand old new sql c ps (Err e)) → IsUndone old new)
        [ true ↦ λ it. inl it.1 | false ↦ λ it. command_undone old new sql c ps e it ] h

pub query_undone : (sql : List ℕ) (params : Row) (old new : State) (e : Error) → FailsToQuery sql params old new e → IsUndone old new
unfolding FailsToQuery
query_undone sql params old new e h = elim h [ inl none ↦ not_run old new sql params e none | inr run ↦ shown run.0 _ run.0.returning run.2 ]
  where
    shown : (c : Compiled) (ps : Row) (returning : Option Returning) → FailsToShow old new sql c ps e returning → IsUndone old new
    shown c ps None h = inl h.3
    shown c ps (Some what) h = command_undone old new sql c ps e h
