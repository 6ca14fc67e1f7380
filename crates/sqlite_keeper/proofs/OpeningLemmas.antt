-- An opening keeps the tables that the database shows, however far it comes.
use Rattle.std.proofs.Common.{◌≡◌, inl, inr, ℕ, [], Ok, Err, Result, sym, ◌∙◌, ap}
use Rattle.std.specs.Prelude.{IfErr, IsTrue}
use Rattle.std.proofs.lemmas.Bool.{false≢true}
use Rattle.sqlite.specs.Held.{Held, state}
use Rattle.sqlite.specs.Order.{Row}
use Rattle.sqlite.specs.State.{State, Executes, IsLive, QueriesRow}
use Rattle.sqlite.specs.Store.{Ghosts}
use Rattle.sqlite.specs.declared.error.Error.{Error}
use Rattle.sqlite_keeper.specs.Begins.{Front, MakesNumber, RefusesToBegin, nothing, to_kept, to_epoch, to_raise}
use Rattle.sqlite_keeper.specs.Schema.{Fits, IsStore}
use Rattle.sqlite_keeper.specs.Statements.{StaysOutside, epoch_table, kept_table, raise_text}
use Rattle.sqlite_keeper.specs.Told.{IsDatabaseTold, KeepsTables, tables, tables_in}
use Rattle.sqlite_keeper.specs.declared.fault.SqlFault.{SqlFault}
use Rattle.sqlite_keeper.proofs.MadeLemmas.{HasKept, IsAtRest, epoch_run, kept_run}
use Rattle.sqlite_keeper.proofs.OutsideLemmas.{clean_before}
use Rattle.sqlite_keeper.proofs.RaiseLemmas.{showed_run}
use Rattle.sqlite_keeper.proofs.UndoneLemmas.{IsUndone, executes_undone, query_undone}

-- a database at rest that a statement didn't change is as it was, if it is open still
back : (old new : State) → IsAtRest old → IsTrue new.is_open → IsUndone old new → tables new ≡ tables old
back old new rest opened (inl same) = ap tables_in same.0.now_is
back old new rest opened (inr it) = ap tables_in ((it.undone opened).0 ∙ sym (rest.settled (it.was_open opened)))

kept_came : (old new : State) (came : Result ℕ Error) → Fits old.now.schema → IsAtRest old → IsTrue new.is_open → Executes kept_table [] old new came → tables new ≡ tables old
kept_came old new (Ok count) fits rest opened h = (kept_run old new count fits rest h).1.same
kept_came old new (Err e) fits rest opened h = back old new rest opened (executes_undone kept_table [] old new e h)

epoch_came : (old new : State) (came : Result ℕ Error) → HasKept old.now.schema → IsAtRest old → IsTrue new.is_open → Executes epoch_table [] old new came → tables new ≡ tables old
epoch_came old new (Ok count) has rest opened h = (epoch_run old new count has rest h).1.same
epoch_came old new (Err e) has rest opened h = back old new rest opened (executes_undone epoch_table [] old new e h)

raise_came : (old new : State) (came : Result Row Error) → IsStore old.now.schema → IsAtRest old → IsTrue new.is_open → QueriesRow raise_text [] old new came → tables new ≡ tables old
unfolding QueriesRow
raise_came old new (Ok row) store rest opened (inl begun) = ap tables_in begun.1.0.now_is
raise_came old new (Ok row) store rest opened (inr showed) = showed_run old new showed.0 store showed.1
raise_came old new (Err e) store rest opened (inl failed) = back old new rest opened (query_undone raise_text [] old new e failed)
raise_came old new (Err e) store rest opened (inr none) = showed_run old new [] store none.1

module _ {S : Type 0} (g : Ghosts S) (before : Held S) (fits : Fits before.schema) (rest : IsAtRest (state g before)) where
  pub front_keeps : (after : Held S) → Front g before after → KeepsTables g before after
  front_keeps after (nothing same) clean opened = ap (λ h. tables (state g h)) same
  front_keeps after (to_kept came runs) clean opened = kept_came (state g before) (state g after) came fits rest opened (runs.ran clean)
  front_keeps after (to_epoch first makes came runs) clean opened =
      let k = kept_run (state g before) (state g first) makes.count fits rest (makes.run.ran (clean_before (state g first) (state g after) _ runs.survives clean)) in
      epoch_came (state g first) (state g after) came k.0 k.1.rests opened (runs.ran clean) ∙ k.1.same
  front_keeps after (to_raise first made makes also raises) clean opened =
      let later = clean_before (state g made) (state g after) _ raises.survives clean in
      let k = kept_run (state g before) (state g first) makes.count fits rest (makes.run.ran (clean_before (state g first) (state g made) _ also.run.survives later)) in
      let e = epoch_run (state g first) (state g made) also.count k.0 k.1.rests (also.run.ran later) in
      raise_came (state g made) (state g after) raises.came e.0 e.1.rests opened (raises.ran clean) ∙ e.1.same ∙ k.1.same

  -- an opening that stops short of its end
  pub refuses_by : (fault : SqlFault) (after : Held S) → Front g before after → StaysOutside g before after → RefusesToBegin g before fault after
  refuses_by fault after front outside = record {
    cause = λ inside. absurd (false≢true (sym rest.outside ∙ inside));
    strange = λ other. absurd (other fits);
    back = record {
      same = λ inside. absurd (false≢true (sym rest.outside ∙ inside));
      other = λ other. absurd (other fits);
      short = record { front = front; outside = outside };
      kept = front_keeps after front;
    };
  }

-- an opening whose number was raised leaves a told database
pub told_made : {S : Type 0} (g : Ghosts S) (before after : Held S) (number : ℕ) → MakesNumber g before after number → IsStore after.schema → IsLive (state g after) → IsTrue (state g after).is_open
    → IsDatabaseTold (state g after)
told_made g before after number makes store live opened = record {
  schema = store;
  sound = (live opened).0;
  outside = makes.raised.committed.outside;
  settled = makes.raised.committed.settled opened;
}

-- what holds of each fault holds of a refusal's
pub all_refused : {A E : Type 0} (r : Result A E) (P : E → Type 0) → ((fault : E) → P fault) → IfErr r P
all_refused (Ok a) P h = tt
all_refused (Err fault) P h = h fault
