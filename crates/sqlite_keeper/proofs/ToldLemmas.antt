-- What the statements of the store give and change in a told database, by what they answered.
use Rattle.std.proofs.Common.{◌≡◌, ◌⊎◌, inl, inr, ℕ, List, [], ◌∷◌, Ok, Err, Result, Option, None, Some, false, sym, ◌∙◌, ap, subst}
use Rattle.std.specs.Prelude.{IfSome, IsTrue, if◌then◌else◌}
use Rattle.sqlite.specs.declared.error.Error.{Error}
use Rattle.sqlite.specs.Effect.{Database, IsDatabase}
use Rattle.sqlite.specs.Held.{Held, state}
use Rattle.sqlite.specs.Order.{Row}
use Rattle.sqlite.specs.Schema.{Schema}
use Rattle.sqlite.specs.State.{State, HasCleanDisk, Shows, Executes, IsUnchanged}
use Rattle.sqlite_catalog.specs.Listing.{IsSound}
use Rattle.sqlite_value.specs.declared.value.Value.TheVariants.{Text, Blob}
use Rattle.sqlite.specs.Store.{Ghosts}
use Rattle.index_keeper.specs.Tables.{AscendsByPath, EditFacts, KeptFacts, edited, put_bytes, removal_of}
use Rattle.index_keeper.specs.declared.answer.KeepAnswer.{KeepAnswer}
use Rattle.sqlite_keeper.specs.Faults.{sql_fault}
use Rattle.sqlite_keeper.specs.Reading.{GivesAll, LeavesAlone, LooksUpRows}
use Rattle.sqlite_keeper.specs.Schema.{store_of}
use Rattle.sqlite_keeper.specs.Statements.{HasRun, answer_for, answer_to, put_text, remove_text}
use Rattle.sqlite_keeper.specs.Stored.{stored_tables}
use Rattle.sqlite_keeper.specs.Told.{IsNumbered, IsDatabaseTold, IsToldBy, DatabaseStays, TellsEdit, TellsQueriedRows, TellsChange, first_of, tables, tables_in}
use Rattle.sqlite_keeper.specs.declared.fault.SqlFault.{SqlFault}
use Rattle.sqlite_keeper.specs.declared.fault.SqlFault.TheVariants.{Failed, OutOfMemory}
use Rattle.sqlite_keeper.proofs.KeptLemmas.{put_in, removed}
use Rattle.sqlite_keeper.proofs.PutLemmas.{puts}
use Rattle.sqlite_keeper.proofs.RowLemmas.{AreKept, kept_rows}
use Rattle.sqlite_keeper.proofs.StatementLemmas.{removes, shows}
use Rattle.sqlite_keeper.proofs.UndoneLemmas.{executes_undone}

-- the rows of a told database are numbers, paths and bytes, and no path comes twice
pub told_rows : (now : State) → IsDatabaseTold now → IsNumbered now → AreKept (now.now.trees 0)
told_rows now told numbered =
    let sound : IsSound (store_of told.schema.second) now.now.trees = subst (λ (s : Schema). IsSound s now.now.trees) told.schema.is told.sound in
    kept_rows told.schema.second now.now.trees sound.obeys.rules numbered

-- what a change commits
committed : (old new : State) (told : IsDatabaseTold old) → new.now.schema ≡ store_of told.schema.second → IsDatabase new.now
    → Shows old new new.now (if old.in_transaction then old.committed else new.now) old.in_transaction → IsDatabaseTold new
committed old new told schema sound shown = record {
  schema = record { second = told.schema.second; is = schema };
  sound = sound;
  outside = shown.mode ∙ told.outside;
  settled = sym (shown.committed_is ∙ ap (λ b. if b then old.committed else new.now) told.outside);
}

-- what is as it was is told as it was
unchanged : (old new : State) → IsDatabaseTold old → new.now ≡ old.now → new.committed ≡ old.committed → new.in_transaction ≡ false → DatabaseStays old new
unchanged old new told now kept outside = record {
  told = record {
    schema = record { second = told.schema.second; is = ap (λ (d : Database). d.schema) now ∙ told.schema.is };
    sound = subst IsDatabase (sym now) told.sound;
    outside = outside;
    settled = now ∙ told.settled ∙ sym kept;
  };
  same = ap tables_in now;
}

pub stays_unchanged : (old new : State) → IsDatabaseTold old → IsUnchanged old new → DatabaseStays old new
stays_unchanged old new told it = unchanged old new told it.0.now_is it.0.committed_is (it.0.mode ∙ told.outside)

-- a statement that is refused or fails leaves a database as it was, where it is open still
pub refused : (sql : List ℕ) (params : Row) (old new : State) (e : Error) → IsDatabaseTold old → IsTrue new.is_open → Executes sql params old new (Err e) → DatabaseStays old new
refused sql params old new e told opened h = elim (executes_undone sql params old new e h) [
  | inl same ↦ stays_unchanged old new told same
  | inr back ↦ let undone = back.undone opened in unchanged old new told (undone.0 ∙ sym told.settled) undone.1 back.autocommit
]

-- the tables of a told database are the rows of its first tree
told_tables : (now : State) → IsDatabaseTold now → tables now ≡ stored_tables (now.now.trees 0)
told_tables now told = ap (λ (s : Schema). first_of s.tables (now.now.trees 0)) told.schema.is

changed_as : (edit : EditFacts) (old new : State) → IsDatabaseTold old → IsDatabaseTold new → stored_tables (new.now.trees 0) ≡ edited (stored_tables (old.now.trees 0)) edit → tables new ≡ edited (tables old) edit
changed_as edit old new told after e = told_tables new after ∙ e ∙ ap (λ rows. edited rows edit) (sym (told_tables old told))

pub removes_told : (old new : State) (path : List ℕ) (count : ℕ) → IsDatabaseTold old → IsNumbered old → (IsDatabaseTold new → IsNumbered new) → Executes remove_text (Text path ∷ []) old new (Ok count) → TellsEdit (removal_of path) old new
removes_told old new path count told was is h =
    let did = removes told.schema.second old new path count told.schema.is (told_rows old told was) h in
    let after : IsDatabaseTold new = committed old new told did.0 did.1 did.2 in
    record { told = after; changed = changed_as (removal_of path) old new told after (removed path _ _ (told_rows old told was).apart (told_rows new after (is after)).apart did.3) }

pub puts_told : (old new : State) (path body : List ℕ) (count : ℕ) → IsDatabaseTold old → IsNumbered old → (IsDatabaseTold new → IsNumbered new) → Executes put_text (Text path ∷ Blob body ∷ []) old new (Ok count) → TellsEdit (put_bytes path body) old new
puts_told old new path body count told was is h =
    let did = puts told.schema.second old new path body count told.schema.is (told_rows old told was) h in
    let after : IsDatabaseTold new = committed old new told did.0 did.1 did.2 in
    record { told = after; changed = changed_as (put_bytes path body) old new told after (put_in path body _ _ (told_rows old told was).apart (told_rows new after (is after)).apart did.3) }

-- the answer to a change tells what came of its statement
pub change_told : {S : Type 0} (g : Ghosts S) (edit : EditFacts) (sql : List ℕ) (params : Row) (before after : Held S) (given : KeepAnswer)
    → ((count : ℕ) → IsDatabaseTold (state g before) → IsNumbered (state g before) → (IsDatabaseTold (state g after) → IsNumbered (state g after)) → Executes sql params (state g before) (state g after) (Ok count) → TellsEdit edit (state g before) (state g after))
    → (HasCleanDisk (state g after) → HasRun g sql params before after given) → TellsChange g edit before after given
change_told g edit sql params before after given done runs told was is clean opened = let h = runs clean in answered h.came h.ran h.told
  where
    faulty : (fault : SqlFault) → DatabaseStays (state g before) (state g after) → IsToldBy (answer_for fault) edit (state g before) (state g after)
    faulty Failed stays = stays
    faulty OutOfMemory stays = stays

    answered : (came : Result ℕ Error) → Executes sql params (state g before) (state g after) came → given ≡ answer_to came after.in_transaction → IsToldBy given edit (state g before) (state g after)
    answered (Ok count) ran e =
        let tells = done count told was is ran in
        subst (λ a. IsToldBy a edit (state g before) (state g after)) (sym (e ∙ ap (answer_to (Ok count)) tells.told.outside)) tells
    answered (Err error) ran e =
        subst (λ a. IsToldBy a edit (state g before) (state g after)) (sym e) (faulty (sql_fault error) (refused sql params (state g before) (state g after) error told opened ran))

-- what leaves a told database alone leaves it told
left_told : (old new : State) → IsDatabaseTold old → IsTrue new.is_open → new.in_transaction ≡ false → LeavesAlone old new → DatabaseStays old new
left_told old new told opened outside leaves = unchanged old new told (now (leaves.now opened)) (leaves.committed opened) outside
  where
    now : (new.now ≡ old.now) ⊎ (new.now ≡ old.committed) → new.now ≡ old.now
    now (inl same) = same
    now (inr back) = back ∙ sym told.settled

-- rows strictly by path that the query gave are the tables
pub rows_told : {S : Type 0} (g : Ghosts S) (before after : Held S) (given : Option (List KeptFacts)) → IfSome given AscendsByPath → LooksUpRows g before after given → TellsQueriedRows g before after given
rows_told g before after given ascends looks told was is clean opened = record {
  all = all given ascends (looks.gives clean);
  stays = left_told (state g before) (state g after) told opened (looks.outside told.outside) (looks.leaves clean);
}
  where
    all : (rows : Option (List KeptFacts)) → IfSome rows AscendsByPath → IfSome rows (GivesAll g before after) → IfSome rows (λ it. it ≡ tables (state g before))
    all None a h = tt
    all (Some it) a h =
        shows told.schema.second (state g before) (state g after) h.answer it told.schema.is (told_rows (state g before) told was) h.shown h.spelled a ∙ sym (told_tables (state g before) told)
