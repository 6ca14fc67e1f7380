-- What the keepers and the stores show, where their store of bytes tells what it holds.
use Rattle.std.proofs.Common.{◌≡◌, ◌<◌, inl, ℕ, Bool, true, false, List, [], None, Some, refl, sym, ◌∙◌, ap, arith}
use Rattle.std.specs.Prelude.{IsTrue, if◌then◌else◌}
use Rattle.std.proofs.lemmas.Bool.{false≢true}
use Rattle.sqlite.specs.Held.{Held, state}
use Rattle.sqlite.specs.State.{HasCleanDisk, State}
use Rattle.sqlite.specs.Store.{Ghosts}
use Rattle.index_keeper.specs.Answers.{for_change, for_rows, keeper_failed, rows_given}
use Rattle.index_keeper.specs.Keeper.{AsksKeeper, AreTablesUntouched, TellsTables, made_after}
use Rattle.index_keeper.specs.Store.{IsOpened}
use Rattle.index_keeper.specs.Tables.{EditFacts, KeptFacts}
use Rattle.index_keeper.specs.declared.answer.KeepAnswer.{KeepAnswer}
use Rattle.index_keeper.specs.declared.answer.KeepAnswer.TheVariants as answer
use Rattle.index_keeper.specs.declared.answer.KeptAnswer.{KeptAnswer}
use Rattle.index_keeper.specs.declared.answer.KeptAnswer.TheVariants as rows
use Rattle.sqlite_keeper.specs.HeldStore.{HeldStoreFacts, held_shown, tables_held}
use Rattle.sqlite_keeper.specs.Keeper.{IsCounted, SqliteKeeperFacts, keeper_shown}
use Rattle.sqlite_keeper.specs.Told.{IfTold, IsNumbered, IsDatabaseTold, IsToldBy, TellsRows, tables}

-- either way the database is told after a change
pub told_after : (given : KeepAnswer) (edit : EditFacts) (old new : State) → IsToldBy given edit old new → IsDatabaseTold new
told_after answer.Done edit old new tells = tells.told
told_after answer.Failed edit old new stays = stays.told
told_after answer.OutOfMemory edit old new stays = stays.told

-- a call that didn't fail isn't counted
pub not_counted : (faults : ℕ) → IsCounted false faults faults
not_counted faults = record { cause = record { later = omega arith; rose = λ failed. absurd (false≢true failed) }; faultless = λ _. refl }

-- what is shown where it is told
pub shown_told : (told : Bool) (rows : List KeptFacts) → IsTrue told → (if told then rows else []) ≡ rows
shown_told true rows is = refl
shown_told false rows is = absurd (false≢true is)

-- what is shown is the same, where it is so if it is told
pub shown_same : (told : Bool) (new old : List KeptFacts) → (IsTrue told → new ≡ old) → (if told then new else []) ≡ (if told then old else [])
shown_same true new old same = same refl
shown_same false new old same = refl

module _ {S : Type 0} (g : Ghosts S) where
  -- what a store of bytes that tells what it holds says of databases over it
  pub record Laws (tells : Bool) : Type 0 where
    pub clean : tells ≡ true → (c : Held S) → HasCleanDisk (state g c)
    pub opened : tells ≡ true → (c : Held S) → IsTrue (state g c).is_open
    pub numbered : tells ≡ true → (c : Held S) → IsDatabaseTold (state g c) → IsNumbered (state g c)

  -- they are the premises of what is told
  pub by_laws : (tells : Bool) (laws : Laws tells) (before after : Held S) (So : Type 0) → (IsTrue tells → IsDatabaseTold (state g before)) → IfTold g before after So → IsTrue tells → So
  by_laws tells laws before after So told so is =
      so (told is) (laws.numbered is before (told is)) (laws.numbered is after) (laws.clean is after) (laws.opened is after)

  module _ (old new : SqliteKeeperFacts S) where
    untouched : tables (state g new.connection) ≡ tables (state g old.connection) → AreTablesUntouched (keeper_shown g old) (keeper_shown g new)
    untouched same = record { same = same; left = λ image. (λ e. e ∙ same, λ e. e ∙ sym same) }

    -- a change is answered, as keepers are asked for one
    pub asks_change : (tells : Bool) (edit : EditFacts) (given : KeepAnswer) → (IsTrue tells → IsToldBy given edit (state g old.connection) (state g new.connection))
        → IsCounted (keeper_failed (for_change edit given)) old.faults new.faults → new.epoch ≡ old.epoch → AsksKeeper tells (keeper_shown g old) (keeper_shown g new) (for_change edit given)
    asks_change tells edit given told counted number = record {
      tells = λ is. by given (told is);
      grows = grows given;
      cause = counted.cause;
      faultless = counted.faultless;
      number = number;
    }
      where
        by : (a : KeepAnswer) → IsToldBy a edit (state g old.connection) (state g new.connection) → TellsTables (keeper_shown g old) (keeper_shown g new) (for_change edit a)
        by answer.Done it = record { changed = it.changed; settled = record { left = refl; only = λ image e. e } }
        by answer.Failed it = record { now = refl; without = sym it.same; each = λ image e. inl (e ∙ it.same) }
        by answer.OutOfMemory it = untouched it.same

        grows : (a : KeepAnswer) → None ≡ made_after None (for_change edit a)
        grows answer.Done = refl
        grows answer.Failed = refl
        grows answer.OutOfMemory = refl

    -- and so are all rows
    pub asks_rows : (tells : Bool) (given : KeptAnswer) → (IsTrue tells → TellsRows (rows_given given) (state g old.connection) (state g new.connection))
        → IsCounted (keeper_failed (for_rows given)) old.faults new.faults → new.epoch ≡ old.epoch → AsksKeeper tells (keeper_shown g old) (keeper_shown g new) (for_rows given)
    asks_rows tells given told counted number = record {
      tells = λ is. by given (told is);
      grows = refl;
      cause = counted.cause;
      faultless = counted.faultless;
      number = number;
    }
      where
        by : (a : KeptAnswer) → TellsRows (rows_given a) (state g old.connection) (state g new.connection) → TellsTables (keeper_shown g old) (keeper_shown g new) (for_rows a)
        by (rows.All it) told = record { whole = told.all ∙ sym told.stays.same; stays = untouched told.stays.same }
        by rows.Failed told = untouched told.stays.same
        by rows.OutOfMemory told = untouched told.stays.same

  -- the keeper that is handed out has the tables of the connection that was held
  pub opens_held : (tells : Bool) (path : List ℕ) (held : Held S) (old new : HeldStoreFacts S) (keeper : SqliteKeeperFacts S) → old.connection ≡ Some held → keeper.faults ≡ 0 → keeper.epoch ≡ new.epoch
      → new.faults ≡ old.faults → old.epoch < new.epoch → (IsTrue tells → tables (state g keeper.connection) ≡ tables (state g held))
      → IsOpened tells path (held_shown tells g old) (held_shown tells g new) (keeper_shown g keeper)
  opens_held tells path held old new keeper was faultless number faults rises kept = record {
    holds = record {
      tables = λ is. kept is ∙ sym (ap (tables_held g) was) ∙ sym (shown_told tells (tables_held g old.connection) is);
      settled = λ _. record { left = refl; only = λ image e. e };
      made = refl;
      faultless = faultless;
    };
    number = number;
    rises = omega (arith, rises);
    later = omega (arith, rises);
    faults = faults;
    paths = refl;
  }

  -- a store whose opening was refused shows what it did
  pub shows_held : (tells : Bool) (held now : Held S) (old new : HeldStoreFacts S) → old.connection ≡ Some held → new.connection ≡ Some now → (IsTrue tells → tables (state g now) ≡ tables (state g held))
      → (held_shown tells g new).tables ≡ (held_shown tells g old).tables
  shows_held tells held now old new was is kept =
      shown_same tells (tables_held g new.connection) (tables_held g old.connection) (λ told. ap (tables_held g) is ∙ kept told ∙ sym (ap (tables_held g) was))
