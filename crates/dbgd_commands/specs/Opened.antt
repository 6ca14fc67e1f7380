-- What the statuses of commands on an opened store have in common (this project's rule).
use Rattle.std.specs.Prelude.{◌≡◌, ◌⊎◌, Bool, List, Contains, Option}
use Rattle.row_types.specs.Faults.{Rose}
use Rattle.row_codec.specs.declared.fault.CodecFault.{CodecFault}
use Rattle.index_keeper.specs.Store.{ShownStore}
use Rattle.index_keeper.specs.Tables.{KeptFacts}
use Rattle.index_state.specs.Opening.{IsBad, IsFirstBad}
use Rattle.dbgd_commands.specs.Kept.{GivesValues}
use Rattle.dbgd_commands.specs.declared.status.Status.{Status}
use Rattle.dbgd_commands.specs.declared.status.Status.TheVariants.{Fault, OutOfMemory}

-- the store was opened and gave values, of which this is so
pub record StoreOpensOn (told : Bool) (old new : ShownStore) (Of : List KeptFacts → Type 0) : Type 0 where
  pub opened : Rose old.epoch new.epoch
  pub values : List KeptFacts
  pub gave : GivesValues told old values
  pub so : Of values

-- the first value by path that isn't a row under its path, and why
pub record HasBad (values : List KeptFacts) : Type 0 where
  pub kept : KeptFacts
  pub fault : Option CodecFault
  pub first : IsFirstBad values kept fault

-- a command ends with this status, or the store failed, or memory was refused
abbrev pub EndsOnlyWith : Status → ShownStore → ShownStore → Status → Type 0
EndsOnlyWith only old new status =
    (status ≡ only) ⊎ (((status ≡ Fault) × Rose old.faults new.faults) ⊎ (status ≡ OutOfMemory))

-- some value isn't a row under its path
pub record HasSomeBad (values : List KeptFacts) : Type 0 where
  pub kept : KeptFacts
  pub fault : Option CodecFault
  pub held : Contains values kept
  pub bad : IsBad kept fault
