-- What the status of a server says (this project's rule).
use Rattle.std.specs.Prelude.{◌≡◌, ◌⊎◌, ℕ, List, [], ◌∷◌, ◌++◌, All, Option, Some, None, IsTrue}
use Rattle.path_scope.specs.Scope.{Scope}
use Rattle.row_types.specs.Faults.{Rose}
use Rattle.http_wire.specs.Door.{ShownDoor}
use Rattle.http_wire.specs.Sink.{GetsAll}
use Rattle.http_wire.specs.declared.door.DoorSaid.TheVariants as said
use Rattle.index_state.specs.Changes.{EndsVoid}
use Rattle.index_state.specs.Opening.{IsOverfull}
use Rattle.dbgd_commands.specs.Opened.{EndsOnlyWith, HasBad, HasSomeBad, StoreOpensOn}
use Rattle.dbgd_commands.specs.ScanSaid.{pass_saying}
use Rattle.dbgd_commands.specs.Stage.{ProgramStage, Setting}
use Rattle.dbgd_commands.specs.declared.status.Status.{Status}
use Rattle.dbgd_commands.specs.declared.status.Status.TheVariants.{Done, Fault, Limit, OutOfMemory, BadRow}
use Rattle.dbgd_run.specs.Rounds.{PassStage, Round, out_lines}
use Rattle.dbgd_run.specs.Serve.{HasServed, PassesOn, ServeWords, scope_in}
use Rattle.dbgd_run.specs.ServeSaid.{serving_line}
use Rattle.dbgd_run.specs.declared.passes_end.PassesEnd.{PassesEnd}

-- the count of faults of some door rose
abbrev pub SomeDoorRose : List ShownDoor → List ShownDoor → Type 0
SomeDoorRose (before ∷ more) (after ∷ rest) = Rose before.faults after.faults ⊎ SomeDoorRose more rest
SomeDoorRose _ _ = ⊥

-- the passes behind the first one, in order
abbrev pub rounds_behind : {T : Type 0} (s : Setting T) (scope : Scope) (secs : ℕ) (first : Round T)
    (how : Option PassesEnd) (last : PassStage T) → PassesOn s scope secs first how last → List (Round T)
rounds_behind s scope secs first None last none = []
rounds_behind s scope secs first (Some end) last kept = kept.1.rounds

-- the lines of the whole ones of them, in order
abbrev pub lines_behind : {T : Type 0} (s : Setting T) (scope : Scope) (secs : ℕ) (first : Round T)
    (how : Option PassesEnd) (last : PassStage T) → PassesOn s scope secs first how last → List ℕ
lines_behind s scope secs first how last passes = out_lines (rounds_behind s scope secs first how last passes)

-- the doors were served until each of them closed; the store made each change; and the standard output got exactly the first line
-- and then the whole line of each whole pass, in order
pub record IsServedWell {T : Type 0} (s : Setting T) (words : ServeWords) (before after : ProgramStage T) : Type 0 where
  pub serves : HasServed s words before after Done
  pub closed : All (λ (door : ShownDoor). door.last ≡ Some said.Closed) after.doors
  pub sound : ¬ EndsVoid serves.log
  pub out :
      GetsAll
      (serving_line words.port words.workers ++ (pass_saying serves.first.end).out
      ++ lines_behind s (scope_in words) words.secs serves.first serves.how serves.last serves.passes)
      before.command.streams.out after.command.streams.out

-- of a server: no path is missing and no file is altered, and the words were read
abbrev pub ServeStatus : {T : Type 0} → Setting T → ServeWords → ProgramStage T → ProgramStage T → Status → Type 0
ServeStatus s words before after Done = IsServedWell s words before after
ServeStatus s words before after Fault =
    Rose before.command.store.faults after.command.store.faults
    ⊎ (SomeDoorRose before.doors after.doors
    ⊎ Rose before.command.streams.out.write_faults after.command.streams.out.write_faults)
ServeStatus s words before after Limit =
    StoreOpensOn s.tells_tables before.command.store after.command.store IsOverfull
ServeStatus s words before after OutOfMemory = Unit {0}
ServeStatus s words before after BadRow =
    StoreOpensOn s.tells_tables before.command.store after.command.store HasBad
ServeStatus s words before after _ = ⊥

-- how a server ends when: a store that tells a value which isn't a row ends it with the status for that, and one that tells too
-- many rows of the edition with that of a limit
pub record ServeEnds {T : Type 0} (s : Setting T) (before after : ProgramStage T) (status : Status) : Type 0 where
  pub bad :
      IsTrue s.tells_tables → HasSomeBad before.command.store.tables
      → EndsOnlyWith BadRow before.command.store after.command.store status
  pub overfull :
      IsTrue s.tells_tables → IsOverfull before.command.store.tables
      → EndsOnlyWith Limit before.command.store after.command.store status
