-- What a line does whose files are selected by patterns (this project's rule): the patterns are read behind the words, before
-- anything is asked of the outside. Where they are refused, the usage is said.
use Rattle.std.specs.Prelude.{◌≡◌, ℕ, List}
use Rattle.path_scope.specs.Scope.{Scope, scope_of}
use Rattle.path_canon.specs.Selected.{AreTaken, IsCauseFor, SelectFacts, is_selected, select_of}
use Rattle.path_canon.specs.declared.fault.SelectFault.{SelectFault}
use Rattle.path_canon.specs.declared.fault.SelectFault.TheVariants as refused
use Rattle.dbgd_words.specs.Patterns.{PatternTexts}
use Rattle.dbgd_commands.specs.Endings.{EndsWhole, Saying, error_saying, no_memory_saying}
use Rattle.dbgd_commands.specs.Stage.{CommandStage, LeavesRest, ProgramStage}
use Rattle.dbgd_commands.specs.Texts.{usage_text}
use Rattle.dbgd_commands.specs.declared.status.Status.{Status}
use Rattle.dbgd_commands.specs.declared.status.Status.TheVariants.{Usage, OutOfMemory}

-- of words that can't be read
abbrev pub usage_saying : Saying
usage_saying = error_saying usage_text Usage

-- what is said without a look at the hands or the store
pub record SaysAlone {T : Type 0} (saying : Saying) (before after : CommandStage T)
    (status : Status) : Type 0 where
  pub says : EndsWhole saying before.streams after.streams status
  pub hands : after.hands ≡ before.hands
  pub store : after.store ≡ before.store

-- the selection by the patterns
abbrev pub selection_of : PatternTexts → SelectFacts
selection_of patterns = select_of patterns.include patterns.exclude

-- the roots, and the paths that the patterns select
abbrev pub scope_by : PatternTexts → List (List ℕ) → Scope
scope_by patterns roots = scope_of roots (is_selected (selection_of patterns))

-- the patterns are refused for another cause than memory
abbrev pub IsRefusal : PatternTexts → SelectFault → Type 0
IsRefusal patterns refused.OutOfMemory = ⊥
IsRefusal patterns fault = IsCauseFor patterns.include patterns.exclude fault

-- what is said where there is no selection: the usage, or that memory was refused
abbrev pub unselected_saying : SelectFault → Saying
unselected_saying refused.OutOfMemory = no_memory_saying
unselected_saying fault = usage_saying

-- there is no selection by the patterns, for this cause, and that was said; nothing else was asked of
pub record SelectsNothing {T : Type 0} (patterns : PatternTexts) (before after : ProgramStage T) (status : Status)
    : Type 0 where
  pub fault : SelectFault
  pub why : IsCauseFor patterns.include patterns.exclude fault
  pub alone : SaysAlone (unselected_saying fault) before.command after.command status
  pub rest : LeavesRest before after

-- what a line does that selects files by patterns: each of them is a pattern, and it does this by them; or nothing was selected
pub data Selects {T : Type 0} (patterns : PatternTexts) (before after : ProgramStage T) (status : Status) (does : Type 0)
    : Type 0 where
  selecting : AreTaken (selection_of patterns) → does → Selects patterns before after status does
  unselected : SelectsNothing patterns before after status → Selects patterns before after status does

-- what the status says of such a line: the usage, that the patterns are refused; any other, what it says of the selected files
abbrev pub SelectStatus : PatternTexts → Status → Type 0 → Type 0
SelectStatus patterns Usage says = (fault : SelectFault) × IsRefusal patterns fault
SelectStatus patterns OutOfMemory says = Unit {0}
SelectStatus patterns status says = says
