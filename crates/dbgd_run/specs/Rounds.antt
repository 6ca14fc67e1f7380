-- Passes between waits (this project's rule): after each wait that a clock answers with Again one pass is made over an index
-- that others share, its line is said, and a whole one is counted; the passing ends where the clock says Stop, or where a
-- line could not be made.
use Rattle.std.specs.Prelude.{◌≡◌, ◌⊎◌, ℕ, ◌<◌, ◌≤◌, Bool, true, false, List, [], ◌∷◌, ◌++◌, map, drop, length, Option, IsTrue, sum_by}
use Rattle.std.specs.List.{flat_map, list_any}
use mathlib.Core.List.{IsPrefix}
use Rattle.path_scope.specs.Scope.{Scope}
use Rattle.row_types.specs.Faults.{Rose}
use Rattle.index_rows.specs.declared.change.Change.{Change}
use Rattle.tree_trait.specs.Clock.{Wakes, waited}
use Rattle.tree_trait.specs.Shown.{HandsOn}
use Rattle.tree_trait.specs.declared.clock.Wake.TheVariants.{Again, Stop}
use Rattle.tree_trait.specs.declared.clock.Waited.{Waited}
use Rattle.http_wire.specs.Sink.{GetsAll}
use Rattle.http_wire.specs.Stream.{ShownStream}
use Rattle.http_wire.specs.Told.{Gains}
use Rattle.dbgd_metrics.specs.Shares.{ShareFacts}
use Rattle.pass_runner.specs.Owned.{HandsGo, Helps, is_hand_fault, is_unbegun}
use Rattle.pass_runner.specs.SharedPass.{EndsShared, IsDoneShared, IsUnhinderedPass}
use Rattle.pass_runner.specs.declared.pass_end.PassEnd.{PassEnd}
use Rattle.dbgd_commands.specs.Endings.{Streams}
use Rattle.dbgd_commands.specs.ScanSaid.{pass_saying}
use Rattle.dbgd_commands.specs.Stage.{Setting}
use Rattle.dbgd_run.specs.RoundSaid.{CountsPass, GrowsShare, TellsPass, added_by, err_told, is_cut, is_unmade}
use Rattle.dbgd_run.specs.declared.line_fate.LineFate.{LineFate}
use Rattle.dbgd_run.specs.declared.line_fate.LineFate.TheVariants.{Unmade}
use Rattle.dbgd_run.specs.declared.passes_end.PassesEnd.{PassesEnd}
use Rattle.dbgd_run.specs.declared.passes_end.PassesEnd.TheVariants.{Stopped, OutFailed, OutOfMemory}

-- what the passes go on with, at a moment: the log that the token has seen, the hands in order, the waits so far, where
-- they are told, the two sinks, and the share of the counter table
pub record PassStage (T : Type 0) : Type 0 where
  pub log : List Change
  pub hands : List T
  pub woke : Option (List Waited)
  pub streams : Streams
  pub share : ShareFacts

-- the stage of these
abbrev pub pass_stage : {T : Type 0} → List Change → List T → Option (List Waited) → Streams → ShareFacts → PassStage T
pass_stage log hands woke streams share =
    record { log = log; hands = hands; woke = woke; streams = streams; share = share }

-- one round: how its pass ended, what came of the line, and the stage behind it
pub record Round (T : Type 0) : Type 0 where
  pub end : PassEnd
  pub fate : LineFate
  pub after : PassStage T

-- one pass over the scope was made with the hands over an index that others share, and ended so: what is said of its end,
-- of the hands and of their faults, and where nothing stands against it
pub record PassesShared {T : Type 0} (s : Setting T) (scope : Scope) (end : PassEnd)
    (before after : PassStage T) : Type 0 where
  pub later : IsPrefix before.log after.log
  pub ends :
      HandsGo
      (λ hand left. EndsShared s.world s.tells_files scope before.log after.log (s.sees hand)
      (s.sees left) end)
      (λ hand left. Helps s.tells_files s.world.version [] [] (s.sees hand) (s.sees left))
      before.hands after.hands
  pub goes :
      HandsGo
      (λ hand left. HandsOn s.tells_files s.world.version (s.sees hand) (s.sees left)
      (0 < length scope.roots) (IsTrue (is_hand_fault end)))
      (λ hand left. HandsOn s.tells_files s.world.version (s.sees hand) (s.sees left) ⊥ ⊥)
      before.hands after.hands
  pub idle : IsTrue (is_unbegun end) → drop 1 after.hands ≡ drop 1 before.hands
  pub complete :
      HandsGo
      (λ hand left. IsUnhinderedPass s.tells_files scope after.log (s.sees hand) (s.sees left)
      → IsDoneShared after.log end)
      (λ hand left. HandsOn s.tells_files s.world.version (s.sees hand) (s.sees left) ⊥ ⊥)
      before.hands after.hands

-- the clock was waited for and said Again, and one pass was made, said and counted
pub record IsRound {T : Type 0} (s : Setting T) (scope : Scope) (secs : ℕ)
    (before : PassStage T) (round : Round T) : Type 0 where
  pub waits : Wakes before.woke secs Again round.after.woke
  pub passes : PassesShared s scope round.end before round.after
  pub tells : TellsPass round.end before.streams round.after.streams round.fate
  pub counts : CountsPass round.end before.share round.after.share

-- these rounds, each from the stage that the one before it left
abbrev pub RoundsGo : {T : Type 0} → Setting T → Scope → ℕ → PassStage T → List (Round T) → PassStage T → Type 0
RoundsGo s scope secs before [] after = after ≡ before
RoundsGo s scope secs before (round ∷ later) after =
    IsRound s scope secs before round × RoundsGo s scope secs round.after later after

-- whether the standard output refused the line of some round
abbrev pub is_any_cut : {T : Type 0} → List (Round T) → Bool
is_any_cut rounds = list_any (λ round. is_cut round.fate) rounds

-- whether the line of some round could not be made
abbrev pub is_any_unmade : {T : Type 0} → List (Round T) → Bool
is_any_unmade rounds = list_any (λ round. is_unmade round.fate) rounds

-- the clock was waited for once more and said Stop, and nothing else happened
pub record StopsPassing {T : Type 0} (secs : ℕ) (before after : PassStage T) : Type 0 where
  pub waits : Wakes before.woke secs Stop after.woke
  pub rest : after ≡ record before { woke = after.woke }

-- the line of the last round could not be made, and it was the first such line
pub record LacksLine {T : Type 0} (rounds : List (Round T)) : Type 0 where
  pub earlier : List (Round T)
  pub last : Round T
  pub are : rounds ≡ earlier ++ last ∷ []
  pub made : is_any_unmade earlier ≡ false
  pub unmade : last.fate ≡ Unmade

-- how the passing ended behind the last round: at a Stop of the clock, where all lines were said, or where one was refused;
-- or at once, at a line that could not be made
abbrev pub EndsPassing : {T : Type 0} → ℕ → List (Round T) → PassStage T → PassesEnd → PassStage T → Type 0
EndsPassing secs rounds last Stopped after =
    (is_any_cut rounds ≡ false) × (is_any_unmade rounds ≡ false) × StopsPassing secs last after
EndsPassing secs rounds last OutFailed after =
    (is_any_cut rounds ≡ true) × (is_any_unmade rounds ≡ false) × StopsPassing secs last after
EndsPassing secs rounds last OutOfMemory after = LacksLine rounds × (after ≡ last)

-- how the passing ends at a Stop, by whether a line was refused
abbrev pub stopped_by : Bool → PassesEnd
stopped_by false = Stopped
stopped_by true = OutFailed

-- the waits of the rounds, each answered with Again, and behind them the one with Stop, unless a line could not be made
abbrev pub waits_by : {T : Type 0} → ℕ → List (Round T) → PassesEnd → List Waited
waits_by secs rounds OutOfMemory = map (λ _. waited secs Again) rounds
waits_by secs rounds end = map (λ _. waited secs Again) rounds ++ waited secs Stop ∷ []

-- the lines of the rounds on the standard output: those of the whole passes, in order
abbrev pub out_lines : {T : Type 0} → List (Round T) → List ℕ
out_lines rounds = flat_map (λ round. (pass_saying round.end).out) rounds

-- what the standard error is to get of the rounds, in order
abbrev pub err_lines : {T : Type 0} → List (Round T) → List ℕ
err_lines rounds = flat_map (λ round. err_told round.end round.fate) rounds

-- a sink got these lines whole, or its count rose; it never falls
pub record GetsLines (bytes : List ℕ) (before after : ShownStream) : Type 0 where
  pub whole : GetsAll bytes before after ⊎ Rose before.write_faults after.write_faults
  pub later : before.write_faults ≤ after.write_faults

-- a pass was made after each Again of the clock, one after the other, until the passing ended. One wait is told for each
-- round; where it Stopped the standard output got exactly the lines of the whole passes, it failed only where that count
-- rose; and the share counted exactly the whole passes
pub record KeepsPassing {T : Type 0} (s : Setting T) (scope : Scope) (secs : ℕ)
    (before : PassStage T) (end : PassesEnd) (after : PassStage T) : Type 0 where
  pub rounds : List (Round T)
  pub last : PassStage T
  pub go : RoundsGo s scope secs before rounds last
  pub ends : EndsPassing secs rounds last end after
  pub waits : Gains before.woke (waits_by secs rounds end) after.woke
  pub out : end ≡ Stopped → GetsAll (out_lines rounds) before.streams.out after.streams.out
  pub failed : end ≡ OutFailed → Rose before.streams.out.write_faults after.streams.out.write_faults
  pub err : GetsLines (err_lines rounds) before.streams.err after.streams.err
  pub tally : GrowsShare (λ number. sum_by (λ round. added_by round.end number) rounds)
      before.share after.share
