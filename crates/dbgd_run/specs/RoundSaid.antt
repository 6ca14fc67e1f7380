-- What is said of a pass between waits, and what is counted of it (this project's rule): its line as a scan says it, and a
-- whole pass with its rows.
use Rattle.std.specs.Prelude.{◌≡◌, ◌+◌, ℕ, Bool, true, false, not, List, codes, length, IsTrue}
use Rattle.dbgd_metrics.specs.Counts.{Counts}
use Rattle.dbgd_metrics.specs.Numbers.{count_of_numbers, number_of_row}
use Rattle.dbgd_metrics.specs.Shares.{ShareFacts}
use Rattle.dbgd_metrics.specs.declared.count.Count.TheVariants.{Pass}
use Rattle.dbgd_metrics.specs.declared.count.Counted.{Counted}
use Rattle.dbgd_metrics.specs.declared.number.Number.{Number}
use Rattle.dbgd_metrics.specs.declared.number.Number.TheVariants.{Added, Replaced, Dropped, Passes}
use Rattle.pass_runner.specs.Owned.{is_read_fault}
use Rattle.pass_runner.specs.declared.pass_end.PassEnd.{PassEnd}
use Rattle.pass_runner.specs.declared.pass_end.PassEnd.TheVariants as pass
use Rattle.dbgd_commands.specs.Endings.{EndsCut, EndsWhole, Streams, SaysMemory, fault_saying, no_memory_saying}
use Rattle.dbgd_commands.specs.ScanSaid.{pass_saying}
use Rattle.dbgd_commands.specs.declared.status.Status.{Status}
use Rattle.dbgd_commands.specs.declared.status.Status.TheVariants as status
use Rattle.dbgd_run.specs.declared.line_fate.LineFate.{LineFate}
use Rattle.dbgd_run.specs.declared.line_fate.LineFate.TheVariants.{Written, Cut, Unmade}

-- whether the standard output refused the line
abbrev pub is_cut : LineFate → Bool
is_cut Cut = true
is_cut _ = false

-- whether the line could not be made
abbrev pub is_unmade : LineFate → Bool
is_unmade Unmade = true
is_unmade _ = false

-- whether a line is made of what the pass came to, which takes memory: that of a whole one, and that of a file which is
-- another by now or stands though it isn't listed
abbrev pub takes_memory : PassEnd → Bool
takes_memory (pass.Whole summary) = true
takes_memory (pass.Missed miss) = not (is_read_fault miss.cause)
takes_memory _ = false

-- what the sinks got of the end of a pass: what a scan says of it; or, of a line that the standard output refused, a part,
-- and that the output failed; or, of a line that could not be made, that memory was refused
abbrev pub TellsPass : PassEnd → Streams → Streams → LineFate → Type 0
TellsPass end old new Written = EndsWhole (pass_saying end) old new (pass_saying end).status
TellsPass end old new Cut = EndsCut (pass_saying end) old new status.Fault
TellsPass end old new Unmade = IsTrue (takes_memory end) × SaysMemory old new status.OutOfMemory

-- what came of the line of a whole pass, by the status with which it was said
abbrev pub whole_fate : Status → LineFate
whole_fate status.Fault = Cut
whole_fate status.OutOfMemory = Unmade
whole_fate _ = Written

-- what came of the line of a name that was missed
abbrev pub missed_fate : Status → LineFate
missed_fate status.OutOfMemory = Unmade
missed_fate _ = Written

-- what came of the line of a pass; no other takes memory or the standard output
abbrev pub fate_by : PassEnd → Status → LineFate
fate_by (pass.Whole summary) said = whole_fate said
fate_by (pass.Missed miss) said = missed_fate said
fate_by end said = Written

-- what the standard error is to get of a pass
abbrev pub err_told : PassEnd → LineFate → List ℕ
err_told end Written = (pass_saying end).err
err_told end Cut = (fault_saying (codes "output")).err
err_told end Unmade = no_memory_saying.err

-- a whole pass was counted with its rows, where that fits; of any other nothing was
abbrev pub CountsPass : PassEnd → ShareFacts → ShareFacts → Type 0
CountsPass (pass.Whole summary) old new =
    (counted : Counted)
    × Counts (Pass summary.added summary.replaced summary.dropped) old new counted
CountsPass end old new = new ≡ old

-- how much a pass adds to one of the numbers: a whole one is one pass, with its rows
abbrev pub added_by : PassEnd → Number → ℕ
added_by (pass.Whole summary) Added = summary.added
added_by (pass.Whole summary) Replaced = summary.replaced
added_by (pass.Whole summary) Dropped = summary.dropped
added_by (pass.Whole summary) Passes = 1
added_by end number = 0

-- each number of a share with all numbers grew by so much, and nothing else of it changed, unless it is marked, which it
-- then stays
pub record GrowsShare (more : Number → ℕ) (old new : ShareFacts) : Type 0 where
  pub book : new.book ≡ old.book
  pub row : new.row ≡ old.row
  pub mark : old.marked ≡ true → new.marked ≡ true
  pub long : length new.numbers ≡ length old.numbers
  pub rest : new.marked ≡ false → new ≡ record old { numbers = new.numbers }
  pub numbers : new.marked ≡ false → length old.numbers ≡ count_of_numbers → (number : Number)
      → number_of_row new.numbers number ≡ number_of_row old.numbers number + more number
