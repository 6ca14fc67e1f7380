-- The program's exit statuses (this project's rule).
use Rattle.std.specs.Prelude.{◌≡◌, ℕ}
use Rattle.dbgd_commands.specs.declared.status.Status.{Status}
use Rattle.dbgd_commands.specs.declared.status.Status.TheVariants.{Done, Fault, Usage, Absent, Altered}
use Rattle.dbgd_commands.specs.declared.status.Status.TheVariants.{Limit, OutOfMemory, BadRow}

-- the number with which the program ends
abbrev pub code_of : Status → ℕ
code_of Done = 0
code_of Fault = 1
code_of Usage = 2
code_of Absent = 3
code_of Altered = 4
code_of Limit = 5
code_of OutOfMemory = 6
code_of BadRow = 7

-- no two statuses have one number
abbrev pub AreNumbersApart : Type 0
AreNumbersApart = (status other : Status) → code_of status ≡ code_of other → status ≡ other
