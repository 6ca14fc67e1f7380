-- Statuses and their numbers.
use Rattle.std.proofs.Common.{◌≡◌, refl, arith}
use Rattle.dbgd_commands.specs.Statuses.{code_of}
use Rattle.dbgd_commands.specs.declared.status.Status.{Status}
use Rattle.dbgd_commands.specs.declared.status.Status.TheVariants.{Done, Fault, Usage, Absent, Altered}
use Rattle.dbgd_commands.specs.declared.status.Status.TheVariants.{Limit, OutOfMemory, BadRow}

-- no two statuses have one number
pub are_apart : (status other : Status) → code_of status ≡ code_of other → status ≡ other
are_apart Done Done e = refl
are_apart Fault Fault e = refl
are_apart Usage Usage e = refl
are_apart Absent Absent e = refl
are_apart Altered Altered e = refl
are_apart Limit Limit e = refl
are_apart OutOfMemory OutOfMemory e = refl
are_apart BadRow BadRow e = refl
are_apart _ _ e = absurd (omega arith)
