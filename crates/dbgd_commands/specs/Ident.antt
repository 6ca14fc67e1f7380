-- The command `ident` (this project's rule): what it says of a file, by what was read of it.
use Rattle.std.specs.Prelude.{◌⊎◌, ℕ, List, Result, Ok, Err, codes}
use Rattle.file_formats.specs.Identity.{Identity}
use Rattle.file_formats.specs.declared.fault.Why.{Why}
use Rattle.file_formats.specs.declared.fault.Why.TheVariants.{TooLarge}
use Rattle.tree_trait.specs.Needs.{IsOfReads}
use Rattle.file_parts.specs.Found.{ReadsIdentity}
use Rattle.file_parts.specs.AtPath.{FileAnswer, file_read, file_too_large, file_gone, file_failed, file_no_memory}
use Rattle.dbgd_commands.specs.Endings.{EndsSaying, EndsWhole, Saying, Streams, SaysMemory, fault_saying}
use Rattle.dbgd_commands.specs.Endings.{gone_saying, out_saying}
use Rattle.dbgd_commands.specs.Texts.{identity_line, plain_line}
use Rattle.dbgd_commands.specs.declared.status.Status.{Status}
use Rattle.dbgd_commands.specs.declared.status.Status.TheVariants as status

-- of a file with an identity: its line
abbrev pub identity_saying : Identity → Saying
identity_saying i = out_saying (identity_line i) status.Done

-- of a file without one: the reason, on the standard output
abbrev pub plain_saying : Why → Saying
plain_saying why = out_saying (plain_line why) status.Absent

-- what is said of a file that was read: the line of an identity takes memory, that of a plain file none
abbrev pub SaysFile : Result Identity Why → Streams → Streams → Status → Type 0
SaysFile (Ok i) old new end = EndsSaying (identity_saying i) old new end ⊎ SaysMemory old new end
SaysFile (Err why) old new end = EndsSaying (plain_saying why) old new end

-- what is said of the file at a path, by what was found of it: the identity is that of the file reading of each file that has
-- what was read
abbrev pub SaysIdent : List ℕ → FileAnswer → Streams → Streams → Status → Type 0
SaysIdent path (file_read stamp reads) old new end =
    (identity : Result Identity Why) × IsOfReads stamp.size reads (λ b. ReadsIdentity b identity)
    × SaysFile identity old new end
SaysIdent path file_too_large old new end = EndsSaying (plain_saying TooLarge) old new end
SaysIdent path file_gone old new end = EndsWhole (gone_saying path) old new end
SaysIdent path file_failed old new end = EndsWhole (fault_saying (codes "file")) old new end
SaysIdent path file_no_memory old new end = SaysMemory old new end
