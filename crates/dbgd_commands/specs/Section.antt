-- The command `section` (this project's rule): what it says of a file and a name, by what was read of the file.
use Rattle.std.specs.Prelude.{ℕ, List, ◌++◌, Option, Some, None, Result, Ok, Err, codes}
use Rattle.file_formats.specs.Identity.{Identity}
use Rattle.file_formats.specs.Table.{IsSectionAnswer}
use Rattle.file_formats.specs.declared.fault.Why.{Why}
use Rattle.file_formats.specs.declared.fault.Why.TheVariants.{TooLarge}
use Rattle.tree_trait.specs.Needs.{IsOfReads}
use Rattle.file_parts.specs.Found.{ReadsIdentity}
use Rattle.file_parts.specs.AtPath.{FileAnswer, file_read, file_too_large, file_gone, file_failed, file_no_memory}
use Rattle.dbgd_commands.specs.Endings.{EndsSaying, EndsWhole, Saying, Streams, SaysMemory, error_saying}
use Rattle.dbgd_commands.specs.Endings.{fault_saying, gone_saying, out_saying}
use Rattle.dbgd_commands.specs.Texts.{why_word}
use Rattle.dbgd_commands.specs.declared.status.Status.{Status}
use Rattle.dbgd_commands.specs.declared.status.Status.TheVariants as status

-- of a file without an identity: the reason, on the standard error, since the standard output is for a section's bytes
abbrev pub plain_fault_saying : Why → Saying
plain_fault_saying why = error_saying (codes "dbgd: plain " ++ why_word why) status.Absent

-- of a file with an identity: exactly the section's bytes, or that no section has the name
abbrev pub SaysBytes : Option (List ℕ) → Streams → Streams → Status → Type 0
SaysBytes (Some bytes) old new end = EndsSaying (out_saying bytes status.Done) old new end
SaysBytes None old new end =
    EndsWhole (error_saying (codes "dbgd: no section") status.Absent) old new end

-- a section of which this is so was said
pub record SaysSome (Is : Option (List ℕ) → Type 0) (old new : Streams) (end : Status) : Type 0 where
  pub section : Option (List ℕ)
  pub is : Is section
  pub says : SaysBytes section old new end

-- of a file that was read, by its identity, and the section of the name; of a plain one nothing else, even where it has the section
abbrev pub SaysNamed : (Option (List ℕ) → Type 0) → Result Identity Why → Streams → Streams → Status → Type 0
SaysNamed Is (Ok i) old new end = SaysSome Is old new end
SaysNamed Is (Err why) old new end = EndsWhole (plain_fault_saying why) old new end

-- what is said of the section of a name, by what was found of the file at a path: the identity of the file reading, and the
-- section, are those of each file that has what was read
abbrev pub SaysSection : List ℕ → List ℕ → FileAnswer → Streams → Streams → Status → Type 0
SaysSection path name (file_read stamp reads) old new end =
    (identity : Result Identity Why) × IsOfReads stamp.size reads (λ b. ReadsIdentity b identity)
    × SaysNamed (λ section. IsOfReads stamp.size reads (λ b. IsSectionAnswer b name section)) identity old new end
SaysSection path name file_too_large old new end =
    EndsWhole (plain_fault_saying TooLarge) old new end
SaysSection path name file_gone old new end = EndsWhole (gone_saying path) old new end
SaysSection path name file_failed old new end = EndsWhole (fault_saying (codes "file")) old new end
SaysSection path name file_no_memory old new end = SaysMemory old new end
