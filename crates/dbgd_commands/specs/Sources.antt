-- The command `sources` (this project's rule): what it says of a file, by what was read of it.
use Rattle.std.specs.Prelude.{◌⊎◌, ℕ, List, Result, Ok, Err, codes, flat_map}
use Rattle.file_formats.specs.Identity.{Identity}
use Rattle.file_formats.specs.declared.fault.Why.{Why}
use Rattle.file_formats.specs.declared.fault.Why.TheVariants.{TooLarge}
use Rattle.row_types.specs.Reading.{ReadsBytes}
use Rattle.row_types.specs.declared.reading.Reading.TheVariants.{Elf}
use Rattle.tree_trait.specs.Needs.{IsOfReads}
use Rattle.file_parts.specs.Found.{ReadsIdentity}
use Rattle.file_parts.specs.AtPath.{FileAnswer, file_read, file_too_large, file_gone, file_failed, file_no_memory}
use Rattle.dbgd_commands.specs.Endings.{EndsSaying, EndsWhole, Saying, Streams, SaysMemory, fault_saying}
use Rattle.dbgd_commands.specs.Endings.{gone_saying, out_saying}
use Rattle.dbgd_commands.specs.Section.{plain_fault_saying}
use Rattle.dbgd_commands.specs.Texts.{fed_line}
use Rattle.dbgd_commands.specs.declared.status.Status.{Status}
use Rattle.dbgd_commands.specs.declared.status.Status.TheVariants as status

-- a line for each path, in order
abbrev pub path_lines : List (List ℕ) → List ℕ
path_lines paths = flat_map fed_line paths

-- of a file with an identity: its source paths, a line each
abbrev pub sources_saying : List (List ℕ) → Saying
sources_saying paths = out_saying (path_lines paths) status.Done

-- source paths of which this is so were said
pub record SaysPaths (Are : List (List ℕ) → Type 0) (old new : Streams) (end : Status) : Type 0 where
  pub paths : List (List ℕ)
  pub are : Are paths
  pub ends : EndsSaying (sources_saying paths) old new end

-- what is said of a file that was read, by its identity: the paths take memory; of a plain one nothing else is said than
-- why, and it takes none
abbrev pub SaysListed : (Identity → List (List ℕ) → Type 0) → Result Identity Why → Streams → Streams → Status → Type 0
SaysListed Are (Ok i) old new end = SaysPaths (Are i) old new end ⊎ SaysMemory old new end
SaysListed Are (Err why) old new end = EndsWhole (plain_fault_saying why) old new end

-- what is said of the sources of the file at a path, by what was found of it: they are those of the file reading
-- of each file that has what was read
abbrev pub SaysSources : List ℕ → FileAnswer → Streams → Streams → Status → Type 0
SaysSources path (file_read stamp reads) old new end =
    (identity : Result Identity Why) × IsOfReads stamp.size reads (λ b. ReadsIdentity b identity)
    × SaysListed (λ i paths. IsOfReads stamp.size reads (λ b. ReadsBytes b (Elf i paths))) identity old new end
SaysSources path file_too_large old new end = EndsWhole (plain_fault_saying TooLarge) old new end
SaysSources path file_gone old new end = EndsWhole (gone_saying path) old new end
SaysSources path file_failed old new end = EndsWhole (fault_saying (codes "file")) old new end
SaysSources path file_no_memory old new end = SaysMemory old new end
