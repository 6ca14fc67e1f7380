-- The command `trial` (this project's rule): generated files are scanned into a new index in memory, and one line tells
-- what it has then: its numbers, and the sum of its rows.
use Rattle.std.specs.Prelude.{◌≡◌, ◌⊎◌, ℕ, true, List, [], ◌∷◌, ◌++◌, codes, decimal, length, count_by, sum_by}
use Rattle.std.specs.List.{flat_map}
use Rattle.hex.specs.Hex.{encode_lower}
use Rattle.sha2.specs.Sha256.{sha256}
use Rattle.path_scope.specs.Scope.{Scope, scope_of}
use Rattle.row_types.specs.Row.{RowFacts}
use Rattle.row_types.specs.declared.identity.Kind.TheVariants.{Executable, Debuginfo}
use Rattle.row_types.specs.declared.limits.TheConstants.{EDITION}
use Rattle.row_types.specs.declared.reading.Reading.{Reading}
use Rattle.row_types.specs.declared.reading.Reading.TheVariants.{Plain, Elf}
use Rattle.row_codec.specs.RowBytes.{row_bytes}
use Rattle.index_rows.specs.Rows.{row_names}
use Rattle.index_state.specs.Invariant.{AreTrueRows}
use Rattle.tree_walk.specs.Files.{AreFilesUnder}
use Rattle.elf_forge.specs.Place.{forged_names}
use Rattle.pass_runner.specs.Numbers.{is_of}
use Rattle.pass_runner.specs.declared.summary.Summary.{Summary}
use Rattle.dbgd_commands.specs.Endings.{EndsSaying, Streams, SaysMemory, out_saying}
use Rattle.dbgd_commands.specs.Stage.{CommandStage}
use Rattle.dbgd_commands.specs.Texts.{fed_line}
use Rattle.dbgd_commands.specs.declared.status.Status.{Status}
use Rattle.dbgd_commands.specs.declared.status.Status.TheVariants.{Done}
use Rattle.dbgd_commands.specs.declared.trial_sum.Totals.{Totals}

-- the folder of the generated files
abbrev pub forged_root : List ℕ
forged_root = codes "/t"

-- a scan of that folder, with each path selected
abbrev pub forged_scope : Scope
forged_scope = scope_of (forged_root ∷ []) (λ _. true)

-- how many sources a row lists
abbrev pub sources_of : Reading → ℕ
sources_of (Plain why) = 0
sources_of (Elf ident sources) = length sources

-- how many sources the rows list together
abbrev pub sources_in : List RowFacts → ℕ
sources_in rows = sum_by (λ row. sources_of row.reading) rows

-- the bytes of the rows, joined in order
abbrev pub joined_rows : List RowFacts → List ℕ
joined_rows rows = flat_map row_bytes rows

-- the sum of the rows
abbrev pub rows_sum : List RowFacts → List ℕ
rows_sum rows = sha256 (joined_rows rows)

-- the totals of the rows
abbrev pub totals_of : List RowFacts → Totals
totals_of rows = record { sources = sources_in rows; sum = rows_sum rows }

-- the line of these numbers
abbrev pub totals_line : ℕ → ℕ → ℕ → Totals → List ℕ
totals_line files executables debuginfo totals =
    fed_line (codes "trial: " ++ decimal files ++ codes " files, " ++ decimal executables
    ++ codes " executables, " ++ decimal debuginfo ++ codes " debuginfo, " ++ decimal totals.sources
    ++ codes " sources, index " ++ encode_lower totals.sum)

-- the line of a trial of so many files that left these rows
abbrev pub trial_end_line : ℕ → List RowFacts → List ℕ
trial_end_line files rows =
    totals_line files (count_by (λ row. is_of Executable row.reading) rows)
    (count_by (λ row. is_of Debuginfo row.reading) rows) (totals_of rows)

-- the rows are those of one scan of the generated files: one for each file, by path, of the edition
pub record AreForgedRows (seed files : ℕ) (rows : List RowFacts) : Type 0 where
  pub names : AreFilesUnder (forged_names seed files) forged_scope (row_names rows)
  pub sound : AreTrueRows (λ row. row.edition ≡ EDITION) rows

-- a whole pass left these rows, and these are its numbers of them
pub record HasScanned (seed files : ℕ) (rows : List RowFacts) (summary : Summary) : Type 0 where
  pub rows_are : AreForgedRows seed files rows
  pub executables : summary.executables ≡ count_by (λ row. is_of Executable row.reading) rows
  pub debuginfo : summary.debuginfo ≡ count_by (λ row. is_of Debuginfo row.reading) rows

-- the text is the line of rows of the generated files
pub record IsLineOf (seed files : ℕ) (text : List ℕ) : Type 0 where
  pub rows : List RowFacts
  pub rows_are : AreForgedRows seed files rows
  pub says : text ≡ trial_end_line files rows

-- the line of rows of the generated files was said, or memory was refused
pub record SaysLine (seed files : ℕ) (old new : Streams) (status : Status) : Type 0 where
  pub rows : List RowFacts
  pub rows_are : AreForgedRows seed files rows
  pub says : EndsSaying (out_saying (trial_end_line files rows) Done) old new status

-- what a trial says: the line, or that memory was refused
abbrev pub SaysTrial : ℕ → ℕ → Streams → Streams → Status → Type 0
SaysTrial seed files old new status =
    SaysLine seed files old new status ⊎ SaysMemory old new status

-- a trial: what it says. It has hands and a store of its own, and those that were handed in weren't looked at
pub record RunsTrial {T : Type 0} (seed files : ℕ) (before after : CommandStage T) (status : Status) : Type 0 where
  pub says : SaysTrial seed files before.streams after.streams status
  pub hands : after.hands ≡ before.hands
  pub store : after.store ≡ before.store
