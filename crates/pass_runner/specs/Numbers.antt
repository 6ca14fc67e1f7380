-- The numbers of a pass (this project's rule).
use Rattle.std.specs.Prelude.{Bool, false, List, count_by}
use Rattle.row_types.specs.Row.{RowFacts}
use Rattle.row_types.specs.declared.identity.Kind.{Kind}
use Rattle.row_types.specs.declared.identity.Kind.TheVariants.{Executable, Debuginfo}
use Rattle.row_types.specs.declared.reading.Reading.{Reading}
use Rattle.row_types.specs.declared.reading.Reading.TheVariants.{Plain, Elf}
use Rattle.index_rows.specs.Classes.{is_of_kind}
use Rattle.index_state.specs.declared.answer.Plan.{Plan}
use Rattle.pass_runner.specs.declared.summary.Summary.{Summary}

-- whether a file is of the kind
abbrev pub is_of : Kind → Reading → Bool
is_of kind (Plain why) = false
is_of kind (Elf ident sources) = is_of_kind kind ident

-- the numbers of a pass, by its plan and the rows that stand at its end
abbrev pub summary_of : Plan → List RowFacts → Summary
summary_of plan rows = record {
  files = plan.files;
  added = plan.add;
  replaced = plan.replace;
  dropped = plan.drop;
  kept = plan.keep;
  executables = count_by (λ row. is_of Executable row.reading) rows;
  debuginfo = count_by (λ row. is_of Debuginfo row.reading) rows;
}
