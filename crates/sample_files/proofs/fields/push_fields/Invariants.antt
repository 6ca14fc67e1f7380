use Rattle.std.proofs.Common.{◌≡◌, ◌++◌, take}
use Rattle.sample_files.specs.Fields.{fields_bytes}
use Rattle.sample_files.proofs.fields.push_fields.Given as goal

abbrev pub invariant-loop-field : goal.invariant-loop-field
invariant-loop-field l =
    l.out.items ≡ l.initial.out.items ++ fields_bytes l.shape (take l.field-index l.fields)
