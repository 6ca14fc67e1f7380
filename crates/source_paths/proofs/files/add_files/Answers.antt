use Rattle.std.proofs.Common.{◌≡◌, ◌∙◌, ap, map}
use Rattle.std.specs.Option.{option_copied}
use Rattle.std.proofs.lemmas.Result.{on_ok_weaker}
use Rattle.file_formats.specs.DwarfLines.{LineTable}
use Rattle.dwarf_forms.specs.TextBytes.{text_said}
use Rattle.dwarf_lines.specs.Entries.{file_facts}
use Rattle.source_paths.specs.Adds.{short}
use Rattle.row_types.specs.SourcePaths.{first_directory}
use Rattle.source_paths.proofs.ShortLemmas.{adds_table}
use Rattle.source_paths.proofs.files.add_files.Goals as goal

pub returns : goal.returns
returns c =
    let unit = option_copied c.args.unit in
    let listed : map option_copied c.in_ok-dirs.dirs.items ≡ map short c.args.table.now.directories =
    c.in_ok-dirs.ensures
    ∙ ap (λ ds. map short (map text_said ds)) c.as_slice.ensures.value
    ∙ ap (λ (t : LineTable). map short t.directories) c.table.view_is in
    on_ok_weaker c.add_each.result
    (adds_table unit c.args.table.now
    (ap (λ (t : LineTable). t.version) c.table.view_is)
    (c.lent.ensures ∙ c.in_ok-first.ensures
    ∙ ap (λ ds. short (first_directory c.table.inside.version unit ds)) (ap (map option_copied) c.as_slice-2.ensures.value ∙ listed))
    (ap (map option_copied) c.as_slice-3.ensures.value ∙ listed)
    (ap (map file_facts) c.as_slice-4.ensures.value ∙ ap (λ (t : LineTable). t.files) c.table.view_is))
    c.add_each.ensures
