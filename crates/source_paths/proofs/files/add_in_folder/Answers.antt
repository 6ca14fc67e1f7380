use Rattle.std.proofs.Common.{◌∙◌}
use Rattle.std.specs.Option.{option_copied}
use Rattle.std.proofs.lemmas.Result.{on_ok_weaker}
use Rattle.dwarf_forms.specs.TextBytes.{text_said}
use Rattle.row_types.specs.SourcePaths.{behind}
use Rattle.source_paths.proofs.ShortLemmas.{adds_behind}
use Rattle.source_paths.proofs.files.add_in_folder.Goals as goal

pub returns-in_ok-folder-in_default : goal.returns-in_ok-folder-in_default
returns-in_ok-folder-in_default c =
    on_ok_weaker c.add_text-in_default.result
    (adds_behind (behind (option_copied c.args.first) (option_copied c.args.directory)) (text_said c.args.text)
    (c.lent.ensures ∙ c.in_ok-folder-in_default.ensures))
    c.add_text-in_default.ensures
