use Rattle.std.specs.Option.{option_copied}
use Rattle.std.proofs.lemmas.Result.{on_ok_weaker}
use Rattle.dwarf_forms.specs.TextBytes.{text_said}
use Rattle.source_paths.proofs.ShortLemmas.{adds_text}
use Rattle.source_paths.proofs.files.add_text.Goals as goal

pub returns : goal.returns
returns c =
    on_ok_weaker c.add.result (adds_text (option_copied c.args.folder) (text_said c.args.text) c.short.ensures) c.add.ensures
