use Rattle.std.proofs.Common.{◌≡◌, map, take}
use Rattle.serde_json.specs.View.{view}
use Rattle.metadata_text.specs.Values.{file_data}
use Rattle.metadata_text.proofs.text.files_value.Given as goal

abbrev pub invariant-loop-one : goal.invariant-loop-one
invariant-loop-one l = map view l.files.items ≡ map file_data (take l.one-index l.found)
