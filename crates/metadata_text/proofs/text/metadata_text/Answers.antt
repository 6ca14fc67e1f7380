use Rattle.std.proofs.Common.{map}
use Rattle.serde_json.specs.View.{view}
use Rattle.metadata_text.proofs.TextLemmas.{text_result}
use Rattle.metadata_text.proofs.text.metadata_text.Goals as goal

pub returns : goal.returns
returns c =
    text_result c.args.complete c.args.found.now (map view c.in_ok-files.files.items) (view c.in_ok-answer.answer) c.to_string.result
    c.in_ok-files.ensures c.in_ok-answer.ensures c.to_string.ensures.text
