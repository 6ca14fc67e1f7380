-- What a path says is what the text says that it spells.
use Rattle.std.proofs.Common.{◌∙◌, subst}
use Rattle.webapi_routes.specs.Targets.{TextSays, UnlessMemory}
use Rattle.webapi_routes.proofs.TargetLemmas.{path_says}
use Rattle.webapi_routes.proofs.reading.parse_path.Goals as goal

pub returns-in-Ok : goal.returns-in-Ok
returns-in-Ok c =
    path_says c.args.path.now c.parse_text.result c.in-Ok.ensures.spells
    (subst (λ t. UnlessMemory c.parse_text.result (TextSays t c.parse_text.result)) (c.as_str.ensures.value ∙ c.in-Ok.ensures.value) c.parse_text.ensures)
