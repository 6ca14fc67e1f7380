-- What a target asks for is what its key asks for with the text of its value.
use Rattle.std.proofs.Common.{◌∙◌, subst}
use Rattle.webapi_routes.specs.Spelled.{SpellsNone}
use Rattle.metadata_query.specs.Asked.{Answers, KeyAsks}
use Rattle.metadata_query.proofs.AskedLemmas.{no_pair, no_query, no_text, target_answers}
use Rattle.metadata_query.proofs.reading.read_query.Goals as goal

pub returns-in_default : goal.returns-in_default
returns-in_default c = no_query c.args.target.now c.in_default.ensures

pub returns-in_default-pair_of : goal.returns-in_default-pair_of
returns-in_default-pair_of c = no_pair c.args.target.now c.in-Some.query.now c.in-Some.ensures c.in_default-pair_of.ensures

pub returns-in-Ok : goal.returns-in-Ok
returns-in-Ok c =
    let pair = c.in-Some-pair_of.pair in
    target_answers c.args.target.now c.in-Some.query.now pair.key.now pair.value.now c.asked_by.result c.in-Some.ensures
    c.in-Some-pair_of.ensures c.in-Ok.ensures.spells
    (subst (λ t. Answers (KeyAsks pair.key.now t) c.asked_by.result) (c.as_str.ensures.value ∙ c.in-Ok.ensures.value) c.asked_by.ensures)

pub returns-in-Err-BadEscape : goal.returns-in-Err-BadEscape
returns-in-Err-BadEscape c =
    let value = c.in-Some-pair_of.pair.value.now in
    no_text c.args.target.now c.in-Some.query.now c.in-Some-pair_of.pair.key.now value c.in-Some.ensures c.in-Some-pair_of.ensures
    (subst (λ f. SpellsNone value f) c.in-Err-BadEscape.field-0-is c.in-Err-BadEscape.ensures)
