-- The set of the code escapes the bytes of the definition.
use Rattle.std.proofs.Common.{◌<◌, ◌∙◌, arith}
use Rattle.std.proofs.lemmas.List.Elements.{All-from_get_or}
use Rattle.webapi_routes.proofs.Escapes.{escaped_is}
use Rattle.webapi_routes.proofs.printing.push_escaped.Goals as goal

pub returns-clause-value : goal.returns-clause-value
returns-clause-value c =
    let bytes = All-from_get_or (λ b. b < 256) c.args.text.now 0 (λ i within. omega (arith, c.type_inv.text i)) in
    rw (← (c.percent_encode.ensures.text ∙ escaped_is c.args.text.now bytes)) c.in_ok-append_to.ensures.ok

pub returns-clause-small : goal.returns-clause-small
returns-clause-small c = All-from_get_or (λ b. b < 256) c.args.text.now 0 (λ i within. omega (arith, c.type_inv.text i))
