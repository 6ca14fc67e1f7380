use Rattle.std.proofs.Common.{◌<◌, ◌∙◌, arith}
use Rattle.std.proofs.lemmas.List.Elements.{All-from_get_or}
use Rattle.http_wire.proofs.Escapes.{escaped_is}
use Rattle.http_wire.proofs.reply_lines.push_escaped.Goals as goal

pub returns : goal.returns
returns c =
    let bytes = All-from_get_or (λ b. b < 256) c.args.path.now 0 (λ i within. omega (arith, c.type_inv.path i)) in
    rw (← (c.percent_encode.ensures.text ∙ escaped_is c.args.path.now bytes)) c.append_to.ensures.ok
