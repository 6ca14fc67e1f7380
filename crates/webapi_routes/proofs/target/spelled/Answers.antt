-- The path spells the text that is read.
use Rattle.std.proofs.Common.{◌∙◌, ap, subst, sym}
use Rattle.std.specs.Str.{IsUtf8}
use Rattle.webapi_routes.specs.Path.{SpellsText, holds_zero}
use Rattle.webapi_routes.proofs.target.spelled.Goals as goal

pub returns : goal.returns
returns c =
    let decoded = c.in-Ok.ensures.value ∙ c.percent_decode.ensures.bytes in
    let spells : SpellsText c.args.path.now = record {
      escapes = sym c.has_whole_escapes.ensures ∙ c.if-not-has_whole_escapes.false;
      utf8 = subst IsUtf8 c.percent_decode.ensures.bytes c.in-Ok.ensures.ok_only_if_utf8;
      no_zero = ap holds_zero (sym (c.as_bytes.ensures.value ∙ c.as_str.ensures.value ∙ decoded)) ∙ sym c.contains.ensures.value ∙ c.if-contains.false;
    } in
    record { spells = spells; value = decoded }
