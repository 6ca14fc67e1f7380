use Rattle.std.proofs.Common.{rules, ◌≡◌, None, ◌∙◌, ap, refl}
use Rattle.hex.specs.Hex.{decode_of}
use Rattle.dbgd_words.specs.Words.{spelled_id}
use Rattle.dbgd_words.proofs.TextLemmas.{no_id}
use Rattle.dbgd_words.proofs.query.id_of.Goals as goal

pub returns-in_err-id : goal.returns-in_err-id
returns-in_err-id c =
    let none : c.from_residual.result ≡ None = search rules in
    none
    ∙ no_id c.as_bytes.result.now (λ is. absurd (cc (c.in_err-id.ensures.some.1 is))) (decode_of c.as_bytes.result.now) refl
    ∙ ap spelled_id c.as_bytes.ensures.value
