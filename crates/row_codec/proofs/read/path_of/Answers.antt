-- A path's text is UTF-8 and canonical.
use Rattle.std.proofs.Common.{◌≡◌, inl, refl, ◌∙◌, subst}
use Rattle.std.specs.String.{string_bytes}
use Rattle.std.proofs.lemmas.Bool.{false_from_ne_true}
use Rattle.row_types.specs.Canon.{IsCanonPath}
use Rattle.row_codec.specs.Read.{is_path_text}
use Rattle.row_codec.proofs.OneSpelling.{path_text, text_path}
use Rattle.row_codec.proofs.read.path_of.Goals as goal

pub returns-in_default-clause-fault : goal.returns-in_default-clause-fault
returns-in_default-clause-fault c =
    inl (refl, false_from_ne_true (is_path_text c.args.text.now) (λ h. c.in_default.ensures.cases.0 (path_text c.args.text.now h).valid))

pub returns-in-Ok-check-clause-path : goal.returns-in-Ok-check-clause-path
returns-in-Ok-check-clause-path c =
    let same : string_bytes c.in_ok-from_str.field-0 ≡ c.args.text.now = c.in_ok-from_str.ensures.ok ∙ c.in-Ok.ensures.cases.0 in
    (c.in_ok-copy-in-Ok-check.ensures ∙ c.in-Ok-check.ensures.value ∙ same, text_path c.args.text.now (record { valid = c.in-Ok.ensures.cases.1; canonical = subst IsCanonPath same (c.in-Ok-check.ensures.ok.0 refl) }))
